pub mod LastRink
