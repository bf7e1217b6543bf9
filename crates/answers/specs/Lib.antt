pub mod Texts
pub mod Answers
pub mod CallLine
pub mod PlanLine
pub mod ListLine
