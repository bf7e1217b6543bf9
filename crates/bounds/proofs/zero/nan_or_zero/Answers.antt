-- `bounds::zero::nan_or_zero` meets its contract. Assumes nothing.
use lib.Ieee.{of_bits}
use Rattle.bounds.proofs.zero.nan_or_zero.Goals as goal

pub returns : goal.returns
unfolding of_bits
returns c = rw c.is_nan.ensures.value
