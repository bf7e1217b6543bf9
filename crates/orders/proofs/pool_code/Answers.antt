-- `orders::pool_code` meets its contract: part by part. Assumes nothing.
use mathlib.Core.Path.{sym, ◌∙◌}
use Rattle.base.proofs.Told.{passed_on}
use Rattle.orders.proofs.Refusals.{next_err}
use Rattle.orders.proofs.Orders.{pool_is}
use Rattle.orders.proofs.pool_code.Goals as goal

pub returns-in_err-operands_code : goal.returns-in_err-operands_code
returns-in_err-operands_code c =
    let e = c.in_err-operands_code.field-0.0 in
    passed_on _ e c.from_residual.ensures.1 ∙ sym (next_err e _) ∙ pool_is c.requires.0 c.requires.1 c.in_err-operands_code.ensures

pub returns : goal.returns
returns c = rw (c.first.ensures, c.stack_code.ensures, c.groups_clash-clash.ensures) (pool_is c.requires.0 c.requires.1 c.in_ok-operands_code.ensures)
