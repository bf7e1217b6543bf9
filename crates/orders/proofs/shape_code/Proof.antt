-- `orders::shape_code` meets its contract: check by check. Assumes nothing.
use borrow.Author.Rules.{rules}
use Rattle.numbers.specs.Result.{first_failing}
use Rattle.orders.proofs.shape_code.Statement.{statement}
use Rattle.orders.proofs.shape_code.Tie as tie

returns : tie.Need-returns
unfolding first_failing
returns c =
    let b = c.before.before.before.before.before.before.before.before in
    rw (c.first-4.ensures, c.first-3.ensures, c.first-sizes.ensures, c.first-2.ensures, c.first-rest.ensures, c.first.ensures)
    (rw (c.rows_clash-rows.ensures, c.columns_clash-columns.ensures, c.columns_absent-2.ensures, c.columns_absent.ensures)
    (rw (c.same_dataset.ensures, c.both_private-private.ensures)))

pub shape_code_spec : {M : Type 1} → statement M
shape_code_spec =
    tie.close
    (tie.spec
    (λ c κs. search rules)
    (λ c κs. search rules)
    (λ c κs. search rules)
    (λ c κs. search rules)
    (λ c κs. search rules)
    (λ c κs. search rules)
    (λ c κs. search rules)
    (λ c κs. search rules)
    (λ c κs. search rules)
    (λ c κs. search rules)
    (λ c κs. search rules)
    (λ c κs. search rules)
    returns)
