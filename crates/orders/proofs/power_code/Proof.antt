-- `orders::power_code` meets its contract. Assumes nothing.
use borrow.Author.Rules.{rules}
use Rattle.numbers.specs.Result.{first_failing}
use Rattle.base.specs.Decode.{decode}
use Rattle.orders.proofs.power_code.Statement.{statement}
use Rattle.orders.proofs.power_code.Tie as tie

returns : tie.Need-returns-then-not-whole_lowers_present
unfolding first_failing decode
returns c =
    rw (← c.requires.head, ← c.both_of.ensures, c.if-both_of.true, ← c.whole_lowers_present.ensures, c.if-not-whole_lowers_present.true)

returns-2 : tie.Need-returns-then-both_of
unfolding first_failing decode
returns-2 c =
    rw (← c.requires.head, ← c.both_of.ensures, c.if-both_of.true, ← c.whole_lowers_present.ensures, c.if-not-whole_lowers_present.false)
    (rw (c.first.ensures, c.lowers_non_negative.ensures))

returns-3 : tie.Need-returns
unfolding first_failing decode
returns-3 c =
    rw (← c.requires.head, ← c.both_of.ensures, c.if-both_of.false, ← c.both_of-2.ensures, c.first-2.ensures)

pub power_code_spec : {M : Type 1} → statement M
power_code_spec =
    tie.close
    (tie.spec
    (λ c κs. search rules)
    (λ c κs. c.requires.passed)
    returns
    (λ c κs. c.requires.passed)
    (λ c κs. search rules)
    returns-2
    (λ c κs. search rules)
    (λ c κs. search rules)
    returns-3)
