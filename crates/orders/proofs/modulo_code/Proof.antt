-- `orders::modulo_code` meets its contract. Assumes nothing.
use borrow.Author.Rules.{rules}
use Rattle.numbers.specs.Result.{first_failing}
use Rattle.base.specs.Decode.{decode}
use Rattle.orders.proofs.modulo_code.Statement.{statement}
use Rattle.orders.proofs.modulo_code.Tie as tie

returns : tie.Need-returns-then-both_of
unfolding first_failing decode
returns c =
    rw (← c.requires.head, ← c.both_of.ensures, c.if-both_of.true, c.positive_code.ensures, c.whole_lowers_present.ensures)

returns-2 : tie.Need-returns-then-both_of-2
unfolding first_failing decode
returns-2 c =
    rw (← c.requires.head, ← c.both_of.ensures, c.if-both_of.false, ← c.both_of-2.ensures, c.if-both_of-2.true)
    (rw (c.positive_code-then-both_of-2.ensures, c.lowers_present.ensures))

returns-3 : tie.Need-returns
unfolding first_failing decode
returns-3 c =
    rw (← c.requires.head, ← c.both_of.ensures, c.if-both_of.false, ← c.both_of-2.ensures, c.if-both_of-2.false)

pub modulo_code_spec : {M : Type 1} → statement M
modulo_code_spec =
    tie.close
    (tie.spec
    (λ c κs. search rules)
    (λ c κs. c.requires.passed)
    (λ c κs. c.requires.passed)
    returns
    (λ c κs. search rules)
    (λ c κs. c.requires.passed)
    (λ c κs. c.requires.passed)
    returns-2
    returns-3)
