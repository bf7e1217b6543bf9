-- `orders::log_code` meets its contract. Assumes nothing.
use borrow.Author.Tests.{eq-eqb, ne_eqb}
use Rattle.numbers.specs.Result.{first_failing}
use Rattle.base.specs.Form.{float_type}
use Rattle.base.specs.Decode.{decode}
use Rattle.orders.proofs.log_code.Statement.{statement}
use Rattle.orders.proofs.log_code.Tie as tie

returns : tie.Need-returns-then-l-ne-FLOAT_TYPE
unfolding first_failing decode
returns c =
    rw (← c.requires.0.head, ne_eqb c.args.l.data_type float_type c.if-l-ne-FLOAT_TYPE.true)

returns-2 : tie.Need-returns-then-not-lowers_present-uppers_present
unfolding first_failing decode
returns-2 c =
    let b = c.before.before.before in
    rw (← c.requires.0.head, eq-eqb c.args.l.data_type float_type c.if-l-ne-FLOAT_TYPE.false, ← c.lowers_present.ensures, ← c.uppers_present.ensures, c.if-not-lowers_present-uppers_present.true)

returns-3 : tie.Need-returns-then-not-all_suit_as_base
unfolding first_failing decode
returns-3 c =
    let d = c.before.before in
    let b = d.before.before.before in
    rw (← c.requires.0.head, eq-eqb c.args.l.data_type float_type c.if-l-ne-FLOAT_TYPE.false, ← c.lowers_present.ensures, ← c.uppers_present.ensures, c.if-not-lowers_present-uppers_present.false)
    (rw (← c.all_suit_as_base.ensures, c.if-not-all_suit_as_base.true))

returns-4 : tie.Need-returns
unfolding first_failing decode
returns-4 c =
    let d = c.before.before.before in
    let b = d.before.before.before in
    rw (← c.requires.0.head, eq-eqb c.args.l.data_type float_type c.if-l-ne-FLOAT_TYPE.false, ← c.lowers_present.ensures, ← c.uppers_present.ensures, c.if-not-lowers_present-uppers_present.false)
    (rw (← c.all_suit_as_base.ensures, c.if-not-all_suit_as_base.false, c.data_code.ensures))

pub log_code_spec : {M : Type 1} → statement M
log_code_spec =
    tie.close
    (tie.spec
    returns
    (λ c κs. c.requires.1)
    (λ c κs. c.requires.1)
    returns-2
    (λ c κs. c.requires.1)
    returns-3
    (λ c κs. let z = c.before.before.before.before.before.before.before.before.before in (z.requires.0.passed, z.requires.1))
    returns-4)
