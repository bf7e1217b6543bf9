-- `orders::data_code` meets its contract. Assumes nothing.
use mathlib.Core.Path.{◌≡◌, refl}
use mathlib.Core.Bool.{Bool, true, false, not}
use borrow.Author.Rules.{rules}
use Rattle.numbers.specs.Result.{first_failing}
use Rattle.base.specs.Form.{form_of}
use Rattle.base.specs.Decode.{nature_in, decode}
use Rattle.base.specs.Bounds.{lowers_present}
use Rattle.orders.specs.Parts.{first}
use Rattle.orders.proofs.data_code.Statement.{statement}
use Rattle.orders.proofs.data_code.Tie as tie

-- whichever of the two fails, it is 15
one_number : (t : Bool) → 15 ≡ first 15 t 15
one_number true = refl
one_number false = refl

returns : tie.Need-returns-then-is_whole_range
unfolding first_failing decode
returns c =
    rw (← c.is_whole_range.ensures, ← c.is_whole_range-2.ensures, c.if-is_whole_range.true)
    (one_number (not (lowers_present (nature_in (form_of c.args.f) c.args.left.now))))

returns-2 : tie.Need-returns
unfolding first_failing decode
returns-2 c =
    rw (← c.is_whole_range.ensures, ← c.is_whole_range-2.ensures, c.if-is_whole_range.false, c.positive_code.ensures, c.lowers_present.ensures)

pub data_code_spec : {M : Type 1} → statement M
data_code_spec =
    tie.close
    (tie.spec
    (λ c κs. search rules)
    (λ c κs. search rules)
    returns
    (λ c κs. search rules)
    (λ c κs. search rules)
    returns-2)
