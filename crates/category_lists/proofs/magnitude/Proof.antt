-- `category_lists::magnitude` meets its contract. Assumes nothing.
use mathlib.Core.Path.{◌≡◌, ap, sym, ◌∙◌}
use mathlib.Core.Bool.{true, false}
use native.Mathlib.Omega.{arith}
use lib.IntN.{ℤ, pos, neg_ℤ, nat_abs}
use lib.Signed.{le_z}
use mir.Facts.{to_z-of_z}
use borrow.Author.Rules.{rules}
use Rattle.numbers.specs.Kind.{fitting}
use Rattle.numbers.specs.Checked.{checked_of}
use Rattle.numbers.proofs.Laws.{fits_answer}
use Rattle.numbers.proofs.Parts.{parts_eq, le_true, le_false, abs_up, abs_down, neg_is}
use Rattle.category_lists.proofs.magnitude.Statement.{statement}
use Rattle.category_lists.proofs.magnitude.Tie as tie

up : (a : ℤ) → le_z (pos 0) a ≡ true → a ≡ pos (nat_abs a)
up a h = let l = le_true (pos 0) a h in let u = abs_up a (omega arith) in parts_eq a (pos (nat_abs a)) (omega arith)

down : (a : ℤ) → le_z (pos 0) a ≡ false → neg_ℤ a ≡ pos (nat_abs a)
down a h =
    let l = le_false (pos 0) a h in
    let n = neg_is a in
    let d = abs_down a (omega arith) in
    parts_eq (neg_ℤ a) (pos (nat_abs a)) (omega arith)

returns : tie.Need-returns-then-a-ge0
returns c =
    let f = c.ranges.a in
    let h = sym (ap (le_z (pos 0)) (to_z-of_z f)) ∙ c.if-a-ge0.true in
    ap fitting (fits_answer (up c.args.a h) f)

returns-2 : tie.Need-returns
returns-2 c =
    let f = c.ranges.a in
    let h = sym (ap (le_z (pos 0)) (to_z-of_z f)) ∙ c.if-a-ge0.false in
    ap fitting (c.checked_neg.ensures ∙ ap checked_of (ap neg_ℤ (to_z-of_z f) ∙ down c.args.a h))

pub magnitude_spec : {M : Type 1} → statement M
magnitude_spec = tie.close (tie.spec returns (λ c κs. search rules) returns-2)
