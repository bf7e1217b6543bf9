-- `utilities::note_hinted` meets its contract. Assumes nothing.
use mathlib.Core.Path.{◌≡◌, refl, sym, subst, ◌∙◌}
use mathlib.Core.List.{List, [], ◌∷◌, ◌++◌}
use Prim.Native.Nat.{ℕ, ◌+◌}
use native.Mathlib.Omega.{arith}
use borrow.Author.Rules.{rules}
use lib.IntN.{ℤ}
use lib.ListN.{length, take, set}
use mir.Syntax.{w64}
use mir.Val.{to_z, of_z}
use mir.Facts.{to_z-of_z}
use Rattle.numbers.specs.Kind.{eq_z}
use Rattle.utilities.specs.Noted.{Hinting}
use Rattle.utilities.proofs.Firsts.{noted_new}
use Rattle.utilities.proofs.Begins.{kept, added, lacking}
use Rattle.utilities.proofs.Hints.{hint_within, hinting_added}
use Rattle.utilities.proofs.note_hinted.Statement.{statement}
use Rattle.utilities.proofs.note_hinted.Tie as tie

has-hinted-requires : tie.Need-has_hinted-requires
has-hinted-requires c κs =
    (c.requires.0, c.requires.1, c.hint_at-at.ensures)

returns : tie.Need-returns-then-has_hinted
returns c =
    (kept c.args.out.now c.args.n (to_z-of_z c.ranges.x) c.requires.0 (sym c.has_hinted.ensures ∙ c.if-has_hinted.true), c.requires.1)

slice-write-hints : tie.Need-bounds-hints-at
slice-write-hints c =
    let x = to_z w64 (of_z w64 c.args.x) in
    omega (arith, c.requires.1.size, c.hint_at-at.ensures, hint_within x)

returns-2 : tie.Need-returns-then-n-out
returns-2 c =
    let out = c.args.out.now in
    let n = c.args.n in
    let hints = c.args.hints.now in
    let v = to_z w64 (of_z w64 c.args.x) in
    let h = c.hint_of.result in
    let missing = sym c.has_hinted.ensures ∙ c.if-has_hinted.false in
    let begins = added out n (to_z-of_z c.ranges.x) c.if-n-out.true missing in
    let values = sym ((added out n refl c.if-n-out.true missing).start ∙ noted_new eq_z (take n out) v missing) in
    let at = sym c.hint_at-at.ensures in
    let grown = hinting_added v h c.hint_of.ensures (hint_within v) c.requires.1 in
    (begins, subst (λ (l : List ℤ). Hinting (set hints c.hint_at-at.result h) l) values (subst (λ (k : ℕ). Hinting (set hints k h) (take n out ++ (v ∷ []))) at grown))

returns-3 : tie.Need-returns
returns-3 c =
    let full : c.args.n ≡ length c.args.out.now = omega (arith, c.requires.0) in
    (lacking c.args.out.now c.args.n (to_z-of_z c.ranges.x) full (sym c.has_hinted.ensures ∙ c.if-has_hinted.false), c.requires.1)

pub note_hinted_spec : {M : Type 1} → statement M
note_hinted_spec =
    tie.close
    (tie.spec
    (λ c κs. search rules)
    has-hinted-requires
    (λ c. search rules)
    (λ c. search rules)
    returns
    (λ c κs. search rules)
    slice-write-hints
    (λ c. search rules)
    (λ c. search rules)
    (λ c. search rules)
    (λ c. search rules)
    (λ c. search rules)
    returns-2
    (λ c. search rules)
    (λ c. search rules)
    returns-3)
