-- The bytes that a step gives, for any stored form that is laid out properly.
--     step_gives      of operands that are held where they pass 3 to 5: those of the derived sheet, which keeps to its form
--     step_written    of any operands' bytes
--     step_read       and they pass 3 and 4 again
-- Assumes nothing.
use mathlib.Core.Path.{◌≡◌, refl, sym, subst, ◌∙◌}
use mathlib.Core.Bool.{Bool, true, false, cond}
use mathlib.Core.List.{List}
use Prim.Native.Nat.{ℕ, ◌^◌, ◌<◌}
use lib.Dec.{T}
use Rattle.octets.proofs.Reread.{AllBytes}
use Rattle.numbers.specs.Result.{Result, ok, and_then}
use Rattle.base.specs.Form.{Form, Laid}
use Rattle.base.specs.Sheet.{Sheet}
use Rattle.base.specs.Decode.{decode}
use Rattle.base.specs.Encode.{encode}
use Rattle.base.specs.Checks.{read}
use Rattle.base.specs.Components.{family_of, is_unary}
use Rattle.base.specs.declared.Component.{Component}
use Rattle.base.specs.declared.Family.{Family}
use Rattle.base.specs.declared.Family.TheVariants as Fam
use Rattle.base.proofs.Passed.{Passed}
use Rattle.shape.specs.Fields.{numbered}
use Rattle.calls.specs.Derive.{derive_by, derive}
use Rattle.calls.specs.Single.{step_sheet, step}
use Rattle.lending.specs.Code.{Read}
use Rattle.derived.specs.Held.{Held, Sound}
use Rattle.derived.proofs.Gives.{Gives, gives_more, gives_then}
use Rattle.derived.proofs.Decoded.{decoded_held, read_gives}
use Rattle.derived.proofs.Derived.{derived_sound, numbered_sound}
use Rattle.derived.proofs.Encoded.{encoded_read}

-- Abs and Negative read the left alone
unary_any : (c : Component) (F : Form) (l r : Sheet) → is_unary (family_of c) ≡ true → derive F c l l ≡ derive F c l r
unfolding derive
unary_any c F l r = go (family_of c)
  where
    go : (f : Family) → is_unary f ≡ true → derive_by F c f l l ≡ derive_by F c f l r
    go Fam.Unary e = refl
    go Fam.Pair e = absurd (subst T (sym e) tt)
    go Fam.Copy e = absurd (subst T (sym e) tt)
    go Fam.Pool e = absurd (subst T (sym e) tt)

module _ {F : Form} (laid : Laid F) (c : Component) (left right : List ℕ) where
  abbrev Deriving : Sheet → Type 0
  Deriving s = (derive F c (decode F left) (decode F right) ≡ ok s) × Sound F s

  -- they are those of the derived sheet
  pub record Written (k : ℕ) (vs : List ℕ) : Type 0 where
    pub sheet : Sheet
    pub derived : derive F c (decode F left) (decode F right) ≡ ok sheet
    pub sound : Sound F (numbered (family_of c) k sheet)
    pub bytes : vs ≡ encode F (numbered (family_of c) k sheet)

  module _ (p : Passed F left → Held F (decode F left)) (q : Passed F right → Held F (decode F right)) where
    -- behind the left sheet, l
    abbrev behind : Sheet → Result Sheet
    behind l = cond (is_unary (family_of c)) (derive F c l l) (and_then (read F right) (λ r. derive F c l r))

    behind_gives : Passed F left → Gives Deriving (behind (decode F left))
    behind_gives z = go (is_unary (family_of c)) refl
      where
        go : (t : Bool) → is_unary (family_of c) ≡ t
            → Gives Deriving (cond t (derive F c (decode F left) (decode F left)) (and_then (read F right) (λ r. derive F c (decode F left) r)))
        go true e =
            let l = decode F left in
            gives_more (Sound F) Deriving (derive F c l l) (derived_sound laid c l l (p z) (p z)) (λ s d f. (sym (unary_any c F l (decode F right) e) ∙ d, f))
        go false e =
            let l = decode F left in
            let r = decode F right in
            gives_then (λ x. Passed F right × (x ≡ r)) Deriving (read F right) _ (read_gives F right)
            (λ x h.
            subst (λ (y : Sheet). Gives Deriving (derive F c l y)) (sym h.1)
            (gives_more (Sound F) Deriving (derive F c l r) (derived_sound laid c l r (p z) (q h.0)) (λ s d f. (d, f))))

    sheet_gives : Gives Deriving (step_sheet F c left right)
    unfolding step_sheet
    sheet_gives =
        gives_then (λ x. Passed F left × (x ≡ decode F left)) Deriving (read F left) _ (read_gives F left)
        (λ x h. subst (λ (l : Sheet). Gives Deriving (behind l)) (sym h.1) (behind_gives h.0))

    pub step_gives : (k : ℕ) → k < 2 ^ 32 → Gives (Written k) (step F c k left right)
    unfolding step
    step_gives k h =
        gives_then Deriving (Written k) (step_sheet F c left right) _ sheet_gives
        (λ s d. record { sheet = s; derived = d.0; sound = numbered_sound laid (family_of c) k s h d.1; bytes = refl })

  pub step_written : AllBytes left → AllBytes right → (k : ℕ) → k < 2 ^ 32 → Gives (Written k) (step F c k left right)
  step_written small small' = step_gives (held left small) (held right small')
    where
      held : (s : List ℕ) → AllBytes s → Passed F s → Held F (decode F s)
      held s small z = decoded_held laid s small (record { sizes = z.sizes; fields = z.fields })

  pub step_read : AllBytes left → AllBytes right → (k : ℕ) → k < 2 ^ 32 → Gives (Read F) (step F c k left right)
  step_read small small' k h =
      gives_more (Written k) (Read F) (step F c k left right) (step_written small small' k h)
      (λ vs e w. subst (Read F) (sym w.bytes) (encoded_read laid (numbered (family_of c) k w.sheet) w.sound))
