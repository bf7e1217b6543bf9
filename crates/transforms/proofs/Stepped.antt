-- From what a family's step answers to the step.
--     was_read, right_was_read                                sheets that 3 to 5 do not refuse
--     step_left_refused, step_right_refused                   a sheet that 3 to 5 refuse
--     step_alone, step_paired, step_copied, step_pooled       each family's answer is the step
-- Assumes nothing.
use mathlib.Core.Path.{◌≡◌, refl, sym, ap, ◌∙◌}
use mathlib.Core.Bool.{Bool, true, false, cond}
use mathlib.Core.List.{List}
use Prim.Native.Nat.{ℕ}
use native.Mathlib.Omega.{arith}
use lib.IntN.{pos}
use Rattle.numbers.specs.Result.{Result, ok, refused, and_then}
use Rattle.base.specs.Form.{Form}
use Rattle.base.specs.Sheet.{Sheet}
use Rattle.base.specs.Decode.{decode}
use Rattle.base.specs.Encode.{encode}
use Rattle.base.specs.Checks.{read}
use Rattle.base.specs.Code.{code_of}
use Rattle.base.specs.Components.{family_of, is_unary}
use Rattle.base.specs.Refusals.{number_of}
use Rattle.base.specs.declared.refusals.Refusal.{Refusal}
use Rattle.base.specs.declared.Component.{Component}
use Rattle.base.specs.declared.Family.{Family}
use Rattle.base.specs.declared.Family.TheVariants as Fam
use Rattle.base.proofs.Told.{above_none}
use Rattle.base.proofs.Passed.{passed_all, read_ok, refused_code}
use Rattle.shape.specs.Fields.{with_node, numbered}
use Rattle.calls.specs.Derive.{derive_unary, derive_pair, derive_copy, derive_pool, derive}
use Rattle.calls.specs.Single.{step_sheet, step}
use Rattle.lending.specs.Code.{Read}
use Rattle.transforms.specs.Code.{right_code_of}

module _ (F : Form) where
  pub was_read : (s : List ℕ) → 0 ≡ code_of (read F s) → Read F s
  was_read s passes = let p = passed_all F s (sym passes) in record { sizes = p.sizes; fields = p.fields }

  pub right_was_read : (s : List ℕ) (f : Family) → 0 ≡ cond (is_unary f) 0 (code_of (read F s)) → is_unary f ≡ false → Read F s
  right_was_read s f passes u = was_read s (rw u at passes)

  module _ (c : Component) (node : ℕ) (left right : List ℕ) where
    pub step_left_refused : (e : Refusal) → number_of e ≡ code_of (read F left) → refused (number_of e) ≡ step F c node left right
    unfolding step step_sheet
    step_left_refused e code = rw (refused_code (read F left) code (λ z. omega (arith, above_none e, z)))

    module _ (passes : 0 ≡ code_of (read F left)) {f : Family} (family : f ≡ family_of c) where
      left_read : read F left ≡ ok (decode F left)
      left_read = read_ok F left (sym passes)

      pub step_right_refused : (e : Refusal) → number_of e ≡ cond (is_unary f) 0 (code_of (read F right)) → refused (number_of e) ≡ step F c node left right
      unfolding step step_sheet
      step_right_refused e code = rw (left_read, sym family) (go (is_unary f) _ _ _ code)
        where
          go : (t : Bool) (one : Result Sheet) (two : Sheet → Result Sheet) (bytes : Sheet → Result (List ℕ)) → number_of e ≡ cond t 0 (code_of (read F right))
              → refused (number_of e) ≡ and_then (cond t one (and_then (read F right) two)) bytes
          go true one two bytes h = absurd (omega (arith, above_none e, h))
          go false one two bytes h = rw (refused_code (read F right) h (λ z. omega (arith, above_none e, z)))

      pub step_alone :
          f ≡ Fam.Unary → and_then (derive_unary F c (decode F left)) (λ s. ok (encode F s)) ≡ step F c node left right
      unfolding step step_sheet derive numbered
      step_alone u = rw (left_read, sym family ∙ u)

      module _ (passes' : 0 ≡ cond (is_unary f) 0 (code_of (read F right))) where
        right_read : is_unary f ≡ false → read F right ≡ ok (decode F right)
        right_read u = read_ok F right (sym (rw u at passes'))

        pub step_paired :
            f ≡ Fam.Pair
            → and_then (derive_pair F c (decode F left) (decode F right)) (λ s. ok (encode F (with_node (pos node) s)))
            ≡ step F c node left right
        unfolding step step_sheet derive numbered
        step_paired u = rw (left_read, sym family ∙ u, right_read (ap is_unary u))

        pub step_copied :
            f ≡ Fam.Copy
            → and_then (derive_copy F c (decode F left) (decode F right)) (λ s. ok (encode F s))
            ≡ step F c node left right
        unfolding step step_sheet derive numbered
        step_copied u = rw (left_read, sym family ∙ u, right_read (ap is_unary u))

        pub step_pooled :
            f ≡ Fam.Pool
            → and_then (derive_pool F c (decode F left) (decode F right)) (λ s. ok (encode F (with_node (pos node) s)))
            ≡ step F c node left right
        unfolding step step_sheet derive numbered
        step_pooled u = rw (left_read, sym family ∙ u, right_read (ap is_unary u))

-- what the code says of the right sheet, opened
pub right_of : (F : Form) (family : Family) (right : List ℕ) → right_code_of F family right ≡ cond (is_unary family) 0 (code_of (read F right))
unfolding right_code_of
right_of F family right = refl
