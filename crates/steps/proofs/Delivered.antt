-- From the codes, the derived nature and the sheet's bytes to what the step of a family answers.
--     unary_refused, unary_nature_refused, unary_written      Abs and Negative
--     pair_refused, pair_nature_refused, pair_written         Add, Subtract, Multiply and Divide
--     copy_refused, copy_nature_refused, copy_last_refused, copy_written    Modulo, Log and Power
-- Assumes nothing.
use mathlib.Core.Path.{◌≡◌, sym, ap, ◌∙◌}
use mathlib.Core.Bool.{Bool, cond}
use mathlib.Core.List.{List}
use Prim.Native.Nat.{ℕ}
use lib.IntN.{ℤ, pos}
use native.Mathlib.Omega.{arith}
use Rattle.octets.specs.Le.{le_at}
use Rattle.numbers.specs.Result.{Result, ok, refused, and_then, checked, first_failing}
use Rattle.numbers.proofs.Results.{then_refused}
use Rattle.base.specs.Form.{Form, place, node_at}
use Rattle.base.specs.Sheet.{Nature, Fields, Sheet}
use Rattle.base.specs.Decode.{as_whole, fields_in, nature_in, groups_in, decode}
use Rattle.base.specs.Encode.{encode}
use Rattle.base.specs.Refusals.{number_of}
use Rattle.base.specs.declared.refusals.Refusal.{Refusal}
use Rattle.base.specs.declared.Component.{Component}
use Rattle.base.proofs.Told.{numbered, above_none}
use Rattle.writer.specs.Written.{Written, written_of, in_writing, sheet_from}
use Rattle.shape.specs.Shape.{columns_of, widest}
use Rattle.shape.specs.Fields.{pair_fields, copy_fields, adds_nullity, pair_sheet, copy_sheet, unary_sheet, with_node}
use Rattle.orders.specs.Orders.{unary_checks, pair_checks, copy_checks, last_checks}
use Rattle.orders.proofs.Refusals.{checked_passes, checked_refuses}
use Rattle.orders.proofs.Orders.{unary_numbered, pair_numbered, copy_numbered, last_numbered}
use Rattle.deliveries.proofs.Answers.{check_refuses, nature_refuses, nature_given, sheet_bytes_lem}
use Rattle.calls.specs.Natures.{unary_nature, binary_nature}
use Rattle.calls.specs.Derive.{derive_unary, derive_pair, derive_copy}

given_number : (e : Refusal) → number_of e ≡ 0 → ⊥
given_number e z = omega (arith, above_none e, z)

module _ (F : Form) where
  -- ---- Abs and Negative

  abbrev node_of : List ℕ → ℤ
  node_of s = as_whole (le_at 8 (place F node_at) s)

  module _ (c : Component) (left : List ℕ) {x : Fields} (head : x ≡ fields_in F left) where
    abbrev unary_answer : Result (List ℕ)
    unary_answer = and_then (derive_unary F c (decode F left)) (λ s. ok (encode F s))

    unary_code : {k : ℕ} → k ≡ first_failing (unary_checks x) → k ≡ first_failing (unary_checks (fields_in F left))
    unary_code code = code ∙ ap (λ (x : Fields). first_failing (unary_checks x)) head

    pub unary_refused : (e : Refusal) → number_of e ≡ first_failing (unary_checks x) → refused (number_of e) ≡ unary_answer
    unfolding decode derive_unary
    unary_refused e code =
        let s = decode F left in
        check_refuses F (unary_checks s.fields) (unary_nature F.category_limit c s.fields.data_type (columns_of s.fields) s.nature) (λ n. ok (unary_sheet s n))
        (encode F) (unary_code code) (given_number e)

    module _ {columns : ℕ} (width : columns ≡ columns_of x) (passes : 0 ≡ first_failing (unary_checks x)) where
      abbrev unary_given : Result Nature
      unary_given = unary_nature F.category_limit c x.data_type columns (nature_in F left)

      unary_given_lem : unary_given ≡ unary_nature F.category_limit c (fields_in F left).data_type (columns_of (fields_in F left)) (nature_in F left)
      unary_given_lem = rw (width, head)

      pub unary_nature_refused : {m : ℕ} → refused m ≡ in_writing F unary_given → refused m ≡ unary_answer
      unfolding decode derive_unary
      unary_nature_refused h =
          let s = decode F left in
          nature_refuses F (unary_checks s.fields) (unary_nature F.category_limit c s.fields.data_type (columns_of s.fields) s.nature)
          (λ n. ok (unary_sheet s n)) (encode F) (unary_numbered s.fields) (sym (unary_code passes)) (h ∙ ap (in_writing F) unary_given_lem)

      pub unary_written :
          {w : Written} {vs : List ℕ} → ok w ≡ in_writing F unary_given → vs ≡ sheet_from F x (node_of left) (groups_in F left) w → ok vs ≡ unary_answer
      unfolding decode derive_unary
      unary_written h e =
          let s = decode F left in
          nature_given F (unary_checks s.fields) (unary_nature F.category_limit c s.fields.data_type (columns_of s.fields) s.nature)
          (λ n. ok (unary_sheet s n)) (encode F) (unary_numbered s.fields) (sym (unary_code passes)) (h ∙ ap (in_writing F) unary_given_lem)
          (λ n same. sheet_bytes_lem F (unary_sheet s n) (rw head at e) same)

  -- ---- Add, Subtract, Multiply and Divide

  module _ (c : Component) (node : ℕ) (left right : List ℕ) where
    abbrev pair_answer : Result (List ℕ)
    pair_answer = and_then (derive_pair F c (decode F left) (decode F right)) (λ s. ok (encode F (with_node (pos node) s)))

    -- what `derive_pair` asks of the natures
    abbrev pair_nature : Result Nature
    pair_nature =
        binary_nature F c (decode F left).fields.data_type (widest (decode F left).fields (decode F right).fields)
        (decode F left).nature (decode F right).nature

    pub pair_refused : (e : Refusal) → number_of e ≡ first_failing (pair_checks (decode F left) (decode F right)) → refused (number_of e) ≡ pair_answer
    unfolding derive_pair
    pair_refused e code =
        let l = decode F left in
        let r = decode F right in
        check_refuses F (pair_checks l r) pair_nature (λ n. ok (pair_sheet c l r n)) (λ s. encode F (with_node (pos node) s)) code (given_number e)

    module _ {x y : Fields} (lh : x ≡ fields_in F left) (rh : y ≡ fields_in F right) {columns : ℕ} (width : columns ≡ widest x y) (passes : 0 ≡ first_failing (pair_checks (decode F left) (decode F right))) where
      abbrev pair_given : Result Nature
      pair_given = binary_nature F c x.data_type columns (nature_in F left) (nature_in F right)

      pair_given_lem : pair_given ≡ pair_nature
      unfolding decode
      pair_given_lem = rw (width, lh, rh)

      pub pair_nature_refused : {m : ℕ} → refused m ≡ in_writing F pair_given → refused m ≡ pair_answer
      unfolding derive_pair
      pair_nature_refused h =
          let l = decode F left in
          let r = decode F right in
          nature_refuses F (pair_checks l r) pair_nature (λ n. ok (pair_sheet c l r n)) (λ s. encode F (with_node (pos node) s)) (pair_numbered l r)
          (sym passes) (h ∙ ap (in_writing F) pair_given_lem)

      pub pair_written :
          {w : Written} {vs : List ℕ} {h : Fields} {more : Bool} → more ≡ adds_nullity c (nature_in F right) → h ≡ pair_fields more x y
          → ok w ≡ in_writing F pair_given
          → vs ≡ sheet_from F h (pos node) (cond x.releasable (groups_in F right) (groups_in F left)) w → ok vs ≡ pair_answer
      unfolding decode derive_pair
      pair_written adds fields g e =
          let l = decode F left in
          let r = decode F right in
          nature_given F (pair_checks l r) pair_nature (λ n. ok (pair_sheet c l r n)) (λ s. encode F (with_node (pos node) s)) (pair_numbered l r)
          (sym passes) (g ∙ ap (in_writing F) pair_given_lem)
          (λ n same. sheet_bytes_lem F (with_node (pos node) (pair_sheet c l r n)) (rw (fields, adds, lh, rh) at e) same)

  -- ---- Modulo, Log and Power

  module _ (c : Component) (left right : List ℕ) where
    abbrev copy_answer : Result (List ℕ)
    copy_answer = and_then (derive_copy F c (decode F left) (decode F right)) (λ s. ok (encode F s))

    abbrev copy_nature : Result Nature
    copy_nature =
        binary_nature F c (decode F left).fields.data_type (columns_of (decode F left).fields) (decode F left).nature
        (decode F right).nature

    abbrev copy_rest : Nature → Result Sheet
    copy_rest n = checked (last_checks (decode F left) (decode F right)) (ok (copy_sheet (decode F left) (decode F right) n))

    pub copy_refused : (e : Refusal) → number_of e ≡ first_failing (copy_checks c (decode F left) (decode F right)) → refused (number_of e) ≡ copy_answer
    unfolding derive_copy
    copy_refused e code =
        let l = decode F left in
        let r = decode F right in
        check_refuses F (copy_checks c l r) copy_nature copy_rest (encode F) code (given_number e)

    module _ {x : Fields} (lh : x ≡ fields_in F left) {columns : ℕ} (width : columns ≡ columns_of x) (passes : 0 ≡ first_failing (copy_checks c (decode F left) (decode F right))) where
      abbrev copy_given : Result Nature
      copy_given = binary_nature F c x.data_type columns (nature_in F left) (nature_in F right)

      copy_given_lem : copy_given ≡ copy_nature
      unfolding decode
      copy_given_lem = rw (width, lh)

      pub copy_nature_refused : {m : ℕ} → refused m ≡ in_writing F copy_given → refused m ≡ copy_answer
      unfolding derive_copy
      copy_nature_refused h =
          let l = decode F left in
          let r = decode F right in
          nature_refuses F (copy_checks c l r) copy_nature copy_rest (encode F) (copy_numbered l r c) (sym passes)
          (h ∙ ap (in_writing F) copy_given_lem)

      module _ {w : Written} (g : ok w ≡ in_writing F copy_given) where
        copy_nature_given : {o : Result (List ℕ)} → ((n : Nature) → written_of F n ≡ w → o ≡ and_then (copy_rest n) (λ s. ok (encode F s))) → o ≡ copy_answer
        unfolding derive_copy
        copy_nature_given f =
            let l = decode F left in
            let r = decode F right in
            nature_given F (copy_checks c l r) copy_nature copy_rest (encode F) (copy_numbered l r c) (sym passes)
            (g ∙ ap (in_writing F) copy_given_lem) f

        pub copy_last_refused : (e : Refusal) → number_of e ≡ first_failing (last_checks (decode F left) (decode F right)) → refused (number_of e) ≡ copy_answer
        copy_last_refused e last =
            let l = decode F left in
            let r = decode F right in
            copy_nature_given
            (λ n same. sym (then_refused (λ s. ok (encode F s)) (checked_refuses (ok (copy_sheet l r n)) (last_checks l r) (sym last) (numbered e))))

        pub copy_written :
            {y h : Fields} {vs : List ℕ} → 0 ≡ first_failing (last_checks (decode F left) (decode F right)) → y ≡ fields_in F right → h ≡ copy_fields x y
            → vs ≡ sheet_from F h (node_of left) (cond x.releasable (groups_in F right) (groups_in F left)) w → ok vs ≡ copy_answer
        unfolding decode
        copy_written last rh fields e =
            let l = decode F left in
            let r = decode F right in
            copy_nature_given
            (λ n same.
            sheet_bytes_lem F (copy_sheet l r n) (rw (fields, lh, rh) at e) same
            ∙ sym
            (ap (λ (t : Result Sheet). and_then t (λ s. ok (encode F s)))
            (checked_passes (ok (copy_sheet l r n)) (last_checks l r) (last_numbered l r) (sym last))))
