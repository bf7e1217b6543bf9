-- `pool_nature::united_categorical_nature` meets its contract: the refusals, the texts, and the whole or bool categories. Assumes nothing.
use mathlib.Core.Path.{◌≡◌, sym, ap, subst, ◌∙◌}
use Prim.Native.Nat.{ℕ, ◌≤◌}
use native.Mathlib.Omega.{arith}
use Rattle.numbers.specs.Result.{Result, and_then}
use Rattle.numbers.proofs.Results.{then_refused}
use Rattle.base.specs.Form.{form_of, byte_at, nature_at}
use Rattle.base.specs.Sheet.{Nature}
use Rattle.base.specs.Decode.{nature_in}
use Rattle.base.specs.declared.Family.TheVariants as Fam
use Rattle.base.proofs.Forms.{laid}
use Rattle.base.proofs.Told.{above_none, handed_on}
use Rattle.writer.specs.Written.{in_writing}
use Rattle.category_lists.specs.Categories.{kept}
use Rattle.lending.specs.Code.{nature_room}
use Rattle.lending.proofs.Lending.{stands, used, lists_room_lem, texts_room_lem, nature_room_lem, wider}
use Rattle.list_codes.proofs.Numbers.{number_of}
use Rattle.list_codes.proofs.Codes.{both_of, joint, no_text, fine_listed, union_fails, union_joins}
use Rattle.pool_nature.proofs.Natures.{united_textless, united_texts, joint_texts, joint_lists}
use Rattle.pool_nature.proofs.united_categorical_nature.Goals as goal

pub returns-in_err-both_lists_code : goal.returns-in_err-both_lists_code
returns-in_err-both_lists_code c =
    let F = form_of c.args.f in
    let k = c.in_err-both_lists_code.field-0.0 in
    let e = union_fails c.args.columns _ _ (c.in_err-both_lists_code.ensures ∙ both_of (form_of c.args.f) c.args.columns c.args.left.now c.args.right.now) (λ z. omega (arith, above_none k, z)) in
    rw (handed_on _ k c.from_residual.ensures.1) (ap (in_writing F) (sym (then_refused (kept F) e)), tt)

pub nature_of-requires : goal.nature_of-requires
nature_of-requires c = stands c.requires.lists.0.read

-- texts
pub texts_together-requires-clause-joining : goal.texts_together-requires-clause-joining
texts_together-requires-clause-joining c =
    let q = c.requires.lists in
    let p = joint q.0 q.1 c.args.columns (sym (c.in_ok-both_lists_code.ensures ∙ both_of (form_of c.args.f) c.args.columns c.args.left.now c.args.right.now)) in
    let x = p.left_fine in
    let y = p.right_fine in
    let text : byte_at (form_of c.args.f) nature_at c.args.left.now ≡ 6 = cc in (
      record {
        lefts = record { listed = fine_listed x; fields = x.lists.read.fields; is_text = text };
        rights = record { listed = fine_listed y; fields = y.lists.read.fields; is_text = sym p.same ∙ text };
      },
      q.2.some_column,
      q.2.within,
    )

pub texts_together-requires-clause-text_stores : goal.texts_together-requires-clause-text_stores
texts_together-requires-clause-text_stores c =
    let p = joint c.requires.lists.0 c.requires.lists.1 c.args.columns (sym (c.in_ok-both_lists_code.ensures ∙ both_of (form_of c.args.f) c.args.columns c.args.left.now c.args.right.now)) in
    let text : byte_at (form_of c.args.f) nature_at c.args.left.now ≡ 6 = cc in
    c.requires.lent.texts (joint_texts p text)

pub returns-then-nature_of-eq-TEXT_LISTS : goal.returns-then-nature_of-eq-TEXT_LISTS
returns-then-nature_of-eq-TEXT_LISTS c =
    let a = c.args in
    let F = form_of a.f in
    let left = a.left.now in
    let right = a.right.now in
    let none = sym (c.in_ok-both_lists_code.ensures ∙ both_of (form_of c.args.f) c.args.columns c.args.left.now c.args.right.now) in
    let p = joint c.requires.lists.0 c.requires.lists.1 a.columns none in
    let text : byte_at F nature_at left ≡ 6 = cc in
    let e = union_joins a.columns (nature_in F left) (nature_in F right) none in
    let h = united_texts F a.columns left right text (sym p.same ∙ text) in
    (c.texts_together.ensures.0 ∙ ap (in_writing F) (h ∙ ap (λ (g : Result Nature). and_then g (kept F)) (sym e)), rw (texts_room_lem Fam.Pool F left right (joint_texts p text)) c.texts_together.ensures.1)

-- whole or bool categories
pub lists_united-requires-clause-uniting : goal.lists_united-requires-clause-uniting
lists_united-requires-clause-uniting c =
    let q = c.requires.lists in
    let p = joint q.0 q.1 c.args.columns (sym (c.in_ok-both_lists_code.ensures ∙ both_of (form_of c.args.f) c.args.columns c.args.left.now c.args.right.now)) in
    let x = p.left_fine in
    let y = p.right_fine in
    let other : (byte_at (form_of c.args.f) nature_at c.args.left.now ≡ 6 → ⊥) = λ e. omega arith in (
      record {
        left_listed = fine_listed x;
        right_listed = fine_listed y;
        left_fields = x.lists.read.fields;
        right_fields = y.lists.read.fields;
        same = p.same;
        joins = no_text x other;
      },
      q.2.some_column,
      q.2.within,
    )

pub lists_united-requires-clause-stores : goal.lists_united-requires-clause-stores
lists_united-requires-clause-stores c =
    let p = joint c.requires.lists.0 c.requires.lists.1 c.args.columns (sym (c.in_ok-both_lists_code.ensures ∙ both_of (form_of c.args.f) c.args.columns c.args.left.now c.args.right.now)) in
    used (joint_lists p) c.requires.lent

pub returns : goal.returns
returns c =
    let a = c.args in
    let F = form_of a.f in
    let other : (byte_at F nature_at a.left.now ≡ 6 → ⊥) = λ e. omega arith in
    let left = a.left.now in
    let right = a.right.now in
    let none = sym (c.in_ok-both_lists_code.ensures ∙ both_of (form_of c.args.f) c.args.columns c.args.left.now c.args.right.now) in
    let p = joint c.requires.lists.0 c.requires.lists.1 a.columns none in
    let united = c.lists_united in
    let e = union_joins a.columns (nature_in F left) (nature_in F right) none in
    let h = united_textless F a.columns (nature_in F left) (nature_in F right) (λ z. other (sym (number_of F left p.left_fine.lists.read) ∙ z)) in
    let room = subst (λ (n : ℕ). n ≤ nature_room Fam.Pool F left right) (lists_room_lem Fam.Pool F left right (joint_lists p)) (nature_room_lem (laid a.f) Fam.Pool left right) in
    (united.ensures.0 ∙ ap (in_writing F) (h ∙ ap (λ (g : Result Nature). and_then g (kept F)) (sym e)), wider F _ _ room united.result united.ensures.1)
