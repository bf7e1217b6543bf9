-- `list_natures::propagate_binary_categorical_nature`: the refusals, the texts that are joined, and the categories that are combined. Assumes nothing.
use mathlib.Core.Path.{◌≡◌, sym, ap, subst, ◌∙◌}
use mathlib.Core.Bool.{false}
use Prim.Native.Nat.{ℕ, ◌≤◌}
use native.Mathlib.Omega.{arith}
use Rattle.base.specs.Form.{form_of}
use Rattle.base.specs.Components.{family_of}
use Rattle.base.proofs.Forms.{laid}
use Rattle.base.proofs.Told.{above_none, handed_on}
use Rattle.writer.specs.Written.{in_writing}
use Rattle.text_lists.specs.Codes.{Joining}
use Rattle.list_codes.specs.Code.{has_rule}
use Rattle.lending.specs.Code.{nature_room}
use Rattle.lending.proofs.Lending.{stands, joined, used, lists_room_lem, nature_room_lem, wider}
use Rattle.list_codes.proofs.Codes.{both_of, joint, fine_listed, pair_fails, pair_joins}
use Rattle.list_natures.proofs.Listing.{other_pair, no_rule, paired, pair_ruled}
use Rattle.list_natures.proofs.Joined.{joins_both}
use Rattle.list_natures.proofs.propagate_binary_categorical_nature.Goals.{then-x-ne-WHOLE_LISTS-via-then-x-ne-WHOLE_LISTS, then-x-ne-WHOLE_LISTS-via-else-x-ne-WHOLE_LISTS+then-not-has_rule}
use Rattle.list_natures.proofs.propagate_binary_categorical_nature.Goals as goal

pub returns-in_err-both_lists_code : goal.returns-in_err-both_lists_code
returns-in_err-both_lists_code c =
    let k = c.in_err-both_lists_code.field-0.0 in
    let e = pair_fails c.args.columns _ _ (c.in_err-both_lists_code.ensures ∙ both_of (form_of c.args.f) c.args.columns c.args.left.now c.args.right.now) (λ z. omega (arith, above_none k, z)) (form_of c.args.f) c.args.c c.args.data_type in
    rw (handed_on _ k c.from_residual.ensures.1) (ap (in_writing (form_of c.args.f)) (sym e), tt)

pub nature_of-x-requires : goal.nature_of-x-requires
nature_of-x-requires c = stands c.requires.lists.0.read

pub joined_texts-requires : goal.joined_texts-requires
joined_texts-requires c =
    let a = c.args in
    let F = form_of a.f in
    let p = joint c.requires.lists.0 c.requires.lists.1 a.columns (sym (c.in_ok-both_lists_code.ensures ∙ both_of (form_of c.args.f) c.args.columns c.args.left.now c.args.right.now)) in
    let t = sym c.nature_of-x.ensures ∙ c.if-x-eq-TEXT_LISTS.true in
    let j : Joining F a.left.now a.right.now = record {
      lefts = record { listed = fine_listed p.left_fine; fields = p.left_fine.lists.read.fields; is_text = t };
      rights = record { listed = fine_listed p.right_fine; fields = p.right_fine.lists.read.fields; is_text = sym p.same ∙ t };
    } in
    (j, c.requires.lists.2, λ h. c.requires.lent.texts (joins_both F a.left.now a.right.now j a.c h))

pub returns-then-x-eq-TEXT_LISTS : goal.returns-then-x-eq-TEXT_LISTS
returns-then-x-eq-TEXT_LISTS c =
    let a = c.args in
    let e = pair_joins a.columns _ _ (sym (c.in_ok-both_lists_code.ensures ∙ both_of (form_of c.args.f) c.args.columns c.args.left.now c.args.right.now)) (form_of a.f) a.c a.data_type in
    (c.joined_texts.ensures.0 ∙ ap (in_writing (form_of a.f)) (sym e), c.joined_texts.ensures.1)

-- neither texts nor whole, or there is no code for the rule
pub returns-then-x-ne-WHOLE_LISTS : goal.returns-then-x-ne-WHOLE_LISTS
returns-then-x-ne-WHOLE_LISTS c =
    let a = c.args in
    let F = form_of a.f in
    let none = sym (c.in_ok-both_lists_code.ensures ∙ both_of (form_of c.args.f) c.args.columns c.args.left.now c.args.right.now) in
    let p = joint c.requires.lists.0 c.requires.lists.1 a.columns none in
    let k = c.nature_of-x.ensures in
    elim c.then-x-ne-WHOLE_LISTS.branch [
      | then-x-ne-WHOLE_LISTS-via-then-x-ne-WHOLE_LISTS w ↦
          (ap (in_writing F) (sym (other_pair a.c a.data_type a.columns F a.left.now a.right.now none p (λ e. c.if-x-eq-TEXT_LISTS.false (k ∙ e)) (λ e. w.if-x-ne-WHOLE_LISTS.true (k ∙ e)))), tt)
      | then-x-ne-WHOLE_LISTS-via-else-x-ne-WHOLE_LISTS+then-not-has_rule w ↦
          let without : has_rule (family_of a.c) ≡ false = sym w.has_rule.ensures ∙ w.if-not-has_rule.true in
          (ap (in_writing F) (sym (no_rule a.c a.data_type a.columns F a.left.now a.right.now none p (sym k ∙ w.if-x-ne-WHOLE_LISTS.false) c.requires.lists.3 without)), tt)
    ]

-- there is code for the rule, so that the categories are combined
pub lists_pair-requires-clause-listed : goal.lists_pair-requires-clause-listed
lists_pair-requires-clause-listed c =
    let a = c.args in
    let p = joint c.requires.lists.0 c.requires.lists.1 a.columns (sym (c.in_ok-both_lists_code.ensures ∙ both_of (form_of c.args.f) c.args.columns c.args.left.now c.args.right.now)) in
    let has = sym c.has_rule.ensures ∙ c.if-not-has_rule.false in
    (fine_listed p.left_fine, fine_listed p.right_fine, c.requires.lists.2.some_column, c.requires.lists.2.within, paired (family_of a.c) c.requires.lists.4 has)

pub lists_pair-requires-clause-stores : goal.lists_pair-requires-clause-stores
lists_pair-requires-clause-stores c =
    let p = joint c.requires.lists.0 c.requires.lists.1 c.args.columns (sym (c.in_ok-both_lists_code.ensures ∙ both_of (form_of c.args.f) c.args.columns c.args.left.now c.args.right.now)) in
    let x = sym c.nature_of-x.ensures ∙ c.if-x-ne-WHOLE_LISTS.false in
    let pair = paired (family_of c.args.c) c.requires.lists.4 (sym c.has_rule.ensures ∙ c.if-not-has_rule.false) in
    used (joined pair (fine_listed p.left_fine) x (fine_listed p.right_fine) (sym p.same ∙ x)) c.requires.lent

pub returns : goal.returns
returns c =
    let a = c.args in
    let F = form_of a.f in
    let m = family_of a.c in
    let none = sym (c.in_ok-both_lists_code.ensures ∙ both_of (form_of c.args.f) c.args.columns c.args.left.now c.args.right.now) in
    let p = joint c.requires.lists.0 c.requires.lists.1 a.columns none in
    let x = sym c.nature_of-x.ensures ∙ c.if-x-ne-WHOLE_LISTS.false in
    let has = sym c.has_rule.ensures ∙ c.if-not-has_rule.false in
    let joins = joined (paired m c.requires.lists.4 has) (fine_listed p.left_fine) x (fine_listed p.right_fine) (sym p.same ∙ x) in
    let e = pair_ruled a.c a.data_type a.columns F a.left.now a.right.now none p x has in
    let room = subst (λ (n : ℕ). n ≤ nature_room m F a.left.now a.right.now) (lists_room_lem m F a.left.now a.right.now joins) (nature_room_lem (laid a.f) m a.left.now a.right.now) in
    (c.lists_pair.ensures.0 ∙ ap (in_writing F) (sym e), wider F _ _ room c.lists_pair.result c.lists_pair.ensures.1)
