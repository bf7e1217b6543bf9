-- `list_natures::propagate_unary_categorical_nature`: the refusals, and the categories that are mapped. Assumes nothing.
use mathlib.Core.Path.{sym, ap, ◌∙◌}
use Rattle.base.specs.Form.{form_of}
use Rattle.base.specs.Components.{family_of}
use Rattle.base.proofs.Told.{handed_on}
use Rattle.writer.specs.Written.{in_writing}
use Rattle.list_codes.specs.Code.{has_rule}
use Rattle.lending.proofs.Lending.{stands, alone, used, lists_room_lem}
use Rattle.list_codes.proofs.Codes.{code_is, fine, fine_listed}
use Rattle.list_natures.proofs.Listing.{alone_fails, other_alone, alone_ruled}
use Rattle.list_natures.proofs.propagate_unary_categorical_nature.Goals as goal

pub nature_of-x-requires : goal.nature_of-x-requires
nature_of-x-requires c = stands c.requires.lists.0.read

pub sizes_at-sizes-requires : goal.sizes_at-sizes-requires
sizes_at-sizes-requires c = stands c.requires.lists.0.read

pub returns-in_err-lists_code : goal.returns-in_err-lists_code
returns-in_err-lists_code c =
    let a = c.args in
    let F = form_of a.f in
    let k = c.in_err-lists_code.field-0.0 in
    let code = code_is c.requires.lists.0 a.columns c.sizes_at-sizes.ensures.lists (rw c.nature_of-x.ensures at c.in_err-lists_code.ensures) in
    let e = alone_fails F.category_limit a.c a.data_type a.columns F a.s.now k code in
    rw (handed_on _ k c.from_residual.ensures.1) (ap (in_writing F) (sym e), tt)

pub returns-then-x-ne-WHOLE_LISTS : goal.returns-then-x-ne-WHOLE_LISTS
returns-then-x-ne-WHOLE_LISTS c =
    let a = c.args in
    let F = form_of a.f in
    let none = sym (code_is c.requires.lists.0 a.columns c.sizes_at-sizes.ensures.lists (rw c.nature_of-x.ensures at c.in_ok-lists_code.ensures)) in
    let e = other_alone F.category_limit a.c a.data_type a.columns F a.s.now none (fine c.requires.lists.0 a.columns none) (λ e. c.if-x-ne-WHOLE_LISTS.true (c.nature_of-x.ensures ∙ e)) in
    (ap (in_writing F) (sym e), tt)

pub lists_alone-requires-clause-listed : goal.lists_alone-requires-clause-listed
lists_alone-requires-clause-listed c =
    let p = c.requires.lists in
    let none = sym (code_is p.0 c.args.columns c.sizes_at-sizes.ensures.lists (rw c.nature_of-x.ensures at c.in_ok-lists_code.ensures)) in
    (fine_listed (fine p.0 c.args.columns none), p.1.some_column, p.1.within, p.2)

pub lists_alone-requires-clause-stores : goal.lists_alone-requires-clause-stores
lists_alone-requires-clause-stores c =
    let p = c.requires.lists in
    let none = sym (code_is p.0 c.args.columns c.sizes_at-sizes.ensures.lists (rw c.nature_of-x.ensures at c.in_ok-lists_code.ensures)) in
    let whole = sym c.nature_of-x.ensures ∙ c.if-x-ne-WHOLE_LISTS.false in
    used (alone p.2 (fine_listed (fine p.0 c.args.columns none)) whole) c.requires.lent

pub returns : goal.returns
returns c =
    let a = c.args in
    let F = form_of a.f in
    let p = c.requires.lists in
    let none = sym (code_is p.0 a.columns c.sizes_at-sizes.ensures.lists (rw c.nature_of-x.ensures at c.in_ok-lists_code.ensures)) in
    let whole = sym c.nature_of-x.ensures ∙ c.if-x-ne-WHOLE_LISTS.false in
    let e = alone_ruled F.category_limit a.c a.data_type a.columns F a.s.now none whole (ap has_rule p.2) in
    let room = lists_room_lem (family_of a.c) F a.s.now a.s.now (alone p.2 (fine_listed (fine p.0 a.columns none)) whole) in
    (c.lists_alone.ensures.0 ∙ ap (in_writing F) (sym e), rw room c.lists_alone.ensures.1)
