-- `list_natures::joined_texts` meets its contract: 22, or the texts that are joined. Assumes nothing.
use mathlib.Core.Path.{◌≡◌, sym, ap, ◌∙◌}
use mathlib.Core.Bool.{false}
use Rattle.base.specs.Form.{form_of}
use Rattle.base.specs.Components.{family_of}
use Rattle.list_codes.specs.Code.{joins}
use Rattle.lending.proofs.Lending.{texts_room_lem}
use Rattle.writer.specs.Written.{in_writing}
use Rattle.list_natures.proofs.Joined.{no_join, join, joins_both}
use Rattle.list_natures.proofs.joined_texts.Goals as goal

pub returns-then-not-joins : goal.returns-then-not-joins
returns-then-not-joins c =
    let a = c.args in
    let F = form_of a.f in
    let without : joins a.c ≡ false = cc in
    let j = c.requires.0 in
    let e = no_join F a.left.now a.right.now j.lefts.is_text j.rights.is_text a.c a.data_type a.columns without in
    (ap (in_writing F) (sym e), tt)

pub texts_together-requires-clause-joining : goal.texts_together-requires-clause-joining
texts_together-requires-clause-joining c = (c.requires.0, c.requires.1.some_column, c.requires.1.within)

pub texts_together-requires-clause-text_stores : goal.texts_together-requires-clause-text_stores
texts_together-requires-clause-text_stores c = c.requires.2 (sym c.joins.ensures ∙ c.if-not-joins.false)

pub returns : goal.returns
returns c =
    let a = c.args in
    let F = form_of a.f in
    let call = c.texts_together.ensures in
    let has = sym c.joins.ensures ∙ c.if-not-joins.false in
    let j = c.requires.0 in
    let e = join F a.left.now a.right.now j.lefts.is_text j.rights.is_text a.c a.data_type a.columns has in
    (call.0 ∙ ap (in_writing F) (sym e), rw (texts_room_lem (family_of a.c) F a.left.now a.right.now (joins_both F a.left.now a.right.now j a.c has)) call.1)
