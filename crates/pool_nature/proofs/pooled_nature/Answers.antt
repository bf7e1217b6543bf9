-- `pool_nature::pooled_nature` meets its contract: the categories united, or the nature of two as any pair's. Assumes nothing.
use mathlib.Core.Path.{sym, ap, ap₂, ◌∙◌}
use mathlib.Core.Bool.{Bool, ◌&&◌}
use mathlib.Core.Logic.{inl}
use Rattle.base.specs.Form.{form_of}
use Rattle.base.specs.Components.{is_unary}
use Rattle.base.specs.declared.Family.{Family}
use Rattle.base.proofs.Flags.{and_both}
use Rattle.writer.specs.Written.{in_writing}
use Rattle.orders.specs.Parts.{is_int_copy}
use Rattle.pool_nature.proofs.Natures.{held_lists, pooled_lists, pooled_apart}
use Rattle.pool_nature.proofs.pooled_nature.Goals as goal

-- both hold categories
pub united_categorical_nature-requires-clause-lists : goal.united_categorical_nature-requires-clause-lists
united_categorical_nature-requires-clause-lists c =
    let p = c.requires.read in
    let b = and_both _ _ c.if-holds_categories.true in
    (held_lists p.0 (sym c.holds_categories.ensures ∙ b.0), held_lists p.1 (sym c.holds_categories-2.ensures ∙ b.1), p.2)

pub united_categorical_nature-requires-clause-lent : goal.united_categorical_nature-requires-clause-lent
united_categorical_nature-requires-clause-lent c = rw c.requires.read.3 at c.requires.lent

pub returns-then-holds_categories : goal.returns-then-holds_categories
returns-then-holds_categories c =
    let a = c.args in
    let p = c.requires.read in
    let b = and_both _ _ c.if-holds_categories.true in
    let e = pooled_lists p.0 p.1 a.c a.data_type a.columns (held_lists p.0 (sym c.holds_categories.ensures ∙ b.0)) (held_lists p.1 (sym c.holds_categories-2.ensures ∙ b.1)) in
    (c.united_categorical_nature.ensures.0 ∙ ap (in_writing (form_of a.f)) e, rw p.3 c.united_categorical_nature.ensures.1)

-- one of them does not
pub propagate_binary_nature-requires-clause-read : goal.propagate_binary_nature-requires-clause-read
propagate_binary_nature-requires-clause-read c =
    let p = c.requires.read in
    (p.0, p.1, p.2, inl (ap (λ (f : Family). is_int_copy f c.args.data_type) p.3), ap is_unary p.3)

pub returns : goal.returns
returns c =
    let a = c.args in
    let p = c.requires.read in
    let other = sym (ap₂ (λ (x y : Bool). x && y) c.holds_categories.ensures c.holds_categories-2.ensures) ∙ c.if-holds_categories.false in
    let e = pooled_apart p.0 p.1 a.c a.data_type a.columns other in
    (c.propagate_binary_nature.ensures.0 ∙ ap (in_writing (form_of a.f)) e, c.propagate_binary_nature.ensures.1)
