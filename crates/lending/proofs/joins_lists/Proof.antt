-- `lending::joins_lists` meets its contract. Assumes nothing.
use mathlib.Core.Path.{◌≡◌, sym, ◌∙◌}
use mathlib.Core.Bool.{true}
use borrow.Author.Rules.{rules}
use borrow.Author.Tests.{not-true, not-false}
use Rattle.base.specs.Form.{form_of}
use Rattle.base.specs.Components.{family_of}
use Rattle.lending.specs.Code.{holds_categories}
use Rattle.lending.proofs.Lending.{none_held}
use Rattle.lending.proofs.joins_lists.Statement.{statement}
use Rattle.lending.proofs.joins_lists.Tie as tie

returns : tie.Need-returns-then-not-holds_categories
returns c =
    let a = c.args in
    none_held (family_of a.c) (form_of a.f) a.left.now a.right.now (sym c.holds_categories.ensures ∙ c.if-not-holds_categories.true)

-- left holds categories
held : (c : tie.Else-not-holds_categories) → let a = c.args in holds_categories (form_of a.f) a.left.now ≡ true
held c = sym c.holds_categories.ensures ∙ c.if-not-holds_categories.false

returns-2 : tie.Need-returns-in-Unary
returns-2 c =
    rw (sym c.family-family.ensures ∙ c.in-Unary.is) c.holds_lists.ensures

returns-3 : tie.Need-returns-in-Pair
returns-3 c =
    rw (sym c.family-family.ensures ∙ c.in-Pair.is, ← c.holds_lists-in-Pair.ensures, ← c.holds_lists-in-Pair-2.ensures)

returns-4 : tie.Need-returns-in-Copy
returns-4 c = rw (sym c.family-family.ensures ∙ c.in-Copy.is)

returns-5 : tie.Need-returns-in-Pool
returns-5 c =
    rw (sym c.family-family.ensures ∙ c.in-Pool.is, held c.before.before.before) c.holds_categories-in-Pool.ensures

pub joins_lists_spec : {M : Type 1} → statement M
joins_lists_spec =
    tie.close
    (tie.spec
    (λ c κs. search rules)
    returns
    (λ c κs. search rules)
    (λ c. search rules)
    (λ c κs. search rules)
    (λ c. search rules)
    (λ c κs. search rules)
    (λ c κs. search rules)
    (λ c. search rules)
    (λ c. search rules)
    (λ c κs. search rules)
    returns-2
    returns-3
    returns-4
    returns-5)
