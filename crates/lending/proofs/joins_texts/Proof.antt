-- `lending::joins_texts` meets its contract. Assumes nothing.
use mathlib.Core.Path.{◌≡◌, sym, ◌∙◌}
use mathlib.Core.Bool.{true}
use borrow.Author.Rules.{rules}
use borrow.Author.Tests.{not-true, not-false}
use Rattle.base.specs.Form.{form_of}
use Rattle.base.specs.Components.{family_of}
use Rattle.lending.specs.Code.{holds_texts}
use Rattle.lending.proofs.Lending.{no_texts}
use Rattle.lending.proofs.joins_texts.Statement.{statement}
use Rattle.lending.proofs.joins_texts.Tie as tie

returns : tie.Need-returns-then-not-holds_texts
returns c =
    let a = c.args in
    no_texts (family_of a.c) (form_of a.f) a.left.now a.right.now (sym c.holds_texts.ensures ∙ c.if-not-holds_texts.true)

-- left holds texts
held : (c : tie.Else-not-holds_texts) → let a = c.args in holds_texts (form_of a.f) a.left.now ≡ true
held c = sym c.holds_texts.ensures ∙ c.if-not-holds_texts.false

returns-2 : tie.Need-returns-in-Unary
returns-2 c = rw (sym c.family-family.ensures ∙ c.in-Unary.is)

returns-3 : tie.Need-returns-in-Pair
returns-3 c =
    rw (sym c.family-family.ensures ∙ c.in-Pair.is, held c.before.before.before) c.holds_texts-in-Pair.ensures

returns-4 : tie.Need-returns-in-Copy
returns-4 c = rw (sym c.family-family.ensures ∙ c.in-Copy.is)

returns-5 : tie.Need-returns-in-Pool
returns-5 c =
    rw (sym c.family-family.ensures ∙ c.in-Pool.is, held c.before.before.before) c.holds_texts-in-Pool.ensures

pub joins_texts_spec : {M : Type 1} → statement M
joins_texts_spec =
    tie.close
    (tie.spec
    (λ c κs. search rules)
    returns
    (λ c κs. search rules)
    (λ c. search rules)
    (λ c. search rules)
    (λ c κs. search rules)
    (λ c. search rules)
    (λ c. search rules)
    (λ c κs. search rules)
    returns-2
    returns-3
    returns-4
    returns-5)
