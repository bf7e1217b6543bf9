-- `category_lists::category` meets its contract. Assumes nothing.
use mathlib.Core.Path.{◌≡◌, refl, ap, ◌∙◌}
use borrow.Author.Rules.{rules}
use Rattle.numbers.specs.Kind.{fitting}
use Rattle.base.specs.declared.Component.TheVariants as C
use Rattle.category_lists.specs.Categories.{category_rule, rule_of}
use Rattle.category_lists.proofs.Ruled.{arm, not_pair}
use Rattle.category_lists.proofs.category.Statement.{statement}
use Rattle.category_lists.proofs.category.Tie as tie

pub category_spec : {M : Type 1} → statement M
unfolding category_rule
category_spec =
    tie.close
    (tie.spec
    (λ c. search rules)
    (λ c κs. search rules)
    (λ c. search rules)
    (λ c κs. search rules)
    (λ c. search rules)
    (λ c κs. search rules)
    (λ c. search rules)
    (λ c κs. search rules)
    (λ c.
    let made : fitting c.checked_add.result ≡ rule_of C.Add c.args.a c.args.b =
    ap fitting c.checked_add.ensures ∙ arm C.Add c.ranges.a c.ranges.b refl
    in
    search rules)
    (λ c.
    let made : fitting c.checked_sub.result ≡ rule_of C.Subtract c.args.a c.args.b =
    ap fitting c.checked_sub.ensures ∙ arm C.Subtract c.ranges.a c.ranges.b refl
    in
    search rules)
    (λ c.
    let made : fitting c.checked_mul.result ≡ rule_of C.Multiply c.args.a c.args.b =
    ap fitting c.checked_mul.ensures ∙ arm C.Multiply c.ranges.a c.ranges.b refl
    in
    search rules)
    (λ c.
    let made : fitting c.checked_div.result ≡ rule_of C.Divide c.args.a c.args.b =
    ap fitting c.checked_div.ensures ∙ arm C.Divide c.ranges.a c.ranges.b refl
    in
    search rules)
    (λ c. absurd (not_pair c.args.c c.in_default.in_default-own.keys5 c.requires)))
