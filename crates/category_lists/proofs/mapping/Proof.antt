-- `category_lists::mapping` meets its contract. Assumes nothing.
use mathlib.Core.Path.{◌≡◌, refl, ap, ◌∙◌}
use borrow.Author.Rules.{rules}
use Rattle.numbers.specs.Kind.{fitting}
use Rattle.base.specs.declared.Component.TheVariants as C
use Rattle.category_lists.specs.Categories.{category_rule, rule_of}
use Rattle.category_lists.proofs.Ruled.{arm, not_unary}
use Rattle.category_lists.proofs.mapping.Statement.{statement}
use Rattle.category_lists.proofs.mapping.Tie as tie

pub mapping_spec : {M : Type 1} → statement M
unfolding category_rule
mapping_spec =
    tie.close
    (tie.spec
    (λ c. search rules)
    (λ c κs. search rules)
    (λ c. search rules)
    (λ c κs. search rules)
    (λ c.
    let made : fitting c.magnitude.result ≡ rule_of C.Abs c.args.a c.args.a = c.magnitude.ensures ∙ arm C.Abs c.ranges.a c.ranges.a refl in
    search rules)
    (λ c.
    let made : fitting c.checked_neg.result ≡ rule_of C.Negative c.args.a c.args.a =
    ap fitting c.checked_neg.ensures ∙ arm C.Negative c.ranges.a c.ranges.a refl
    in
    search rules)
    (λ c. absurd (not_unary c.args.c c.in_default.in_default-own.keys3 c.requires)))
