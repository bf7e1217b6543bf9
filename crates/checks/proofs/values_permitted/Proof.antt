-- `checks::values_permitted` meets its contract. Assumes nothing.
use borrow.Author.Rules.{rules}
use Rattle.base.specs.Checks.{values_permitted}
use Rattle.base.proofs.Flags.{last_second}
use Rattle.array_checks.proofs.Words.{or_zero}
use Rattle.checks.proofs.values_permitted.Statement.{statement}
use Rattle.checks.proofs.values_permitted.Tie as tie

returns : tie.Need-returns
unfolding values_permitted
returns c =
    rw (
      or_zero,
      or_zero,
      or_zero,
      or_zero,
      last_second c.columns_permitted.result,
      c.field_word.ensures,
      c.field_word-2.ensures,
      c.field_word-3.ensures,
      c.field_word-4.ensures,
      c.field_word-5.ensures,
      c.columns_permitted.ensures,
    )

pub values_permitted_spec : {M : Type 1} → statement M
values_permitted_spec =
    tie.close
    (tie.spec
    (λ c κs. search rules)
    (λ c κs. search rules)
    (λ c κs. search rules)
    (λ c κs. search rules)
    (λ c κs. search rules)
    (λ c κs. search rules)
    returns)
