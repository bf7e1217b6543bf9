-- `shape::groups::same_group` meets its contract. Assumes nothing.
use borrow.Author.Rules.{rules}
use Rattle.shape.proofs.Values.{same_bits}
use Rattle.shape.proofs.groups.same_group.Statement.{statement}
use Rattle.shape.proofs.groups.same_group.Tie as tie

returns : tie.Need-returns
returns c =
    rw (
      same_bits c.i64_at-x.result c.i64_at-y.result (search rules) (search rules),
      c.i64_at-x.ensures,
      c.i64_at-y.ensures,
      c.u32_at.ensures,
      c.u32_at-2.ensures,
      c.byte_at.ensures,
      c.byte_at-2.ensures,
    )
    (rw (c.partition_at-partition.ensures, c.key_at-key.ensures))

pub same_group_spec : {M : Type 1} → statement M
same_group_spec =
    tie.close
    (tie.spec
    (λ c κs. search rules)
    (λ c κs. search rules)
    (λ c. search rules)
    (λ c κs. search rules)
    (λ c. search rules)
    (λ c κs. search rules)
    (λ c κs. search rules)
    (λ c κs. search rules)
    (λ c κs. search rules)
    (λ c κs. search rules)
    returns)
