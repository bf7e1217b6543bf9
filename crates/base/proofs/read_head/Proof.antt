-- `base::read_head` meets its contract: a field at a time. Assumes nothing.
use borrow.Author.Rules.{rules}
use Rattle.base.specs.Decode.{fields_in}
use Rattle.base.proofs.read_head.Statement.{statement}
use Rattle.base.proofs.read_head.Tie as tie

returns : tie.Need-returns
unfolding fields_in
returns c =
    rw (
      c.byte_in.ensures,
      c.flag_in.ensures,
      c.flag_in-2.ensures,
      c.flag_in-3.ensures,
      c.flag_in-4.ensures,
      c.u32_in.ensures,
      c.u32_in-2.ensures,
      c.option_i64_in.ensures,
      c.option_u64_in.ensures,
      c.option_i64_in-2.ensures,
      c.option_i64_in-3.ensures,
      c.option_u64_in-2.ensures,
    )

pub read_head_spec : {M : Type 1} → statement M
read_head_spec =
    tie.close
    (tie.spec
    (λ c κs. search rules)
    (λ c κs. search rules)
    (λ c κs. search rules)
    (λ c κs. search rules)
    (λ c κs. search rules)
    (λ c κs. search rules)
    (λ c κs. search rules)
    (λ c κs. search rules)
    (λ c κs. search rules)
    (λ c κs. search rules)
    (λ c κs. search rules)
    (λ c κs. search rules)
    returns)
