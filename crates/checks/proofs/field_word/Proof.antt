-- `checks::field_word` meets its contract. Assumes nothing.
use borrow.Author.Rules.{rules}
use Rattle.checks.proofs.field_word.Statement.{statement}
use Rattle.checks.proofs.field_word.Tie as tie

returns : tie.Need-returns
returns c = rw (c.end_word.ensures, c.u64_in.ensures, c.byte_in.ensures)

pub field_word_spec : {M : Type 1} → statement M
field_word_spec = tie.close (tie.spec (λ c κs. search rules) (λ c κs. search rules) (λ c κs. search rules) returns)
