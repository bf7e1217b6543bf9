-- `checks::tail_permitted` meets its contract. Assumes nothing.
use borrow.Author.Rules.{rules}
use Rattle.base.specs.Form.{form_of, place, sample_mark_at}
use Rattle.checks.proofs.Heads.{tail_is}
use Rattle.checks.proofs.tail_permitted.Statement.{statement}
use Rattle.checks.proofs.tail_permitted.Tie as tie

returns : tie.Need-returns
returns c =
    let w = c.before in
    let F = form_of c.args.f in
    rw (c.u64_in.ensures, c.nature_of.ensures)
    (tail_is F c.args.s.now (c.shared_slice_known-1.given (place F sample_mark_at)).fits)

pub tail_permitted_spec : {M : Type 1} → statement M
tail_permitted_spec = tie.close (tie.spec (λ c κs. search rules) (λ c κs. search rules) returns)
