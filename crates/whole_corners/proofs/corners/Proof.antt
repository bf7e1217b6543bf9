-- `whole_corners::corners` meets its contract. Assumes nothing.
use borrow.Author.Rules.{rules}
use Rattle.numbers.proofs.Bits.{reads}
use Rattle.ends.specs.Ends.{corners}
use Rattle.whole_corners.proofs.corners.Statement.{statement}
use Rattle.whole_corners.proofs.corners.Tie as tie

returns-5 : tie.Need-returns
unfolding corners
returns-5 c =
    let l = c.least in
    let u = c.greatest in
    rw (c.in-Some.is, c.in-Some-q.is, c.in-Some-r.is, c.in-Some-s.is, reads l.result (search rules), reads u.result (search rules), l.ensures, u.ensures)
    (rw (reads c.in-Some.a (search rules), reads c.in-Some-q.b (search rules), reads c.in-Some-r.c (search rules), reads c.in-Some-s.d (search rules)))

pub corners_spec : {M : Type 1} → statement M
unfolding corners
corners_spec =
    tie.close
    (tie.spec
    (λ c. search rules)
    (λ c. search rules)
    (λ c. rw c.in_default.is)
    (λ c. search rules)
    (λ c. search rules)
    (λ c. rw (c.in-Some.is, c.in_default-q.is))
    (λ c. search rules)
    (λ c. search rules)
    (λ c. rw (c.in-Some.is, c.in-Some-q.is, c.in_default-r.is))
    (λ c. search rules)
    (λ c. search rules)
    (λ c. rw (c.in-Some.is, c.in-Some-q.is, c.in-Some-r.is, c.in_default-s.is))
    (λ c κs. search rules)
    (λ c κs. search rules)
    returns-5)
