-- `lending::holds_texts` meets its contract: a sheet that is shorter than its fields holds none. Assumes nothing.
use native.Mathlib.Omega.{arith}
use lib.ListN.{length}
use borrow.Author.Rules.{rules}
use borrow.Author.Tests.{le-leb, lt-leb}
use Rattle.base.specs.Form.{form_of}
use Rattle.lending.proofs.holds_texts.Statement.{statement}
use Rattle.lending.proofs.holds_texts.Tie as tie

returns : tie.Need-returns-then-s-arrays_at
returns c =
    let a = c.args in
    rw (lt-leb (form_of a.f).arrays_at (length a.s.now) (omega arith))

returns-2 : tie.Need-returns
returns-2 c =
    let a = c.args in
    rw (le-leb (form_of a.f).arrays_at (length a.s.now) (omega arith), c.nature_of.ensures)

pub holds_texts_spec : {M : Type 1} → statement M
holds_texts_spec = tie.close (tie.spec (λ c κs. search rules) returns (λ c κs. search rules) returns-2)
