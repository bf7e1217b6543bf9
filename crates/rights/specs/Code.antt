-- What the code of the call that shows a node answers before any sheet is read.
use Rattle.std.specs.Prelude.{◌≡◌, List, ℕ}
use Rattle.base.specs.Form.{narrow}
use Rattle.plan_leaves.specs.Code.{Walkable, Refusal}
use Rattle.plan_leaves.specs.declared.Walked.{Walked}
use Rattle.plan_leaves.specs.declared.Walked.TheVariants as W
use Rattle.standing.specs.Code.{NodeOf}
use Rattle.rights.specs.Reveal.{revealed, walked_to, shown_of, reveal}
use Rattle.base.specs.Refusals.{number_of}

-- the node may be walked to
pub record Permitted (p owners : List ℕ) (reader wanted : ℕ) (work : List ℕ) : Type 0 where
  pub node : NodeOf p wanted
  pub walkable : Walkable p work
  pub shows : (out : List ℕ) → shown_of narrow wanted (walked_to narrow p wanted work) out ≡ reveal narrow p owners reader wanted work out

-- the call goes on, or is refused and leaves both buffers as they were
abbrev pub Admitted : List ℕ → List ℕ → ℕ → ℕ → List ℕ → Walked → Type 0
Admitted p owners reader wanted work (W.Accepted n) = ⊥
Admitted p owners reader wanted work (W.Refused e node) = ((out : List ℕ) → revealed (number_of e) node work out ≡ reveal narrow p owners reader wanted work out) × Refusal (number_of e) node
Admitted p owners reader wanted work (W.Next k) = Permitted p owners reader wanted work
