-- Demand 3 of the plan call, whose reply is 0.
--     contained_reply
-- Assumes nothing.
use mathlib.Core.Path.{◌≡◌, sym, ap, subst, ◌∙◌}
use mathlib.Core.List.{List}
use Prim.Native.Nat.{ℕ, ◌%◌, ◌^◌}
use Rattle.octets.proofs.Reread.{AllBytes}
use Rattle.base.specs.Form.{narrow}
use Rattle.calls.specs.Single.{Outcome}
use Rattle.calls.specs.Walk.{plan}
use Rattle.containment.specs.Demand.{Contained}
use Rattle.containment.proofs.Contained.{contained}
use Rattle.replies.specs.Reply.{replied}

pub contained_reply : (p work after : List ℕ) (r : ℕ) → AllBytes work → replied r after ≡ plan narrow p work → r % 2 ^ 32 ≡ 0 → Contained narrow p work after
contained_reply p work after r small e zero-code =
    subst (Contained narrow p work) (sym (ap (λ (o : Outcome). o.bytes) e)) (contained p work small (sym (ap (λ (o : Outcome). o.code) e) ∙ zero-code))
