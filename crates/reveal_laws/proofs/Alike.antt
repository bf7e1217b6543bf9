-- Two runs that agree in the sheets of the walked leaves and in the buffers' lengths.
--     leaves_ready    walked leaves that pass 3 to 5 can be operands
--     alike           the same reply, and one list of writes
-- Assumes nothing.
use mathlib.Core.Path.{◌≡◌, refl, sym, ap, subst, ◌∙◌}
use mathlib.Core.Bool.{Bool, true, false}
use mathlib.Core.List.{List, [], ◌∷◌}
use Prim.Native.Nat.{ℕ, ◌≤◌, ◌<◌}
use native.Mathlib.Omega.{arith}
use lib.Dec.{eqb, leb}
use lib.ListN.{length}
use borrow.Author.Tests.{eqb-true, eqb-false, leb-true, leb-false}
use Rattle.octets.specs.Deliver.{delivered}
use Rattle.octets.proofs.Reread.{AllBytes}
use Rattle.base.specs.Form.{narrow}
use Rattle.base.specs.declared.form.Form.TheVariants as Stored
use Rattle.base.proofs.Forms.{laid}
use Rattle.base.proofs.Passed.{Passed}
use Rattle.plan_form.specs.Form.{node_count, leaf_count, step_count, no_node}
use Rattle.plan_form.proofs.FormLaws.{planned}
use Rattle.calls.specs.Single.{Outcome, outcome}
use Rattle.calls.specs.Walk.{slot_at, sheet_in, walk, leaves_then}
use Rattle.derived.proofs.Decoded.{decoded_held}
use Rattle.containment.proofs.Accepted.{sheet_bytes_lem}
use Rattle.standing.specs.Standing.{stands, walked_leaves, walked_steps}
use Rattle.standing.proofs.Least.{stands_self}
use Rattle.rights.specs.Reveal.{Revealed, revealed, call_fails, shown_of, walked_to, reveal}
use Rattle.reveal_laws.specs.Runs.{Write, written, Each, ToStep, Agreeing, Alike}
use Rattle.reveal_laws.proofs.Two.{Same, Ready}
use Rattle.reveal_laws.proofs.Walks.{LeavesRun, passing, failing, leaves_run, Walks, walks}
use Rattle.rights.proofs.Admitting.{reveal_fails, reveal_short, reveal_unseen, reveal_seen}
use Rattle.reveal_laws.proofs.Cases.{formed, within, may_show, Case, fails, short, unseen, shows, which, shown_refused, shown_fits, shown_short}

-- walked leaves that pass 3 to 5 can be operands
pub leaves_ready : (p : List ℕ) (wanted : ℕ) (work : List ℕ) → AllBytes work
    → ((j : ℕ) → j < leaf_count p → stands p wanted j ≡ true → Passed narrow (sheet_in narrow j work)) → Ready p wanted (leaf_count p) work
leaves_ready p wanted work small passed = record {
  held = λ j h w.
      let d = passed j h w in
      decoded_held (laid Stored.Narrow) (sheet_in narrow j work) (sheet_bytes_lem j work small) (record { sizes = d.sizes; fields = d.fields });
}

module _ (p owners : List ℕ) (reader wanted : ℕ) (work out : List ℕ) where
  abbrev Agrees : List ℕ → List ℕ → Type 0
  Agrees work' out' = Agreeing narrow p wanted work out work' out'

  abbrev run : List ℕ → List ℕ → Revealed
  run work' out' = reveal narrow p owners reader wanted work' out'

  -- every run that agrees, this one too
  record Answers : Type 0 where
    code : ℕ
    value : ℕ
    in_work : List Write
    in_out : List Write
    to_steps : Each (ToStep narrow p wanted) in_work
    to_start : Each (λ w. w.place ≡ 0) in_out
    runs : (work' out' : List ℕ) → Agrees work' out' → run work' out' ≡ revealed code value (written in_work work') (written in_out out')

  agrees_itself : Agrees work out
  agrees_itself = record { works = refl; outs = refl; sheets = λ k h w room. refl }

  answered : Answers → Alike narrow p owners reader wanted work out (run work out)
  answered a =
      let e = a.runs work out agrees_itself in
      subst (Alike narrow p owners reader wanted work out) (sym e)
      (record { in_work = a.in_work; in_out = a.in_out; to_steps = a.to_steps; to_start = a.to_start; this = refl; others = a.runs })

  -- no byte is written
  untouched : (code value : ℕ) → ((work' out' : List ℕ) → Agrees work' out' → run work' out' ≡ revealed code value work' out') → Answers
  unfolding written Each
  untouched code value e = record { code = code; value = value; in_work = []; in_out = []; to_steps = tt; to_start = tt; runs = e }

  module _ (small : AllBytes work) (passed : call_fails p owners wanted ≡ false) (room : slot_at narrow (node_count p) ≤ length work) (seen : may_show p owners reader wanted ≡ true) where
    same : (work' out' : List ℕ) → Agrees work' out' → Same p wanted (leaf_count p) work work'
    same work' out' a =
        let many = (planned p (formed p owners wanted passed)).leaves in
        record { size = a.works; sheets = λ j h w. a.sheets j h w (omega arith) }

    shown : (work' out' : List ℕ) → Agrees work' out' → (o : Outcome) → walked_to narrow p wanted work' ≡ o → run work' out' ≡ shown_of narrow wanted o out'
    shown work' out' a o e =
        let size = a.works in
        reveal_seen p owners reader wanted work' out' passed (omega arith) seen ∙ ap (λ (o : Outcome). shown_of narrow wanted o out') e

    -- behind leaves that pass
    module _ (w : Walks p wanted (step_count p) (leaf_count p) work)
        (pass : (work' : List ℕ) (rest : Outcome) → Same p wanted (leaf_count p) work work' → leaves_then narrow (walked_leaves p wanted) work' rest ≡ rest) where
      abbrev after : List ℕ → Outcome
      after work' = outcome w.code w.value (written w.writes work')

      abbrev sheet_of : List ℕ → List ℕ
      sheet_of work' = sheet_in narrow wanted (written w.writes work')

      runs : (work' out' : List ℕ) → Agrees work' out' → run work' out' ≡ shown_of narrow wanted (after work') out'
      runs work' out' a =
          let s = same work' out' a in
          shown work' out' a (after work') (pass work' (walk narrow p (walked_steps p wanted) work') s ∙ w.replies work' s)

      same_sheet : w.code ≡ 0 → (work' out' : List ℕ) → Agrees work' out' → sheet_of work ≡ sheet_of work'
      same_sheet e work' out' a =
          let many = (planned p (formed p owners wanted passed)).leaves in
          let inside = within p owners wanted passed in
          (w.same e work' (same work' out' a)).sheets wanted (omega arith) (stands_self p wanted)

      step_refused : (w.code ≡ 0 → ⊥) → Answers
      unfolding written Each
      step_refused h = record {
        code = w.code;
        value = w.value;
        in_work = w.writes;
        in_out = [];
        to_steps = w.to_steps;
        to_start = tt;
        runs = λ work' out' a. runs work' out' a ∙ shown_refused wanted (after work') out' h;
      }

      fitting : w.code ≡ 0 → length (sheet_of work) ≤ length out → Answers
      unfolding written Each
      fitting e h = record {
        code = 0;
        value = length (sheet_of work);
        in_work = w.writes;
        in_out = record { place = 0; bytes = sheet_of work } ∷ [];
        to_steps = w.to_steps;
        to_start = (refl, tt);
        runs = λ work' out' a.
            let s = same_sheet e work' out' a in
            let size = a.outs in
            runs work' out' a
            ∙ shown_fits wanted (after work') out' e (subst (λ (b : List ℕ). length b ≤ length out') s (omega arith))
            ∙ ap (λ (b : List ℕ). revealed 0 (length b) (written w.writes work') (delivered out' b)) (sym s);
      }

      too_long : w.code ≡ 0 → length out < length (sheet_of work) → Answers
      unfolding written Each
      too_long e h = record {
        code = 27;
        value = no_node;
        in_work = w.writes;
        in_out = [];
        to_steps = w.to_steps;
        to_start = tt;
        runs = λ work' out' a.
            let s = same_sheet e work' out' a in
            let size = a.outs in
            runs work' out' a ∙ shown_short wanted (after work') out' e (subst (λ (b : List ℕ). length out' < length b) s (omega arith));
      }

      steps_answer : Answers
      steps_answer = go (eqb w.code 0) (leb (length (sheet_of work)) (length out)) refl refl
        where
          go : (a b : Bool) → eqb w.code 0 ≡ a → leb (length (sheet_of work)) (length out) ≡ b → Answers
          go true true e f = fitting (eqb-true w.code 0 e) (leb-true (length (sheet_of work)) (length out) f)
          go true false e f = too_long (eqb-true w.code 0 e) (leb-false (length (sheet_of work)) (length out) f)
          go false b e f = step_refused (eqb-false w.code 0 e)

    steps_walked : ((j : ℕ) → j < leaf_count p → stands p wanted j ≡ true → Passed narrow (sheet_in narrow j work)) → Walks p wanted (step_count p) (leaf_count p) work
    steps_walked pass =
        let many = (planned p (formed p owners wanted passed)).leaves in
        walks p wanted (formed p owners wanted passed) (within p owners wanted passed) (step_count p) (leaf_count p) work (omega arith) (omega arith) (omega arith)
        (leaves_ready p wanted work small pass)

    leaves_answer : LeavesRun p wanted (leaf_count p) (leaf_count p) 0 work → Answers
    leaves_answer (failing code k some q) =
        untouched code k
        (λ work' out' a.
        shown work' out' a (outcome code k work') (q work' _ (same work' out' a))
        ∙ shown_refused wanted (outcome code k work') out' (λ (e : code ≡ 0). omega arith))
    leaves_answer (passing q pass) = steps_answer (steps_walked (λ j h w. pass j (omega arith) (omega arith) w)) q

  answers : AllBytes work → Case p owners reader wanted work → Answers
  answers small (fails e) = untouched 1 no_node (λ work' out' a. reveal_fails p owners reader wanted work' out' e)
  answers small (short e h) = untouched 27 no_node (λ work' out' a. let size = a.works in reveal_short p owners reader wanted work' out' e (omega arith))
  answers small (unseen e room g) = untouched 30 wanted (λ work' out' a. let size = a.works in reveal_unseen p owners reader wanted work' out' e (omega arith) g)
  answers small (shows e room g) = leaves_answer small e room g (leaves_run p wanted (leaf_count p) (leaf_count p) 0 work (omega arith))

  pub alike : AllBytes work → Alike narrow p owners reader wanted work out (run work out)
  alike small = answered (answers small (which p owners reader wanted work))
