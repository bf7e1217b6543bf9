-- Laws of sheets that are laid into slots.
-- Assumes nothing.
use Prim.Native.Nat.{ℕ, suc, ◌+◌, ◌-◌, ◌≤◌, ◌<◌}
use native.Mathlib.Numerals.{add-one}
use native.Mathlib.Omega.{arith}
use mathlib.Core.Path.{◌≡◌, refl, sym, ap, ◌∙◌}
use mathlib.Core.Bool.{true}
use mathlib.Core.Option.{Option, some, bind}
use mathlib.Core.List.{List, [], ◌∷◌, ◌++◌}
use lib.Dec.{leb}
use lib.ListN.{length, take, drop, get_or, drop_of_length-le}
use lib.Seq.{drop-cons, drop-drop}
use borrow.Rule.Slice.PartMut.{put_mid}
use Rattle.base.specs.Form.{narrow, longest}
use Rattle.calls.specs.Walk.{slot_at}
use Rattle.plan_leaves.proofs.Parts.{part_lent, part_back}
use Rattle.lines.specs.Fields.{field_of}
use Rattle.lines.specs.Bytes.{field_bytes}
use Rattle.slots.specs.Sheets.{texts, placed, laid, laid_out}

-- a sheet that was put into the rest of a buffer, once that is back
pub slot_told : (s : List ℕ) (k : ℕ) (d vs : List ℕ) {n : ℕ} {d' : List ℕ} → field_bytes s ≡ some vs → length vs ≡ n → leb n (longest narrow) ≡ true
    → d' ≡ vs ++ drop n (take (length d - slot_at narrow k) (drop (slot_at narrow k) d))
    → placed s k d ≡ some (put_mid (slot_at narrow k) (length d - slot_at narrow k) d d')
unfolding placed bind
slot_told s k d vs {n} {d'} told e t f =
    let at = slot_at narrow k in
    let fits : leb (length vs) (longest narrow) ≡ true = rw e t in
    let back =
    part_back at d d'
    ∙ ap (λ (l : List ℕ). take at d ++ l) (f ∙ ap (λ (l : List ℕ). vs ++ drop n l) (part_lent at d) ∙ ap (λ (j : ℕ). vs ++ drop j (drop at d)) (sym e) ∙ ap (λ (l : List ℕ). vs ++ l) (drop-drop (length vs) at d))
    in
    rw (told, fits) (ap {B = Option (List ℕ)} some (sym back))

-- the sheet of the first text, and then the others
pub laid_more : (s : List ℕ) (ss : List (List ℕ)) (k : ℕ) (d : List ℕ) {d' : List ℕ} → placed s k d ≡ some d' → laid (s ∷ ss) k d ≡ laid ss (k + 1) d'
unfolding laid bind
laid_more s ss k d e = rw e

pub laid_none : (k : ℕ) (d : List ℕ) → laid [] k d ≡ some d
unfolding laid
laid_none k d = refl

module _ (ss : List (List ℕ)) (n k : ℕ) (d : List ℕ) where
  -- the text at a place, put into the next slot
  pub laid_at : {s d' : List ℕ} → n < length ss → s ≡ get_or ss n s → placed s k d ≡ some d' → laid (drop (n + 1) ss) (k + 1) d' ≡ laid (drop n ss) k d
  laid_at {s} h e p = rw (add-one n, drop-cons ss n s h, sym e) (sym (laid_more s (drop (suc n) ss) k d p))

  pub laid_all : n ≡ length ss → laid (drop n ss) k d ≡ some d
  laid_all e = let past : length ss ≤ n = omega arith in rw (drop_of_length-le ss past) (laid_none k d)

-- the leaves, and the derived sheets behind them
pub laid_out_lem : (line e : List ℕ) {l r m e' : List ℕ} {n : ℕ} → l ≡ field_of 2 line → r ≡ field_of 5 line → n ≡ length (texts l) → laid (texts l) 0 e ≡ some m → laid (texts r) n m ≡ some e' → laid_out line e ≡ some e'
unfolding laid_out bind
laid_out_lem line e p q k a b = rw (sym p, sym q, a, sym k) b
