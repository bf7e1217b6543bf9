-- Laws of `number_of` and `bytes_in`: one digit, or one byte, more.
-- Assumes nothing.
use mathlib.Core.Path.{◌≡◌, refl, sym, ap, ◌∙◌}
use mathlib.Core.List.{List, [], ◌∷◌, ◌++◌, append-nil}
use mathlib.Core.Option.{Option, none, some}
use Prim.Native.Nat.{ℕ, suc, ◌+◌, ◌*◌, ◌≤◌, ◌<◌}
use native.Mathlib.Numerals.{add-one}
use native.Mathlib.Omega.{arith}
use lib.ListN.{length, drop, get_or, set, length-append, drop_of_length-le}
use lib.Seq.{drop-cons, append_snoc, set_at}
use borrow.Author.Tests.{ne_eqb}
use Rattle.std.specs.Prelude as Std
use Rattle.lines.specs.Digits.{hex_digit, joined, number_more, and_digit, then_more, number_of}
use Rattle.lines.specs.Bytes.{with_byte, bytes_in, field_bytes}

-- ---- decimal numbers

pub number_start : (s : List ℕ) → (length s ≡ 0 → ⊥) → then_more s (Std.Some 0) ≡ number_of s
unfolding number_of
number_start [] h = absurd (h refl)
number_start (b ∷ s) h = refl

pub number_none : (s : List ℕ) → length s ≡ 0 → Std.None ≡ number_of s
unfolding number_of
number_none [] h = refl
number_none (b ∷ s) h = absurd (omega arith)

module _ (s : List ℕ) (i v : ℕ) where
  pub number_more_lem : i < length s → then_more (drop i s) (Std.Some v) ≡ then_more (drop (i + 1) s) (number_more v (get_or s i 0))
  unfolding then_more and_digit
  number_more_lem h = rw (add-one i, drop-cons s i 0 h)

  pub number_end : length s ≤ i → then_more (drop i s) (Std.Some v) ≡ Std.Some v
  unfolding then_more
  number_end h = rw (drop_of_length-le s h)

-- one digit more of a number that is read
pub number_step : (s : List ℕ) (i v : ℕ) (r : Std.Option ℕ) → i < length s → r ≡ number_more v (get_or s i 0) → then_more (drop i s) (Std.Some v) ≡ number_of s → then_more (drop (i + 1) s) r ≡ number_of s
number_step s i v r h e f = ap (then_more (drop (i + 1) s)) e ∙ sym (number_more_lem s i v h) ∙ f

pub never : (s : List ℕ) → then_more s Std.None ≡ Std.None
unfolding then_more and_digit
never [] = refl
never (b ∷ s) = never s

-- ---- bytes

length_with : (d : Std.Option ℕ) (o : Option (List ℕ)) (vs : List ℕ) → with_byte d o ≡ some vs → (ws : List ℕ) × (o ≡ some ws) × (length vs ≡ suc (length ws))
unfolding with_byte
length_with (Std.Some v) (some ws) vs e = (ws, refl, ap length (sym (the e)))
  where
    the : {a b : List ℕ} → some a ≡ some b → a ≡ b
    the p = cc
length_with (Std.Some v) none vs e = let z : ◌≡◌ {A = ℕ} 0 1 = cc in absurd (omega arith)
length_with Std.None o vs e = let z : ◌≡◌ {A = ℕ} 0 1 = cc in absurd (omega arith)

-- a byte is two digits
pub bytes_length : (s vs : List ℕ) → bytes_in s ≡ some vs → length s ≡ 2 * length vs
unfolding bytes_in
bytes_length [] vs e = let z : [] ≡ vs = cc in omega (arith, ap length z)
bytes_length (a ∷ []) vs e = let z : ◌≡◌ {A = ℕ} 0 1 = cc in absurd (omega arith)
bytes_length (a ∷ b ∷ s) vs e =
    let w = length_with (joined (hex_digit a) (hex_digit b)) (bytes_in s) vs e in
    omega (arith, bytes_length s w.0 w.1, w.2)

-- the two digits at 2i, and then the rest
pub pair_at : (s : List ℕ) (i : ℕ) → 2 * i + 1 < length s
    → bytes_in (drop (2 * i) s) ≡ with_byte (joined (hex_digit (get_or s (2 * i) 0)) (hex_digit (get_or s (2 * i + 1) 0))) (bytes_in (drop (2 * (i + 1)) s))
unfolding bytes_in
pair_at s i h =
    let next : 2 * (i + 1) ≡ suc (suc (2 * i)) = omega arith in
    rw (next, add-one (2 * i), drop-cons s (2 * i) 0 (omega arith), drop-cons s (suc (2 * i)) 0 (omega arith))

pub front : List ℕ → Option (List ℕ) → Option (List ℕ)
front vs (some ws) = some (vs ++ ws)
front vs none = none

front_byte : (vs : List ℕ) (v : ℕ) (o : Option (List ℕ)) → front vs (with_byte (Std.Some v) o) ≡ front (vs ++ (v ∷ [])) o
unfolding front with_byte
front_byte vs v (some ws) = ap some (sym (append_snoc vs v ws))
front_byte vs v none = refl

-- the bytes of the first i pairs of digits of s stand at the start of d', and the others are those of d
pub record Half (s d d' : List ℕ) (i : ℕ) : Type 0 where
  pub done : List ℕ
  pub count : length done ≡ i
  pub held : d' ≡ done ++ drop i d
  pub whole : bytes_in s ≡ front done (bytes_in (drop (2 * i) s))

front_none : (o : Option (List ℕ)) → o ≡ front [] o
unfolding front
front_none (some ws) = refl
front_none none = refl

pub half_none : (s d : List ℕ) → Half s d d 0
half_none s d = record { done = []; count = refl; held = refl; whole = front_none (bytes_in s) }

module _ {s d d' : List ℕ} {i : ℕ} (h : Half s d d' i) where
  module _ {r : Std.Option ℕ} (within : 2 * i + 1 < length s) (said : r ≡ joined (hex_digit (get_or s (2 * i) 0)) (hex_digit (get_or s (2 * i + 1) 0))) where
    pub half_more : (v : ℕ) → r ≡ Std.Some v → i < length d → Half s d (set d' i v) (i + 1)
    half_more v e room = record {
      done = h.done ++ (v ∷ []);
      count = length-append h.done (v ∷ []) ∙ ap (λ (k : ℕ). k + 1) h.count;
      held =
          ap (λ (l : List ℕ). set l i v) (h.held ∙ ap (λ (l : List ℕ). h.done ++ l) (drop-cons d i 0 room))
          ∙ set_at h.done (get_or d i 0) (drop (suc i) d) v i h.count
          ∙ sym (append_snoc h.done v (drop (suc i) d))
          ∙ ap (λ (k : ℕ). h.done ++ (v ∷ []) ++ drop k d) (sym (add-one i));
      whole =
          h.whole ∙ ap (front h.done) (pair_at s i within)
          ∙ ap (λ (x : Std.Option ℕ). front h.done (with_byte x (bytes_in (drop (2 * (i + 1)) s)))) (sym said ∙ e)
          ∙ front_byte h.done v (bytes_in (drop (2 * (i + 1)) s));
    }

    pub half_not : r ≡ Std.None → bytes_in s ≡ none
    unfolding front with_byte
    half_not e =
        h.whole ∙ ap (front h.done) (pair_at s i within)
        ∙ ap (λ (x : Std.Option ℕ). front h.done (with_byte x (bytes_in (drop (2 * (i + 1)) s)))) (sym said ∙ e)

  pub half_done : length s ≡ 2 * i → bytes_in s ≡ some h.done
  unfolding front bytes_in
  half_done e =
      let past : length s ≤ 2 * i = omega arith in
      h.whole ∙ rw (drop_of_length-le s past) (ap some (append-nil h.done))

-- what is none is no list, so anything holds of it
pub none_of : {o : Option (List ℕ)} {n : ℕ} → o ≡ none → (vs : List ℕ) → o ≡ some vs → n < length vs
none_of e vs f = let z : ◌≡◌ {A = ℕ} 0 1 = cc in absurd (omega arith)

-- ---- a field

pub field_none : (s : List ℕ) → length s ≡ 0 → field_bytes s ≡ none
unfolding field_bytes
field_none [] h = refl
field_none (a ∷ s) h = absurd (omega arith)

pub field_dash : (s : List ℕ) → s ≡ 45 ∷ [] → field_bytes s ≡ some []
unfolding field_bytes
field_dash s e = rw e

-- any other field is pairs of digits, or none of a list's
pub field_pairs : (s : List ℕ) → (length s ≡ 0 → ⊥) → (s ≡ 45 ∷ [] → ⊥) → bytes_in s ≡ field_bytes s
unfolding field_bytes bytes_in
field_pairs [] h k = absurd (h refl)
field_pairs (a ∷ []) h k = rw (ne_eqb a 45 (λ e. k (ap (λ (n : ℕ). n ∷ []) e)))
field_pairs (a ∷ b ∷ s) h k = refl
