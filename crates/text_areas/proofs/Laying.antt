-- Texts that are laid behind their values: the values are written over the joins, one by one, and the bytes behind all of them.
--     codes_read               a list of codes, as they are read of its bytes
--     Laying, laying-..        i texts are laid, and those that are left
-- Assumes nothing.
use mathlib.Core.Path.{◌≡◌, refl, sym, ap, ap₂, subst, ◌∙◌}
use mathlib.Core.List.{List, [], ◌∷◌, ◌++◌, map, append_assoc, append-nil}
use Prim.Native.Nat.{ℕ, suc, ◌+◌, ◌-◌, ◌*◌, ◌^◌, ◌≤◌, ◌<◌}
use native.Mathlib.Omega.{arith}
use lib.IntN.{ℤ, pos}
use lib.ListN.{length, take, drop, get_or, length-append, take-append-drop}
use lib.Seq.{take-take, take-append-le, drop_at, drop-drop, take-add, get_or-take, get_or-drop, length-take-le}
use Rattle.octets.specs.Le.{le_at, le_bytes}
use Rattle.octets.specs.Wrote.{Wrote, Pending}
use Rattle.octets.proofs.Widths.{length_le_bytes}
use Rattle.octets.proofs.Round.{le_at_cong, number_back}
use Rattle.octets.proofs.Appends.{pending_more, pending_end}
use Rattle.utilities.specs.Lists.{list_from}
use Rattle.base.specs.Form.{Form}
use Rattle.base.specs.Decode.{as_bits}
use Rattle.base.specs.Encode.{joined, whole_bits, list_bytes, text_of, spot, spots_of}
use Rattle.std.specs.declared.result.Result.TheVariants as D
use Rattle.base.specs.declared.refusals.Refusal.TheVariants.{TooMuchText}
use Rattle.texts.specs.Joins.{part_length, left_part, right_part, join_in, JoinLies}
use Rattle.texts.proofs.Bytes.{join_size}
use Rattle.text_areas.specs.Areas.{laid_parts, AreaLaid}

-- ---- codes and their bytes

list_length : (cs : List ℤ) → length (list_bytes whole_bits cs) ≡ 8 * length cs
unfolding joined
list_length [] = refl
list_length (z ∷ cs) =
    omega (arith, length-append (le_bytes 8 (whole_bits z)) (list_bytes whole_bits cs), length_le_bytes 8 (whole_bits z), list_length cs)

module _ {X : Type 0} (f : ℕ → X) (s : List ℕ) where
  -- what stands in s, behind i codes, are the codes cs
  codes_from :
      (cs : List ℤ) (p q : List ℕ) (i : ℕ) → length p ≡ 8 * i → s ≡ p ++ (list_bytes whole_bits cs ++ q)
      → ((k : ℕ) → k < length cs → whole_bits (get_or cs k (pos 0)) < 2 ^ 64) → list_from (length cs) i (λ k. f (le_at 8 (8 * k) s)) ≡ map (λ z. f (whole_bits z)) cs
  unfolding joined list_from
  codes_from [] p q i e h fits = refl
  codes_from (z ∷ cs) p q i e h fits =
      let b = le_bytes 8 (whole_bits z) in
      let rest = list_bytes whole_bits cs in
      let here : s ≡ p ++ (b ++ (rest ++ q)) = h ∙ ap (λ (l : List ℕ). p ++ l) (append_assoc b rest q) in
      let size : length (p ++ b) ≡ 8 * (i + 1) = omega (arith, length-append p b, length_le_bytes 8 (whole_bits z), e) in
      let read : le_at 8 (8 * i) s ≡ whole_bits z = rw (here, ← e) (number_back p (rest ++ q) 8 (whole_bits z) (fits 0 (omega arith))) in
      ap₂ (λ (x : X) (xs : List X). x ∷ xs) (ap f read)
      (codes_from cs (p ++ b) q (i + 1) size (here ∙ sym (append_assoc p b (rest ++ q))) (λ k l. fits (suc k) (omega arith)))

  -- the codes at the start of s, as they are read
  pub codes_read :
      (t : ℕ) (cs : List ℤ) → 8 * t ≤ length s → take (8 * t) s ≡ list_bytes whole_bits cs → ((i : ℕ) → i < t → whole_bits (get_or cs i (pos 0)) < 2 ^ 64)
      → list_from t 0 (λ i. f (le_at 8 (8 * i) s)) ≡ map (λ z. f (whole_bits z)) cs
  codes_read t cs h e fits =
      let size : length cs ≡ t = omega (arith, ap length e, length-take-le (8 * t) s h, list_length cs) in
      let split : s ≡ [] ++ (list_bytes whole_bits cs ++ drop (8 * t) s) = rw (← e) (sym (take-append-drop (8 * t) s)) in
      subst (λ (n : ℕ). list_from n 0 (λ i. f (le_at 8 (8 * i) s)) ≡ map (λ z. f (whole_bits z)) cs) size
      (codes_from cs [] (drop (8 * t) s) 0 refl split (λ k l. fits k (omega arith)))

-- ---- what a write leaves

module _ (d d' : List ℕ) where
  front_same : (m p : ℕ) → take m d' ≡ take m d → p < m → get_or d' p 0 ≡ get_or d p 0
  front_same m p e h = sym (get_or-take m d' p 0 h) ∙ ap (λ (l : List ℕ). get_or l p 0) e ∙ get_or-take m d p 0 h

  behind_same : (m p : ℕ) → drop m d' ≡ drop m d → m ≤ p → get_or d' p 0 ≡ get_or d p 0
  behind_same m p e h =
      let place : m + (p - m) ≡ p = omega arith in
      ap (λ (k : ℕ). get_or d' k 0) (sym place) ∙ sym (get_or-drop m d' (p - m) 0)
      ∙ ap (λ (l : List ℕ). get_or l (p - m) 0) e
      ∙ get_or-drop m d (p - m) 0 ∙ ap (λ (k : ℕ). get_or d k 0) place

  further_behind : (m p : ℕ) → drop m d' ≡ drop m d → m ≤ p → drop p d' ≡ drop p d
  further_behind m p e h =
      let place : m + (p - m) ≡ p = omega arith in
      ap (λ (k : ℕ). drop k d') (sym place) ∙ sym (drop-drop (p - m) m d')
      ∙ ap (drop (p - m)) e
      ∙ drop-drop (p - m) m d ∙ ap (λ (k : ℕ). drop k d) place

-- an append at b + at
module _ {d d' vs : List ℕ} {n r : ℕ} (b at : ℕ) (w : Wrote d (b + at) n vs d' r) (room : b + at ≤ length d) where
  append_front : (m : ℕ) → m ≤ b + at → take m d' ≡ take m d
  append_front m h =
      sym (take-take m r d' (omega (arith, w.next)))
      ∙ ap (take m) w.front
      ∙ take-append-le m (take (b + at) d) vs (omega (arith, length-take-le (b + at) d room))
      ∙ take-take m (b + at) d h

  append_behind : take (at + n) (drop b d') ≡ take at (drop b d) ++ vs
  append_behind =
      let place : b + (at + n) ≡ r = omega (arith, w.next) in
      let size : length (take b d) ≡ b = length-take-le b d (omega arith) in
      let now' : take r d' ≡ take b d ++ take (at + n) (drop b d') =
      ap (λ (k : ℕ). take k d') (sym place) ∙ take-add b (at + n) d' ∙ ap (λ (l : List ℕ). l ++ take (at + n) (drop b d')) (append_front b (omega arith)) in
      let was : take r d' ≡ take b d ++ (take at (drop b d) ++ vs) =
      w.front ∙ ap (λ (l : List ℕ). l ++ vs) (take-add b at d) ∙ append_assoc (take b d) (take at (drop b d)) vs in
      sym (drop_at (take b d) (take (at + n) (drop b d')) b size)
      ∙ ap (drop b) (sym now' ∙ was)
      ∙ drop_at (take b d) (take at (drop b d) ++ vs) b size

-- ---- the loop

-- the text whose join is number i of those in s
abbrev pub text_at : Form → List ℕ → List ℕ → List ℕ → ℕ → List ℕ
text_at F left right s i = join_in F left right (le_at 8 (8 * i) s)

-- s holds the joins of t texts
module _ (F : Form) (left right s : List ℕ) (t : ℕ) where
  abbrev pub all_texts : List (List ℕ)
  all_texts = list_from t 0 (text_at F left right s)

  -- those from number i on
  abbrev pub texts_from : ℕ → List (List ℕ)
  texts_from i = list_from (t - i) i (text_at F left right s)

  texts_more : (i : ℕ) → i < t → texts_from i ≡ text_at F left right s i ∷ texts_from (i + 1)
  unfolding list_from
  texts_more i h = let one : t - i ≡ suc (t - (i + 1)) = omega arith in ap (λ (n : ℕ). list_from n i (text_at F left right s)) one

  texts_none : (i : ℕ) → t ≤ i → texts_from i ≡ []
  unfolding list_from
  texts_none i h = let one : t - i ≡ 0 = omega arith in ap (λ (n : ℕ). list_from n i (text_at F left right s)) one

  -- i texts are laid, whose bytes end at `at`; the joins of the others stand where they stood
  pub record Laying (i at : ℕ) (values : List ℕ) : Type 0 where
    pub size : at + length (text_of (texts_from i)) ≡ length (text_of all_texts)
    pub spots : Pending values (8 * i) (list_bytes as_bits (spots_of at (texts_from i))) (list_bytes as_bits (spots_of 0 all_texts))
    pub text : take at (drop (8 * t) values) ++ text_of (texts_from i) ≡ text_of all_texts
    pub joins : (k : ℕ) → i ≤ k → k < t → le_at 8 (8 * k) values ≡ le_at 8 (8 * k) s

  module _ {i at : ℕ} {v : List ℕ} (l : Laying i at v) where
    -- the next join, c as the code reads it, and how long its text is
    pub laying_read : {c : ℕ} → i < t → c ≡ le_at 8 (8 * i) v → c ≡ le_at 8 (8 * i) s
    laying_read h e = e ∙ l.joins i (omega arith) h

    pub laying_size : {c n : ℕ} → i < t → c ≡ le_at 8 (8 * i) v → JoinLies F left right (le_at 8 (8 * i) s) → n ≡ part_length (left_part c) + part_length (right_part c) → n ≡ length (text_at F left right s i)
    laying_size h e lies size = size ∙ ap (λ (c : ℕ). part_length (left_part c) + part_length (right_part c)) (laying_read h e) ∙ sym (join_size F lies)

    text_size_lem : i < t → length (text_of (texts_from i)) ≡ length (text_at F left right s i) + length (text_of (texts_from (i + 1)))
    unfolding text_of joined
    text_size_lem h = rw (texts_more i h) (length-append (text_at F left right s i) (text_of (texts_from (i + 1))))

    -- 28 of what is laid with one text more
    pub laying_over : i < t → (limit : ℕ) → limit < at + length (text_at F left right s i) → limit < length (text_of all_texts)
    laying_over h limit o = omega (arith, l.size, text_size_lem h)

    -- the next text's value and bytes
    pub laying_more : {v₁ v₂ : List ℕ} {n r₁ r₂ : ℕ} → i < t → n ≡ length (text_at F left right s i) → 8 * t + at ≤ length v → length v₁ ≡ length v
        → Wrote v (8 * i) 8 (le_bytes 8 (spot at n)) v₁ r₁ → drop r₁ v₁ ≡ drop r₁ v → Wrote v₁ (8 * t + at) n (text_at F left right s i) v₂ r₂
        → Laying (i + 1) (at + n) v₂
    unfolding text_of joined spots_of
    laying_more {v₁} {v₂} {n} {r₁} h e room kept w b w₂ =
        let place : 8 * (i + 1) ≡ r₁ = omega (arith, w.next) in
        let within : 8 * t + at ≤ length v₁ = omega arith in
        let rest : list_bytes as_bits (spots_of at (texts_from i)) ≡ le_bytes 8 (spot at n) ++ list_bytes as_bits (spots_of (at + n) (texts_from (i + 1))) =
        rw (texts_more i h, ← e) in
        record {
          size = omega (arith, l.size, text_size_lem h, e);
          spots = record { so_far = rw (append_front (8 * t) at w₂ within (8 * (i + 1)) (omega arith), place) (pending_more l.spots w rest).so_far };
          text =
              rw (append_behind (8 * t) at w₂ within, further_behind v v₁ r₁ (8 * t) b (omega (arith, place)), append_assoc, ← l.text, texts_more i h);
          joins =
              λ k o f.
              le_at_cong 8 (8 * k) (8 * k) v₂ v
              (λ j g. front_same v₁ v₂ (8 * t) (8 * k + j) (append_front (8 * t) at w₂ within (8 * t) (omega arith)) (omega arith) ∙ behind_same v v₁ r₁ (8 * k + j) b (omega (arith, place)))
              ∙ l.joins k (omega arith) f;
        }

    pub laying_end : i ≡ t → (at ≡ length (text_of all_texts)) × (take (8 * t + at) v ≡ list_bytes as_bits (spots_of 0 all_texts) ++ text_of all_texts)
    unfolding text_of joined spots_of
    laying_end e =
        let none = texts_none i (omega arith) in
        let spots : take (8 * t) v ≡ list_bytes as_bits (spots_of 0 all_texts) = ap (λ (k : ℕ). take (8 * k) v) (sym e) ∙ pending_end l.spots (rw none) in
        let text : take at (drop (8 * t) v) ≡ text_of all_texts = sym (append-nil (take at (drop (8 * t) v))) ∙ (rw none at l.text) in (
          omega (arith, l.size, ap (λ (xs : List (List ℕ)). length (text_of xs)) none),
          take-add (8 * t) at v ∙ ap₂ ◌++◌ spots text,
        )

-- ---- what is answered

module _ (F : Form) (n t : ℕ) (xs : List (List ℕ)) (values : List ℕ) where
  pub area_over : F.text_limit < length (text_of xs) → AreaLaid F n t xs values (D.Err TooMuchText)
  area_over h = record { over = λ o. refl; given = λ o. absurd (omega arith); bytes = λ o. absurd (omega arith) }

  pub area_given : (at : ℕ) → at ≤ F.text_limit → at ≡ length (text_of xs) → take (8 * t + at) values ≡ list_bytes as_bits (spots_of 0 xs) ++ text_of xs
      → AreaLaid F n t xs values (D.Ok (laid_parts F n t at))
  area_given at h e b =
      record {
        over = λ o. absurd (omega arith);
        given = λ o. ap (λ (k : ℕ). D.Ok (laid_parts F n t k)) e;
        bytes = λ o. ap (λ (k : ℕ). take (8 * t + k) values) (sym e) ∙ b;
      }
