-- The codes of a column, noted one by one: pair by pair, or left's before right's.
--     row_more, pairs_more        one code more of a row, and one row more
--     join_read                   the code of a join, as the code of the two parts
--     stored_none, stored_more    what the store keeps of them
--     part_lies, pair_lies        a part that was taken lies in its sheet, and a join where its parts do, as the store holds it
-- Assumes nothing.
use Rattle.std.proofs.Common.{◌≡◌, List, [], ◌∷◌, ◌++◌, map, Bool, ℕ, ◌+◌, ◌<◌, ℤ, pos, length, take, get_or, refl, sym, ap, ap₂, subst, ◌∙◌, append_assoc, append-nil, arith}
use Rattle.std.proofs.lemmas.List.{length-take, get_or-take, take_more, map_more}
use Rattle.utilities.specs.Lists.{noted, firsts_from, firsts}
use Rattle.utilities.proofs.Firsts.{firsts_from_append}
use Rattle.base.specs.Form.{Form}
use Rattle.base.specs.Decode.{as_whole}
use Rattle.base.specs.Encode.{whole_bits}
use Rattle.category_lists.specs.Answers.{Stored}
use Rattle.texts.specs.Joins.{join_of, join_code, PartLies, JoinLies}
use Rattle.texts.proofs.Codes.{join_fits, bits_back}
use Rattle.texts.proofs.Lying.{lies_join}
use Rattle.text_columns.specs.Codes.{pair_codes}

-- ---- codes

pairs_append : (us vs bs : List ℤ) → pair_codes (us ++ vs) bs ≡ pair_codes us bs ++ pair_codes vs bs
unfolding pair_codes
pairs_append [] vs bs = refl
pairs_append (a ∷ us) vs bs =
    ap (λ (zs : List ℤ). map (join_code a) bs ++ zs) (pairs_append us vs bs) ∙ sym (append_assoc (map (join_code a) bs) (pair_codes us bs) (pair_codes vs bs))

pub row_more : (cs : List ℤ) (f : ℤ → ℤ) (bs : List ℤ) (m : ℕ) → m < length bs
    → cs ++ map f (take (m + 1) bs) ≡ (cs ++ map f (take m bs)) ++ (f (get_or bs m (pos 0)) ∷ [])
row_more cs f bs m h = rw (map_more f bs m (pos 0) h) (sym (append_assoc cs (map f (take m bs)) (f (get_or bs m (pos 0)) ∷ [])))

pub pairs_more : (us bs : List ℤ) (i : ℕ) → i < length us → pair_codes (take (i + 1) us) bs ≡ pair_codes (take i us) bs ++ map (join_code (get_or us i (pos 0))) bs
unfolding pair_codes
pairs_more us bs i h =
    let a = get_or us i (pos 0) in
    ap (λ (zs : List ℤ). pair_codes zs bs) (take_more us i (pos 0) h)
    ∙ pairs_append (take i us) (a ∷ []) bs
    ∙ ap (λ (zs : List ℤ). pair_codes (take i us) bs ++ zs) (append-nil (map (join_code a) bs))

-- z is what the code reads of the join of a and b
pub join_read : (a b : ℤ) {y z : ℤ} {p q c : ℕ} → p ≡ whole_bits a → q ≡ whole_bits b → c ≡ join_of p q → y ≡ as_whole c → z ≡ y → z ≡ join_code a b
join_read a b left right joined signed back = back ∙ signed ∙ ap as_whole (joined ∙ ap₂ join_of left right)

-- ---- in the store

module _ (same : ℤ → ℤ → Bool) where
  pub stored_none : (store : List ℤ) → Stored 0 store (firsts same [])
  unfolding firsts firsts_from
  stored_none store = record { holds = λ h. refl; exceeds = λ h. absurd (omega arith) }

  -- z is what the code reads of y, which goes behind xs
  pub stored_more : (xs : List ℤ) {ys : List ℤ} {z y : ℤ} {k r : ℕ} {store store' : List ℤ} → z ≡ y → ys ≡ xs ++ (y ∷ [])
      → ((seen : List ℤ) → Stored k store seen → Stored r store' (noted same seen z)) → Stored k store (firsts same xs) → Stored r store' (firsts same ys)
  unfolding firsts firsts_from
  stored_more xs {y = y} {r = r} {store' = store'} read e step h =
      rw (e, firsts_from_append same [] xs (y ∷ [])) (subst (λ (x : ℤ). Stored r store' (noted same (firsts same xs) x)) read (step (firsts same xs) h))

-- ---- where they lie

-- p is what the code reads of part i of the first l
pub part_lies : {F : Form} {s : List ℕ} {l : ℕ} (us : List ℤ) {p : ℕ} → ((i : ℕ) → i < l → PartLies F s (whole_bits (get_or us i (pos 0))))
    → (i : ℕ) → i < length (take l us) → p ≡ whole_bits (get_or (take l us) i (pos 0)) → PartLies F s p
part_lies {l = l} us all i h e = let below : i < l = omega (arith, length-take l us) in rw (e, get_or-take l us i (pos 0) below) (all i below)

-- z is what the code reads of the join of p and q
pub pair_lies : {F : Form} {left right : List ℕ} {p q c : ℕ} {y z : ℤ} → PartLies F left p → PartLies F right q → c ≡ join_of p q → y ≡ as_whole c → z ≡ y
    → JoinLies F left right (whole_bits z)
pair_lies {p = p} {q = q} h k joined signed back = rw (back, signed, joined, bits_back (join_of p q) (join_fits p q h.small k.small)) (lies_join h k)
