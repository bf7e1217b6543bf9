-- The columns' lists, gathered in the two buffers.
--     number_more_lem .. list_none    the bytes of one list, value by value
--     stored-..                   one value more in a store, which may be too short for them
--     columns-..                  what is written after j columns, and what the other columns will make of it
--     kept_written, limited_written    26 on a nature, and on its lists in writing
--     Going, Ended                the loop over the columns, and how it is left
-- Assumes nothing.
use mathlib.Core.Path.{◌≡◌, refl, sym, ap, subst, ◌∙◌}
use mathlib.Core.Bool.{Bool, true, false, cond}
use mathlib.Core.List.{List, [], ◌∷◌, ◌++◌, append_assoc, append-nil}
use Prim.Native.Nat.{ℕ, suc, ◌+◌, ◌-◌, ◌*◌, ◌<◌, ◌≤◌}
use native.Mathlib.Nat.{add-zero, sub-zero, mul-zero, mul-le-mul_left}
use native.Mathlib.Numerals.{add-one}
use native.Mathlib.Omega.{arith}
use lib.IntN.{ℤ, pos}
use lib.ListN.{length, take, drop, get_or, length-append, drop_of_length-le}
use lib.Seq.{drop-cons, length-take-le}
use lib.Dec.{ltb}
use borrow.Author.Tests.{ltb-true, ltb-false, lt-ltb, le-ltb}
use Rattle.octets.specs.Le.{le_bytes}
use Rattle.numbers.specs.Result.{Result, ok, refused}
use Rattle.utilities.specs.Lists.{has, noted}
use Rattle.utilities.proofs.Firsts.{noted_new, noted_keeps}
use Rattle.base.specs.Form.{Form, whole_lists_nature}
use Rattle.base.specs.Encode.{joined, whole_bits, total, numbers_from, values_of, number_bytes, list_bytes, value_count}
use Rattle.base.specs.Sheet.{Nature, whole_lists}
use Rattle.base.proofs.Lists.{joined_append}
use Rattle.writer.specs.Written.{Written, written_of, in_writing, derived_in, lists_room, Within}
use Rattle.std.specs.declared.result.Result.TheVariants as D
use Rattle.base.specs.declared.refusals.Refusal.TheVariants.{OverTheLimit}
use Rattle.category_lists.specs.Categories.{kept_to, limited}
use Rattle.category_lists.specs.Columnwise.{each_from}
use Rattle.category_lists.specs.Answers.{Arrays, Stored, Grown, gathered, lists_written, Tally, Columns}
use Rattle.category_lists.proofs.Columnwise.{behind_none, from_ok, from_bad, from_end}
use Rattle.writer.specs.declared.Parts.{Parts}
use Rattle.std.specs.declared.option.Option as Rust
use Rattle.std.specs.declared.option.Option.TheVariants.{Some, None}
use Rattle.base.specs.Refusals.{number_of, Answer}
use Rattle.base.specs.declared.refusals.Refusal.{Refusal}

-- ---- the bytes of one list

module _ {X : Type 0} (f : X → List ℕ) where
  joined_one : (x : X) → joined f (x ∷ []) ≡ f x
  unfolding joined
  joined_one x = append-nil (f x)

  joined_more : (xs : List X) (i : ℕ) (d : X) → i < length xs → joined f (drop i xs) ≡ f (get_or xs i d) ++ joined f (drop (i + 1) xs)
  unfolding joined
  joined_more xs i d h = rw (drop-cons xs i d h, add-one i)

  joined_none : (xs : List X) (i : ℕ) → length xs ≤ i → joined f (drop i xs) ≡ []
  unfolding joined
  joined_none xs i h = rw (drop_of_length-le xs h)

module _ (xs : List ℤ) (i : ℕ) where
  pub number_more_lem : (F : Form) (j : ℕ) → i < length xs → number_bytes F j (drop i xs) ≡ le_bytes F.number_width j ++ number_bytes F j (drop (i + 1) xs)
  number_more_lem F j h = joined_more (λ v. le_bytes F.number_width j) xs i (pos 0) h

  pub list_more : i < length xs → list_bytes whole_bits (drop i xs) ≡ le_bytes 8 (whole_bits (get_or xs i (pos 0))) ++ list_bytes whole_bits (drop (i + 1) xs)
  list_more h = joined_more (λ v. le_bytes 8 (whole_bits v)) xs i (pos 0) h

  pub number_none : (F : Form) (j : ℕ) → length xs ≤ i → number_bytes F j (drop i xs) ≡ []
  number_none F j h = joined_none (λ v. le_bytes F.number_width j) xs i h

  pub list_none : length xs ≤ i → list_bytes whole_bits (drop i xs) ≡ []
  list_none h = joined_none (λ v. le_bytes 8 (whole_bits v)) xs i h

-- ---- a column's list, in the store

pub stored_list : {k : ℕ} (store : List ℤ) → k ≤ length store → Stored k store (take k store)
stored_list store room = record { holds = λ h. refl; exceeds = λ h. absurd (omega (arith, h, room)) }

-- one value more, by whatever test finds values the same
module _ (same : ℤ → ℤ → Bool) {k : ℕ} {store seen : List ℤ} (s : Stored k store seen) where
  -- it was full before
  pub stored_over : (r : ℕ) (x : ℤ) → length store < k → length store < r → Stored r store (noted same seen x)
  stored_over r x over h = record { holds = λ room. absurd (omega (arith, room, h)); exceeds = λ o. omega (arith, s.exceeds over, noted_keeps same seen x) }

  -- v is what the code reads of x
  module _ {v x : ℤ} (read : v ≡ x) (room : k ≤ length store) {store' : List ℤ} where
    -- the first m are those of before and x
    pub stored_noted : {m : ℕ} → take m store' ≡ noted same (take k store) v → m ≤ length store' → Stored m store' (noted same seen x)
    stored_noted {m} start fits =
        let one : noted same (take k store) v ≡ noted same seen x = (λ i. noted same (s.holds room i) (read i)) in
        record { holds = λ h. start ∙ one; exceeds = λ h. absurd (omega (arith, h, fits)) }

    -- x is new, and there is no room for it
    pub stored_full : (r : ℕ) → length store < r → has same v (take k store) ≡ false → length store ≤ k → store' ≡ store → Stored r store' (noted same seen x)
    stored_full r h lacks full kept =
        let new : has same x seen ≡ false = sym (λ i. has same (read i) (s.holds room i)) ∙ lacks in
        let taken : length seen ≡ k = sym (ap length (s.holds room)) ∙ length-take-le k store room in
        let above : length store' < length (noted same seen x) =
        omega (arith, ap length (noted_new same seen x new), length-append seen (x ∷ []), taken, full, ap length kept)
        in
        record { holds = λ o. absurd (omega (arith, o, h, ap length kept)); exceeds = λ o. above }

-- ---- one list more

numbers_append : (F : Form) (j : ℕ) (ls : List (List ℤ)) (l : List ℤ) → numbers_from F j (ls ++ (l ∷ [])) ≡ numbers_from F j ls ++ number_bytes F (j + length ls) l
unfolding numbers_from
numbers_append F j [] l = append-nil (number_bytes F j l) ∙ ap (λ (k : ℕ). number_bytes F k l) (sym (add-zero j))
numbers_append F j (m ∷ ls) l =
    let k : j + 1 + length ls ≡ j + suc (length ls) = omega arith in
    ap (λ (t : List ℕ). number_bytes F j m ++ t) (numbers_append F (j + 1) ls l ∙ ap (λ (n : ℕ). numbers_from F (j + 1) ls ++ number_bytes F n l) k)
    ∙ sym (append_assoc (number_bytes F j m) (numbers_from F (j + 1) ls) (number_bytes F (j + suc (length ls)) l))

values_append : (ls : List (List ℤ)) (l : List ℤ) → values_of whole_bits (ls ++ (l ∷ [])) ≡ values_of whole_bits ls ++ list_bytes whole_bits l
values_append ls l =
    joined_append (list_bytes whole_bits) ls (l ∷ []) ∙ ap (λ (t : List ℕ). joined (list_bytes whole_bits) ls ++ t) (joined_one (list_bytes whole_bits) l)

total_append {ℓ} : {X : Type ℓ} (ls : List (List X)) (l : List X) → total (ls ++ (l ∷ [])) ≡ total ls + length l
unfolding total
total_append [] l = omega arith
total_append (m ∷ ls) l = omega (arith, total_append ls l)

-- ---- the columns

module _ (F : Form) where
  nothing_taken : (numbers : List ℕ) → take (F.number_width * 0) numbers ≡ []
  nothing_taken numbers = rw mul-zero

  tally_none : (numbers values : List ℕ) → Tally F 0 numbers values []
  unfolding total numbers_from joined
  tally_none numbers values = record { bound = omega arith; over = λ h. absurd (omega arith); count = λ h. refl; first = λ h. nothing_taken numbers; second = λ h. refl }

  pub columns_start : (f : ℕ → Result (List ℤ)) (n : ℕ) (numbers values : List ℕ) → Columns F f n 0 0 numbers values
  columns_start f n numbers values =
      record {
        done = [];
        lists = refl;
        tally = tally_none numbers values;
        left = ap (λ (k : ℕ). each_from f k 0) (sym (sub-zero n)) ∙ behind_none (each_from f (n - 0) 0);
      }

module _ {F : Form} {t : ℕ} {numbers values : List ℕ} {done : List (List ℤ)} (a : Tally F t numbers values done) where
  tally_over : (xs : List ℤ) → F.category_limit < t + length xs → F.category_limit < total (done ++ (xs ∷ []))
  tally_over xs h = go (ltb F.category_limit t) refl
    where
      go : (b : Bool) → ltb F.category_limit t ≡ b → F.category_limit < total (done ++ (xs ∷ []))
      go true e = omega (arith, a.over (ltb-true F.category_limit t e), total_append done xs)
      go false e = omega (arith, a.count (ltb-false F.category_limit t e), total_append done xs)

  tally_more : {xs : List ℤ} {r : ℕ} {numbers' values' : List ℕ} → Grown F xs (length done) t numbers values r numbers' values' → Tally F r numbers' values' (done ++ (xs ∷ []))
  tally_more {xs} {r} g =
      let sum = total_append done xs in
      let within : r ≤ F.category_limit → t ≤ F.category_limit = λ h. omega (arith, g.count h) in
      record {
        bound = g.bound;
        over = λ h. tally_over xs (g.over h);
        count = λ h. omega (arith, g.count h, a.count (within h), sum);
        first = λ h. g.first h ∙ ap (λ (l : List ℕ). l ++ number_bytes F (length done) xs) (a.first (within h)) ∙ ap (λ (k : ℕ). numbers_from F 0 done ++ number_bytes F k xs) (omega arith) ∙ sym (numbers_append F 0 done xs);
        second = λ h. g.second h ∙ ap (λ (l : List ℕ). l ++ list_bytes whole_bits xs) (a.second (within h)) ∙ sym (values_append done xs);
      }

  tally_written : (nature : ℕ) {n : ℕ} → length done ≡ n → derived_in (gathered F nature n t) numbers values ≡ lists_written F nature (ok done)
  unfolding gathered
  tally_written nature {n} size = go (ltb F.category_limit t) refl
    where
      whole : Result Written
      whole = ok (record { nature = nature; entries = length done; values = total done; text = 0; first = numbers_from F 0 done; second = values_of whole_bits done })

      limit : {b : Bool} → ltb F.category_limit (total done) ≡ b → cond b (refused 26) whole ≡ lists_written F nature (ok done)
      limit e = ap (λ (b : Bool). cond b (refused 26) whole) (sym e)

      go : (b : Bool) → ltb F.category_limit t ≡ b
          → derived_in (cond b (D.Err OverTheLimit) (D.Ok (record { nature = nature; entries = n; values = t; text = 0; first = F.number_width * t; second = 8 * t }))) numbers values
          ≡ lists_written F nature (ok done)
      go true e = limit (lt-ltb F.category_limit (total done) (a.over (ltb-true F.category_limit t e)))
      go false e =
          let h = ltb-false F.category_limit t e in
          let count = a.count h in
          let parts : ◌≡◌ {A = Result Written} (ok (record { nature = nature; entries = n; values = t; text = 0; first = take (F.number_width * t) numbers; second = take (8 * t) values })) whole =
          (λ i. ok (record { nature = nature; entries = sym size i; values = count i; text = 0; first = a.first h i; second = a.second h i }))
          in
          parts ∙ limit (le-ltb F.category_limit (total done) (omega arith))

module _ {F : Form} {f : ℕ → Result (List ℤ)} {n j t : ℕ} {numbers values : List ℕ} (a : Columns F f n j t numbers values) where
  pub columns_more : {r : ℕ} {numbers' values' : List ℕ} {xs : List ℤ} → j < n → f j ≡ ok xs → Grown F xs j t numbers values r numbers' values' → Columns F f n (j + 1) r numbers' values'
  columns_more {r} {numbers'} {values'} {xs} h e g =
      let size : length (a.done ++ (xs ∷ [])) ≡ j + 1 = length-append a.done (xs ∷ []) ∙ ap (λ (k : ℕ). k + 1) a.lists in
      let grown : Grown F xs (length a.done) t numbers values r numbers' values' = rw a.lists g in
      record {
        done = a.done ++ (xs ∷ []);
        lists = size;
        tally = tally_more a.tally grown;
        left = a.left ∙ from_ok f n j a.done h e;
      }

  pub columns_refused : {k : ℕ} → j < n → f j ≡ refused k → each_from f n 0 ≡ refused k
  columns_refused h e = a.left ∙ from_bad f n j a.done h e

  pub columns_done : (nature : ℕ) → j ≡ n → derived_in (gathered F nature n t) numbers values ≡ lists_written F nature (each_from f n 0)
  columns_done nature e =
      tally_written a.tally nature (a.lists ∙ e)
      ∙ ap (lists_written F nature) (sym (a.left ∙ from_end f n j a.done (omega arith)))

-- ---- natures that keep to the limit

pub kept_written : (F : Form) (k : Nature) → cond (ltb F.category_limit (value_count k)) (refused 26) (ok (written_of F k)) ≡ in_writing F (kept_to F.category_limit k)
unfolding kept_to
kept_written F k = go (ltb F.category_limit (value_count k))
  where
    go : (b : Bool) → cond b (refused 26) (ok (written_of F k)) ≡ in_writing F (cond b (refused 26) (ok k))
    go true = refl
    go false = refl

pub limited_written : (F : Form) (g : Result (List (List ℤ))) → lists_written F whole_lists_nature g ≡ in_writing F (limited F.category_limit g)
limited_written F (ok ls) = kept_written F (whole_lists ls)
limited_written F (refused k) = refl

-- ---- the loop over the columns, of products, of maps and of unions

arrays_kept : {F : Form} {numbers₀ values₀ numbers values : List ℕ} → Arrays F numbers₀ values₀ → length numbers ≡ length numbers₀ → length values ≡ length values₀ → Arrays F numbers values
arrays_kept a n v = record { numbered = omega (arith, a.numbered, n); valued = omega (arith, a.valued, v) }

-- the number of what was refused on the way, 0 where nothing was
abbrev pub said : Rust.Option Refusal → ℕ
said None = 0
said (Some e) = number_of e

-- j columns are done, and none was refused
pub record Going (F : Form) (f : ℕ → Result (List ℤ)) (n : ℕ) (numbers₀ values₀ numbers values : List ℕ) (code t j : ℕ) : Type 0 where
  pub within : j ≤ n
  pub fine : code ≡ 0
  pub first : length numbers ≡ length numbers₀
  pub second : length values ≡ length values₀
  pub columns : Columns F f n j t numbers values

-- what is gathered of n lists keeps to the limits and to the two buffers
gathered_within :
    {F : Form} (nature n t : ℕ) {numbers values : List ℕ} → n ≤ F.list_limit → Arrays F numbers values → Within F (lists_room F) numbers values (gathered F nature n t)
unfolding gathered
gathered_within {F} nature n t {numbers} {values} h rooms = by (ltb F.category_limit t) refl
  where
    parts : Answer Parts
    parts = D.Ok (record { nature = nature; entries = n; values = t; text = 0; first = F.number_width * t; second = 8 * t })

    by : (b : Bool) → ltb F.category_limit t ≡ b → Within F (lists_room F) numbers values (cond b (D.Err OverTheLimit) parts)
    by true e = tt
    by false e =
        let few = ltb-false F.category_limit t e in
        let more = mul-le-mul_left F.number_width few in
        record { entries = h; values = few; text = omega arith; first_held = omega (arith, rooms.numbered); second_held = omega (arith, rooms.valued); both = omega arith }

-- the loop was left: all are done, or one was refused
pub data Ended (F : Form) (f : ℕ → Result (List ℤ)) (n : ℕ) (numbers values : List ℕ) (code t : ℕ) : Type 0 where
  done : code ≡ 0 → Columns F f n n t numbers values → Ended F f n numbers values code t
  failed : (code ≡ 0 → ⊥) → each_from f n 0 ≡ refused code → Ended F f n numbers values code t

pub going_start : (F : Form) (f : ℕ → Result (List ℤ)) (n : ℕ) (numbers values : List ℕ) → Going F f n numbers values numbers values 0 0 0
going_start F f n numbers values = record { within = omega arith; fine = refl; first = refl; second = refl; columns = columns_start F f n numbers values }

module _ {F : Form} {f : ℕ → Result (List ℤ)} {n : ℕ} {numbers₀ values₀ numbers values : List ℕ} {code t j : ℕ} (g : Going F f n numbers₀ values₀ numbers values code t j) where
  -- the columns from j up to end are added, which all gave xs
  pub going_more : {k end r code' : ℕ} {store xs : List ℤ} {numbers' values' : List ℕ} → code' ≡ 0 → end ≤ n → Stored k store xs → ((i : ℕ) → j ≤ i → i < end → f i ≡ ok xs)
      → (Stored k store xs → end ≤ n → ((i : ℕ) → j ≤ i → i < end → f i ≡ ok xs) → Columns F f n j t numbers values → Columns F f n end r numbers' values')
      → length numbers' ≡ length numbers → length values' ≡ length values
      → Going F f n numbers₀ values₀ numbers' values' code' r end
  going_more fine to stored alike add first second = record { within = to; fine = fine; first = first ∙ g.first; second = second ∙ g.second; columns = add stored to alike g.columns }

  pub going_done : {code' : ℕ} → code' ≡ code → n ≤ j → Ended F f n numbers values code' t
  going_done e h = let all : j ≡ n = omega (arith, g.within, h) in done (e ∙ g.fine) (rw all at g.columns)

  -- all are gathered, where none can be refused
  pub going_gathered : (nature : ℕ) → n ≤ j → {r : Answer Parts} → r ≡ gathered F nature n t → derived_in r numbers values ≡ lists_written F nature (each_from f n 0)
  going_gathered nature h e = ap (λ (r : Answer Parts). derived_in r numbers values) e ∙ columns_done g.columns nature (omega (arith, g.within, h))

  -- the parts that were gathered
  pub going_within : (nature : ℕ) → n ≤ F.list_limit → Arrays F numbers₀ values₀ → {r : Answer Parts} → r ≡ gathered F nature n t → Within F (lists_room F) numbers values r
  going_within nature h rooms e = subst (λ (r : Answer Parts). Within F (lists_room F) numbers values r) (sym e) (gathered_within nature n t h (arrays_kept rooms g.first g.second))

  pub going_failed : {code' k : ℕ} → code' ≡ suc k → j < n → f j ≡ refused (suc k) → Ended F f n numbers values code' t
  going_failed e h r = failed (λ z. omega (arith, e, z)) (columns_refused g.columns h r ∙ ap refused (sym e))

module _ {F : Form} {f : ℕ → Result (List ℤ)} {n : ℕ} {numbers values : List ℕ} {code t : ℕ} where
  pub ended_refused : Ended F f n numbers values code t → (code ≡ 0 → ⊥) → refused code ≡ in_writing F (limited F.category_limit (each_from f n 0))
  ended_refused (done e a) h = absurd (h e)
  ended_refused (failed e r) h = ap (λ (g : Result (List (List ℤ))). in_writing F (limited F.category_limit g)) (sym r)

  pub ended_gathered :
      Ended F f n numbers values code t → code ≡ 0 → {r : Answer Parts} → r ≡ gathered F whole_lists_nature n t → derived_in r numbers values ≡ in_writing F (limited F.category_limit (each_from f n 0))
  ended_gathered (done e a) h g = ap (λ (r : Answer Parts). derived_in r numbers values) g ∙ columns_done a whole_lists_nature refl ∙ limited_written F (each_from f n 0)
  ended_gathered (failed e r) h g = absurd (e h)
