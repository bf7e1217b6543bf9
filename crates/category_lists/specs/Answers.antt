-- What the calls that make and gather a column's list answer.
use Rattle.std.specs.Prelude.{◌≡◌, cond, List, ◌++◌, ℕ, ◌+◌, ◌-◌, ◌*◌, ◌<◌, ◌≤◌, ℤ, length, take, ltb}
use Rattle.numbers.specs.Result.{Result, ok, refused, and_then}
use Rattle.utilities.specs.Noted.{hint_count}
use Rattle.base.specs.Form.{Form}
use Rattle.base.specs.Encode.{whole_bits, total, list_bytes, values_of, number_bytes, numbers_from}
use Rattle.writer.specs.Written.{Written}
use Rattle.base.specs.Refusals.{Answer}
use Rattle.base.specs.declared.refusals.Refusal.TheVariants.{OverTheLimit}
use Rattle.std.specs.declared.result.Result.TheVariants as D
use Rattle.category_lists.specs.Columnwise.{each_from, behind}
use Rattle.writer.specs.declared.Parts.{Parts}

-- what the loops are lent: room for a list of each operand (a mapping has one, us twice), for as many results as a sheet may hold, and the hints
pub record Stores (F : Form) (us bs store : List ℤ) (hints : List ℕ) : Type 0 where
  pub lefts : F.category_limit ≤ length us
  pub rights : F.category_limit ≤ length bs
  pub results : length store ≡ F.category_limit
  pub hinted : length hints ≡ hint_count

-- the two buffers hold as many list numbers and values as a sheet may
pub record Arrays (F : Form) (numbers values : List ℕ) : Type 0 where
  pub numbered : F.number_width * F.category_limit ≤ length numbers
  pub valued : 8 * F.category_limit ≤ length values

-- the same for texts, whose area stands behind their values
pub record TextStores (F : Form) (us bs store : List ℤ) (numbers values : List ℕ) : Type 0 where
  pub lefts : length us ≡ F.category_limit
  pub rights : length bs ≡ F.category_limit
  pub results : length store ≡ F.category_limit
  pub numbered : F.number_width * F.category_limit ≤ length numbers
  pub valued : 8 * F.category_limit + F.text_limit ≤ length values

-- the k values xs stand at the start of the store; or k is above the store's length, and they are more than it has room for
pub record Stored (k : ℕ) (store xs : List ℤ) : Type 0 where
  pub holds : k ≤ length store → take k store ≡ xs
  pub exceeds : length store < k → length store < length xs

module _ (F : Form) where
  -- list j, xs, went behind the t categories that were written; where there are then too many, the bytes no longer matter
  pub record Grown (xs : List ℤ) (j t : ℕ) (numbers values : List ℕ) (r : ℕ) (numbers' values' : List ℕ) : Type 0 where
    pub bound : r ≤ F.category_limit + 1
    pub over : F.category_limit < r → F.category_limit < t + length xs
    pub count : r ≤ F.category_limit → r ≡ t + length xs
    pub first : r ≤ F.category_limit → take (F.number_width * r) numbers' ≡ take (F.number_width * t) numbers ++ number_bytes F j xs
    pub second : r ≤ F.category_limit → take (8 * r) values' ≡ take (8 * t) values ++ list_bytes whole_bits xs

  -- n lists of t categories, of a nature, where the bytes stand in the two buffers. 26: "The result holds over 128 categories"
  unfoldable pub gathered : ℕ → ℕ → ℕ → Answer Parts
  gathered nature n t =
      cond (ltb F.category_limit t) (D.Err OverTheLimit)
      (D.Ok (record { nature = nature; entries = n; values = t; text = 0; first = F.number_width * t; second = 8 * t }))

  -- the same, of the lists themselves: lists of a nature in writing, their values as whole numbers
  abbrev pub lists_written : ℕ → Result (List (List ℤ)) → Result Written
  lists_written nature g =
      and_then g
      (λ ls.
      cond (ltb F.category_limit (total ls)) (refused 26)
      (ok (record { nature = nature; entries = length ls; values = total ls; text = 0; first = numbers_from F 0 ls; second = values_of whole_bits ls })))

  -- the lists `done` are written, or they hold too many categories
  pub record Tally (t : ℕ) (numbers values : List ℕ) (done : List (List ℤ)) : Type 0 where
    pub bound : t ≤ F.category_limit + 1
    pub over : F.category_limit < t → F.category_limit < total done
    pub count : t ≤ F.category_limit → t ≡ total done
    pub first : t ≤ F.category_limit → take (F.number_width * t) numbers ≡ numbers_from F 0 done
    pub second : t ≤ F.category_limit → take (8 * t) values ≡ values_of whole_bits done

  -- j of n columns are done
  pub record Columns (f : ℕ → Result (List ℤ)) (n j t : ℕ) (numbers values : List ℕ) : Type 0 where
    pub done : List (List ℤ)
    pub lists : length done ≡ j
    pub tally : Tally t numbers values done
    pub left : each_from f n 0 ≡ behind done (each_from f (n - j) j)
