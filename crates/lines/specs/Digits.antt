-- Digits and decimal numbers, as ASCII text.
use Rattle.std.specs.Prelude.{ℕ, ◌+◌, ◌*◌, ◌-◌, ◌^◌, cond, ◌&&◌, List, [], ◌∷◌, leb, ltb, Option, Some, None}

-- `0` to `9` are 48 to 57, `a` to `f` 97 to 102
unfoldable pub hex_digit : ℕ → Option ℕ
hex_digit b =
    cond (leb 48 b && leb b 57) (Some (b - 48))
    (cond (leb 97 b && leb b 102) (Some (b - 87)) None)

-- two hexadecimal digits, the high one first
unfoldable pub joined : Option ℕ → Option ℕ → Option ℕ
joined (Some h) (Some l) = Some (h * 16 + l)
joined (Some h) None = None
joined None d = None

-- a number of 32 bits, and one decimal digit more
unfoldable pub number_more : ℕ → ℕ → Option ℕ
number_more v b =
    cond (leb 48 b && leb b 57)
    (cond (ltb (v * 10 + (b - 48)) (2 ^ 32)) (Some (v * 10 + (b - 48))) None)
    None

unfoldable pub and_digit : Option ℕ → ℕ → Option ℕ
and_digit (Some v) b = number_more v b
and_digit None b = None

-- a number, and what follows it
unfoldable pub then_more : List ℕ → Option ℕ → Option ℕ
then_more [] n = n
then_more (b ∷ s) n = then_more s (and_digit n b)

-- a decimal number of 32 bits: one digit or more, and nothing else
unfoldable pub number_of : List ℕ → Option ℕ
number_of [] = None
number_of (b ∷ s) = then_more (b ∷ s) (Some 0)
