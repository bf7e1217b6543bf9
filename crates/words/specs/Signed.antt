-- Two's complement of 64 bits.
use Rattle.std.specs.Prelude.{ℕ, ◌-◌, ◌^◌, cond, ltb}

-- the magnitude of the number that v stands for
unfoldable pub magnitude_of : ℕ → ℕ
magnitude_of v = cond (ltb v (2 ^ 63)) v (2 ^ 64 - v)
