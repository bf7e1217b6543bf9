-- The sign bit of a float's 64 bits.
use Rattle.std.specs.Prelude.{cond, ℕ, ◌+◌, ◌-◌, ◌^◌, ltb}

-- 02, S-3: "bit 63 kept or flipped". Bit 63 of 64 bits flipped, and the others kept
abbrev pub flip : ℕ → ℕ
flip b = cond (ltb b (2 ^ 63)) (b + 2 ^ 63) (b - 2 ^ 63)
