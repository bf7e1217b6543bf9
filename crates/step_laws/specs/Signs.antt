-- 02, S-3: examples of Negative and Abs on float ranges as one table under one theorem, from the operand's bytes to the reply and the bytes written, and the 64 bits of both ends by those
-- of the source.
use Rattle.std.specs.Prelude.{◌≡◌, refl, true, List, [], ◌∷◌, ℕ, Float, pos, replicate}
use Rattle.std.proofs.Math.Option.{Option, none, some}
use Rattle.std.specs.Float.{binary64}
use Rattle.std.specs.Float.Ieee.{of_bits}
use Rattle.numbers.specs.Result.{ok}
use Rattle.numbers.specs.Kind.{Span, span_of}
use Rattle.base.specs.Form.{narrow, float_type}
use Rattle.base.specs.Sheet.{Sheet, float_range}
use Rattle.base.specs.Encode.{encode}
use Rattle.ends.specs.Signs.{neg_bits, abs_bits}
use Rattle.step_laws.specs.Computing.{computing}
use Rattle.step_laws.specs.Examples.{AllHold, leaves}
use Rattle.step_laws.specs.Pooled.{sheet_of}
use Rattle.calls.specs.Single.{Outcome, single}

-- ---- the sheets, by the bits of the only entry's ends

abbrev pub end_of : Option ℕ → Option Float
end_of none = none
end_of (some b) = some (of_bits binary64 b)

abbrev pub entry_of : Span ℕ → Span Float
entry_of x = span_of (end_of x.lower) (end_of x.upper)

-- an operand, and what is derived of it: both of node 7
abbrev pub sheet : Span ℕ → Sheet
sheet x = sheet_of float_type true 0 (pos 1) 1 none (pos 7) (float_range (entry_of x ∷ []))

-- ---- the calls

pub record Example : Type 0 where
  pub component : ℕ
  pub bits : Span Float → Span ℕ
  pub source : Span ℕ
  pub expected : Span ℕ

abbrev pub example : ℕ → (Span Float → Span ℕ) → Span ℕ → Span ℕ → Example
example c bits x y = record { component = c; bits = bits; source = x; expected = y }

-- a lower and an upper end that are present
abbrev pub ends : ℕ → ℕ → Span ℕ
ends a c = span_of (some a) (some c)

abbrev pub negative : Span ℕ → Span ℕ → Example
negative x y = example 9 neg_bits x y

abbrev pub abs : Span ℕ → Span ℕ → Example
abs x y = example 1 abs_bits x y

-- ---- the table

-- 0.0 has no bit set, and -0.0 bit 63 alone
abbrev pub plus_zero : ℕ
plus_zero = 0

abbrev pub minus_zero : ℕ
minus_zero = 0x8000_0000_0000_0000

-- 1.7e308 and -1.7e308, whose doubles overflow
abbrev pub large : ℕ
large = 0x7fee_42d1_3077_3b76

abbrev pub minus_large : ℕ
minus_large = 0xffee_42d1_3077_3b76

unfoldable pub table : List Example
table =
    -- [0.0, 5.0] gives [-5.0, -0.0]
    negative (ends plus_zero 0x4014_0000_0000_0000) (ends 0xc014_0000_0000_0000 minus_zero)
    -- an absent end gives an absent one
    ∷ negative (span_of (some minus_zero) none) (span_of none (some plus_zero))
    ∷ negative (span_of none (some plus_zero)) (span_of (some minus_zero) none)
    ∷ negative (span_of none none) (span_of none none)
    -- the least subnormal number, and the greatest
    ∷ negative (ends 1 1) (ends 0x8000_0000_0000_0001 0x8000_0000_0000_0001)
    ∷ negative (ends 0x800f_ffff_ffff_ffff 0x000f_ffff_ffff_ffff) (ends 0x800f_ffff_ffff_ffff 0x000f_ffff_ffff_ffff)
    -- the greatest number
    ∷ negative (ends 1 0x7fef_ffff_ffff_ffff) (ends 0xffef_ffff_ffff_ffff 0x8000_0000_0000_0001)
    -- [-0.6, 0.2] gives [-0.2, 0.6]
    ∷ abs (ends 0xbfe3_3333_3333_3333 0x3fc9_9999_9999_999a) (ends 0xbfc9_9999_9999_999a 0x3fe3_3333_3333_3333)
    -- 0.0 is not above 0: [0.0, 5.0] gives [-5.0, 5.0], and so does [-0.0, 5.0]
    ∷ abs (ends plus_zero 0x4014_0000_0000_0000) (ends 0xc014_0000_0000_0000 0x4014_0000_0000_0000)
    ∷ abs (ends minus_zero 0x4014_0000_0000_0000) (ends 0xc014_0000_0000_0000 0x4014_0000_0000_0000)
    -- zeros
    ∷ abs (ends minus_zero plus_zero) (ends minus_zero plus_zero)
    ∷ abs (ends plus_zero plus_zero) (ends minus_zero minus_zero)
    ∷ abs (ends minus_zero minus_zero) (ends plus_zero plus_zero)
    -- both copied: [1.5, 2.0]; both negated, and exchanged: [-2.0, -1.5]
    ∷ abs (ends 0x3ff8_0000_0000_0000 0x4000_0000_0000_0000) (ends 0x3ff8_0000_0000_0000 0x4000_0000_0000_0000)
    ∷ abs (ends 0xc000_0000_0000_0000 0xbff8_0000_0000_0000) (ends 0x3ff8_0000_0000_0000 0x4000_0000_0000_0000)
    -- a sum that overflows is infinite, and has its sign
    ∷ abs (ends large large) (ends large large)
    ∷ abs (ends minus_large minus_large) (ends large large)
    -- a sum of 0 is not above 0: [-3.0, 3.0]
    ∷ abs (ends 0xc008_0000_0000_0000 0x4008_0000_0000_0000) (ends 0xc008_0000_0000_0000 0x4008_0000_0000_0000)
    -- one end absent
    ∷ abs (span_of none (some large)) (span_of none none)
    ∷ abs (span_of (some large) none) (span_of none none)
    ∷ []

-- ---- what each row says

abbrev pub out : List ℕ
out = replicate 120 170

-- the single call, with node number 9; the right operand is not read
abbrev pub call : Example → Outcome
call e = single narrow e.component 9 (encode narrow (sheet e.source)) [] out

-- the call leaves just that sheet, and these are the bits that the definitions name
abbrev pub Holds : Example → Type 0
Holds e = (call e ≡ leaves (ok (sheet e.expected)) out) × (e.bits (entry_of e.source) ≡ e.expected)

-- every row of the table holds
pub signs : AllHold Holds table
unfolding table AllHold leaves computing
signs =
    ((refl, refl), ((refl, refl), ((refl, refl), ((refl, refl), ((refl, refl), ((refl, refl), ((refl, refl), ((refl, refl), ((refl, refl), ((refl, refl), ((refl, refl), ((refl, refl), ((refl, refl), ((refl, refl), ((refl, refl), ((refl, refl), ((refl, refl), ((refl, refl), ((refl, refl), ((refl, refl), tt))))))))))))))))))))
