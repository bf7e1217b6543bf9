-- Permitted flags and values that may be absent, written again.
--     flag_same    a flag
--     mark_same    a mark of presence
--     bits_same    the 64 bits behind a mark, if those of a present value are
--     double_same  the 64 bits of a finite float are
-- Assumes nothing.
use mathlib.Core.Path.{◌≡◌, refl, sym, subst}
use mathlib.Core.Bool.{Bool, true, false, not}
use mathlib.Core.Logic.{◌⊎◌, inl, inr, ⊎_elim}
use mathlib.Core.List.{List}
use Prim.Native.Nat.{ℕ, ◌<◌, ◌^◌}
use native.Mathlib.Omega.{arith}
use lib.ListN.{get_or}
use lib.Dec.{T, eqb, leb}
use lib.Ieee.{Float, nan, inf, fin, binary64, is_nan}
use lib.Ieee.Bits.{to_bits-of_bits}
use lib.Ieee.Scale.{finite}
use borrow.Author.Tests.{eqb-true, eqb-false, leb-true}
use Rattle.octets.specs.Le.{le_at}
use Rattle.base.specs.Decode.{as_float, option_at}
use Rattle.base.specs.Encode.{float_bits, flag, mark, bits_of}
use Rattle.base.specs.Checks.{mark_permitted}
use Rattle.base.proofs.Flags.{and_both}

pub flag_same : (b : ℕ) → leb b 1 ≡ true → flag (not (eqb b 0)) ≡ b
flag_same b h = go (eqb b 0) refl
  where
    go : (t : Bool) → eqb b 0 ≡ t → flag (not t) ≡ b
    go true e = sym (eqb-true b 0 e)
    go false e = omega (arith, eqb-false b 0 e, leb-true b 1 h)

-- a permitted mark is 1, or it is 0 and so are its bits
module _ (s : List ℕ) (m at : ℕ) where
  abbrev OneOrNone : Type 0
  OneOrNone = (get_or s m 0 ≡ 1) ⊎ ((get_or s m 0 ≡ 0) × (le_at 8 at s ≡ 0))

  one_or_none : mark_permitted m at s ≡ true → OneOrNone
  one_or_none p = go (eqb (get_or s m 0) 1) refl
    where
      go : (t : Bool) → eqb (get_or s m 0) 1 ≡ t → OneOrNone
      go true e = inl (eqb-true _ _ e)
      go false e =
          let both = and_both (eqb (get_or s m 0) 0) (eqb (le_at 8 at s) 0) (rw e at p) in
          inr (eqb-true _ _ both.0, eqb-true _ _ both.1)

module _ {X : Type 0} (read : ℕ → X) (s : List ℕ) (m at : ℕ) (p : mark_permitted m at s ≡ true) where
  pub mark_same : mark (option_at read m at s) ≡ get_or s m 0
  unfolding option_at
  mark_same = ⊎_elim (λ (e : get_or s m 0 ≡ 1). rw e) (λ (e : (get_or s m 0 ≡ 0) × (le_at 8 at s ≡ 0)). rw e.0) (one_or_none s m at p)

  pub bits_same : (bits : X → ℕ) → (get_or s m 0 ≡ 1 → bits (read (le_at 8 at s)) ≡ le_at 8 at s) → bits_of bits (option_at read m at s) ≡ le_at 8 at s
  unfolding option_at
  bits_same bits back = ⊎_elim (λ (e : get_or s m 0 ≡ 1). rw e (back e)) (λ (e : (get_or s m 0 ≡ 0) × (le_at 8 at s ≡ 0)). rw e.0 (sym e.1)) (one_or_none s m at p)

pub double_same : (v : ℕ) → v < 2 ^ 64 → finite (as_float v) ≡ true → float_bits (as_float v) ≡ v
unfolding is_nan
double_same v h e = to_bits-of_bits binary64 v h (no_nan (as_float v) e)
  where
    no_nan : (x : Float) → finite x ≡ true → T (not (is_nan x))
    no_nan nan e = absurd (subst T (sym e) tt)
    no_nan (inf s) e = tt
    no_nan (fin s m k) e = tt
