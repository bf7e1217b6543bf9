-- `octets::complement` meets its contract: the casts are of numbers below 2 ^ 63. Assumes nothing.
use native.Mathlib.Omega.{arith}
use Prim.Native.Nat.{ℕ, ◌-◌, ◌^◌, ◌<◌}
use mir.Syntax.{w64}
use mir.Val.{of_z}
use mir.Facts.{Fits-of_z}
use Rattle.octets.proofs.Signs.{sign, no_sign, low_cast, low_abs}
use Rattle.octets.proofs.complement.Statement.{statement}
use Rattle.octets.proofs.complement.Tie as tie

cast-result : tie.Need-overflow_cast-result
cast-result c = let n = of_z w64 c.args.z in low_cast n (sign n c.if-z-ge0.true)

high : tie.Else-z-ge0 → ℕ
high c = 0xffff_ffff_ffff_ffff - of_z w64 c.before.args.z

high_low : (c : tie.Else-z-ge0) → high c < 2 ^ 63
unfolding high
high_low c = omega (arith, no_sign (of_z w64 c.args.z) c.if-z-ge0.false)

cast-result-2 : tie.Need-overflow_cast-result-else-z-ge0
unfolding high
cast-result-2 c = low_cast (high c) (high_low c)

returns : tie.Need-returns-then-z-ge0
returns c = let n = of_z w64 c.args.z in low_abs n (sign n c.if-z-ge0.true)

returns-2 : tie.Need-returns-else-z-ge0
unfolding high
returns-2 c = omega (arith, low_abs (high c) (high_low c), Fits-of_z {w = w64} c.ranges.z)

pub complement_spec : {M : Type 1} → statement M
complement_spec = tie.close (tie.spec cast-result cast-result-2 returns returns-2)
