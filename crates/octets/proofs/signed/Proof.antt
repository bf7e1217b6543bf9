-- `octets::signed` meets its contract: a complement taken twice is the number. Assumes nothing.
use borrow.Author.Rules.{rules}
use native.Mathlib.Omega.{arith}
use mathlib.Core.Path.{◌≡◌, ap}
use Prim.Native.Nat.{◌-◌}
use mir.Syntax.{w64}
use mir.Val.{to_z}
use Rattle.octets.proofs.signed.Statement.{statement}
use Rattle.octets.proofs.signed.Tie as tie

returns-2 : tie.Need-returns-else-v-lt9223372036854775808
returns-2 c =
    let v = c.args.v in
    let twice : 0xffff_ffff_ffff_ffff - (0xffff_ffff_ffff_ffff - v) ≡ v = omega arith in
    ap (to_z w64) twice

pub signed_spec : {M : Type 1} → statement M
signed_spec = tie.close (tie.spec (λ c. search rules) (λ c. search rules) (λ c. search rules) returns-2)
