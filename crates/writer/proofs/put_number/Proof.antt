-- `writer::put_number` meets its contract: a form at a time. Assumes nothing.
use mathlib.Core.Path.{◌≡◌, sym, ap}
use mathlib.Core.List.{[], ◌∷◌}
use Prim.Native.Nat.{ℕ, ◌<◌}
use native.Mathlib.Nat.{mod-eq_of_lt}
use native.Mathlib.Omega.{arith}
use borrow.Author.Rules.{rules}
use Rattle.octets.specs.Le.{le_bytes}
use Rattle.octets.proofs.Appends.{same_bytes}
use Rattle.writer.proofs.put_number.Statement.{statement}
use Rattle.writer.proofs.put_number.Tie as tie

-- the one byte of a number below 256
byte_of : (v : ℕ) → v < 256 → le_bytes 1 v ≡ v ∷ []
unfolding le_bytes
byte_of v h = ap (λ (b : ℕ). b ∷ []) (mod-eq_of_lt h)

returns : tie.Need-returns-in-Narrow
returns c =
    let b = c.before.before in
    let e = c.in-Narrow.is in
    let p = rw e at c.requires in
    rw e (same_bytes c.put_u8.ensures (sym (byte_of c.args.j (omega (arith, p.1)))))

returns-2 : tie.Need-returns-in-Wide
returns-2 c =
    rw c.in-Wide.is c.put_u16.ensures

pub put_number_spec : {M : Type 1} → statement M
put_number_spec =
    tie.close
    (tie.spec
    (λ c. search rules)
    (λ c. let p = rw c.in-Narrow.is at c.requires in search rules)
    (λ c κs. let p = rw c.in-Narrow.is at c.requires in search rules)
    (λ c. search rules)
    (λ c. let p = rw c.in-Wide.is at c.requires in search rules)
    (λ c κs. let p = rw c.in-Wide.is at c.requires in search rules)
    (λ c. search rules)
    returns
    (λ c. search rules)
    returns-2)
