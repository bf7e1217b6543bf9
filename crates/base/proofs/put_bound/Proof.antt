-- `base::put_bound` meets its contract: each arm appends the mark and the 64 bits. Assumes nothing.
use mathlib.Core.Path.{ap, sym, ◌∙◌}
use mathlib.Core.List.{◌∷◌}
use lib.IntN.{ℤ}
use mir.Syntax.{w64}
use mir.Val.{of_z}
use mir.Facts.{to_z-of_z}
use borrow.Author.Rules.{rules}
use Rattle.octets.specs.Le.{le_bytes}
use Rattle.octets.proofs.Appends.{◌then◌, same_bytes}
use Rattle.base.specs.Encode.{end_bytes}
use Rattle.base.specs.Code.{bound_bytes}
use Rattle.base.proofs.put_bound.Statement.{statement}
use Rattle.base.proofs.put_bound.Tie as tie

returns : tie.Need-returns-in-Absent
unfolding bound_bytes end_bytes
returns c =
    let second = c.before.before in
    same_bytes (c.put_u8-next.ensures then c.put_u64.ensures) (ap bound_bytes (sym c.in-Absent.is))

returns-2 : tie.Need-returns-in-Whole
unfolding bound_bytes end_bytes
returns-2 c =
    let second = c.before.before in
    let back = to_z-of_z {w = w64} {z = c.in-Whole.z} (record { sfits = c.in-Whole.known_told-1-own.given.0.1 }) in
    same_bytes (c.put_u8-next-in-Whole.ensures then c.put_i64.ensures)
    (ap (λ (z : ℤ). 1 ∷ le_bytes 8 (of_z w64 z)) back ∙ ap bound_bytes (sym c.in-Whole.is))

returns-3 : tie.Need-returns-in-Float
unfolding bound_bytes end_bytes
returns-3 c =
    let second = c.before.before in
    same_bytes (c.put_u8-next-in-Float.ensures then c.put_f64.ensures) (ap bound_bytes (sym c.in-Float.is))

pub put_bound_spec : {M : Type 1} → statement M
put_bound_spec =
    tie.close
    (tie.spec
    (λ c. search rules)
    (λ c κs. search rules)
    (λ c κs. search rules)
    (λ c. search rules)
    (λ c κs. search rules)
    (λ c κs. search rules)
    (λ c. search rules)
    (λ c κs. search rules)
    (λ c κs. search rules)
    (λ c. search rules)
    returns
    (λ c. search rules)
    returns-2
    (λ c. search rules)
    returns-3)
