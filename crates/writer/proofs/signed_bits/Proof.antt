-- `writer::signed_bits` meets its contract, by the number that the variant holds. Assumes nothing.
use mathlib.Core.Path.{ap, ◌∙◌}
use mir.Syntax.{w64}
use mir.Val.{of_z}
use mir.Facts.{to_z-of_z}
use borrow.Author.Rules.{rules}
use Rattle.writer.proofs.signed_bits.Statement.{statement}
use Rattle.writer.proofs.signed_bits.Tie as tie

returns-2 : tie.Need-returns-in-Some
returns-2 c =
    let back = to_z-of_z {w = w64} {z = c.in-Some.z} (record { sfits = c.in-Some.known_told-1-own.given.0.1 }) in
    rw c.in-Some.is (c.complement.ensures ∙ ap (of_z w64) back)

pub signed_bits_spec : {M : Type 1} → statement M
signed_bits_spec =
    tie.close
    (tie.spec
    (λ c. search rules)
    (λ c. search rules)
    (λ c κs. search rules)
    (λ c. search rules)
    returns-2)
