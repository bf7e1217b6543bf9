-- `array_checks::end_word` meets its contract. Assumes nothing.
use Rattle.std.proofs.Common.{rules}
use Rattle.array_checks.proofs.Words.{end_word}
use Rattle.array_checks.proofs.end_word.Statement.{statement}
use Rattle.array_checks.proofs.end_word.Tie as tie

returns : tie.Need-returns
returns c =
    let w = c.wrapping_sub_u64 in
    end_word c.args.mark c.args.bits w.result c.ranges.mark.fits c.ranges.bits.fits w.type_inv w.ensures

pub end_word_spec : {M : Type 1} → statement M
end_word_spec = tie.close (tie.spec (λ c κs. search rules) returns)
