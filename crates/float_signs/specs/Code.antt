-- The bits of an answer's ends.
use Rattle.std.specs.Prelude.{ℕ}
use Rattle.numbers.specs.Result.{Result, ok, refused}
use Rattle.numbers.specs.Kind.{Span}
use Rattle.ends.specs.Code.{float_span}
use Rattle.ends.specs.Signs.{span_bits}
use Rattle.ends.specs.declared.Range.{Range}

abbrev pub ends_bits : Result Range → Result (Span ℕ)
ends_bits (ok r) = ok (span_bits (float_span r))
ends_bits (refused k) = refused k
