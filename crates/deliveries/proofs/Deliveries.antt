-- What a delivery comes to: the sheet in the lent buffer, a buffer that is too short, a refusal. Assumes nothing.
use mathlib.Core.Path.{◌≡◌, refl}
use mathlib.Core.Bool.{true, false}
use mathlib.Core.List.{List}
use Prim.Native.Nat.{ℕ, ◌≤◌}
use lib.ListN.{length, take}
use lib.Seq.{length-take-le}
use lib.Dec.{leb}
use Rattle.octets.specs.Deliver.{delivered}
use Rattle.numbers.specs.Result.{ok, refused}
use Rattle.calls.specs.Single.{outcome, delivery}

module _ (out s : List ℕ) (n : ℕ) (within : n ≤ length s) {out' : List ℕ} (copied : out' ≡ delivered out (take n s)) where
  pub delivery_fits : leb n (length out) ≡ true → outcome 0 n out' ≡ delivery (ok (take n s)) out
  unfolding delivery
  delivery_fits e = rw (length-take-le n s within, e, copied)

  pub delivery_short : leb n (length out) ≡ false → outcome 27 0 out' ≡ delivery (ok (take n s)) out
  unfolding delivery delivered
  delivery_short e = rw (copied, length-take-le n s within, e)

pub delivery_refused : (out : List ℕ) (k : ℕ) → outcome k 0 out ≡ delivery (refused k) out
unfolding delivery
delivery_refused out k = refl
