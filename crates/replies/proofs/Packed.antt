-- A code of 32 bits and a value come back from a reply. Assumes nothing.
use mathlib.Core.Path.{◌≡◌, ap, ap₂, ◌∙◌}
use mathlib.Core.List.{List}
use Prim.Native.Nat.{ℕ, ◌+◌, ◌/◌, ◌%◌, ◌^◌, ◌<◌}
use native.Mathlib.Nat.{zero-add, mod-eq_of_lt, div-eq_of_lt, add-mul-mod_self_left, add-mul-div_left}
use native.Mathlib.Omega.{arith}
use Rattle.base.specs.Refusals.{number_of}
use Rattle.base.specs.declared.refusals.Refusal.{Refusal}
use Rattle.calls.specs.Single.{outcome, packed}
use Rattle.replies.specs.Reply.{replied}

pub reply_is : (k v : ℕ) (bytes : List ℕ) {r : ℕ} → k < 2 ^ 32 → r ≡ packed k v → replied r bytes ≡ outcome k v bytes
reply_is k v bytes h e =
    let some : 0 < 2 ^ 32 = omega arith in
    let low : packed k v % 2 ^ 32 ≡ k = add-mul-mod_self_left k (2 ^ 32) v ∙ mod-eq_of_lt h in
    let high : packed k v / 2 ^ 32 ≡ v = add-mul-div_left k v some ∙ ap (λ (n : ℕ). n + v) (div-eq_of_lt h) ∙ zero-add v in
    rw e (ap₂ (λ (a b : ℕ). outcome a b bytes) low high)

-- a number n of a refusal that the code has as k
pub number_is : (n v : ℕ) (bytes : List ℕ) {k r : ℕ} → k < 2 ^ 32 → k ≡ n → r ≡ packed k v → replied r bytes ≡ outcome n v bytes
number_is n v bytes {k} h is p = reply_is k v bytes h p ∙ ap (λ (n : ℕ). outcome n v bytes) is

pub refusal_is : (e : Refusal) (v : ℕ) (bytes : List ℕ) {k r : ℕ} → k < 2 ^ 32 → k ≡ number_of e → r ≡ packed k v
    → replied r bytes ≡ outcome (number_of e) v bytes
refusal_is e v bytes = number_is (number_of e) v bytes
