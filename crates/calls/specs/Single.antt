-- The single call, from bytes to bytes. 01: "What a call hands back, and why it says no".
use Rattle.std.specs.Prelude.{cond, List, ℕ, ◌+◌, ◌*◌, ◌^◌, length, leb}
use Rattle.octets.specs.Deliver.{delivered}
use Rattle.numbers.specs.Result.{Result, ok, refused, and_then}
use Rattle.base.specs.Form.{Form}
use Rattle.base.specs.Sheet.{Sheet}
use Rattle.base.specs.Checks.{read}
use Rattle.base.specs.Encode.{encode}
use Rattle.base.specs.Components.{component_of, family_of, is_unary}
use Rattle.base.specs.declared.Component.{Component}
use Rattle.std.specs.declared.option.Option as Rust
use Rattle.std.specs.declared.option.Option.TheVariants as N
use Rattle.shape.specs.Fields.{numbered}
use Rattle.calls.specs.Derive.{derive}

-- the operands' sheets. 01: "Checks 3 to 5 finish on left before right"; "Abs and Negative don't read the right sheet"
unfoldable pub step_sheet : Form → Component → List ℕ → List ℕ → Result Sheet
step_sheet F c left right =
    and_then (read F left)
    (λ l. cond (is_unary (family_of c)) (derive F c l l) (and_then (read F right) (λ r. derive F c l r)))

-- the bytes that a component derives of its operands' bytes
unfoldable pub step : Form → Component → ℕ → List ℕ → List ℕ → Result (List ℕ)
step F c node left right = and_then (step_sheet F c left right) (λ s. ok (encode F (numbered (family_of c) node s)))

-- a reply, and the lent bytes afterwards
pub record Outcome : Type 0 where
  pub code : ℕ
  -- the length written, or for a plan the node count or the node
  pub value : ℕ
  pub bytes : List ℕ

abbrev pub outcome : ℕ → ℕ → List ℕ → Outcome
outcome k v bytes = record { code = k; value = v; bytes = bytes }

-- the entries' reply: the code in the low 32 bits, the value in the high 32
abbrev pub packed : ℕ → ℕ → ℕ
packed k v = k + 2 ^ 32 * v

-- 01: "It gives 0 and the length written at the buffer's start, later bytes untouched, or a refusal and length 0 with no byte written"; "27 comes last"
unfoldable pub delivery : Result (List ℕ) → List ℕ → Outcome
delivery (refused k) out = outcome k 0 out
delivery (ok vs) out = cond (leb (length vs) (length out)) (outcome 0 (length vs) (delivered out vs)) (outcome 27 0 out)

-- 2: "The component is not 1 to 9"; 02, S-1: "Code 2 .. admit component 10"
unfoldable pub single_of : Form → Rust.Option Component → ℕ → List ℕ → List ℕ → List ℕ → Outcome
single_of F N.None node left right out = outcome 2 0 out
single_of F (N.Some c) node left right out = delivery (step F c node left right) out

-- 01: "A single call takes a component, a node number (32 bits), two sheets and an output buffer"
unfoldable pub single : Form → ℕ → ℕ → List ℕ → List ℕ → List ℕ → Outcome
single F number node left right out = single_of F (component_of number) node left right out
