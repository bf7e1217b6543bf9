-- What `bytes_of` put is what the fields tell, and the gate answers as defined. Assumes nothing.
use Prim.Native.Nat.{ℕ}
use mathlib.Core.Path.{◌≡◌, sym}
use mathlib.Core.Option.{some, bind}
use mathlib.Core.List.{List}
use Rattle.std.specs.Prelude as Std
use Rattle.base.specs.Form.{narrow}
use Rattle.calls.specs.Single.{Outcome, outcome, single}
use Rattle.lines.specs.Fields.{field_of}
use Rattle.lines.specs.Bytes.{Puts, field_bytes}
use Rattle.answers.specs.Texts.{bytes_at}
use Rattle.answers.specs.CallLine.{call_asks, call_stores}
use Rattle.answers.proofs.Buffers.{confirms, bytes_told, bytes_stored}
use Rattle.answers.proofs.single.compared.Goals as goal

asked : (line : List ℕ) (component node : ℕ) (out : List ℕ) {l r : List ℕ} {o : Outcome} → bytes_at 2 line ≡ some l → bytes_at 3 line ≡ some r → o ≡ single narrow component node l r out → call_asks line component node out ≡ some o
unfolding call_asks bind
asked line component node out e f g = rw (e, f, sym g)

stored : (line : List ℕ) {t : List ℕ} → t ≡ field_of 6 line → (d d' : List ℕ) {n : ℕ} → Puts (Std.Some n) (field_bytes t) d d' → (code : ℕ) → call_stores line code d ≡ some (outcome code n d')
unfolding call_stores
stored line f d d' p code = bytes_stored f d d' p code

pub returns : goal.returns
returns c =
    let a = c.args in
    let line = a.line.now in
    let l = bytes_told c.field.ensures a.left.now c.bytes_of.new.out c.in_ok-l.ensures.puts in
    let r = bytes_told c.field-2.ensures a.right.now c.bytes_of-2.new.out c.in_ok-r.ensures.puts in
    confirms (Std.Some c.compared.result) (asked line a.call.component a.call.node a.out.now l r c.propagate_property-reply.ensures) (stored line c.field-3.ensures a.expected.now c.bytes_of-3.new.out c.in_ok-n.ensures.puts a.call.code) c.compared.ensures
