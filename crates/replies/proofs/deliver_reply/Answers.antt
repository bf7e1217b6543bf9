-- `replies::deliver_reply` meets its contract. Assumes nothing.
use mathlib.Core.Path.{sym, ap, ◌∙◌}
use Prim.Native.Nat.{ℕ}
use native.Mathlib.Omega.{arith}
use borrow.Author.Rules.{rules}
use Rattle.std.specs.declared.result.Result as Rust
use Rattle.deliveries.specs.Code.{given_by}
use Rattle.replies.proofs.Packed.{reply_is, number_is}
use Rattle.replies.proofs.deliver_reply.Goals as goal

pub reply-requires : goal.reply-requires
reply-requires g c =
    let held = rw c.in-Ok.is at c.deliver_sheet-delivered.ensures.1 in
    omega arith

pub returns-in-Ok : goal.returns-in-Ok
returns-in-Ok g c =
    let out = c.deliver_sheet-delivered.new.out in
    reply_is 0 c.in-Ok.n out (omega arith) c.reply.ensures ∙ sym (ap (λ (p : Rust.Result ℕ g.row.E.Denot). given_by g.E.Refusing.number p out) c.in-Ok.is) ∙ c.deliver_sheet-delivered.ensures.0

pub returns-in-Err : goal.returns-in-Err
returns-in-Err g c =
    let out = c.deliver_sheet-delivered.new.out in
    number_is (g.E.Refusing.number c.in-Err.refusal) 0 out (search rules) c.number.ensures c.reply-in-Err.ensures
    ∙ sym (ap (λ (p : Rust.Result ℕ g.row.E.Denot). given_by g.E.Refusing.number p out) c.in-Err.is) ∙ c.deliver_sheet-delivered.ensures.0
