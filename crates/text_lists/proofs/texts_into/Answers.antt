-- `text_lists::texts_into` meets its contract. Assumes nothing.
use Rattle.std.proofs.Common.{◌≡◌, List, ℕ, ◌*◌, ◌≤◌, ℤ, map, length, take, refl, sym, ap, ◌∙◌, arith}
use mathlib.Core.List.{flatten}
use Rattle.octets.specs.Le.{le_bytes}
use Rattle.numbers.specs.Result.{ok}
use Rattle.utilities.specs.Lists.{list_from}
use Rattle.utilities.proofs.Built.{list_from_length}
use Rattle.utilities.proofs.Mapped.{list_from_map}
use Rattle.base.specs.Form.{Form, form_of}
use Rattle.base.specs.Sheet.{text_lists}
use Rattle.base.specs.Encode.{whole_bits, list_bytes}
use Rattle.base.proofs.Forms.{laid}
use Rattle.base.proofs.Lists.{total_flat, joined_flat}
use Rattle.writer.specs.Written.{in_writing}
use Rattle.category_lists.specs.Categories.{kept}
use Rattle.category_lists.specs.Answers.{Tally}
use Rattle.category_lists.proofs.Gathering.{Going, going_start, going_more}
use Rattle.texts.specs.Joins.{join_at}
use Rattle.texts.proofs.Lying.{empty_lies, store_lies}
use Rattle.text_lists.specs.Codes.{column_codes}
use Rattle.text_lists.proofs.Columns.{codes_alike}
use Rattle.text_lists.proofs.Lies.{all_lie, codes_fit, codes_stand}
use Rattle.text_lists.proofs.Written.{texts_of, columns_codes, texts_over, texts_laid, laid_within}
use Rattle.text_lists.proofs.texts_into.Goals as goal

-- ---- the columns, of which g gives the codes

-- all are written, so that their lists stand in the two buffers
tallied : {F : Form} (g : ℕ → List ℤ) {n j t : ℕ} {numbers₀ values₀ numbers values : List ℕ} → Going F (λ k. ok (g k)) n numbers₀ values₀ numbers values 0 t j → n ≤ j
    → Tally F t numbers values (list_from n 0 g)
tallied g going h = columns_codes g (omega (arith, going.within)) going.columns

-- there are few enough, and their bytes stand one after the other
standing : {F : Form} {t : ℕ} {numbers values : List ℕ} {codes : List (List ℤ)} → Tally F t numbers values codes → t ≤ F.category_limit
    → (take (8 * t) values ≡ list_bytes whole_bits (flatten codes)) × (length (flatten codes) ≡ t)
standing {codes = codes} all few = (all.second few ∙ sym (joined_flat (λ v. le_bytes 8 (whole_bits v)) codes), total_flat codes ∙ sym (all.count few))

-- what they stand for, column by column
spelled : (F : Form) (text : ℤ → List ℕ) (g : ℕ → List ℤ) (n : ℕ)
    → in_writing F (kept F (text_lists (texts_of text (list_from n 0 g)))) ≡ in_writing F (kept F (text_lists (list_from n 0 (λ j. map text (g j)))))
spelled F text g n = ap (λ (ls : List (List (List ℕ))). in_writing F (kept F (text_lists ls))) (sym (list_from_map (map text) n 0 g (λ j. map text (g j)) (λ j. refl)))

-- ---- the loop

pub loop-j-init : goal.loop-j-init
loop-j-init c =
    let a = c.args in
    let F = form_of a.f in
    going_start F (λ k. ok (column_codes a.joins F a.left.now a.right.now k)) a.n a.numbers.now a.values.now

pub note_column-k-requires-clause-by_index : goal.note_column-k-requires-clause-by_index
note_column-k-requires-clause-by_index c =
    let p = c.requires.joining in
    let j = c.loop-j.j in
    let b = laid c.args.f in (
      store_lies b p.0.lefts j (λ h. omega (arith, p.1 h)) c.column_texts-l.ensures,
      store_lies b p.0.rights j (λ h. omega (arith, p.2 h)) c.column_texts-r.ensures,
      empty_lies p.0.lefts.listed,
      empty_lies p.0.rights.listed,
    )

pub loop-j-preserved : goal.loop-j-preserved
loop-j-preserved c =
    let add = c.append_columns-t in
    let a = c.args in
    let end = c.column_end-end.ensures in
    let same = codes_alike a.joins (form_of a.f) a.left.now a.right.now c.loop-j.j c.column_end-end.result end.2 c.column_texts-l.ensures c.column_texts-r.ensures in
    going_more c.loop-j.invariant refl end.1 c.note_column-k.ensures.2 same (add.ensures _ a.n _) add.auto.numbers add.auto.values

-- ---- all columns are written

pub returns-then-category_limit-t : goal.returns-then-category_limit-t
returns-then-category_limit-t c =
    let a = c.args in
    let F = form_of a.f in
    let text = join_at F a.left.now a.right.now in
    let codes = column_codes a.joins F a.left.now a.right.now in
    let all = tallied codes c.loop-j.invariant c.loop-j-test.false in
    (texts_over F text (list_from a.n 0 codes) (all.over (omega arith)) ∙ spelled F text codes a.n, tt)

pub lay_texts-requires-clause-by_index : goal.lay_texts-requires-clause-by_index
lay_texts-requires-clause-by_index c =
    let p = c.requires.joining in
    let o = c.loop-j in
    let a = c.args in
    let F = form_of a.f in
    let codes = column_codes a.joins F a.left.now a.right.now in
    let e = standing (tallied codes o.invariant c.loop-j-test.false) (omega arith) in
    codes_stand (flatten (list_from a.n 0 codes)) (all_lie (laid a.f) p.0 a.joins a.n p.1 p.2) o.t e.1 o.values (omega arith) e.0

pub returns : goal.returns
returns c =
    let p = c.requires.joining in
    let lay = c.lay_texts in
    let o = c.loop-j in
    let a = c.args in
    let F = form_of a.f in
    let text = join_at F a.left.now a.right.now in
    let codes = column_codes a.joins F a.left.now a.right.now in
    let few : o.t ≤ F.category_limit = omega arith in
    let all = tallied codes o.invariant c.loop-j-test.false in
    let e = standing all few in
    let flat = flatten (list_from a.n 0 codes) in
    let laid = lay.ensures flat e.0 (codes_fit flat (all_lie (laid a.f) p.0 a.joins a.n p.1 p.2) o.t e.1) in
    let size = sym (list_from_length codes a.n 0) in (
      texts_laid text (list_from a.n 0 codes) few laid o.numbers size (all.count few) (all.first few) ∙ spelled F text codes a.n,
      laid_within text (list_from a.n 0 codes) few laid o.numbers p.3 (omega arith) (omega (arith, lay.auto.values)),
    )
