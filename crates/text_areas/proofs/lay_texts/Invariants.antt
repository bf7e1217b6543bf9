-- The invariant of `text_areas::lay_texts`: i texts are laid, and the joins of the others stand where they stood.
use Rattle.std.proofs.Common.{◌≤◌}
use Rattle.base.specs.Form.{form_of}
use Rattle.text_areas.proofs.Laying.{Laying}
use Rattle.text_areas.proofs.lay_texts.Given as goal

abbrev pub invariant-loop-i : goal.invariant-loop-i
invariant-loop-i l = record { within : l.at ≤ (form_of l.f).text_limit; laying : Laying (form_of l.f) l.left l.right l.initial.values l.t l.i l.at l.values }
