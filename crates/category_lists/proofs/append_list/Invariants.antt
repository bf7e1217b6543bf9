-- The invariant of `category_lists::append_list`: what is written of each array, with the values that are left, is the whole of it.
use Rattle.std.proofs.Common.{◌≡◌, ◌++◌, ◌+◌, ◌*◌, take, drop}
use Rattle.octets.specs.Wrote.{Pending}
use Rattle.base.specs.Form.{form_of}
use Rattle.base.specs.Encode.{whole_bits, number_bytes, list_bytes}
use Rattle.category_lists.proofs.append_list.Given as goal

abbrev pub invariant-loop-v : goal.invariant-loop-v
invariant-loop-v l = record {
  at : l.at ≡ (form_of l.f).number_width * (l.t + l.v-index);
  place : l.place ≡ 8 * (l.t + l.v-index);
  first : Pending l.numbers l.at (number_bytes (form_of l.f) l.j (drop l.v-index l.v-items)) (take ((form_of l.f).number_width * l.t) l.initial.numbers ++ number_bytes (form_of l.f) l.j l.v-items);
  second : Pending l.values l.place (list_bytes whole_bits (drop l.v-index l.v-items)) (take (8 * l.t) l.initial.values ++ list_bytes whole_bits l.v-items);
}
