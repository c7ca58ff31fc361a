use Rattle.std.proofs.Common.{◌≡◌, ◌++◌, filter}
use Rattle.std.specs.List.Sorted.{IsStrictlySortedBy}
use Rattle.std.specs.Map.{keys_of}
use Rattle.fed_lattice.specs.Latest.{stamp_cmp}
use Rattle.fed_board.specs.Retiring.{is_of_range}
use Rattle.fed_board.proofs.retiring.ids_within.Given as goal

abbrev pub invariant-loop-id : goal.invariant-loop-id
invariant-loop-id g l = record {
  taken : l.ids.items ++ filter (is_of_range l.site l.range) (keys_of l.id-iterator) ≡ filter (is_of_range l.site l.range) (keys_of l.table);
  ascending : IsStrictlySortedBy stamp_cmp (keys_of l.id-iterator);
}
