use Rattle.std.proofs.Common.{◌≡◌, length}
use Rattle.std.specs.Map.{keys_of}
use Rattle.std.specs.Vec.Iter.{into_iter_items, into_iter_len}
use Rattle.fed_lattice.specs.Table.{filled, value_at}
use Rattle.fed_lattice.proofs.EntryLoops.{IsReplacing}
use Rattle.fed_lattice.proofs.tables.Table.replace.Given as goal

abbrev pub invariant-loop-key : goal.invariant-loop-key
invariant-loop-key g l =
    IsReplacing g.K.Ord.cmp g.met.K.Ord.total g.met.K.Exact.exact l.fn.former.items l.self-inside.entries.entries (into_iter_items l.key-iterator) (filled g.K.Ord.cmp (value_at g.K.Ord.cmp g.V.Causal.bottom l.fn.former.items) l.fn.self (keys_of l.fn.former.items)) g.V.Causal.bottom
    × (into_iter_len l.key-iterator ≡ length (into_iter_items l.key-iterator))
