use Rattle.std.proofs.Common.{drop}
use Rattle.fed_lattice.specs.JoinedEntries.{without}
use Rattle.fed_lattice.proofs.EntryLoops.{IsRemoving}
use Rattle.fed_lattice.proofs.tables.Table.remove_keys.Given as goal

abbrev pub invariant-loop-key : goal.invariant-loop-key
invariant-loop-key g l = IsRemoving g.K.Ord.cmp g.met.K.Ord.total g.met.K.Exact.exact l.self (drop l.key-index l.keys) (without g.K.Ord.cmp l.initial.self l.keys)
