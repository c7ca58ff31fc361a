use Rattle.std.specs.Map.{keys_of}
use Rattle.fed_lattice.specs.Table.{filled, value_at}
use Rattle.fed_lattice.proofs.TableLoops.{IsFilling}
use Rattle.fed_lattice.proofs.tables.Table.join_into.Given as goal

abbrev pub invariant-loop-key : goal.invariant-loop-key
invariant-loop-key g l =
    let f = λ (k : g.row.K.Denot). g.V.Causal.joined (value_at g.K.Ord.cmp g.V.Causal.bottom l.self k) l.mine (value_at g.K.Ord.cmp g.V.Causal.bottom l.other k) l.theirs in
    IsFilling g.K.Ord.cmp g.met.K.Ord.total g.met.K.Exact.exact f (filled g.K.Ord.cmp f l.initial.entries.entries (keys_of l.wanted)) l.entries.entries l.key-iterator
