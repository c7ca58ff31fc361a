use Rattle.fed_lattice.specs.Table.{value_at}
use Rattle.fed_lattice.proofs.EntryJoins.{IsJoining}
use Rattle.fed_lattice.proofs.tables.Table.join_values.Given as goal

abbrev pub invariant-loop-key : goal.invariant-loop-key
invariant-loop-key g l =
    let at = value_at g.K.Ord.cmp g.V.Causal.bottom in
    IsJoining g.K.Ord.cmp g.met.K.Ord.total g.met.K.Exact.exact g.V.Causal.well_formed
    (λ k. g.V.Causal.joined (at l.initial.self k) l.mine (at l.other k) l.theirs) l.other l.initial.self l.self l.key-iterator l.replaced.added.items l.replaced.former.items
