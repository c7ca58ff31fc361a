use Rattle.std.proofs.Common.{sym, subst}
use Rattle.std.specs.Map.{values_of}
use Rattle.std.specs.List.{All}
use Rattle.std.proofs.lemmas.Map.Views.{All-map-remove_entry}
use Rattle.fed_lattice.proofs.tables.Table.remove.Goals as goal

pub invariant_of-self : goal.invariant_of-self
invariant_of-self g c = (
  c.remove.ensures.ordered,
  subst (λ es. All g.V.Causal.well_formed (values_of es)) (sym c.remove.ensures.entries) (All-map-remove_entry _ (λ e. e.1) g.V.Causal.well_formed _ c.self.invariant.1),
)

pub invariant_of-self-2 : goal.invariant_of-self-2
invariant_of-self-2 g c = (
  c.remove.ensures.ordered,
  subst (λ es. All g.V.Causal.well_formed (values_of es)) (sym c.remove.ensures.entries) (All-map-remove_entry _ (λ e. e.1) g.V.Causal.well_formed _ c.self.invariant.1),
)
