use Rattle.std.proofs.Common.{refl, subst}
use Rattle.std.proofs.lemmas.List.{drop_all}
use Rattle.fed_lattice.specs.Table.{IsTable}
use Rattle.fed_lattice.proofs.EntryLoops.{drop_item, removing_more, removing_end}
use Rattle.fed_lattice.proofs.tables.Table.remove_keys.Goals as goal

pub loop-key-init : goal.loop-key-init
loop-key-init g c = record {
  left = refl;
  sorted = (subst (IsTable g.K.Ord.cmp g.V.Causal.well_formed) c.self.view_is c.self.invariant).0;
}

pub loop-key-preserved : goal.loop-key-preserved
loop-key-preserved g c =
    removing_more g.K.Ord.cmp g.met.K.Ord.total g.met.K.Exact.exact _ _ _ _ _ _ c.loop-key.invariant
    (drop_item _ _ _ c.loop-key-test.true c.key-item.is) c.remove.ensures.removed

pub returns : goal.returns
returns g c = removing_end g.K.Ord.cmp g.met.K.Ord.total g.met.K.Exact.exact _ _ _ c.loop-key.invariant (drop_all _ _ c.loop-key-test.false)
