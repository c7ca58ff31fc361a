use Rattle.std.proofs.Common.{sym, subst, BTreeMap}
use Rattle.fed_lattice.specs.Table.{IsTable}
use Rattle.fed_lattice.specs.TableJoinLaws.{well_formed_insert}
use Rattle.fed_lattice.proofs.TableWrites.{inserted_present, well_formed_present}
use Rattle.fed_lattice.proofs.tables.Table.insert.Goals as goal

pub invariant_of-self : goal.invariant_of-self
invariant_of-self g c =
    well_formed_present g.K.Ord.cmp g.met.K.Ord.total _ _ _ _ _ _ c.self.view_is c.in-Some.ensures.value (c.get_mut.follows.holds c.replace.new.self).0
    g.V.Causal.well_formed c.self.invariant (subst g.V.Causal.well_formed (sym c.replace.ensures.after) c.requires)

pub returns-in-Some-clause-inserted : goal.returns-in-Some-clause-inserted
returns-in-Some-clause-inserted g c =
    inserted_present g.K.Ord.cmp g.met.K.Ord.total _ _ _ _ _ _ c.self.view_is c.in-Some.ensures.value (c.get_mut.follows.holds c.replace.new.self).0
    _ c.self.invariant.0 c.replace.ensures.after

pub invariant_of-self-2 : goal.invariant_of-self-2
invariant_of-self-2 g c =
    let wf = g.V.Causal.well_formed in
    let m : IsTable g.K.Ord.cmp wf c.get_mut.follows.lender-at-none.entries = subst (λ (m : BTreeMap g.row.K.Denot g.row.V.Denot). IsTable g.K.Ord.cmp wf m.entries) (sym c.get_mut.follows.holds-at-none) c.self.invariant in
    subst (IsTable g.K.Ord.cmp wf) (sym c.in_ok-insert.ensures.entries)
    (well_formed_insert g.K.Ord.cmp g.met.K.Ord.total wf _ _ _ m (subst wf (sym c.in_ok-new.ensures) c.requires))
