use Rattle.std.proofs.Common.{sym, subst}
use Rattle.fed_lattice.specs.Table.{IsTable}
use Rattle.fed_lattice.specs.TableJoinLaws.{well_formed_insert}
use Rattle.fed_lattice.proofs.tables.Table.apply_absent.Goals as goal

pub invariant_of-self-2 : goal.invariant_of-self-2
invariant_of-self-2 g c =
    let wf = g.V.Causal.well_formed in
    let b : wf c.bottom-value.result = subst wf (sym c.bottom-value.ensures) g.met.V.Causal.well_formed_bottom in
    let a : wf c.apply.new.self = subst wf (sym c.in_ok-apply.ensures.applied) (g.met.V.Causal.well_formed_applied _ _ _ b) in
    let w : wf c.in_ok-new.field-0 = subst wf (sym c.in_ok-new.ensures) a in
    subst (IsTable g.K.Ord.cmp wf) (sym c.in_ok-insert.ensures.entries) (well_formed_insert g.K.Ord.cmp g.met.K.Ord.total wf _ _ _ c.self.invariant w)
