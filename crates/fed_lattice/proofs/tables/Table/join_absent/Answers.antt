use Rattle.std.proofs.Common.{sym, subst}
use Rattle.fed_lattice.specs.Table.{IsTable}
use Rattle.fed_lattice.specs.TableJoinLaws.{well_formed_insert}
use Rattle.fed_lattice.proofs.tables.Table.join_absent.Goals as goal

pub invariant_of-self-2 : goal.invariant_of-self-2
invariant_of-self-2 g c =
    let wf = g.V.Causal.well_formed in
    let n = c.in_ok-joined.ensures.well_formed in
    let j : wf c.in_ok-joined.joined = subst wf (sym c.in_ok-joined.ensures.joined) (g.met.V.Causal.well_formed_joined _ _ c.args.mine.now c.args.theirs.now n.0 n.1) in
    let w : wf c.in_ok-new.field-0 = subst wf (sym c.in_ok-new.ensures) j in
    subst (IsTable g.K.Ord.cmp wf) (sym c.in_ok-insert.ensures.entries) (well_formed_insert g.K.Ord.cmp g.met.K.Ord.total wf _ _ _ c.self.invariant w)
