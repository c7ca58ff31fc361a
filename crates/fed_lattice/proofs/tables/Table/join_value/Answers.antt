use Rattle.std.proofs.Common.{sym, subst}
use Rattle.fed_lattice.proofs.TableWrites.{on_err_from, joined_present, unchanged_present, well_formed_present, value_well_formed_present}
use Rattle.fed_lattice.proofs.tables.Table.join_value.Goals as goal

pub invariant_of-self : goal.invariant_of-self
invariant_of-self g c =
    let wf = g.V.Causal.well_formed in
    let v : wf c.in-Some.place.now = value_well_formed_present g.K.Ord.cmp g.met.K.Ord.total wf _ _ _ c.self.invariant c.in-Some.ensures.value in
    well_formed_present g.K.Ord.cmp g.met.K.Ord.total _ _ _ _ _ _ c.self.view_is c.in-Some.ensures.value (c.get_mut.follows.holds c.join.new.self).0 wf c.self.invariant
    (subst wf (sym c.in_err-former.ensures.unchanged) v)

pub returns-in_err-former-clause-unchanged : goal.returns-in_err-former-clause-unchanged
returns-in_err-former-clause-unchanged g c = on_err_from c.from_residual.result
    (unchanged_present g.K.Ord.cmp g.met.K.Ord.total _ _ _ _ _ _ c.self.view_is c.in-Some.ensures.value (c.get_mut.follows.holds c.join.new.self).0 c.in_err-former.ensures.unchanged)

pub invariant_of-self-in-Some : goal.invariant_of-self-in-Some
invariant_of-self-in-Some g c =
    let wf = g.V.Causal.well_formed in
    let n = c.in_ok-former.ensures.well_formed in
    well_formed_present g.K.Ord.cmp g.met.K.Ord.total _ _ _ _ _ _ c.self.view_is c.in-Some.ensures.value (c.get_mut.follows.holds c.join.new.self).0 wf c.self.invariant
    (subst wf (sym c.in_ok-former.ensures.joined) (g.met.V.Causal.well_formed_joined _ _ c.args.mine.now c.args.theirs.now n.0 n.1))

pub returns-in-Some-clause-joined : goal.returns-in-Some-clause-joined
returns-in-Some-clause-joined g c =
    joined_present g.K.Ord.cmp g.met.K.Ord.total _ _ _ _ _ _ c.self.view_is c.in-Some.ensures.value (c.get_mut.follows.holds c.join.new.self).0
    g.V.Causal.bottom (λ x. g.V.Causal.joined x c.args.mine.now c.args.other.now c.args.theirs.now) c.self.invariant.0 c.in_ok-former.ensures.joined
