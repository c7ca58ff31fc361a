use Rattle.std.proofs.Common.{List, unwrap_or, refl, sym, ap, ap₂, subst, ◌∙◌}
use Rattle.std.specs.Map.Iter.{deref_pair}
use Rattle.std.proofs.lemmas.Map.Iter.{rest_more}
use Rattle.fed_lattice.specs.Table.{IsTable, value_at}
use Rattle.fed_lattice.specs.FormerValues.{AreFormer, put_back}
use Rattle.fed_lattice.specs.TableJoinLaws.{value_at_well_formed}
use Rattle.fed_lattice.proofs.EntryJoins.{joining_more, joining_former, joining_back, theirs, untouched}
use Rattle.fed_lattice.proofs.tables.Table.join_values.Goals as goal

pub put_back-requires : goal.put_back-requires
put_back-requires g c =
    let wf = g.V.Causal.well_formed in
    let e = c.in-Err.ensures in
    subst (λ (es : List (g.row.K.Denot × g.row.V.Denot)). AreFormer g.K.Ord.cmp wf es c.join_kept.new.replaced.former.items) (sym e.unchanged)
    (subst (AreFormer g.K.Ord.cmp wf c.loop-key.self) (sym e.former)
    (joining_former g.K.Ord.cmp g.met.K.Ord.total g.met.K.Exact.exact wf _ _ _ _ _ _ _ c.loop-key.invariant))

pub returns-in-Err-clause-unchanged : goal.returns-in-Err-clause-unchanged
returns-in-Err-clause-unchanged g c =
    let R = g.K.Ord.cmp in
    let e = c.in-Err.ensures in
    c.put_back.ensures
    ∙ ap₂ (λ (es former : List (g.row.K.Denot × g.row.V.Denot)). put_back R g.V.Causal.bottom es former c.join_kept.new.replaced.added.items) e.unchanged e.former
    ∙ ap (put_back R g.V.Causal.bottom c.loop-key.self c.loop-key.replaced.former.items) e.added
    ∙ joining_back R g.met.K.Ord.total g.met.K.Exact.exact g.V.Causal.well_formed _ _ _ _ _ _ _ c.loop-key.invariant g.V.Causal.bottom
    (subst (IsTable R g.V.Causal.well_formed) c.self.view_is c.self.invariant).0

pub loop-key-preserved : goal.loop-key-preserved
loop-key-preserved g c =
    let R = g.K.Ord.cmp in
    let o = g.met.K.Ord.total in
    let exact = g.met.K.Exact.exact in
    let wf = g.V.Causal.well_formed in
    let bottom = g.V.Causal.bottom in
    let at = value_at R bottom in
    let f : g.row.K.Denot → g.row.V.Denot = λ k. g.V.Causal.joined (at c.args.self.now k) c.args.mine.now (at c.args.other.now k) c.args.theirs.now in
    let p = c.loop-key.invariant in
    let first = rest_more deref_pair _ _ _ _ c.in-Some.is c.next.ensures.steps in
    let mine = subst (IsTable R wf) c.self.view_is c.self.invariant in
    let given = subst (IsTable R wf) c.other.view_is c.other.invariant in
    joining_more R o exact wf f c.args.other.now c.args.self.now _ _ _ _ _ _ _ p first _ _
    (ap₂ (λ x y. g.V.Causal.joined x c.args.mine.now y c.args.theirs.now)
    (ap (λ a. unwrap_or a bottom) (untouched R o exact wf f _ _ _ _ _ _ _ _ _ p first))
    (c.get.ensures ∙ sym (theirs R o exact wf f _ _ _ _ _ _ _ _ _ p first bottom)))
    c.in_default.ensures.joined
    (λ k. g.met.V.Causal.well_formed_joined _ _ c.args.mine.now c.args.theirs.now
    (value_at_well_formed R o wf bottom g.met.V.Causal.well_formed_bottom _ k mine)
    (value_at_well_formed R o wf bottom g.met.V.Causal.well_formed_bottom _ k given))
    _ _ _ refl c.in_default.ensures.kept

pub returns-clause-back : goal.returns-clause-back
returns-clause-back g c =
    joining_back g.K.Ord.cmp g.met.K.Ord.total g.met.K.Exact.exact g.V.Causal.well_formed _ _ _ _ _ _ _ c.loop-key.invariant g.V.Causal.bottom
    (subst (IsTable g.K.Ord.cmp g.V.Causal.well_formed) c.self.view_is c.self.invariant).0
