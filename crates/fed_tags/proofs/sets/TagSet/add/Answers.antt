use Rattle.std.proofs.Common.{ap, sym, refl, subst, ◌∙◌, ◌≡◌, drop}
use Rattle.std.proofs.lemmas.List.{drop_all}
use Rattle.std.specs.List.Sorted.{IsStrictlySortedBy}
use Rattle.fed_tags.specs.Tags.{pair_cmp, stamped, inserted, without, lacking}
use Rattle.fed_tags.specs.TagLaws.{pair_total, exact_pair}
use Rattle.fed_lattice.specs.KeySetLaws.{sorted_insert_key}
use Rattle.fed_lattice.proofs.EntryLoops.{drop_item}
use Rattle.fed_tags.proofs.TagLoops.{inserted_more, inserted_all, inserted_lacking, taken_back}
use Rattle.fed_tags.proofs.sets.TagSet.add.Goals as goal

pub loop-element-init : goal.loop-element-init
loop-element-init g c =
    let R = pair_cmp g.T.Ord.cmp in
    record {
      left = refl;
      ascending = subst (IsStrictlySortedBy R) (sym c.in_ok-make_room.ensures.unchanged) c.in_ok-fresh.ensures.ascending;
    }

pub loop-element-preserved : goal.loop-element-preserved
loop-element-preserved g c =
    let R = pair_cmp g.T.Ord.cmp in
    record {
      left = inserted_more R _ _ _ _ _ _ c.loop-element.invariant.left (ap (stamped c.args.at) (drop_item _ _ _ c.loop-element-test.true c.element-item.is)) c.in_default.ensures.ok;
      ascending = subst (IsStrictlySortedBy R) (sym c.in_default.ensures.ok) (sorted_insert_key R (pair_total g.T.Ord.cmp g.met.T.Ord.total) c.loop-element.self (c.element-item.result, c.args.at) c.loop-element.invariant.ascending);
    }

pub returns-in-Err-clause-unchanged : goal.returns-in-Err-clause-unchanged
returns-in-Err-clause-unchanged g c =
    let R = pair_cmp g.T.Ord.cmp in
    let found : c.deref-element-items.result.now ≡ lacking R c.args.self.now c.args.at c.args.elements.now = c.deref-element-items.ensures.value ∙ c.in_ok-fresh.ensures.found in
    let left = c.loop-element.invariant.left ∙ ap (λ s. inserted R s (stamped c.args.at c.deref-element-items.result.now)) c.in_ok-make_room.ensures.unchanged in
    taken_back R (pair_total g.T.Ord.cmp g.met.T.Ord.total) (exact_pair g.T.Ord.cmp g.met.T.Exact.exact) c.insert.new.self _ c.args.self.now c.args.at c.args.elements.now c.loop-element.element-index
    (subst (IsStrictlySortedBy R) (sym c.in-Err.ensures.unchanged) c.loop-element.invariant.ascending) c.in_ok-fresh.ensures.ascending
    (ap (λ l. inserted R l (stamped c.args.at (drop c.loop-element.element-index (lacking R c.args.self.now c.args.at c.args.elements.now)))) c.in-Err.ensures.unchanged
    ∙ subst (λ fresh. inserted R c.loop-element.self (stamped c.args.at (drop c.loop-element.element-index fresh)) ≡ inserted R c.args.self.now (stamped c.args.at fresh)) found left)
    (c.remove_stamped.ensures ∙ ap (λ fresh. without R c.insert.new.self (stamped c.args.at fresh)) (c.deref.ensures.value ∙ c.in_ok-fresh.ensures.found))

pub returns-clause-added : goal.returns-clause-added
returns-clause-added g c =
    let R = pair_cmp g.T.Ord.cmp in
    let left = c.loop-element.invariant.left ∙ ap (λ s. inserted R s (stamped c.args.at c.deref-element-items.result.now)) c.in_ok-make_room.ensures.unchanged in
    inserted_all R _ _ _ left (ap (stamped c.args.at) (drop_all _ _ c.loop-element-test.false))
    ∙ ap (λ fresh. inserted R c.args.self.now (stamped c.args.at fresh)) (c.deref-element-items.ensures.value ∙ c.in_ok-fresh.ensures.found)
    ∙ inserted_lacking R (pair_total g.T.Ord.cmp g.met.T.Ord.total) (exact_pair g.T.Ord.cmp g.met.T.Exact.exact) c.args.self.now c.args.at c.args.elements.now c.in_ok-fresh.ensures.ascending
