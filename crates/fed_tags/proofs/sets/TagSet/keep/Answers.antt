use Rattle.std.proofs.Common.{ap, ap₂, sym, ◌∙◌, ◌≡◌, true, not, ◌||◌}
use Rattle.std.proofs.lemmas.Map.Iter.{rest_more}
use Rattle.fed_stamp.specs.Version.{covers}
use Rattle.fed_tags.specs.Tags.{pair_cmp, has}
use Rattle.fed_tags.specs.TagLaws.{pair_total, exact_pair}
use Rattle.fed_tags.proofs.TagLoops.{has_decided, kept_push, kept_skip}
use Rattle.fed_tags.proofs.sets.TagSet.keep.Goals as goal
use Rattle.fed_tags.proofs.sets.TagSet.keep.Goals.{then-contains-via-then-contains, then-contains-via-else-contains+then-not-covers}

pub loop-element-preserved-in-loop-element : goal.loop-element-preserved-in-loop-element
loop-element-preserved-in-loop-element g c =
    let R = pair_cmp g.T.Ord.cmp in
    let o = pair_total g.T.Ord.cmp g.met.T.Ord.total in
    let exact = exact_pair g.T.Ord.cmp g.met.T.Exact.exact in
    let there = has_decided R o exact (c.in-Some.element, c.in-Some.stamp) _ _ c.contains.ensures in
    let stays : (has R c.args.other.now (c.in-Some.element, c.in-Some.stamp) || not (covers c.args.theirs.now c.in-Some.stamp)) ≡ true =
    elim c.then-contains.branch [
      | then-contains-via-then-contains w ↦ ap (λ b. b || not (covers c.args.theirs.now c.in-Some.stamp)) (there ∙ w.if-contains.true)
      | then-contains-via-else-contains+then-not-covers w ↦ ap₂ (λ a b. a || not b) (there ∙ w.if-contains.false) (sym w.covers.ensures ∙ w.if-not-covers.true)
    ] in
    kept_push R o exact _ _ _ _ _ _ _ _ c.loop-element.invariant (rest_more (λ x. x) _ _ _ _ c.in-Some.is c.next.ensures.steps) stays c.in_ok-insert.ensures.ok

pub loop-element-preserved : goal.loop-element-preserved
loop-element-preserved g c =
    let R = pair_cmp g.T.Ord.cmp in
    let o = pair_total g.T.Ord.cmp g.met.T.Ord.total in
    let exact = exact_pair g.T.Ord.cmp g.met.T.Exact.exact in
    let there = has_decided R o exact (c.in-Some.element, c.in-Some.stamp) _ _ c.contains.ensures in
    kept_skip R o exact _ _ _ _ _ _ _ c.loop-element.invariant (rest_more (λ x. x) _ _ _ _ c.in-Some.is c.next.ensures.steps)
    (ap₂ (λ a b. a || not b) (there ∙ c.if-contains.false) (sym c.covers.ensures ∙ c.if-not-covers.false))
