use Rattle.std.proofs.Common.{◌≡◌, ◌++◌, drop, ap, ◌∙◌}
use Rattle.fed_tags.specs.Tags.{pair_cmp, lacking}
use Rattle.fed_tags.specs.TagLaws.{pair_total, exact_pair}
use Rattle.fed_tags.proofs.GroupLaws.{sorted_view}
use Rattle.fed_tags.proofs.TagLoops.{has_decided, lacking_push, lacking_skip}
use Rattle.fed_tags.proofs.sets.TagSet.find_lacking.Goals as goal
use Rattle.fed_tags.proofs.sets.TagSet.find_lacking.Goals.{then-not-contains+in_ok-push, else-not-contains}
use Rattle.fed_lattice.proofs.EntryLoops.{drop_item}

pub loop-element-preserved : goal.loop-element-preserved
loop-element-preserved g c =
    let R = pair_cmp g.T.Ord.cmp in
    let o = pair_total g.T.Ord.cmp g.met.T.Ord.total in
    let exact = exact_pair g.T.Ord.cmp g.met.T.Exact.exact in
    let there = has_decided R o exact _ _ _ c.contains.ensures in
    let next = drop_item _ _ _ c.loop-element-test.true c.element-item.is in
    elim c.if-not-contains.branch [
      | then-not-contains+in_ok-push w ↦
          let e : c.if-not-contains.found.items ≡ w.push.new.self.items = cc in
          lacking_push R o exact _ _ _ _ _ _ _ _ c.loop-element.invariant next (there ∙ w.if-not-contains.true) (e ∙ w.in_ok-push.ensures.items)
      | else-not-contains w ↦
          let e : c.if-not-contains.found.items ≡ c.loop-element.found.items = cc in
          lacking_skip R o exact _ _ _ _ _ _ _ (ap (λ l. l ++ lacking R c.args.self.now c.args.at (drop c.loop-element.element-index c.args.elements.now)) e ∙ c.loop-element.invariant) next (there ∙ w.if-not-contains.false)
    ]

pub returns-clause-ascending : goal.returns-clause-ascending
returns-clause-ascending g c = sorted_view g.T.Ord.cmp g.met.T.Ord.total _ _ c.self.view_is c.self.invariant
