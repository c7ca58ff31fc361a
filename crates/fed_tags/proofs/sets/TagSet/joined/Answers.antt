use Rattle.std.proofs.Common.{ap, ◌∙◌}
use Rattle.fed_tags.specs.Tags.{pair_cmp, inserted, kept}
use Rattle.fed_tags.specs.TagLaws.{pair_total, exact_pair}
use Rattle.fed_tags.proofs.TagLoops.{kept_both}
use Rattle.fed_tags.proofs.sets.TagSet.joined.Goals as goal

pub returns-clause-joined : goal.returns-clause-joined
returns-clause-joined g c =
    let R = pair_cmp g.T.Ord.cmp in
    c.in_ok-keep-2.ensures.kept
    ∙ ap (λ l. inserted R l (kept R c.args.self.now c.args.mine.now c.args.other.now))
    (c.in_ok-keep.ensures.kept ∙ ap (λ l. inserted R l (kept R c.args.other.now c.args.theirs.now c.args.self.now)) c.new-joined.ensures)
    ∙ kept_both R (pair_total g.T.Ord.cmp g.met.T.Ord.total) (exact_pair g.T.Ord.cmp g.met.T.Exact.exact) c.args.self.now c.args.other.now c.args.mine.now c.args.theirs.now
