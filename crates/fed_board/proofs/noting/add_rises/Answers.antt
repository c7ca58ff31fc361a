use Rattle.std.proofs.Common.{◌≡◌, ◌<◌, ◌≤◌, ◌∷◌, ◌++◌, [], List, Vec, Global, slice_index, below_more, arith, sym, ap, subst, ◌∙◌}
use Rattle.fed_lattice.specs.Sets.{Has}
use Rattle.fed_lattice.specs.SetLaws.{Has-left, Has-last}
use Rattle.fed_board.specs.declared.rises.Rise.{Rise}
use Rattle.fed_board.proofs.noting.add_rises.Goals as goal
use Rattle.fed_board.proofs.noting.add_rises.Goals.{then-counters-site+in_ok-push, else-counters-site}

pub loop-site-preserved : goal.loop-site-preserved
loop-site-preserved c = elim c.if-counters-site.branch [
  | then-counters-site+in_ok-push w ↦
      let site = c.loop-site.site in
      let old : List Rise = c.loop-site.rises.items in
      let rise : Rise = record { counter = slice_index c.args.theirs.now site; site = site; job = c.args.job } in
      let counter : w.from-counter.result ≡ slice_index c.args.theirs.now site = w.from-counter.ensures ∙ ap (λ t. slice_index t site) c.counters.ensures.same in
      let items : c.if-counters-site.rises.items ≡ old ++ rise ∷ [] =
      ap (λ (v : Vec Rise Global). v.items) w.rises-is ∙ w.in_ok-push.ensures.items ∙ ap (λ k. old ++ (record { counter = k; site = site; job = c.args.job }) ∷ []) counter in
      record {
        kept = λ x h. subst (λ xs. Has xs x) (sym items) (Has-left old (rise ∷ []) x (c.loop-site.invariant.kept x h));
        added = below_more (λ s. slice_index c.args.mine.now s < slice_index c.args.theirs.now s → Has c.if-counters-site.rises.items (record { counter = slice_index c.args.theirs.now s; site = s; job = c.args.job })) site
            (λ s lt less. subst (λ xs. Has xs (record { counter = slice_index c.args.theirs.now s; site = s; job = c.args.job })) (sym items) (Has-left old (rise ∷ []) _ (c.loop-site.invariant.added s lt less)))
            (λ less. subst (λ xs. Has xs rise) (sym items) (Has-last old rise));
      }
  | else-counters-site w ↦
      let site = c.loop-site.site in
      let items : c.if-counters-site.rises.items ≡ c.loop-site.rises.items = ap (λ (v : Vec Rise Global). v.items) w.rises-is in
      let most : slice_index c.args.theirs.now site ≤ slice_index c.args.mine.now site = rw (c.counters.ensures.same, c.counters-in-loop-site.ensures.same) at w.if-counters-site.false in
      record {
        kept = λ x h. subst (λ xs. Has xs x) (sym items) (c.loop-site.invariant.kept x h);
        added = below_more (λ s. slice_index c.args.mine.now s < slice_index c.args.theirs.now s → Has c.if-counters-site.rises.items (record { counter = slice_index c.args.theirs.now s; site = s; job = c.args.job })) site
            (λ s lt less. subst (λ xs. Has xs (record { counter = slice_index c.args.theirs.now s; site = s; job = c.args.job })) (sym items) (c.loop-site.invariant.added s lt less))
            (λ less. absurd (omega (arith, less, most)));
      }
]
