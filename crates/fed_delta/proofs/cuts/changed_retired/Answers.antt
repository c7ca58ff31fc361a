use Rattle.std.specs.List.Sorted.{IsStrictlySortedBy}
use Rattle.std.specs.Cmp.{nat_cmp_total}
use Rattle.std.specs.Map.{keys_of}
use Rattle.std.specs.Map.Iter.{deref_pair}
use Rattle.std.specs.Ordering.{nat_cmp}
use Rattle.std.specs.Prelude.{nat_lt}
use Rattle.std.proofs.Common.{sym, subst, ◌∙◌}
use Rattle.std.proofs.lemmas.Bool.{le-ltb, lt-ltb}
use Rattle.std.proofs.lemmas.Map.Iter.{rest_more}
use Rattle.fed_ranges.specs.Retired.{RetiredValue}
use Rattle.fed_board.proofs.FilterLoops.{filtered_more, filtered_skip}
use Rattle.fed_delta.specs.Retired.{is_beyond}
use Rattle.fed_delta.proofs.cuts.changed_retired.Goals as goal

pub loop-site-preserved-in_ok-insert : goal.loop-site-preserved-in_ok-insert
loop-site-preserved-in_ok-insert c =
    let first = rest_more deref_pair _ _ _ _ c.in-Some.is c.next.ensures.steps in
    filtered_more nat_cmp nat_cmp_total (is_beyond c.args.need.now) _ _ _ _ _ _ _ _ c.loop-site.invariant first
    ((λ i. nat_lt (sym c.get.ensures i) (sym c.latest.ensures i)) ∙ lt-ltb _ _ c.if-get-latest.true)
    (subst (λ (r : RetiredValue). IsStrictlySortedBy nat_cmp (keys_of r)) c.retired.ensures.value c.iter-site-items.ensures.well_formed.0)
    c.in_ok-copy.ensures.same c.in_ok-insert.ensures.inserted

pub loop-site-preserved-in_ok-insert-2 : goal.loop-site-preserved-in_ok-insert-2
loop-site-preserved-in_ok-insert-2 c =
    let first = rest_more deref_pair _ _ _ _ c.in-Some.is c.next.ensures.steps in
    filtered_more nat_cmp nat_cmp_total (is_beyond c.args.need.now) _ _ _ _ _ _ _ _ c.loop-site.invariant first
    ((λ i. nat_lt (sym c.get.ensures i) (sym c.latest.ensures i)) ∙ lt-ltb _ _ c.if-get-latest.true)
    (subst (λ (r : RetiredValue). IsStrictlySortedBy nat_cmp (keys_of r)) c.retired.ensures.value c.iter-site-items.ensures.well_formed.0)
    c.in_ok-copy.ensures.same c.in_ok-insert.ensures.inserted

pub loop-site-preserved : goal.loop-site-preserved
loop-site-preserved c =
    let first = rest_more deref_pair _ _ _ _ c.in-Some.is c.next.ensures.steps in
    filtered_skip nat_cmp nat_cmp_total (is_beyond c.args.need.now) _ _ _ _ _ _ c.loop-site.invariant first
    ((λ i. nat_lt (sym c.get.ensures i) (sym c.latest.ensures i)) ∙ le-ltb _ _ c.if-get-latest.false)
