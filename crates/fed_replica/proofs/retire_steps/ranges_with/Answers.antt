use Rattle.std.specs.BTreeMap.{is_at}
use Rattle.std.specs.Map.{lookup}
use Rattle.std.specs.Ordering.{nat_cmp}
use Rattle.std.proofs.Common.{◌≡◌, [], Option, Some, None, unwrap_or, ap, ◌∙◌}
use Rattle.fed_ranges.specs.Retired.{RetiredValue}
use Rattle.fed_ranges.specs.Retirements.{RetirementsValue, no_retirements}
use Rattle.fed_replica.proofs.RangesWith.{counted}
use Rattle.fed_replica.proofs.retire_steps.ranges_with.Goals as goal

pub returns-in-Some : goal.returns-in-Some
returns-in-Some c =
    let there : Some c.in-Some.retirements.now ≡ lookup (is_at (nat_cmp c.args.here)) c.args.board.now.retired =
    c.in-Some.ensures.value ∙ ap (λ (r : RetiredValue). lookup (is_at (nat_cmp c.args.here)) r) c.retired.ensures.value in
    c.len_with.ensures
    ∙ counted c.args.board.now c.args.here c.args.first c.args.last c.board_is_covered.ensures c.requires c.ranges-in-Some.result.now
    (c.ranges-in-Some.ensures ∙ ap (λ (o : Option RetirementsValue). (unwrap_or o no_retirements).ranges) there)

pub returns-in-None : goal.returns-in-None
returns-in-None c =
    let absent : None ≡ lookup (is_at (nat_cmp c.args.here)) c.args.board.now.retired =
    c.in-None.ensures.value ∙ ap (λ (r : RetiredValue). lookup (is_at (nat_cmp c.args.here)) r) c.retired.ensures.value in
    counted c.args.board.now c.args.here c.args.first c.args.last c.board_is_covered.ensures c.requires []
    (ap (λ (o : Option RetirementsValue). (unwrap_or o no_retirements).ranges) absent)
