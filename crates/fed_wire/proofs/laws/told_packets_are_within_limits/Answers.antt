use Rattle.std.specs.List.Sorted.{IsStrictlySortedBy}
use Rattle.std.specs.Map.{keys_of}
use Rattle.std.specs.Ordering.{nat_cmp}
use Rattle.std.proofs.Common.{◌≡◌, ap, subst, ◌∙◌, arith}
use Rattle.fed_stamp.specs.Version.{IsVersion}
use Rattle.fed_lattice.specs.Latest.{stamp_cmp}
use Rattle.fed_board.specs.Board.{BoardValue, IsBoard, board_reads}
use Rattle.fed_model.specs.Identifiers.{jobs_in, reservations_in}
use Rattle.fed_delta.specs.Delta.{DeltaValue}
use Rattle.fed_wire.proofs.LimitLaws.{HaveSortedTags, IsMade, sorted_tags, told_within}
use Rattle.fed_wire.proofs.laws.told_packets_are_within_limits.Goals as goal

pub returns : goal.returns
returns c =
    let p = c.args.packet.now in
    let delta = c.delta-delta.ensures in
    let changes : c.changes-changes.result.now ≡ p.delta.changes = c.changes-changes.ensures ∙ ap (λ (d : DeltaValue). d.changes) delta in
    let order = c.records_are_in_order.ensures in
    let tags = sorted_tags c.changes-changes.result.now.jobs (λ k d l. let w = order.well_formed k d l in (w.2, w.3)) in
    let made : IsMade p = record {
      sender = omega (arith, c.sender_is_in_range.ensures);
      need = subst IsVersion (c.need.ensures ∙ ap (λ (d : DeltaValue). d.need) delta) c.version_is_in_range.ensures;
      reached = subst IsVersion (c.reached.ensures.version ∙ ap (λ (d : DeltaValue). d.changes.version) delta) c.version_is_in_range-2.ensures;
      board = subst IsBoard changes c.records_are_covered.ensures;
      jobs_ascend = subst (λ (b : BoardValue). IsStrictlySortedBy stamp_cmp (keys_of b.jobs)) changes order.jobs_ascend;
      reservations_ascend = subst (λ (b : BoardValue). IsStrictlySortedBy stamp_cmp (keys_of b.reservations)) changes order.reservations_ascend;
      jobs = subst (λ (b : BoardValue). keys_of b.jobs ≡ jobs_in (board_reads b)) changes order.jobs;
      reservations = subst (λ (b : BoardValue). keys_of b.reservations ≡ reservations_in (board_reads b)) changes order.reservations;
      tags = subst (λ (b : BoardValue). HaveSortedTags b.jobs) changes tags;
      sites = subst (λ (b : BoardValue). IsStrictlySortedBy nat_cmp (keys_of b.retired)) changes order.retired.0;
    } in
    told_within p made
