use Rattle.fed_stamp.proofs.VersionLaws.{joined-itself}
use Rattle.std.proofs.Common.{None}
use Rattle.fed_lattice.specs.Register.{joined_registers}
use Rattle.fed_record.specs.JobRecordSteps.{joined_record}
use Rattle.fed_theory.specs.ValueOrders.{option_window_cmp}
use Rattle.fed_ranges.specs.Retired.{has_retired}
use Rattle.fed_board.specs.Board.{no_operation}
use Rattle.fed_board.proofs.MergedParts.{part_itself}
use Rattle.fed_board.proofs.RetiredTables.{all_apart}
use Rattle.fed_board.proofs.merging.merging_is_idempotent.Goals as goal

pub returns : goal.returns
returns c =
    let x = c.args.a.now in
    let s = c.tables_are_well_formed.ensures in
    let k = c.board_is_covered.ensures in
    let p = all_apart x.version x.retired k.retired in
    let version = joined-itself x.version in
    let retired = c.joins_are_idempotent.ensures x.retired x.version s.retired in
    let jobs = part_itself no_operation joined_record x.retired x.jobs x.version p s.jobs.0 k.kept_jobs
    (c.tables_join_without_the_dropped.ensures.itself (has_retired x.retired) x.jobs x.version s.jobs) in
    let reservations = part_itself None (λ x v y w. joined_registers option_window_cmp x y) x.retired x.reservations x.version p s.reservations.0 k.kept_reservations
    (c.tables_join_without_the_dropped-2.ensures.itself (has_retired x.retired) x.reservations x.version s.reservations) in
    λ i. record { version = version i; retired = retired i; jobs = jobs i; reservations = reservations i }
