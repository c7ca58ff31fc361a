use Rattle.fed_stamp.proofs.VersionLaws.{joined-comm}
use Rattle.std.proofs.Common.{None}
use Rattle.fed_lattice.specs.Register.{joined_registers}
use Rattle.fed_record.specs.JobRecordSteps.{joined_record}
use Rattle.fed_theory.specs.ValueOrders.{option_window_cmp}
use Rattle.fed_ranges.specs.Retired.{has_retired}
use Rattle.fed_board.specs.Board.{no_operation}
use Rattle.fed_board.proofs.MergedParts.{part_comm}
use Rattle.fed_board.proofs.RetiredTables.{all_apart}
use Rattle.fed_board.proofs.merging.merging_is_commutative.Goals as goal

pub returns : goal.returns
returns c =
    let x = c.args.a.now in
    let y = c.args.b.now in
    let s = c.tables_are_well_formed.ensures in
    let t = c.tables_are_well_formed-2.ensures in
    let p = all_apart x.version x.retired c.board_is_covered.ensures.retired in
    let q = all_apart y.version y.retired c.board_is_covered-2.ensures.retired in
    let version = joined-comm x.version y.version in
    let retired = c.joins_are_commutative.ensures x.retired y.retired x.version y.version s.retired t.retired in
    let jobs = part_comm no_operation joined_record x.retired y.retired x.jobs y.jobs x.version y.version p q
    (c.tables_join_without_the_dropped.ensures.comm (has_retired x.retired) (has_retired y.retired) x.jobs y.jobs x.version y.version s.jobs t.jobs) in
    let reservations = part_comm None (λ x v y w. joined_registers option_window_cmp x y) x.retired y.retired x.reservations y.reservations x.version y.version p q
    (c.tables_join_without_the_dropped-2.ensures.comm (has_retired x.retired) (has_retired y.retired) x.reservations y.reservations x.version y.version s.reservations t.reservations) in
    λ i. record { version = version i; retired = retired i; jobs = jobs i; reservations = reservations i }
