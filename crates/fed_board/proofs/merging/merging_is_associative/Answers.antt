use Rattle.fed_stamp.proofs.VersionLaws.{joined-assoc}
use Rattle.std.proofs.Common.{None}
use Rattle.fed_lattice.specs.Register.{joined_registers}
use Rattle.fed_record.specs.JobRecordSteps.{joined_record}
use Rattle.fed_theory.specs.ValueOrders.{option_window_cmp}
use Rattle.fed_ranges.specs.Retired.{has_retired}
use Rattle.fed_board.specs.Board.{no_operation}
use Rattle.fed_board.proofs.MergedParts.{part_assoc}
use Rattle.fed_board.proofs.RetiredTables.{all_apart}
use Rattle.fed_board.proofs.merging.merging_is_associative.Goals as goal

pub returns : goal.returns
returns c =
    let x = c.args.a.now in
    let y = c.args.b.now in
    let z = c.args.c.now in
    let s = c.tables_are_well_formed.ensures in
    let t = c.tables_are_well_formed-2.ensures in
    let u = c.tables_are_well_formed-3.ensures in
    let p = all_apart x.version x.retired c.board_is_covered.ensures.retired in
    let q = all_apart y.version y.retired c.board_is_covered-2.ensures.retired in
    let r = all_apart z.version z.retired c.board_is_covered-3.ensures.retired in
    let version = joined-assoc x.version y.version z.version in
    let retired = c.joins_are_associative.ensures x.retired y.retired z.retired x.version y.version z.version s.retired t.retired u.retired in
    let jobs = part_assoc no_operation joined_record x.retired y.retired z.retired x.jobs y.jobs z.jobs x.version y.version z.version p q r
    (c.tables_join_without_the_dropped.ensures.assoc (has_retired x.retired) (has_retired y.retired) (has_retired z.retired) x.jobs y.jobs z.jobs x.version y.version z.version s.jobs t.jobs u.jobs) in
    let reservations = part_assoc None (λ x v y w. joined_registers option_window_cmp x y) x.retired y.retired z.retired x.reservations y.reservations z.reservations x.version y.version z.version p q r
    (c.tables_join_without_the_dropped-2.ensures.assoc (has_retired x.retired) (has_retired y.retired) (has_retired z.retired) x.reservations y.reservations z.reservations x.version y.version z.version s.reservations t.reservations u.reservations) in
    λ i. record { version = version i; retired = retired i; jobs = jobs i; reservations = reservations i }
