use Rattle.fed_board.proofs.BoardReadings.{same_where_read}
use Rattle.fed_board.proofs.readings.records_that_read_the_same_are_equal.Goals as goal

pub returns : goal.returns
returns c =
    let s = c.tables_are_well_formed.ensures.jobs in
    let t = c.tables_are_well_formed-2.ensures.jobs in
    same_where_read c.args.a.now c.args.b.now c.records_are_covered.ensures c.records_are_covered-2.ensures
    c.tables_are_well_formed.ensures.retired.0 c.tables_are_well_formed-2.ensures.retired.0
    (s.0, λ k d l. let p = s.1 k d l in (p.2, p.3)) (t.0, λ k d l. let p = t.1 k d l in (p.2, p.3))
    c.tables_are_well_formed.ensures.reservations c.tables_are_well_formed-2.ensures.reservations
