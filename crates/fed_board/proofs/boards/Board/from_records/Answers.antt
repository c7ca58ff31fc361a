use Rattle.fed_board.specs.Board.{BoardValue}
use Rattle.fed_board.proofs.ListedJobs.{listed_after}
use Rattle.fed_board.proofs.boards.Board.from_records.Goals as goal

pub invariant_of-result : goal.invariant_of-result
invariant_of-result c =
    let inside = c.records.inside in
    let b : BoardValue = record { version = inside.version; retired = inside.retired; jobs = inside.jobs; reservations = inside.reservations } in
    (c.records.invariant, c.count_ids.ensures, c.count_ids-2.ensures, listed_after c.none_after.result b c.records.invariant c.none_after.ensures)
