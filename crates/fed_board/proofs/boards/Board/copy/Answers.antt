use Rattle.std.proofs.Common.{List, sym, subst}
use Rattle.std.specs.Map.{keys_of}
use Rattle.fed_stamp.specs.Stamp.{StampValue}
use Rattle.fed_record.specs.JobRecord.{JobRecordValue}
use Rattle.fed_model.specs.Reservation.{ReservationView}
use Rattle.fed_board.specs.Board.{BoardValue, IsBoard}
use Rattle.fed_board.specs.Changes.{AreListed}
use Rattle.fed_board.specs.Counts.{AreCounts}
use Rattle.fed_board.proofs.ListedJobs.{listed_after}
use Rattle.fed_board.proofs.boards.Board.copy.Goals as goal

pub invariant_of-result : goal.invariant_of-result
invariant_of-result c =
    let b : BoardValue = record { version = c.self.inside.version; retired = c.self.inside.retired; jobs = c.self.inside.jobs; reservations = c.self.inside.reservations } in
    let retired = sym c.in_ok-copy.ensures.same in
    let jobs = sym c.in_ok-copy-2.ensures.same in
    let reservations = sym c.in_ok-copy-3.ensures.same in (
      subst IsBoard (λ i. record { version = b.version; retired = retired i; jobs = jobs i; reservations = reservations i }) c.self.invariant.0,
      subst (λ (t : List (StampValue × JobRecordValue)). AreCounts c.self.inside.job_counts (keys_of t)) jobs c.self.invariant.1,
      subst (λ (t : List (StampValue × ReservationView)). AreCounts c.self.inside.reservation_counts (keys_of t)) reservations c.self.invariant.2,
      subst (AreListed c.none_after.result) jobs (listed_after c.none_after.result b c.self.invariant.0 c.none_after.ensures),
    )
