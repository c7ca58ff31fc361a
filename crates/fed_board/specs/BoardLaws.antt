-- That equality of boards tells all boards apart.
use Rattle.std.specs.Prelude.{◌&&◌, nat_eq, Bool, List}
use Rattle.std.specs.Cmp.{IsPartialEquivalence, both_ways}
use Rattle.std.specs.Cmp.Lexicographic.{pointwise}
use Rattle.std.proofs.Common.{ap, sym, ◌∙◌}
use Rattle.std.proofs.lemmas.Bool.{and_parts, and_from}
use Rattle.fed_stamp.specs.Stamp.{StampValue, same_stamp}
use Rattle.fed_lattice.specs.Exact.{TellsApart}
use Rattle.fed_lattice.specs.ExactLaws.{tells_numbers, tells_stamps, tells_pairs, tells_lists}
use Rattle.fed_ranges.specs.Retired.{RetiredValue}
use Rattle.fed_ranges.specs.RetirementLaws.{same_retirements, tells_retirements}
use Rattle.fed_record.specs.JobRecord.{JobRecordValue}
use Rattle.fed_record.specs.JobRecordLaws.{same_job_record, tells_job_records}
use Rattle.fed_model.specs.Reservation.{ReservationView}
use Rattle.fed_record.specs.ReservationLaws.{same_reservation, tells_reservations}
use Rattle.fed_board.specs.Board.{BoardValue}

abbrev same_retired : RetiredValue → RetiredValue → Bool
same_retired = pointwise (λ p q. nat_eq p.0 q.0 && same_retirements p.1 q.1)

abbrev same_jobs : List (StampValue × JobRecordValue) → List (StampValue × JobRecordValue) → Bool
same_jobs = pointwise (λ p q. same_stamp p.0 q.0 && same_job_record p.1 q.1)

abbrev same_reservations : List (StampValue × ReservationView) → List (StampValue × ReservationView) → Bool
same_reservations = pointwise (λ p q. same_stamp p.0 q.0 && same_reservation p.1 q.1)

-- the versions, what is retired, the jobs and the reservations are equal
abbrev pub same_board : BoardValue → BoardValue → Bool
same_board b c = pointwise nat_eq b.version c.version && (same_retired b.retired c.retired && (same_jobs b.jobs c.jobs && same_reservations b.reservations c.reservations))

tells_retired : TellsApart same_retired
tells_retired = tells_lists _ (tells_pairs nat_eq same_retirements tells_numbers tells_retirements)

tells_jobs : TellsApart same_jobs
tells_jobs = tells_lists _ (tells_pairs same_stamp same_job_record tells_stamps tells_job_records)

tells_reservation_lists : TellsApart same_reservations
tells_reservation_lists = tells_lists _ (tells_pairs same_stamp same_reservation tells_stamps tells_reservations)

pub tells_boards : TellsApart same_board
tells_boards b c = (
  λ e.
      let p = and_parts (pointwise nat_eq b.version c.version) _ e in
      let q = and_parts (same_retired b.retired c.retired) _ p.1 in
      let r = and_parts (same_jobs b.jobs c.jobs) _ q.1 in
      let version = (tells_lists nat_eq tells_numbers b.version c.version).0 p.0 in
      let retired = (tells_retired b.retired c.retired).0 q.0 in
      let jobs = (tells_jobs b.jobs c.jobs).0 r.0 in
      let reservations = (tells_reservation_lists b.reservations c.reservations).0 r.1 in
      λ i. record { version = version i; retired = retired i; jobs = jobs i; reservations = reservations i },
  λ e. and_from _ _ ((tells_lists nat_eq tells_numbers b.version c.version).1 (ap (λ (x : BoardValue). x.version) e))
      (and_from _ _ ((tells_retired b.retired c.retired).1 (ap (λ (x : BoardValue). x.retired) e))
      (and_from _ _ ((tells_jobs b.jobs c.jobs).1 (ap (λ (x : BoardValue). x.jobs) e)) ((tells_reservation_lists b.reservations c.reservations).1 (ap (λ (x : BoardValue). x.reservations) e)))),
)

pub board_laws : IsPartialEquivalence same_board
board_laws = record {
  symm = λ a b. both_ways _ _ (λ e. (tells_boards b a).1 (sym ((tells_boards a b).0 e))) (λ e. (tells_boards a b).1 (sym ((tells_boards b a).0 e)));
  trans = λ a b c p q. (tells_boards a c).1 ((tells_boards a b).0 p ∙ (tells_boards b c).0 q);
}
