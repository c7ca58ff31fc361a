-- What a board is once one operation was applied to it.
use Rattle.std.specs.Prelude.{ℕ, List, None}
use Rattle.std.specs.Ordering.{nat_cmp}
use Rattle.fed_stamp.specs.Stamp.{StampValue}
use Rattle.fed_stamp.specs.Version.{raised}
use Rattle.fed_lattice.specs.Latest.{stamp_cmp}
use Rattle.fed_lattice.specs.Register.{joined_registers}
use Rattle.fed_lattice.specs.Stamped.{with_stamp}
use Rattle.fed_lattice.specs.Table.{applied_table}
use Rattle.fed_record.specs.declared.operations.Operation.{Operation}
use Rattle.fed_record.specs.JobRecord.{JobRecordValue}
use Rattle.fed_record.specs.Reservation.{window_change}
use Rattle.fed_ranges.specs.declared.ranges.Range.{Range}
use Rattle.fed_ranges.specs.Dropped.{dropped}
use Rattle.fed_ranges.specs.Retired.{RetiredValue, has_retired}
use Rattle.fed_ranges.specs.Retirements.{no_retirements, applied_retirements}
use Rattle.fed_theory.specs.ValueOrders.{option_window_cmp}
use Rattle.fed_board.specs.Board.{BoardValue, no_operation}

-- the board with a change of the record of one job, by the operation with the stamp
abbrev pub changed_job : (JobRecordValue → StampValue → Operation → JobRecordValue) →
    BoardValue → StampValue → Operation → StampValue → BoardValue
changed_job applied b at op job = record {
  version = raised b.version at;
  retired = b.retired;
  jobs = applied_table stamp_cmp no_operation applied b.jobs at (job, op);
  reservations = b.reservations;
}

-- the board with a change of one reservation
abbrev pub changed_reservation : BoardValue → StampValue → Operation → StampValue → BoardValue
changed_reservation b at op id = record {
  version = raised b.version at;
  retired = b.retired;
  jobs = b.jobs;
  reservations = applied_table stamp_cmp None
      (λ r s c. joined_registers option_window_cmp r (with_stamp s (window_change c)))
      b.reservations at (id, op);
}

-- the board once the site of the stamp has retired a range: nothing is left of what is in it
abbrev pub with_more_retired : BoardValue → StampValue → Range → RetiredValue
with_more_retired b at range = applied_table nat_cmp no_retirements applied_retirements b.retired at (at.site, range)

abbrev pub changed_ranges : BoardValue → StampValue → Range → BoardValue
changed_ranges b at range = record {
  version = raised b.version at;
  retired = with_more_retired b at range;
  jobs = dropped (has_retired (with_more_retired b at range)) b.jobs;
  reservations = dropped (has_retired (with_more_retired b at range)) b.reservations;
}
