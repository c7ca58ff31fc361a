-- What is read of a set once one more operation is there, and of two sets together.
use Rattle.std.specs.Prelude.{None, ◌||◌, if◌then◌else◌}
use Rattle.fed_stamp.specs.Stamp.{StampValue}
use Rattle.fed_stamp.specs.Version.{joined, raised}
use Rattle.fed_lattice.specs.Register.{joined_registers}
use Rattle.fed_theory.specs.ValueOrders.{option_window_cmp}
use Rattle.fed_lattice.specs.Stamped.{with_stamp}
use Rattle.fed_model.specs.Body.{Body, is_of_job, is_of_reservation}
use Rattle.fed_model.specs.Field.{window_in}
use Rattle.fed_theory.specs.JobSteps.{add_to_job, join_jobs}
use Rattle.fed_model.specs.Letter.{is_submitted}
use Rattle.fed_model.specs.JobView.{unknown}
use Rattle.fed_model.specs.Retired.{retires, is_retire}
use Rattle.fed_model.specs.View.{View}

-- an operation of a stamp that is not covered
unfoldable pub add_to_view : View → StampValue × Body → View
add_to_view v e = record {
  version = raised v.version e.0;
  retirements = if is_retire e then raised v.retirements e.0 else v.retirements;
  retired = λ job. v.retired job || retires job e;
  job = λ job. if v.retired job || retires job e then unknown
      else if is_of_job job e then add_to_job e.0 e.1 (v.job job)
      else v.job job;
  reservation = λ id. if v.retired id || retires id e then None
      else if is_of_reservation id e
      then joined_registers option_window_cmp (v.reservation id) (with_stamp e.0 (window_in e.1))
      else v.reservation id;
}

unfoldable pub join_views : View → View → View
join_views v w = record {
  version = joined v.version w.version;
  retirements = joined v.retirements w.retirements;
  retired = λ job. v.retired job || w.retired job;
  job = λ job. if v.retired job || w.retired job then unknown
      else join_jobs v.version (v.job job) w.version (w.job job);
  reservation = λ id. if v.retired id || w.retired id then None
      else joined_registers option_window_cmp (v.reservation id) (w.reservation id);
}

-- the view with the records of another: each job that one of them has retired is unknown, each other job that the other
-- view knows is joined to it, and every other job stays as it is
unfoldable pub join_records : View → View → View
join_records v w = record {
  version = joined v.version w.version;
  retirements = joined v.retirements w.retirements;
  retired = λ job. v.retired job || w.retired job;
  job = λ job. if v.retired job || w.retired job then unknown
      else if is_submitted (w.job job)
      then join_jobs v.version (v.job job) w.version (w.job job)
      else v.job job;
  reservation = λ id. if v.retired id || w.retired id then None
      else joined_registers option_window_cmp (v.reservation id) (w.reservation id);
}
