-- What the operations of one reservation say of it.
use Rattle.std.specs.Prelude.{Option}
use Rattle.fed_stamp.specs.Stamp.{StampValue}
use Rattle.fed_lattice.specs.History.{History}
use Rattle.fed_model.specs.declared.windows.Window.{Window}
use Rattle.fed_model.specs.Body.{Body}
use Rattle.fed_model.specs.Field.{window_in, field}

-- its greatest stamp and its window, or no window where the greatest stamped operation is a Cancel
abbrev pub ReservationView : Type 0
ReservationView = Option (StampValue × Option Window)

-- what is read of the operations of one reservation
abbrev pub reservation_view : History Body → ReservationView
reservation_view ops = field window_in ops
