-- Reservations, which are registers: what they are after an operation and joined, and what they stand for.
use Rattle.std.specs.Prelude.{ℕ, List, Option}
use Rattle.fed_stamp.specs.Stamp.{StampValue}
use Rattle.fed_lattice.specs.History.{History}
use Rattle.fed_lattice.specs.Part.{part}
use Rattle.fed_lattice.specs.Register.{joined_registers, register_stands_for}
use Rattle.fed_lattice.specs.Stamped.{with_stamp}
use Rattle.fed_model.specs.declared.windows.Window.{Window}
use Rattle.fed_record.specs.declared.operations.Operation.{Operation}
use Rattle.fed_model.specs.Field.{window_in}
use Rattle.fed_model.specs.Reservation.{ReservationView}
use Rattle.fed_record.specs.Operation.{body_of}
use Rattle.fed_theory.specs.ValueOrders.{option_window_cmp}

-- the window that an operation of the code gives its reservation, or none
abbrev pub window_change : Operation → Option (Option Window)
window_change c = window_in (body_of c)

-- after an operation with its stamp
abbrev pub applied_reservation : ReservationView → StampValue → Operation → ReservationView
applied_reservation x s c = joined_registers option_window_cmp x (with_stamp s (window_change c))

-- two reservations, each beside a version
abbrev pub joined_reservations : ReservationView → List ℕ → ReservationView → List ℕ → ReservationView
joined_reservations x v y w = joined_registers option_window_cmp x y

-- it stands for what the operations say of its window
abbrev pub reservation_stands_for : ReservationView → History Operation → Type 0
reservation_stands_for x h = register_stands_for x (part window_change h)
