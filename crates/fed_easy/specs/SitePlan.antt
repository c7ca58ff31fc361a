-- The plan of a site. All is computed of what is read of a board.
use Rattle.std.specs.Prelude.{ℕ, suc, ◌+◌, max, nat_eq, if◌then◌else◌, List, ◌++◌, map, Option, Some, None}
use Rattle.std.specs.List.{filter_map}
use Rattle.fed_stamp.specs.Stamp.{StampValue}
use Rattle.fed_model.specs.declared.windows.Window.{Window}
use Rattle.fed_model.specs.Reservation.{ReservationView}
use Rattle.fed_model.specs.Identifiers.{reservations_in}
use Rattle.fed_model.specs.View.{View}
use Rattle.fed_easy.specs.declared.bookings.Booking.{Booking}
use Rattle.fed_easy.specs.declared.machines.Running.{Running}
use Rattle.fed_easy.specs.declared.queues.QueuedJob.{QueuedJob}
use Rattle.fed_easy.specs.declared.site_planning.PlanFault.{PlanFault}
use Rattle.fed_easy.specs.declared.site_planning.PlanFault.TheVariants.{Moment, NoMemory}
use Rattle.fed_easy.specs.Machine.{MachineValue, nodes_of, running_in}
use Rattle.fed_easy.specs.Plan.{PlanValue, queue_plan}
use Rattle.fed_easy.specs.Queue.{queue_in, queue_without}
use Rattle.fed_easy.specs.Use.{last_end, use_at}

-- a running entry counts until its end, and now in any case
abbrev pub running_booking : ℕ → Running → Booking
running_booking now r = record { from = 0; until = max r.end (suc now); nodes = r.nodes }

-- the time of a window, if it is of the site
abbrev pub window_booking : ℕ → Option Window → Option Booking
window_booking site None = None
window_booking site (Some w) =
    if nat_eq w.site site then Some (record { from = w.start; until = w.end; nodes = w.nodes }) else None

-- the time of a reservation, if it stands and is of the site
abbrev pub booked_at : ℕ → ReservationView → Option Booking
booked_at site None = None
booked_at site (Some latest) = window_booking site latest.1

-- the times of the site's standing reservations
abbrev pub reserved_in : ℕ → View → List Booking
reserved_in site v = filter_map (λ id. booked_at site (v.reservation id)) (reservations_in v)

-- the nodes of the site that are in use at a moment: those of the jobs that run there, and those of its reservations
abbrev pub used_in : ℕ → View → ℕ → ℕ
used_in site v moment = nodes_of (running_in site v) + use_at (reserved_in site v) moment

-- what is in use before any job starts
abbrev pub bookings_in : ℕ → View → ℕ → MachineValue → List Booking
bookings_in site v now machine = map (running_booking now) machine.running ++ reserved_in site v

-- the plan of a queue of the site at a moment, beside what is in use there
abbrev pub plan_beside : View → ℕ → ℕ → MachineValue → List QueuedJob → PlanValue
plan_beside v site now machine queue =
    let bookings = bookings_in site v now machine in
    queue_plan machine.nodes now (use_at bookings) (last_end bookings) queue

-- the plan of a site at a moment
abbrev pub site_plan : View → ℕ → ℕ → MachineValue → PlanValue
site_plan v site now machine = plan_beside v site now machine (queue_in site machine.nodes v)

-- and that where these jobs are left out
abbrev pub plan_without : List StampValue → View → ℕ → ℕ → MachineValue → PlanValue
plan_without jobs v site now machine = plan_beside v site now machine (queue_without jobs site machine.nodes v)

abbrev pub number_of : PlanFault → ℕ
number_of Moment = 1
number_of NoMemory = 2
