-- What is said of a site's machine at a moment.
use Rattle.std.specs.Prelude.{ℕ, ◌-◌, List, [], ◌∷◌, ◌++◌, codes, flat_map, nat_lt, option_and_then, option_map, Option, Some, None, if◌then◌else◌}
use Rattle.std.specs.declared.cmp.Ordering.{Ordering}
use Rattle.std.specs.BTreeSet.{insert_key}
use Rattle.std.specs.List.{filter_map, join_with_byte}
use Rattle.std.specs.Ordering.{nat_cmp, ordering_then}
use Rattle.std.specs.Fmt.{decimal}
use Rattle.fed_stamp.specs.Roster.{nodes_at}
use Rattle.fed_stamp.specs.Stamp.{StampValue}
use Rattle.fed_lattice.specs.Latest.{stamp_cmp}
use Rattle.fed_model.specs.JobView.{JobView}
use Rattle.fed_model.specs.Reservation.{ReservationView}
use Rattle.fed_model.specs.Identifiers.{jobs_in, reservations_in}
use Rattle.fed_model.specs.View.{View}
use Rattle.fed_easy.specs.declared.bookings.Booking.{Booking}
use Rattle.fed_easy.specs.Machine.{running_of}
use Rattle.fed_easy.specs.SitePlan.{booked_at, used_in}
use Rattle.fed_machine.specs.declared.machines.Reserved.{Reserved}
use Rattle.fed_machine.specs.declared.machines.RunningJob.{RunningJob}
use Rattle.fed_qstat.specs.Identifier.{text_of_identifier}

-- by end, then by stamp
abbrev pub run_cmp : RunningJob → RunningJob → Ordering
run_cmp r s = ordering_then (nat_cmp r.end s.end) (ordering_then (stamp_cmp r.id s.id) (nat_cmp r.nodes s.nodes))

-- by start, then by stamp
abbrev pub reserved_cmp : Reserved → Reserved → Ordering
reserved_cmp k l = ordering_then (nat_cmp k.start l.start)
    (ordering_then (stamp_cmp k.id l.id) (ordering_then (nat_cmp k.end l.end) (nat_cmp k.nodes l.nodes)))

-- those that are in order already, with the others put in, each at its place
abbrev pub in_order : {T : Type 0} → (T → T → Ordering) → List T → List T → List T
in_order cmp sorted [] = sorted
in_order cmp sorted (x ∷ xs) = in_order cmp (insert_key cmp sorted x) xs

-- the job, if the site has begun it and it is not finished
abbrev pub run_from : ℕ → StampValue → JobView → Option RunningJob
run_from here job j = option_map (λ r. record { end = r.end; id = job; nodes = r.nodes }) (running_of here j)

-- the time of a reservation, if it is not over at the moment
abbrev pub reserved_unless_over : ℕ → StampValue → Booking → Option Reserved
reserved_unless_over moment id b = if nat_lt moment b.until
    then Some (record { start = b.from; id = id; end = b.until; nodes = b.nodes }) else None

-- the reservation, if it stands, is of the site and is not over at the moment
abbrev pub reserved_from : ℕ → ℕ → StampValue → ReservationView → Option Reserved
reserved_from here moment id r = option_and_then (reserved_unless_over moment id) (booked_at here r)

-- the jobs that run at a site, in the order of their ends
abbrev pub runs_in : ℕ → View → List RunningJob
runs_in here v = in_order run_cmp [] (filter_map (λ job. run_from here job (v.job job)) (jobs_in v))

-- its reservations, in the order of their starts
abbrev pub reserved_in : ℕ → ℕ → View → List Reserved
reserved_in here moment v =
    in_order reserved_cmp [] (filter_map (λ id. reserved_from here moment id (v.reservation id)) (reservations_in v))

abbrev pub line_of_nodes : ℕ → ℕ → List ℕ
line_of_nodes nodes free = codes "nodes " ++ decimal nodes ++ codes ", free " ++ decimal free ++ 10 ∷ []

abbrev pub line_of_run : List (List ℕ × ℕ) → RunningJob → List ℕ
line_of_run roster r = codes "run "
    ++ join_with_byte 32 (text_of_identifier roster r.id ∷ decimal r.nodes ∷ decimal r.end ∷ []) ++ 10 ∷ []

abbrev pub line_of_reserved : List (List ℕ × ℕ) → Reserved → List ℕ
line_of_reserved roster k = codes "reserved "
    ++ join_with_byte 32 (text_of_identifier roster k.id ∷ decimal k.start ∷ decimal k.end ∷ decimal k.nodes ∷ []) ++ 10 ∷ []

-- the nodes and how many of them are not in use, the jobs that run, and the reservations that are not over
abbrev pub lines_of_machine : List (List ℕ × ℕ) → View → ℕ → ℕ → List ℕ
lines_of_machine roster v here moment =
    let nodes = nodes_at roster here in
    line_of_nodes nodes (nodes - used_in here v moment)
    ++ flat_map (line_of_run roster) (runs_in here v) ++ flat_map (line_of_reserved roster) (reserved_in here moment v)
