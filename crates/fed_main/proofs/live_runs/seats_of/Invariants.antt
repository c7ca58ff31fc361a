use Rattle.std.proofs.Common.{◌≡◌, map}
use Rattle.std.specs.List.{flat_map}
use Rattle.fed_threads.specs.Seat.{known_by}
use Rattle.fed_main.specs.Reports.{known_at}
use Rattle.fed_main.proofs.live_runs.seats_of.Given as goal

abbrev pub invariant-loop-site : goal.invariant-loop-site
invariant-loop-site l = map known_by l.seats.items ≡ flat_map known_at l.yielded
