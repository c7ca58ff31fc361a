-- What the threads of all sites leave, taken together.
use Rattle.std.specs.Prelude.{ℕ, List, ◌∷◌, [], map, Option, slice_get, string_bytes}
use Rattle.std.specs.List.{concat, filter_map}
use Rattle.std.specs.Option.{option_or}
use Rattle.fed_threads.specs.declared.fault.CallFault.{CallFault}
use Rattle.fed_threads.specs.Seat.{Known, known_by}
use Rattle.fed_main.specs.declared.live_runs.SiteReports.{SiteReports}

-- the fault of a site, that of its lines before that of its taking
abbrev pub fault_at : SiteReports → Option CallFault
fault_at r = option_or r.asked.fault r.taken.fault

-- that of the least site which met one
abbrev pub first_fault : List SiteReports → Option CallFault
first_fault reports = slice_get (filter_map fault_at reports) 0

-- the answers of each site's lines, one site after another
abbrev pub answers_of : List SiteReports → List ℕ
answers_of reports = concat (map (λ (r : SiteReports). string_bytes r.asked.text) reports)

-- what the two seats of each site know
abbrev pub known_at : SiteReports → List Known
known_at r = known_by r.asked.seat ∷ known_by r.taken.seat ∷ []
