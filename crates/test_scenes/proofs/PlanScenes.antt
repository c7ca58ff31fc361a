-- Worked plans of site 0, computed by the definitions: the front of the queue, and what is at its ends.
use Rattle.std.proofs.Common.{◌≡◌, ℕ, [], ◌∷◌, true, false, refl}
use Rattle.std.specs.Prelude.{pos, Some, None, replicate}
use Rattle.fed_lattice.specs.History.{History}
use Rattle.fed_model.specs.Body.{Body, Body.Submit}
use Rattle.fed_model.specs.Letter.{any_below}
use Rattle.fed_model.specs.View.{view}
use Rattle.fed_stamp.specs.Stamp.{StampValue}
use Rattle.fed_easy.specs.Plan.{PlanValue}
use Rattle.fed_easy.specs.SitePlan.{site_plan}

abbrev job : ℕ → StampValue
job counter = record { counter = counter; site = 0 }

-- a job of so many nodes and seconds, submitted to site 0
abbrev submit : ℕ → ℕ → ℕ → StampValue × Body
submit counter nodes limit = (
  job counter,
  Submit (97 ∷ []) (record { name = 74 ∷ []; priority = pos 0; nodes = nodes; limit = limit; account = None; sites = true ∷ replicate 15 false }) false,
)

-- the plan of site 0 with 8 nodes, on which nothing runs, at second 0
abbrev plan : History Body → PlanValue
plan ops = site_plan (view ops) 0 0 (record { nodes = 8; running = [] })

-- two jobs of 5 nodes: the second waits until the first ends
front : plan (submit 1 5 10 ∷ submit 2 5 10 ∷ []) ≡ record { starts = job 1 ∷ []; head = Some (job 2, 10) }
unfolding any_below
front = refl

-- behind the head two jobs of 2 nodes that end by its time: 3 nodes are free, so one starts
backfill : plan (submit 1 5 10 ∷ submit 2 8 10 ∷ submit 3 2 10 ∷ submit 4 2 10 ∷ []) ≡ record { starts = job 1 ∷ job 3 ∷ []; head = Some (job 2, 10) }
unfolding any_below
backfill = refl
