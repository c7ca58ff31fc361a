-- Worked scenes: of a set of operations, the plan of site 0, computed by the definitions.
use Rattle.std.proofs.Common.{◌≡◌, ℕ, [], ◌∷◌, ◌++◌, true, false, refl}
use Rattle.std.specs.Prelude.{pos, Some, None, replicate}
use Rattle.fed_stamp.specs.Stamp.{StampValue}
use Rattle.fed_lattice.specs.History.{History}
use Rattle.fed_model.specs.Body.{Body, Body.Submit, Body.OfJob, Body.Reserve, Body.Cancel, JobBody.Grant, JobBody.Begin}
use Rattle.fed_model.specs.Letter.{any_below}
use Rattle.fed_model.specs.View.{view}
use Rattle.fed_easy.specs.Machine.{running_in}
use Rattle.fed_easy.specs.Plan.{PlanValue}
use Rattle.fed_easy.specs.SitePlan.{site_plan}

abbrev at : ℕ → ℕ → StampValue
at counter site = record { counter = counter; site = site }

-- a job of so many nodes and seconds, submitted to site 0
abbrev submit : ℕ → ℕ → ℕ → StampValue × Body
submit counter nodes limit = (
  at counter 0,
  Submit (97 ∷ []) (record { name = 74 ∷ []; priority = pos 0; nodes = nodes; limit = limit; account = None; sites = true ∷ replicate 15 false }) false,
)

-- the plan of site 0, with so many nodes, at the moment
abbrev plan : History Body → ℕ → ℕ → PlanValue
plan ops nodes now = site_plan (view ops) 0 now (record { nodes = nodes; running = running_in 0 (view ops) })

-- 6 nodes run until second 10
abbrev busy : History Body
busy = submit 1 6 10 ∷ (at 2 0, OfJob (at 1 0) (Grant 0 1)) ∷ (at 3 0, OfJob (at 1 0) (Begin (record { moment = 0; nodes = 6; end = 10 }))) ∷ []

-- ---- 6 of 8 nodes run, and a job of 7 waits: one of 2 nodes that ends by then starts
abbrev backfilled : History Body
backfilled = busy ++ submit 4 7 36 ∷ submit 5 2 11 ∷ submit 6 2 10 ∷ submit 7 1 40 ∷ []

backfilled_now : plan backfilled 8 0 ≡ record { starts = at 6 0 ∷ []; head = Some (at 4 0, 10) }
unfolding any_below
backfilled_now = refl

-- a second before the 6 nodes are free, a job of one node starts beside the head's time
backfilled_later : plan backfilled 8 9 ≡ record { starts = at 7 0 ∷ []; head = Some (at 4 0, 10) }
unfolding any_below
backfilled_later = refl

-- a running job counts at the moment, also where its end has come
backfilled_at_the_end : plan backfilled 8 10 ≡ record { starts = at 7 0 ∷ []; head = Some (at 4 0, 11) }
unfolding any_below
backfilled_at_the_end = refl

-- ---- all 8 nodes are reserved from second 5 to 6: a job that ends at 5 starts, and one that ends at 6 waits
abbrev reserved : History Body
reserved = (at 1 0, Reserve (record { site = 0; start = 5; end = 6; nodes = 8 })) ∷ submit 2 2 5 ∷ submit 3 2 6 ∷ []

reserved_waits : plan reserved 8 0 ≡ record { starts = at 2 0 ∷ []; head = Some (at 3 0, 6) }
unfolding any_below
reserved_waits = refl

cancelled_starts : plan (reserved ++ (at 4 0, Cancel (at 1 0)) ∷ []) 8 0 ≡ record { starts = at 2 0 ∷ at 3 0 ∷ []; head = None }
unfolding any_below
cancelled_starts = refl

-- ---- two reservations of all 8 nodes, made unknown to each other, both stand
abbrev reserved_twice : History Body
reserved_twice =
    (at 1 0, Reserve (record { site = 0; start = 5; end = 6; nodes = 8 })) ∷ (at 1 1, Reserve (record { site = 0; start = 5; end = 6; nodes = 8 })) ∷ submit 2 1 1 ∷ []

before_both : plan reserved_twice 8 4 ≡ record { starts = at 2 0 ∷ []; head = None }
unfolding any_below
before_both = refl

into_both : plan reserved_twice 8 5 ≡ record { starts = []; head = Some (at 2 0, 6) }
unfolding any_below
into_both = refl

-- ---- 6 of 10 nodes run, and a job of 7 waits: one of 3 nodes that runs on starts, then one that ends by then, and none
-- that would need more than is left beside the 7
abbrev extra : History Body
extra = busy ++ submit 4 7 36 ∷ submit 5 3 20 ∷ submit 6 1 11 ∷ submit 7 1 10 ∷ []

extra_starts : plan extra 10 0 ≡ record { starts = at 5 0 ∷ at 7 0 ∷ []; head = Some (at 4 0, 10) }
unfolding any_below
extra_starts = refl
