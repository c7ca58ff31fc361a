-- Why a command is refused: the table of refusals. `ClockFull` for want of a counter stands in Answer, since it is
-- looked for last and wherever an operation would be added; here it stands only before a refusal of a greater number.
use Rattle.std.specs.Prelude.{ℕ, suc, Bool, false, not, ◌&&◌, ◌||◌, ◌==◌, nat_le, nat_lt, List, [], ◌∷◌, ◌++◌, Option, Some, None, is_some, is_none}
use Rattle.fed_stamp.specs.declared.rosters.TheConstants.{MAX_NODES}
use Rattle.fed_stamp.specs.declared.stamps.TheConstants.{MAX_COUNTER}
use Rattle.fed_stamp.specs.Stamp.{StampValue}
use Rattle.fed_stamp.specs.Version.{counter_of, greatest}
use Rattle.fed_model.specs.declared.askers.Who.{Who}
use Rattle.fed_model.specs.declared.commands.Command.{Command}
use Rattle.fed_model.specs.declared.grants.GrantStage.{GrantStage}
use Rattle.fed_model.specs.declared.grants.GrantStage.TheVariants.{Returned}
use Rattle.fed_model.specs.declared.moments.TheConstants.{MAX_MOMENT}
use Rattle.fed_model.specs.declared.refusals.Refusal.{Refusal}
use Rattle.fed_model.specs.declared.terms.TheConstants.{MAX_TERM}
use Rattle.fed_model.specs.declared.windows.Window.{Window}
use Rattle.fed_model.specs.JobView.{JobView}
use Rattle.fed_model.specs.Letter.{any_below, is_granted, is_held, is_submitted, is_gone, is_granted_to}
use Rattle.fed_model.specs.Retired.{is_within}
use Rattle.fed_model.specs.Reservation.{ReservationView}
use Rattle.fed_model.specs.View.{View}
use Rattle.fed_model.specs.declared.capacities.TheConstants.{MAX_JOBS, MAX_RANGES, MAX_RESERVATIONS}
use Rattle.fed_model.specs.Desk.{Case, grant_refusals, is_taken}
use Rattle.fed_model.specs.Origin.{jobs_of, ranges_with, reservations_of}
use Rattle.fed_model.specs.Permission.{is_operator, may_alter, may_hold_all}

-- the end is not above the start or above the last moment, or the nodes are none or more than a site may have
abbrev pub is_bad_window : Window → Bool
is_bad_window w = nat_le w.end w.start || (nat_lt MAX_MOMENT w.end || (w.nodes == 0 || nat_lt MAX_NODES w.nodes))

-- the reservation is made and not cancelled
abbrev pub is_standing : ReservationView → Bool
is_standing None = false
is_standing (Some latest) = is_some latest.1

-- the last term there is was handed back
abbrev pub is_last_term : Option GrantStage → Bool
is_last_term (Some (Returned term stamp)) = nat_le MAX_TERM term
is_last_term _ = false

-- what is looked for first where somebody would change a job: whether the site knows it, they may, and it is not gone
abbrev pub of_job : JobView → Bool → List Case → List Case
of_job j permitted others =
    (not (is_submitted j), Refusal.UnknownJob) ∷ (not permitted, Refusal.NotPermitted) ∷ (is_gone j, Refusal.Gone) ∷ others

-- the range begins at 0, is empty, or reaches beyond the counters of the site's own operations
abbrev pub is_bad_range : View → ℕ → ℕ → ℕ → Bool
is_bad_range v here first last = nat_le first 0 || (nat_lt last first || nat_lt (counter_of v.version here) last)

-- A job will never begin any more, and doesn't run: it is finished, or it was deleted before it began, and no other site
-- than this, its origin, has its grant. Its origin can tell: no other site grants it.
abbrev pub is_settled : ℕ → JobView → Bool
is_settled here j = is_some j.stages.finished || ((j.stages.deleted && is_none j.stages.begun) && not (is_taken here j))

-- what stands under the identifier is a job that is not settled, or a reservation that is not cancelled
abbrev pub is_unsettled : View → ℕ → StampValue → Bool
is_unsettled v here id =
    (is_submitted (v.job id) && not (is_settled here (v.job id))) || is_standing (v.reservation id)

-- the site has a job in the range that is not settled, or a reservation that is not cancelled
abbrev pub has_unsettled : View → ℕ → ℕ → ℕ → Bool
has_unsettled v here first last = any_below (suc (counter_of v.version here)) (λ counter.
    is_within first last counter && is_unsettled v here (record { counter = counter; site = here }))

-- no counter is left for the stamp of an operation
abbrev pub is_clock_full : View → Bool
is_clock_full v = not (nat_lt (greatest v.version) MAX_COUNTER)

-- what is looked for at each command, in this order
abbrev pub refusals : View → ℕ → Who → Command → List Case
refusals v here who (Command.Submit values held) = (nat_le MAX_JOBS (jobs_of v here), Refusal.SiteFull) ∷ []
refusals v here who (Command.Alter job changes) =
    of_job (v.job job) (may_alter who (v.job job)) ((is_granted (v.job job), Refusal.Granted) ∷ [])
refusals v here who (Command.Hold job kinds) =
    of_job (v.job job) (may_hold_all who (v.job job) kinds) ((is_granted (v.job job), Refusal.Granted) ∷ [])
refusals v here who (Command.Release job kinds) = of_job (v.job job) (may_hold_all who (v.job job) kinds) []
refusals v here who (Command.Delete job) = of_job (v.job job) (may_alter who (v.job job)) []
refusals v here who (Command.Grant job asker) =
    grant_refusals v here job asker ++ (is_last_term (v.job job).stages.grant, Refusal.ClockFull) ∷ []
refusals v here who (Command.HandBack job) =
    (not (is_submitted (v.job job)), Refusal.UnknownJob) ∷ (is_gone (v.job job), Refusal.Gone)
    ∷ (not (is_granted_to (v.job job) here), Refusal.NotGranted) ∷ (is_some (v.job job).stages.begun, Refusal.Begun) ∷ []
refusals v here who (Command.Decline job) =
    (not (is_submitted (v.job job)), Refusal.UnknownJob) ∷ (is_some (v.job job).stages.finished, Refusal.Gone)
    ∷ (not (is_granted_to (v.job job) here), Refusal.NotGranted) ∷ (is_some (v.job job).stages.begun, Refusal.Begun) ∷ []
refusals v here who (Command.Begin job moment) =
    (not (is_submitted (v.job job)), Refusal.UnknownJob) ∷ (is_gone (v.job job), Refusal.Gone)
    ∷ (is_held (v.job job) && is_none (v.job job).stages.begun, Refusal.Held)
    ∷ (not (is_granted_to (v.job job) here), Refusal.NotGranted) ∷ (is_some (v.job job).stages.begun, Refusal.Begun) ∷ []
refusals v here who (Command.Finish job moment status) =
    (not (is_submitted (v.job job)), Refusal.UnknownJob) ∷ (is_gone (v.job job), Refusal.Gone)
    ∷ (not (is_granted_to (v.job job) here), Refusal.NotGranted) ∷ (is_none (v.job job).stages.begun, Refusal.NotBegun) ∷ []
refusals v here who (Command.Reserve window) =
    (not (is_operator who.role), Refusal.NotPermitted)
    ∷ (is_bad_window window, Refusal.BadWindow)
    ∷ (nat_le MAX_RESERVATIONS (reservations_of v here), Refusal.SiteFull)
    ∷ []
refusals v here who (Command.Cancel id) =
    (not (is_operator who.role), Refusal.NotPermitted)
    ∷ (not (is_standing (v.reservation id)), Refusal.UnknownReservation)
    ∷ []
refusals v here who (Command.Retire first last) =
    (not (is_bad_range v here first last) && nat_lt MAX_RANGES (ranges_with v here first last), Refusal.SiteFull)
    ∷ (is_clock_full v, Refusal.ClockFull)
    ∷ (is_bad_range v here first last || has_unsettled v here first last, Refusal.NotSettled)
    ∷ []
