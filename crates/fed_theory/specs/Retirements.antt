-- Retires that are done in the course of a run.
use Rattle.std.specs.Prelude.{◌≡◌, ◌≢◌, ℕ, ◌+◌, ◌<◌, ◌≤◌, Bool, true, List, ◌∷◌, ◌++◌, length, map, None, if◌then◌else◌}
use Rattle.fed_stamp.specs.Stamp.{StampValue}
use Rattle.fed_model.specs.declared.askers.Who.{Who}
use Rattle.fed_model.specs.declared.capacities.TheConstants.{MAX_JOBS}
use Rattle.fed_model.specs.declared.commands.Command.{Command}
use Rattle.fed_model.specs.declared.events.Event.{Event}
use Rattle.fed_model.specs.declared.events.Event.TheVariants.{Do}
use Rattle.fed_model.specs.declared.outcomes.Outcome.TheVariants as Outcome
use Rattle.fed_model.specs.declared.refusals.Refusal.{Refusal}
use Rattle.fed_model.specs.declared.replies.Reply.{Reply}
use Rattle.fed_model.specs.declared.values.JobValues.{JobValues}
use Rattle.fed_model.specs.JobView.{unknown}
use Rattle.fed_model.specs.Origin.{count_at}
use Rattle.fed_model.specs.Refusals.{is_unsettled}
use Rattle.fed_model.specs.Retired.{is_within}
use Rattle.fed_model.specs.Run.{outcomes, run, step}
use Rattle.fed_model.specs.View.{View, view}
use Rattle.fed_theory.specs.Submits.{submits_at}

-- among the later events a Retire is done at the identifier's site whose range has its counter
pub record IsRetiredAmong (n : ℕ) (early late : List Event) (id : StampValue) : Type 0 where
  pub before : List Event
  pub after : List Event
  pub who : Who
  pub first : ℕ
  pub last : ℕ
  pub reply : Reply
  pub events : late ≡ before ++ Do id.site who (Command.Retire first last) ∷ after
  pub within : is_within first last id.counter ≡ true
  pub done : (step n (run n (early ++ before)) (Do id.site who (Command.Retire first last))).outcome ≡ Outcome.Replied reply

-- ---- all that is settled is retired
-- the Retires of these ranges at the site, one after another
abbrev pub retires_at : ℕ → Who → List (ℕ × ℕ) → List Event
retires_at site who ranges = map (λ (r : ℕ × ℕ). Do site who (Command.Retire r.0 r.1)) ranges

-- how many jobs of the site are not settled, and reservations of it not cancelled
abbrev pub unsettled_of : View → ℕ → ℕ
unsettled_of v site = count_at v site (is_unsettled v site)

-- Behind the events the site does the Retires of these ranges, one after another, and then it knows of its own
-- identifiers just those that are unsettled, each as before. Then a Submit is not refused as at a full site, as long as
-- those that are unsettled and what was asked of it since are fewer than 10,000.
pub record CanRetireSettled (n : ℕ) (events : List Event) (site : ℕ) (who : Who) : Type 0 where
  pub ranges : List (ℕ × ℕ)
  pub few : length ranges ≤ unsettled_of (view ((run n events).site site).set) site + 1
  pub done : outcomes n (events ++ retires_at site who ranges) ≡ outcomes n events ++ map (λ r. Outcome.Replied Reply.Done) ranges
  pub jobs : (job : StampValue) → job.site ≡ site →
      (view ((run n (events ++ retires_at site who ranges)).site site).set).job job
      ≡ (if is_unsettled (view ((run n events).site site).set) site job then (view ((run n events).site site).set).job job else unknown)
  pub reservations : (id : StampValue) → id.site ≡ site →
      (view ((run n (events ++ retires_at site who ranges)).site site).set).reservation id
      ≡ (if is_unsettled (view ((run n events).site site).set) site id then (view ((run n events).site site).set).reservation id else None)
  pub room : (late : List Event) (asker : Who) (values : JobValues) (held : Bool) →
      unsettled_of (view ((run n events).site site).set) site + submits_at site late < MAX_JOBS →
      (step n (run n ((events ++ retires_at site who ranges) ++ late)) (Do site asker (Command.Submit values held))).outcome ≢ Outcome.Refused Refusal.SiteFull
