-- What a job's origin looks for where a site asks for the job, and what it decides.
use Rattle.std.specs.Prelude.{ℕ, Bool, not, ◌&&◌, ◌==◌, List, [], ◌∷◌, Option, Some, None, unwrap_or, if◌then◌else◌}
use Rattle.fed_stamp.specs.Stamp.{StampValue}
use Rattle.fed_model.specs.declared.refusals.Refusal.{Refusal}
use Rattle.fed_model.specs.JobView.{JobView}
use Rattle.fed_model.specs.Letter.{has_site, holder, is_gone, is_granted, is_granted_to, is_held, is_submitted}
use Rattle.fed_model.specs.View.{View}
use Rattle.fed_model.specs.declared.decisions.Decision.{Decision}

-- a refusal, beside whether it applies
abbrev pub Case : Type 0
Case = Bool × Refusal

-- the first refusal that applies
abbrev pub first_of : List Case → Option Refusal
first_of [] = None
first_of (c ∷ cases) = if c.0 then Some c.1 else first_of cases

-- the job is granted to another site
abbrev pub is_taken : ℕ → JobView → Bool
is_taken asker j = is_granted j && not (is_granted_to j asker)

-- the refusals of a Grant at the site `here`, in the order of their numbers (1, 3, 5, 6, 7, 8); a job that is gone has no
-- letter
abbrev pub grant_refusals : View → ℕ → StampValue → ℕ → List Case
grant_refusals v here job asker =
    (not (is_submitted (v.job job)), Refusal.UnknownJob)
    ∷ (is_gone (v.job job), Refusal.Gone)
    ∷ (not (job.site == here), Refusal.NotOrigin)
    ∷ (is_held (v.job job) && not (is_granted (v.job job)), Refusal.Held)
    ∷ (not (has_site (v.job job) asker) && not (is_granted (v.job job)), Refusal.NotEligible)
    ∷ (is_taken asker (v.job job), Refusal.TakenBy (unwrap_or (holder (v.job job)) asker))
    ∷ []

-- what is decided where this refusal applies, or none
abbrev pub decision_unless : Option Refusal → Bool → Decision
decision_unless (Some refusal) is_yours = Decision.Refused refusal
decision_unless None is_yours = if is_yours then Decision.Yours else Decision.Grant

-- what the site `here` decides where a site asks for a job: the first refusal that applies, else `Yours` where the job
-- is granted to the asker, else `Grant`
abbrev pub decision : View → ℕ → StampValue → ℕ → Decision
decision v here job asker =
    decision_unless (first_of (grant_refusals v here job asker)) (is_granted_to (v.job job) asker)
