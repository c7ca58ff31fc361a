-- The letter of a job.
use Rattle.std.specs.Prelude.{ℕ, zero, suc, Bool, false, ◌&&◌, ◌||◌, List, if◌then◌else◌, Option, Some, None, is_some, is_none, nat_eq}
use Rattle.std.specs.Option.{option_eq}
use Rattle.fed_stamp.specs.declared.sites.TheConstants.{SITES}
use Rattle.fed_stamp.specs.Stamp.{StampValue}
use Rattle.fed_stamp.specs.Version.{counter_of}
use Rattle.fed_model.specs.declared.grants.GrantStage.{GrantStage}
use Rattle.fed_model.specs.declared.holds.HoldKind.{HoldKind}
use Rattle.fed_model.specs.declared.holds.HoldKind.TheVariants.{User, Operator, System}
use Rattle.fed_model.specs.declared.letters.Letter.{Letter}
use Rattle.fed_model.specs.declared.letters.Letter.TheVariants.{Exiting, Running, Held, Granted, Queued}
use Rattle.fed_model.specs.Grant.{holder_of}
use Rattle.fed_model.specs.JobView.{JobFields, JobView}

-- whether a number below n passes the test
unfoldable pub any_below : ℕ → (ℕ → Bool) → Bool
any_below zero test = false
any_below (suc n) test = test n || any_below n test

-- whether a stamp that the version covers passes the test
abbrev pub any_covered : List ℕ → (StampValue → Bool) → Bool
any_covered v test = any_below SITES
    (λ site. any_below (suc (counter_of v site)) (λ counter. test (record { counter = counter; site = site })))

-- an element is present where it has a live pair, whose tag is the stamp of an operation of the job
abbrev pub has_site : JobView → ℕ → Bool
has_site j site = any_covered j.touched (j.sites site)

abbrev pub has_hold : JobView → HoldKind → Bool
has_hold j kind = any_covered j.touched (j.holds kind)

abbrev pub is_held : JobView → Bool
is_held j = has_hold j User || (has_hold j Operator || has_hold j System)

-- whether each field passes the test
abbrev pub all_fields : ((T : Type 0) → Option (StampValue × T) → Bool) → JobFields → Bool
all_fields test f = test _ f.owner &&
    (test _ f.name && (test _ f.priority && (test _ f.nodes && (test _ f.limit && test _ f.account))))

-- a job is there once it is submitted, which sets all its fields
abbrev pub is_submitted : JobView → Bool
is_submitted j = all_fields (λ _. is_some) j.fields

-- the site that a grant is to that is not handed back
abbrev pub holder_in : Option GrantStage → Option ℕ
holder_in None = None
holder_in (Some g) = holder_of g

abbrev pub holder : JobView → Option ℕ
holder j = holder_in j.stages.grant

abbrev pub is_granted : JobView → Bool
is_granted j = is_some (holder j)

abbrev pub is_granted_to : JobView → ℕ → Bool
is_granted_to j site = option_eq nat_eq (holder j) (Some site)

-- finished, or deleted before it began
abbrev pub is_gone : JobView → Bool
is_gone j = is_some j.stages.finished || (j.stages.deleted && is_none j.stages.begun)

-- a job that is gone has none
abbrev pub letter : JobView → Option Letter
letter j =
    if is_gone j then None
    else if is_some j.stages.begun && j.stages.deleted then Some Exiting
    else if is_some j.stages.begun then Some Running
    else if is_held j then Some Held
    else if is_granted j then Some Granted
    else Some Queued
