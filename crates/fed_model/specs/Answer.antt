-- What a site answers to a command.
use Rattle.std.specs.Prelude.{ℕ, ◌+◌, Bool, false, ◌&&◌, List, Option, Some, None, Result, Ok, Err, if◌then◌else◌}
use Rattle.std.specs.List.{list_any}
use Rattle.std.specs.Option.{option_map_or}
use Rattle.fed_stamp.specs.declared.versions.ClockFull.{ClockFull}
use Rattle.fed_stamp.specs.Stamp.{StampValue}
use Rattle.fed_stamp.specs.Version.{next_stamp}
use Rattle.fed_lattice.specs.History.{History}
use Rattle.fed_model.specs.declared.askers.Who.{Who}
use Rattle.fed_model.specs.declared.commands.Command.{Command}
use Rattle.fed_model.specs.declared.grants.GrantStage.{GrantStage}
use Rattle.fed_model.specs.declared.holds.HoldKind.{HoldKind}
use Rattle.fed_model.specs.declared.holds.HoldKinds.{HoldKinds}
use Rattle.fed_model.specs.declared.beginnings.Beginning.{Beginning}
use Rattle.fed_model.specs.declared.refusals.Refusal.{Refusal}
use Rattle.fed_model.specs.declared.replies.Reply.{Reply}
use Rattle.fed_model.specs.Body.{Body, Body.OfJob, JobBody}
use Rattle.fed_model.specs.Hold.{all_kinds, has_kind}
use Rattle.fed_model.specs.Grant.{term_of}
use Rattle.fed_model.specs.JobView.{JobView}
use Rattle.fed_model.specs.Letter.{has_hold, is_granted_to}
use Rattle.fed_model.specs.View.{View, view}
use Rattle.fed_model.specs.Desk.{first_of}
use Rattle.fed_model.specs.Refusals.{refusals}

-- a refusal, or a reply and at most one new operation with its stamp
pub data Answer : Type 0 where
  Refuses : (refusal : Refusal) → Answer
  Replies : (reply : Reply) (new : Option (StampValue × Body)) → Answer

-- the pairs that a Set removes: where it names sites, each live one
abbrev pub replaced_sites : JobView → Option (List Bool) → ℕ → StampValue → Bool
replaced_sites j None site tag = false
replaced_sites j (Some sites) site tag = j.sites site tag

-- the pairs that a Release removes: the live ones of its kinds
abbrev pub released_holds : JobView → HoldKinds → HoldKind → StampValue → Bool
released_holds j kinds kind tag = has_kind kinds kind && j.holds kind tag

abbrev pub has_hold_among : JobView → HoldKinds → Bool
has_hold_among j kinds = list_any (λ kind. has_kind kinds kind && has_hold j kind) all_kinds

-- the value of a field, or 0 where it has none
abbrev pub value_in : Option (StampValue × ℕ) → ℕ
value_in field = option_map_or (λ (latest : StampValue × ℕ). latest.1) field 0

-- a job that begins at the moment does so on the nodes that it has now, and ends by its limit now
abbrev pub beginning : JobView → ℕ → Beginning
beginning j moment = record { moment = moment; nodes = value_in j.fields.nodes; end = moment + value_in j.fields.limit }

-- the greatest term of the job's grants, or 0 where it has none
abbrev pub term_in : Option GrantStage → ℕ
term_in stage = option_map_or term_of stage 0

-- the operation that a command adds, if any
abbrev pub effect : View → Who → Command → Option Body
effect v who (Command.Submit values held) = Some (Body.Submit who.user values held)
effect v who (Command.Alter job changes) =
    Some (OfJob job (JobBody.Set changes (replaced_sites (v.job job) changes.sites)))
effect v who (Command.Hold job kinds) = Some (OfJob job (JobBody.Hold kinds))
effect v who (Command.Release job kinds) =
    if has_hold_among (v.job job) kinds then Some (OfJob job (JobBody.Release (released_holds (v.job job) kinds))) else None
effect v who (Command.Delete job) = Some (OfJob job JobBody.Delete)
effect v who (Command.Grant job asker) =
    if is_granted_to (v.job job) asker then None
    else Some (OfJob job (JobBody.Grant asker (term_in (v.job job).stages.grant + 1)))
effect v who (Command.HandBack job) = Some (OfJob job (JobBody.HandBack (term_in (v.job job).stages.grant)))
effect v who (Command.Decline job) = Some (OfJob job (JobBody.HandBack (term_in (v.job job).stages.grant)))
effect v who (Command.Begin job moment) = Some (OfJob job (JobBody.Begin (beginning (v.job job) moment)))
effect v who (Command.Finish job moment status) =
    Some (OfJob job (JobBody.Finish (record { moment = moment; status = status })))
effect v who (Command.Reserve window) = Some (Body.Reserve window)
effect v who (Command.Cancel id) = Some (Body.Cancel id)
effect v who (Command.Retire first last) = Some (Body.Retire first last)

-- the reply to a command that adds an operation under the stamp
abbrev pub reply_with : StampValue → Command → Reply
reply_with t (Command.Submit values held) = Reply.Submitted t
reply_with t (Command.Grant job asker) = Reply.Granted
reply_with t (Command.Reserve window) = Reply.Reserved t
reply_with t _ = Reply.Done

-- the reply to a command that adds nothing: a Grant to the site that has the job, or a Release of no live pair
abbrev pub reply_without : Command → Reply
reply_without (Command.Grant job asker) = Reply.Yours
reply_without _ = Reply.Done

-- the operation under the next stamp, if there is one
abbrev pub adds : Result StampValue ClockFull → Command → Body → Answer
adds (Ok t) command body = Replies (reply_with t command) (Some (t, body))
adds (Err full) command body = Refuses Refusal.ClockFull

abbrev pub replies : Result StampValue ClockFull → Command → Option Body → Answer
replies next command None = Replies (reply_without command) None
replies next command (Some body) = adds next command body

abbrev pub answer_unless : Option Refusal → Answer → Answer
answer_unless (Some refusal) answer = Refuses refusal
answer_unless None answer = answer

-- by what can be read of a set at a site
unfoldable pub answer_to : View → ℕ → Who → Command → Answer
answer_to v here who command = answer_unless (first_of (refusals v here who command))
    (replies (next_stamp v.version here) command (effect v who command))

abbrev pub answer : History Body → ℕ → Who → Command → Answer
answer ops = answer_to (view ops)
