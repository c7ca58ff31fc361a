-- What an operation of the code is in a history.
use Rattle.std.specs.Prelude.{ℕ, Bool, ◌&&◌, ◌==◌, List, map}
use Rattle.std.specs.List.{list_any}
use Rattle.fed_stamp.specs.Stamp.{StampValue, same_stamp}
use Rattle.fed_lattice.specs.History.{History}
use Rattle.fed_model.specs.declared.holds.HoldKind.{HoldKind}
use Rattle.fed_record.specs.declared.operations.JobOperation.{JobOperation}
use Rattle.fed_record.specs.declared.operations.Operation.{Operation}
use Rattle.fed_model.specs.Hold.{same_kind}
use Rattle.fed_model.specs.Body.{Body, Body.Submit, Body.OfJob, Body.Reserve, Body.Cancel, Body.Retire, JobBody, JobBody.Set, JobBody.Hold, JobBody.Release, JobBody.Delete, JobBody.Grant, JobBody.HandBack, JobBody.Begin, JobBody.Finish}

-- the list has the pair
abbrev pub has_site_pair : List (ℕ × StampValue) → ℕ → StampValue → Bool
has_site_pair pairs site tag = list_any (λ (p : ℕ × StampValue). p.0 == site && same_stamp p.1 tag) pairs

abbrev pub has_hold_pair : List (HoldKind × StampValue) → HoldKind → StampValue → Bool
has_hold_pair pairs kind tag = list_any (λ (p : HoldKind × StampValue). same_kind p.0 kind && same_stamp p.1 tag) pairs

-- what an operation does to its job as the model has it
abbrev pub job_body_of : JobOperation → JobBody
job_body_of (JobOperation.Set changes removed) = Set changes (has_site_pair removed.items)
job_body_of (JobOperation.Hold kinds) = Hold kinds
job_body_of (JobOperation.Release removed) = Release (has_hold_pair removed.items)
job_body_of JobOperation.Delete = Delete
job_body_of (JobOperation.Grant site term) = Grant site term
job_body_of (JobOperation.HandBack term) = HandBack term
job_body_of (JobOperation.Begin beginning) = Begin beginning
job_body_of (JobOperation.Finish ending) = Finish ending

-- the operation as the model has it
abbrev pub body_of : Operation → Body
body_of (Operation.Submit owner values held) = Submit owner values held
body_of (Operation.OfJob job what) = OfJob job (job_body_of what)
body_of (Operation.Reserve window) = Reserve window
body_of (Operation.Cancel reservation) = Cancel reservation
body_of (Operation.Retire first last) = Retire first last

-- the operations of a history as the model has them
abbrev pub bodies : History Operation → History Body
bodies h = map (λ (e : StampValue × Operation). (e.0, body_of e.1)) h
