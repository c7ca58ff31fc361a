-- The sets of operations that can come about, and those that sites can hold at the same time.
use Rattle.std.specs.Prelude.{◌≡◌, ℕ, zero, suc, ◌≤◌, ◌<◌, Bool, true, List, ◌++◌}
use Rattle.fed_stamp.specs.Stamp.{StampValue}
use Rattle.fed_lattice.specs.Sets.{Has}
use Rattle.fed_lattice.specs.History.{History, OneEach, Shares}
use Rattle.fed_lattice.specs.Latest.{is_before}
use Rattle.fed_lattice.specs.VersionOf.{version_of, HasSites}
use Rattle.fed_model.specs.declared.beginnings.Beginning.{Beginning}
use Rattle.fed_model.specs.declared.beginnings.Ending.{Ending}
use Rattle.fed_model.specs.declared.values.JobValues.{JobValues}
use Rattle.fed_model.specs.declared.windows.Window.{Window}
use Rattle.fed_model.specs.Body.{Body, Body.Submit, Body.OfJob, Body.Reserve, Body.Cancel, Body.Retire, JobBody, JobBody.Set, JobBody.Release, JobBody.Grant, JobBody.HandBack, JobBody.Begin, JobBody.Finish, is_of_job}
use Rattle.fed_model.specs.Pairs.{adds_site, adds_hold}

-- the set has the operation, and its stamp is smaller than t
abbrev pub HasBefore : History Body → StampValue → StampValue → Body → Type 0
HasBefore ops t s body = Has ops (s, body) × (is_before s t ≡ true)

-- the job that the operation at t names was submitted before
abbrev pub IsSubmitted : History Body → StampValue → StampValue → Type 0
IsSubmitted ops t job = (owner : List ℕ) × (values : JobValues) × (held : Bool) ×
    HasBefore ops t job (Submit owner values held)

-- the reservation that the operation at t names was made before
abbrev pub IsReserved : History Body → StampValue → StampValue → Type 0
IsReserved ops t id = (window : Window) × HasBefore ops t id (Reserve window)

-- each pair that the operation at t removes was added before, by an operation of the same job
abbrev pub HasAdded : {E : Type 0} → (Body → E → Bool) → History Body →
    StampValue → StampValue → (E → StampValue → Bool) → Type 0
HasAdded {E} adds ops t job removed =
    (element : E) (tag : StampValue) → removed element tag ≡ true →
    (body : Body) × HasBefore ops t tag body × (is_of_job job (tag, body) ≡ true) × (adds body element ≡ true)

-- terms begin at 1, and the grant of each later term comes after the one before it was handed back
abbrev pub IsNextTerm : History Body → StampValue → StampValue → ℕ → Type 0
IsNextTerm ops t job zero = ⊥
IsNextTerm ops t job (suc zero) = Unit {0}
IsNextTerm ops t job (suc (suc term)) = (s : StampValue) × HasBefore ops t s (OfJob job (HandBack (suc term)))

-- what an operation of a job rests on besides the Submit. A grant is handed back by the site that it was to
abbrev pub RestsOn : History Body → StampValue → StampValue → JobBody → Type 0
RestsOn ops t job (Set changes removed) = HasAdded adds_site ops t job removed
RestsOn ops t job (Release removed) = HasAdded adds_hold ops t job removed
RestsOn ops t job (Grant site term) = IsNextTerm ops t job term
RestsOn ops t job (HandBack term) = (s : StampValue) × HasBefore ops t s (OfJob job (Grant t.site term))
RestsOn ops t job (Finish ending) = (s : StampValue) × (beginning : Beginning) × Has ops (s, OfJob job (Begin beginning))
RestsOn ops t job _ = Unit {0}

-- what an operation rests on. What is retired was made before
abbrev pub IsGrounded : History Body → StampValue → Body → Type 0
IsGrounded ops t (Submit owner values held) = Unit {0}
IsGrounded ops t (OfJob job what) = IsSubmitted ops t job × RestsOn ops t job what
IsGrounded ops t (Reserve window) = Unit {0}
IsGrounded ops t (Cancel id) = IsReserved ops t id
IsGrounded ops t (Retire first last) = (1 ≤ first) × (first ≤ last) × (last < t.counter)

-- the job's grant of the greatest term is to the site and is not handed back
pub record IsHolder (ops : History Body) (job : StampValue) (site : ℕ) : Type 0 where
  pub stamp : StampValue
  pub term : ℕ
  pub granted : Has ops (stamp, OfJob job (Grant site term))
  pub greatest : (s : StampValue) (other k : ℕ) → Has ops (s, OfJob job (Grant other k)) → k ≤ term
  pub kept : (s : StampValue) → Has ops (s, OfJob job (HandBack term)) → ⊥

-- A set is lawful where each stamp is of one of the 16 sites and names one operation, each operation has in the
-- set what it rests on, a job has at most one Begin, at most one Finish, and at most one Grant and one HandBack
-- of each term, and a job begins at the site that holds its grant.
pub record IsLawful (ops : History Body) : Type 0 where
  pub sites : HasSites ops
  pub distinct : OneEach ops
  pub grounded : (e : StampValue × Body) → Has ops e → IsGrounded ops e.0 e.1
  pub one_begin : (job s t : StampValue) (a b : Beginning) →
      Has ops (s, OfJob job (Begin a)) → Has ops (t, OfJob job (Begin b)) → s ≡ t
  pub one_finish : (job s t : StampValue) (a b : Ending) →
      Has ops (s, OfJob job (Finish a)) → Has ops (t, OfJob job (Finish b)) → s ≡ t
  pub one_grant : (job s t : StampValue) (a b term : ℕ) →
      Has ops (s, OfJob job (Grant a term)) → Has ops (t, OfJob job (Grant b term)) → s ≡ t
  pub one_return : (job s t : StampValue) (term : ℕ) →
      Has ops (s, OfJob job (HandBack term)) → Has ops (t, OfJob job (HandBack term)) → s ≡ t
  pub begun_held : (job s : StampValue) (a : Beginning) → Has ops (s, OfJob job (Begin a)) → IsHolder ops job s.site

-- Two sets are kin where both and their union are lawful and each operation of the one whose stamp the other's
-- version covers is in the other.
pub record AreKin (ops others : History Body) : Type 0 where
  pub left : IsLawful ops
  pub right : IsLawful others
  pub both : IsLawful (ops ++ others)
  pub left_shares : Shares (version_of others) ops others
  pub right_shares : Shares (version_of ops) others ops
