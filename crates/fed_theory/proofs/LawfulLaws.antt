-- Lawful sets.
use Rattle.std.proofs.Common.{◌≡◌, ℕ, zero, suc, Bool, true, subst}
use Rattle.fed_stamp.specs.Stamp.{StampValue, same_stamp}
use Rattle.fed_lattice.specs.Sets.{Has, Includes}
use Rattle.fed_lattice.specs.History.{History, Agree}
use Rattle.fed_lattice.proofs.FilterLaws.{Has-filter, filter-Has}
use Rattle.fed_lattice.specs.VersionOf.{version_of}
use Rattle.fed_lattice.proofs.VersionOfLaws.{version_of-covers}
use Rattle.fed_model.specs.declared.holds.HoldKind.{HoldKind}
use Rattle.fed_model.specs.Body.{Body, Body.Submit, Body.OfJob, Body.Reserve, Body.Cancel, JobBody, JobBody.Set, JobBody.Release, JobBody.Grant, JobBody.HandBack, JobBody.Finish, is_of_job, of_job, Body.Retire}
use Rattle.fed_model.specs.Pairs.{adds_site, removes_site, adds_hold, removes_hold}
use Rattle.fed_theory.specs.JobHistory.{IsJobHistory}
use Rattle.fed_lattice.specs.ExactLaws.{same_stamp_is}
use Rattle.fed_model.specs.Lawful.{IsSubmitted, HasAdded, IsNextTerm, RestsOn, IsGrounded, IsLawful, AreKin}

-- what rests on a set rests on a larger one
module _ (ops more : History Body) (includes : Includes more ops) where
  submitted_more : (t job : StampValue) → IsSubmitted ops t job → IsSubmitted more t job
  submitted_more t job s = (s.0, s.1, s.2, (includes _ s.3.0, s.3.1))

  added_more : {E : Type 0} (adds : Body → E → Bool) (t job : StampValue) (removed : E → StampValue → Bool) → HasAdded adds ops t job removed → HasAdded adds more t job removed
  added_more adds t job removed h element tag e = let a = h element tag e in (a.0, (includes _ a.1.0, a.1.1), a.2, a.3)

  next_term_more : (t job : StampValue) (term : ℕ) → IsNextTerm ops t job term → IsNextTerm more t job term
  next_term_more t job zero n = n
  next_term_more t job (suc zero) n = n
  next_term_more t job (suc (suc term)) n = (n.0, (includes _ n.1.0, n.1.1))

  rests_more : (t job : StampValue) (what : JobBody) → RestsOn ops t job what → RestsOn more t job what
  rests_more t job (Set changes removed) r = added_more adds_site t job removed r
  rests_more t job (Release removed) r = added_more adds_hold t job removed r
  rests_more t job (Grant site term) r = next_term_more t job term r
  rests_more t job (HandBack term) r = (r.0, (includes _ r.1.0, r.1.1))
  rests_more t job (Finish ending) r = (r.0, r.1, includes _ r.2)
  rests_more t job _ r = tt

  pub grounded_more : (t : StampValue) (body : Body) → IsGrounded ops t body → IsGrounded more t body
  grounded_more t (Submit owner values held) g = tt
  grounded_more t (OfJob job what) g = (submitted_more t job g.0, rests_more t job what g.1)
  grounded_more t (Reserve window) g = tt
  grounded_more t (Cancel id) g = (g.0, (includes _ g.1.0, g.1.1))
  grounded_more t (Retire first last) g = g

-- kin sets agree beside their versions
pub kin_agree : (ops others : History Body) → AreKin ops others → Agree (version_of ops) ops (version_of others) others
kin_agree ops others k = record {
  left_covered = version_of-covers ops k.left.sites;
  right_covered = version_of-covers others k.right.sites;
  left_shares = k.left_shares;
  right_shares = k.right_shares;
  one_each = k.both.distinct;
}

-- the operations of a job in a lawful set remove what others of them added
module _ (ops : History Body) (l : IsLawful ops) (job : StampValue) where
  kept_pair : {E : Type 0} (adds : Body → E → Bool) (t named : StampValue) (removed : E → StampValue → Bool) (element : E) (tag : StampValue) → same_stamp named job ≡ true → HasAdded adds ops t named removed
      → removed element tag ≡ true → (c : Body) × Has (of_job job ops) (tag, c) × (adds c element ≡ true)
  kept_pair adds t named removed element tag same h e =
      let a = h element tag e in
      let of = subst (λ (s : StampValue). is_of_job s (tag, a.0) ≡ true) (same_stamp_is named job same) a.2 in
      (a.0, filter-Has (is_of_job job) ops (tag, a.0) a.1.0 of, a.3)

  site_added : (t : StampValue) (body : Body) (site : ℕ) (tag : StampValue) → IsGrounded ops t body → is_of_job job (t, body) ≡ true → removes_site body site tag ≡ true
      → (c : Body) × Has (of_job job ops) (tag, c) × (adds_site c site ≡ true)
  site_added t (OfJob named (Set changes removed)) site tag g of e = kept_pair adds_site t named removed site tag of g.1 e
  site_added t _ site tag g of e = cc

  hold_added : (t : StampValue) (body : Body) (kind : HoldKind) (tag : StampValue) → IsGrounded ops t body → is_of_job job (t, body) ≡ true → removes_hold body kind tag ≡ true
      → (c : Body) × Has (of_job job ops) (tag, c) × (adds_hold c kind ≡ true)
  hold_added t (OfJob named (Release removed)) kind tag g of e = kept_pair adds_hold t named removed kind tag of g.1 e
  hold_added t _ kind tag g of e = cc

  pub job_history : IsJobHistory (of_job job ops)
  job_history = record {
    sites = λ e site tag h r. let k = Has-filter (is_of_job job) ops e h in site_added e.0 e.1 site tag (l.grounded e k.0) k.1 r;
    holds = λ e kind tag h r. let k = Has-filter (is_of_job job) ops e h in hold_added e.0 e.1 kind tag (l.grounded e k.0) k.1 r;
  }
