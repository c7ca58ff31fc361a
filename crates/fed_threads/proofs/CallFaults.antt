-- Why a call ends with a fault.
use Rattle.std.specs.Result.{IsErrAnd}
use Rattle.std.proofs.Common.{◌≡◌, ◌≤◌, ℕ, List, length, true, Result, Ok, Err, IfErr, sym, subst, ◌∙◌}
use Rattle.fed_stamp.specs.Version.{is_below}
use Rattle.fed_threads.specs.declared.fault.CallFault.{CallFault}
use Rattle.fed_threads.specs.declared.fault.CallFault.TheVariants.{NoSite, Behind, NoMemory}
use Rattle.fed_threads.specs.declared.fault.CloseFault.{CloseFault}
use Rattle.fed_threads.specs.declared.fault.CloseFault.TheVariants as Close
use Rattle.fed_threads.specs.Calls.{IsFaultOf}
use Rattle.fed_threads.specs.Replay.{Kept, replay}
use Rattle.fed_threads.specs.Seat.{Known, IsBehind, IsUpToDate, seen_of, version_of}

module _ (held : Kept) (k : Known) (site found : ℕ) (version : List ℕ) (long : found ≡ length held.entries) (read : version ≡ (replay held).view.version) where
  -- by what the lock keeps
  behind_here : (e : CallFault) → IsBehind k site (length held.entries) (replay held).view.version e → IsFaultOf held k site e
  behind_here NoSite b = b
  behind_here (Behind seen here there) b = b
  behind_here NoMemory b = absurd b

  pub behind : {T : Type 0} (r : Result T CallFault) (e : CallFault) → IsBehind k site found version e → IsErrAnd r (λ x. x ≡ e) → IfErr r (IsFaultOf held k site)
  behind (Ok x) e b h = tt
  behind (Err x) e b h =
      subst (IsFaultOf held k site) (sym h)
      (behind_here e (subst (λ n. IsBehind k site n (replay held).view.version e) long (subst (λ v. IsBehind k site found v e) read b)))

  pub wanting : {T : Type 0} (r : Result T CallFault) → IsUpToDate k site found version → IsErrAnd r (λ x. x ≡ NoMemory) → IfErr r (IsFaultOf held k site)
  wanting (Ok x) u h = tt
  wanting (Err x) u h =
      let here : IsUpToDate k site (length held.entries) (replay held).view.version = record {
        journal = subst (λ n. seen_of k site ≤ n) long u.journal;
        board = subst (λ v. is_below (version_of k site) v ≡ true) read u.board;
      } in
      subst (IsFaultOf held k site) (sym h) here

-- the fault of settling, where it is none but want of memory
pub only_memory : {T : Type 0} (r : Result T CloseFault) (e : CloseFault) → e ≡ Close.NoMemory → IsErrAnd r (λ x. x ≡ e) → IfErr r (λ x. x ≡ Close.NoMemory)
only_memory (Ok x) e m h = tt
only_memory (Err x) e m h = h ∙ m
