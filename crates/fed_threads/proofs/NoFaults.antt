-- Journals that are settled meet no fault but want of memory.
use Rattle.std.proofs.Common.{◌≡◌, ◌<◌, ◌≤◌, ◌+◌, ℕ, zero, suc, List, [], ◌∷◌, length, slice_index, take, subst, arith, refl}
use Rattle.fed_model.specs.declared.events.Event.{Event}
use Rattle.fed_threads.specs.declared.fault.CloseFault.{CloseFault}
use Rattle.fed_threads.specs.declared.fault.CloseFault.TheVariants.{Strange, Twice, Unclaimed, NoOrder, Differs, NoMemory}
use Rattle.fed_threads.specs.declared.journal.Claim.{Claim}
use Rattle.fed_threads.specs.declared.journal.Entry.{Entry}
use Rattle.fed_threads.specs.Placing.{none_placed, placed_after}
use Rattle.fed_threads.specs.Settled.{Point, starts, AllAgree, NextAgrees, after_next, point_after}
use Rattle.fed_threads.specs.Settle.{DiffersFirst, IsCloseFault, IsSettled, IsWhole}
use Rattle.fed_threads.proofs.OnePlacing.{one_placing}

-- where each entry of an order agrees, the one at each place does
agrees_at : (journals : List (List Entry)) (p : Point) (sites : List ℕ) (k : ℕ) → k < length sites → AllAgree journals p sites
    → NextAgrees journals (point_after journals p (take k sites)) (slice_index sites k)
agrees_at journals p [] k small all = absurd (omega (arith, small))
agrees_at journals p (s ∷ sites) zero small all = all.0
agrees_at journals p (s ∷ sites) (suc k) small all = agrees_at journals (after_next journals p s) sites k (omega (arith, small)) all.1

pub no_fault : (journals : List (List Entry)) (seats : List (List Claim)) (events : List Event) (fault : CloseFault)
    → IsSettled journals seats events → IsCloseFault journals seats fault → fault ≡ NoMemory
no_fault journals seats events (Strange seat place) s f = absurd (f.fails (s.claimed.hold seat place))
no_fault journals seats events (Twice site index) s f = absurd (f.1.fails (s.claimed.once_at_most site index))
no_fault journals seats events (Unclaimed site index) s f = absurd (f.2.fails (s.claimed.once_at_least site index))
no_fault journals seats events (NoOrder next) s f =
    absurd (f.1.part (subst (λ sites. IsWhole journals (placed_after (none_placed journals) sites)) (one_placing _ _ s.sites f.1.sites s.placing f.1.placing) s.whole))
no_fault journals seats events (Differs k) s f =
    let d : DiffersFirst journals s.sites k = subst (λ sites. DiffersFirst journals sites k) (one_placing _ _ f.1.sites s.sites f.1.placing s.placing) f.1.differs in
    absurd (d.differs (agrees_at journals (starts journals) s.sites k d.inside s.agree))
no_fault journals seats events NoMemory s f = refl
