-- What one event does in a run.
use Rattle.std.specs.Prelude.{nat_lt, Option, Some, None}
use Rattle.std.proofs.Common.{◌≡◌, ◌&&◌, ◌≢◌, ℕ, ◌<◌, ◌≤◌, ◌==◌, List, refl, inl, inr}
use Rattle.std.proofs.lemmas.Bool.{cases_Bool, cond-true, cond-false, eqb-true, lt-ltb, and_from}
use Rattle.fed_model.specs.declared.askers.Who.{Who}
use Rattle.fed_model.specs.declared.commands.Command.{Command}
use Rattle.fed_model.specs.Lawful.{IsLawful}
use Rattle.fed_model.specs.Answer.{Answer, Answer.Refuses, Answer.Replies, answer}
use Rattle.fed_stamp.specs.Indexes.{put}
use Rattle.fed_model.specs.declared.events.Event.{Event}
use Rattle.fed_model.specs.declared.events.Event.TheVariants.{Do, Ship, Take}
use Rattle.fed_model.specs.declared.outcomes.Outcome.{Outcome}
use Rattle.fed_model.specs.Run.{World, stays, does, step, run, with_operation, ships, packet, takes, receives}
use Rattle.fed_theory.proofs.Cuts.{cut_lawful}
use Rattle.fed_theory.proofs.Runs.{run_good}
use Rattle.fed_model.specs.Packet.{Packet, taken, takes_unless}

-- ---- tables of sites
pub put_other : {T : Type 0} (f : ℕ → T) (i : ℕ) (t : T) (j : ℕ) → j ≢ i → put f i t j ≡ f j
put_other f i t j apart = elim (cases_Bool (j == i)) [
  | inl e ↦ absurd (apart (eqb-true j i e))
  | inr e ↦ cond-false (j == i) t (f j) e
]

-- ---- at a site of the federation
pub site_lawful : (n : ℕ) (events : List Event) → n ≤ 16 → (i : ℕ) → IsLawful ((run n events).site i).set
site_lawful n events few i = let g = run_good n events few in cut_lawful g.0 ((run n events).site i).set g.1.lawful (g.1.cuts i)

pub do_here : (n : ℕ) (w : World) (i : ℕ) (who : Who) (command : Command) → i < n → step n w (Do i who command) ≡ does w i (answer (w.site i).set i who command)
do_here n w i who command small = cond-true (nat_lt i n) _ (stays w Outcome.NoSite) (lt-ltb i n small)

pub ship_here : (n : ℕ) (w : World) (i to : ℕ) → i < n → to < n → step n w (Ship i to) ≡ ships w i to
ship_here n w i to a b = cond-true (nat_lt i n && nat_lt to n) _ (stays w Outcome.NoSite) (and_from (nat_lt i n) (nat_lt to n) (lt-ltb i n a) (lt-ltb to n b))

pub take_here : (n : ℕ) (w : World) (i k : ℕ) → i < n → step n w (Take i k) ≡ takes w i (packet w k)
take_here n w i k small = cond-true (nat_lt i n) (takes w i (packet w k)) (stays w Outcome.NoSite) (lt-ltb i n small)

-- ---- at the other sites
pub does_others : (w : World) (i : ℕ) (a : Answer) (j : ℕ) → j ≢ i → (does w i a).after.site j ≡ w.site j
does_others w i (Refuses refusal) j apart = refl
does_others w i (Replies reply None) j apart = refl
does_others w i (Replies reply (Some new)) j apart = put_other w.site i (with_operation (w.site i) new) j apart

pub receives_others : (w : World) (i : ℕ) (p : Packet) (lacks : Option ℕ) (j : ℕ) → j ≢ i → (receives w i (takes_unless lacks (w.site i) p)).after.site j ≡ w.site j
receives_others w i p (Some from) j apart = refl
receives_others w i p None j apart = put_other w.site i (taken (w.site i) p) j apart
