-- Versions that were heard have 16 counters, in every run.
use Rattle.std.specs.Prelude.{nat_lt, Option, Some, None}
use Rattle.std.proofs.Common.{◌≡◌, ℕ, ◌≤◌, List, [], ◌∷◌, length, max, min, true, ◌&&◌, refl, ap, ap₂, ◌∙◌, arith}
use Rattle.std.proofs.lemmas.Bool.{and_parts, leb-true}
use Rattle.fed_stamp.specs.Version.{is_below, joined, met}
use Rattle.fed_stamp.proofs.VersionLaws.{length-joined}
use Rattle.fed_lattice.specs.VersionOf.{version_of}
use Rattle.fed_lattice.proofs.VersionOfLaws.{length-version_of}
use Rattle.fed_model.specs.Answer.{Answer, Answer.Refuses, Answer.Replies, answer}
use Rattle.fed_model.specs.Packet.{Site, Packet, missing, taken, takes_unless}
use Rattle.fed_model.specs.declared.events.Event.{Event}
use Rattle.fed_model.specs.declared.events.Event.TheVariants.{Do, Ship, Take}
use Rattle.fed_model.specs.declared.outcomes.Outcome.{Outcome}
use Rattle.fed_model.specs.Run.{World, start, stays, does, ships, receives, takes, packet, step, run_from, run, with_operation}
use Rattle.fed_theory.proofs.Runs.{either, packet_Has, put_cases, Good, start_good, step_good}

-- what both versions have seen, where one has seen all that the other has
pub met_below : (v w : List ℕ) → length v ≡ length w → is_below v w ≡ true → met v w ≡ v
unfolding met is_below
met_below [] w e b = refl
met_below (x ∷ v) [] e b = absurd (omega arith)
met_below (x ∷ v) (y ∷ w) e b =
    let p = and_parts _ (is_below v w) b in
    let l : x ≤ y = leb-true x y p.0 in
    let first : min x y ≡ x = omega arith in
    let lengths : length v ≡ length w = omega arith in ap₂ (λ (a : ℕ) (u : List ℕ). a ∷ u) first (met_below v w lengths p.1)

abbrev HasCounters : World → Type 0
HasCounters w = (i from : ℕ) → length ((w.site i).heard from) ≡ 16

does_counters : (w : World) (i : ℕ) (a : Answer) → HasCounters w → HasCounters (does w i a).after
does_counters w i (Refuses refusal) h = h
does_counters w i (Replies reply None) h = h
does_counters w i (Replies reply (Some new)) h = put_cases (λ j (s : Site). (from : ℕ) → length (s.heard from) ≡ 16) w.site i (with_operation (w.site i) new) (h i) h

receives_counters : (w : World) (i : ℕ) (p : Packet) (lacks : Option ℕ) → p.reached ≡ version_of p.gives → HasCounters w → HasCounters (receives w i (takes_unless lacks (w.site i) p)).after
receives_counters w i p (Some from) e h = h
receives_counters w i p None e h =
    put_cases (λ j (s : Site). (from : ℕ) → length (s.heard from) ≡ 16) w.site i (taken (w.site i) p)
    (put_cases (λ from (v : List ℕ). length v ≡ 16) (w.site i).heard p.sender (joined ((w.site i).heard p.sender) p.reached)
    (let a : length ((w.site i).heard p.sender) ≡ 16 = h i p.sender in
    let b : length p.reached ≡ 16 = ap length e ∙ length-version_of p.gives in
    let c : length (joined ((w.site i).heard p.sender) p.reached) ≡ max (length ((w.site i).heard p.sender)) (length p.reached) = length-joined ((w.site i).heard p.sender) p.reached in omega arith)
    (h i))
    h

takes_counters : (w : World) (i k : ℕ) → Good w → HasCounters w → HasCounters (takes w i (packet w k)).after
takes_counters w i k g h = go (packet w k) refl
  where
    go : (o : Option Packet) → packet w k ≡ o → HasCounters (takes w i o).after
    go None is = h
    go (Some p) is = receives_counters w i p (missing p.need (version_of (w.site i).set)) (g.1.sent p (packet_Has w k p is)).exact h

step_counters : (n : ℕ) (w : World) (event : Event) → Good w → HasCounters w → HasCounters (step n w event).after
step_counters n w (Do site who command) g h = either HasCounters (nat_lt site n) _ (stays w Outcome.NoSite) (does_counters w site (answer (w.site site).set site who command) h) h
step_counters n w (Ship site to) g h = either HasCounters (nat_lt site n && nat_lt to n) (ships w site to) (stays w Outcome.NoSite) h h
step_counters n w (Take site k) g h = either HasCounters (nat_lt site n) (takes w site (packet w k)) (stays w Outcome.NoSite) (takes_counters w site k g h) h

run_from_counters : (n : ℕ) (w : World) (events : List Event) → n ≤ 16 → Good w → HasCounters w → HasCounters (run_from n w events)
run_from_counters n w [] few g h = h
run_from_counters n w (event ∷ events) few g h =
    run_from_counters n (step n w event).after events few (step_good n w event few g) (step_counters n w event g h)

pub heard_counters : (n : ℕ) (events : List Event) → n ≤ 16 → (i from : ℕ) → length (((run n events).site i).heard from) ≡ 16
heard_counters n events few = run_from_counters n start events few start_good (λ i from. refl)
