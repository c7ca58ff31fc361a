-- Once each site has told each other what it has, all have the same.
use Rattle.std.specs.Prelude.{nat_lt, All, Option, Some, None}
use Rattle.std.proofs.Common.{◌≡◌, ◌≢◌, ℕ, suc, ◌<◌, ◌≤◌, List, [], ◌∷◌, ◌++◌, ◌&&◌, refl, sym, ap, subst, ◌∙◌, inl, inr, arith, append_assoc}
use Rattle.std.proofs.lemmas.Bool.{cases_eq, cases_lt, ltb-true}
use Rattle.fed_stamp.specs.Stamp.{StampValue}
use Rattle.fed_lattice.specs.Sets.{Has, Includes, IsSameSet}
use Rattle.fed_lattice.specs.SetLaws.{Has-right}
use Rattle.fed_lattice.specs.History.{History}
use Rattle.fed_lattice.specs.VersionOf.{version_of}
use Rattle.fed_model.specs.Body.{Body}
use Rattle.fed_model.specs.View.{view}
use Rattle.fed_theory.proofs.ViewLaws.{view_same}
use Rattle.fed_model.specs.Answer.{answer}
use Rattle.fed_model.specs.Packet.{Packet, missing}
use Rattle.fed_model.specs.declared.events.Event.{Event}
use Rattle.fed_model.specs.declared.events.Event.TheVariants.{Do, Ship, Take}
use Rattle.fed_model.specs.declared.outcomes.Outcome.{Outcome}
use Rattle.fed_model.specs.Exchange.{IsQuiet, IsPassed, IsExchange}
use Rattle.fed_model.specs.Run.{World, start, stays, does, ships, takes, packet, step, run_from, run}
use Rattle.fed_theory.proofs.RunSteps.{does_others, site_lawful, receives_others}
use Rattle.fed_theory.proofs.Promises.{addressee_takes, shipped_adds}
use Rattle.fed_theory.proofs.Runs.{either, either_if, IsGood, quiet_good, run-append, run-push, run_good, run_grows}

-- ---- beyond the sites of the federation nothing happens
takes_others : (w : World) (i k j : ℕ) → j ≢ i → (takes w i (packet w k)).after.site j ≡ w.site j
takes_others w i k j apart = go (packet w k)
  where
    go : (o : Option Packet) → (takes w i o).after.site j ≡ w.site j
    go None = refl
    go (Some p) = receives_others w i p (missing p.need (version_of (w.site i).set)) j apart

step_beyond : (n : ℕ) (w : World) (event : Event) (i : ℕ) → n ≤ i → (step n w event).after.site i ≡ w.site i
step_beyond n w (Do site who command) i far =
    either_if (λ v. v.site i ≡ w.site i) (nat_lt site n) (does w site (answer (w.site site).set site who command)) (stays w Outcome.NoSite)
    (λ e. let l = ltb-true site n e in does_others w site (answer (w.site site).set site who command) i (omega arith)) refl
step_beyond n w (Ship site to) i far = either (λ v. v.site i ≡ w.site i) (nat_lt site n && nat_lt to n) (ships w site to) (stays w Outcome.NoSite) refl refl
step_beyond n w (Take site k) i far =
    either_if (λ v. v.site i ≡ w.site i) (nat_lt site n) (takes w site (packet w k)) (stays w Outcome.NoSite)
    (λ e. let l = ltb-true site n e in takes_others w site k i (omega arith)) refl

run_from_beyond : (n : ℕ) (w : World) (events : List Event) (i : ℕ) → n ≤ i → (run_from n w events).site i ≡ w.site i
run_from_beyond n w [] i far = refl
run_from_beyond n w (event ∷ events) i far = run_from_beyond n (step n w event).after events i far ∙ step_beyond n w event i far

none_beyond : (n : ℕ) (events : List Event) (i : ℕ) (e : StampValue × Body) → n ≤ i → Has ((run n events).site i).set e → ⊥
none_beyond n events i e far h = subst (λ s. Has s.set e) (run_from_beyond n start events i far) h

-- ---- without commands the history stays
run_from_quiet : (history : History Body) (n : ℕ) (w : World) (events : List Event) → All IsQuiet events → IsGood history w → IsGood history (run_from n w events)
run_from_quiet history n w [] quiet good = good
run_from_quiet history n w (event ∷ events) quiet good = run_from_quiet history n (step n w event).after events (λ k d h. quiet (suc k) d (omega arith)) (quiet_good history n w event (quiet 0 event (omega arith)) good)

module _ (n : ℕ) (early late : List Event) (few : n ≤ 16) (exchange : IsExchange n early late) where
  abbrev w : World
  w = run n (early ++ late)

  -- what any site holds in the end, the site where it was made held before the exchange
  made_there : (a : ℕ) (e : StampValue × Body) → Has (w.site a).set e → Has ((run n early).site e.0.site).set e
  made_there a e h =
      let g = run_good n early few in
      let good : IsGood g.0 w = subst (IsGood g.0) (sym (run-append n start early late)) (run_from_quiet g.0 n (run n early) late exchange.quiet g.1) in
      g.1.own e.0.site e ((good.cuts a).within e h) refl

  -- what was passed arrived
  arrived : (a b : ℕ) → IsPassed n early late a b → Includes (w.site b).set ((run n early).site a).set
  arrived a b p e h =
      let sent : List Event = early ++ p.before in
      let taken = addressee_takes n sent p.between a b p.number few p.made in
      let upto : List Event = sent ++ Ship a b ∷ p.between in
      let had : Has ((run n sent).site a).set e = run_grows n early p.before a e h in
      let got : Has ((step n (run n upto) (Take b p.number)).after.site b).set e =
      subst (λ xs. Has xs e) (sym (shipped_adds n sent p.between a b b p.number taken.0 p.made taken.1)) (Has-right ((run n upto).site b).set ((run n sent).site a).set e had) in
      let then : Has ((run n (upto ++ Take b p.number ∷ [])).site b).set e = subst (λ v. Has (v.site b).set e) (sym (run-push n upto (Take b p.number))) got in
      let whole : (upto ++ Take b p.number ∷ []) ++ p.after ≡ early ++ late = simp append_assoc (ap (λ l. early ++ l) (sym p.events)) in
      subst (λ l. Has ((run n l).site b).set e) whole (run_grows n (upto ++ Take b p.number ∷ []) p.after b e then)

  gathered : (a b : ℕ) → b < n → Includes (w.site b).set (w.site a).set
  gathered a b small e h =
      let m = made_there a e h in
      elim (cases_eq e.0.site b) [
        | inl at ↦ run_grows n early late b e (subst (λ (i : ℕ). Has ((run n early).site i).set e) at m)
        | inr apart ↦ elim (cases_lt e.0.site n) [
          | inl within ↦ arrived e.0.site b (exchange.passed e.0.site b within small apart) e m
          | inr far ↦ absurd (none_beyond n early e.0.site e far m)
        ]
      ]

  pub same_members : (a b : ℕ) → a < n → b < n → IsSameSet (w.site a).set (w.site b).set
  same_members a b small there = (gathered b a small, gathered a b there)

-- where two sites hold the same operations, the same is read of them
pub same_views : (n : ℕ) (events : List Event) → n ≤ 16 → (a b : ℕ) → IsSameSet ((run n events).site a).set ((run n events).site b).set → view ((run n events).site a).set ≡ view ((run n events).site b).set
same_views n events few a b same = view_same _ _ (site_lawful n events few a).distinct same
