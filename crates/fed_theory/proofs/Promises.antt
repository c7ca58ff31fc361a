-- What every run promises, from what it keeps.
use Rattle.std.proofs.Common.{◌≡◌, ℕ, zero, suc, ◌≤◌, List, ◌∷◌, ◌++◌, true, ap, subst, arith}
use Rattle.std.specs.Prelude.{Some}
use Rattle.fed_stamp.specs.Stamp.{StampValue}
use Rattle.fed_stamp.specs.Version.{is_below}
use Rattle.fed_stamp.proofs.VersionLaws.{below_trans}
use Rattle.fed_lattice.specs.Sets.{Has}
use Rattle.fed_lattice.specs.History.{History}
use Rattle.fed_lattice.specs.VersionOf.{version_of}
use Rattle.fed_model.specs.declared.beginnings.Beginning.{Beginning}
use Rattle.fed_model.specs.Body.{Body, Body.OfJob, JobBody.Grant, JobBody.HandBack, JobBody.Begin}
use Rattle.fed_model.specs.Lawful.{IsHolder, IsLawful, AreKin}
use Rattle.fed_model.specs.declared.taken.Taken.{Taken}
use Rattle.fed_model.specs.Packet.{Packet, shipped}
use Rattle.fed_model.specs.declared.events.Event.{Event}
use Rattle.fed_model.specs.declared.events.Event.TheVariants.{Ship, Take}
use Rattle.fed_model.specs.declared.outcomes.Outcome.{Outcome}
use Rattle.fed_model.specs.OpenGrants.{HasOpenGrant}
use Rattle.fed_model.specs.Run.{World, packet, step, run, all_operations}
use Rattle.fed_theory.proofs.Cuts.{IsCut, cut_nothing, cut_union, cut_lawful, cuts_kin, same_grant, same_term, returner, version_more}
use Rattle.fed_theory.proofs.Runs.{IsGood, packet_Has, run_good, run_grows}
use Rattle.fed_theory.proofs.Posts.{made, posted, take_adds, take_taken}

-- all sites together are a cut of the history too
pub all_cut : (history : History Body) (w : World) (n : ℕ) → IsGood history w → IsCut history (all_operations w n)
all_cut history w zero g = cut_nothing history g.counted
all_cut history w (suc n) g = cut_union history (all_operations w n) (w.site n).set (all_cut history w n g) (g.cuts n)

pub shipped_adds : (n : ℕ) (early late : List Event) (site to taker k : ℕ) (taken : Taken) → (step n (run n early) (Ship site to)).outcome ≡ Outcome.Packet k → (step n (run n (early ++ Ship site to ∷ late)) (Take taker k)).outcome ≡ Outcome.Taken taken
    → ((step n (run n (early ++ Ship site to ∷ late)) (Take taker k)).after.site taker).set ≡ ((run n (early ++ Ship site to ∷ late)).site taker).set ++ ((run n early).site site).set
shipped_adds n early late site to taker k taken ships takes =
    take_adds n (run n (early ++ Ship site to ∷ late)) taker k (shipped site ((run n early).site site) to) taken (posted n early late site to k ships) takes

pub addressee_takes : (n : ℕ) (early late : List Event) (site to k : ℕ) → n ≤ 16 → (step n (run n early) (Ship site to)).outcome ≡ Outcome.Packet k → (taken : Taken) × ((step n (run n (early ++ Ship site to ∷ late)) (Take to k)).outcome ≡ Outcome.Taken taken)
addressee_takes n early late site to k few ships =
    let w = run n early in
    let v = run n (early ++ Ship site to ∷ late) in
    let g = run_good n early few in
    let old = cut_lawful g.0 (w.site to).set g.1.lawful (g.1.cuts to) in
    let grown : is_below (version_of (w.site to).set) (version_of (v.site to).set) ≡ true = version_more (w.site to).set (v.site to).set (run_grows n early (Ship site to ∷ late) to) old.sites in
    take_taken n v to k (shipped site (w.site site) to) (posted n early late site to k ships) (made n w site to k ships).to_site
    (below_trans ((w.site site).heard to) (version_of (w.site to).set) (version_of (v.site to).set) (g.1.heard site to) grown)

module _ (n : ℕ) (events : List Event) (few : n ≤ 16) where
  pub all_lawful : IsLawful (all_operations (run n events) n)
  all_lawful = let g = run_good n events few in cut_lawful g.0 (all_operations (run n events) n) g.1.lawful (all_cut g.0 (run n events) n g.1)

  pub sites_kin : (a b : ℕ) → AreKin ((run n events).site a).set ((run n events).site b).set
  sites_kin a b = let g = run_good n events few in cuts_kin g.0 ((run n events).site a).set ((run n events).site b).set g.1.lawful (g.1.cuts a) (g.1.cuts b)

  pub packets_kin : (site k : ℕ) (p : Packet) → packet (run n events) k ≡ Some p → AreKin ((run n events).site site).set p.gives
  packets_kin site k p at =
      let g = run_good n events few in
      cuts_kin g.0 ((run n events).site site).set p.gives g.1.lawful (g.1.cuts site) (g.1.sent p (packet_Has (run n events) k p at)).cut

  pub one_grant : (job s t : StampValue) (a b term : ℕ) → Has (all_operations (run n events) n) (s, OfJob job (Grant a term)) → Has (all_operations (run n events) n) (t, OfJob job (Grant b term)) → (s ≡ t) × (a ≡ b)
  one_grant job s t a b term h k = (all_lawful.one_grant job s t a b term h k, same_grant (all_operations (run n events) n) all_lawful job s t a b term h k)

  pub by_origin : (job s : StampValue) (a term : ℕ) → Has (all_operations (run n events) n) (s, OfJob job (Grant a term)) → s.site ≡ job.site
  by_origin job s a term h = let g = run_good n events few in (all_cut g.0 (run n events) n g.1).placed (s, OfJob job (Grant a term)) h

  pub one_begin : (job s t : StampValue) (a b : Beginning) → Has (all_operations (run n events) n) (s, OfJob job (Begin a)) → Has (all_operations (run n events) n) (t, OfJob job (Begin b)) → (s ≡ t) × (a ≡ b)
  one_begin job s t a b h k =
      let same = all_lawful.one_begin job s t a b h k in
      let e = all_lawful.distinct (s, OfJob job (Begin a)) (t, OfJob job (Begin b)) h k same in
      let p : ◌≡◌ {A = Body} (OfJob job (Begin a)) (OfJob job (Begin b)) = ap (λ (x : StampValue × Body). x.1) e in
      let q : a ≡ b = cc in (same, q)

  pub by_holder : (job s : StampValue) (a : Beginning) → Has (all_operations (run n events) n) (s, OfJob job (Begin a)) → IsHolder (all_operations (run n events) n) job s.site
  by_holder job s a h = all_lawful.begun_held job s a h

  pub at_one_site : (x y : ℕ) (job s t : StampValue) (a b : Beginning) → Has ((run n events).site x).set (s, OfJob job (Begin a)) → Has ((run n events).site y).set (t, OfJob job (Begin b)) → s.site ≡ t.site
  at_one_site x y job s t a b h k =
      let g = run_good n events few in
      ap (λ (u : StampValue). u.site) (g.1.lawful.one_begin job s t a b ((g.1.cuts x).within _ h) ((g.1.cuts y).within _ k))

  pub held_by_one : (job : StampValue) (a b : ℕ) → HasOpenGrant ((run n events).site a).set job a → HasOpenGrant ((run n events).site b).set job b → a ≡ b
  held_by_one job a b p q =
      let g = run_good n events few in
      let l = g.1.lawful in
      let mine = (g.1.cuts a).within _ p.2 in
      let theirs = (g.1.cuts b).within _ q.2 in
      -- a grant to a site is handed back there, so that it has the return
      let kept : (t : StampValue) → Has g.0 (t, OfJob job (HandBack p.1)) → ⊥ = λ t h. p.3 t (g.1.own a (t, OfJob job (HandBack p.1)) h (returner g.0 l job p.0 t a p.1 mine h)) in
      let kept_too : (t : StampValue) → Has g.0 (t, OfJob job (HandBack q.1)) → ⊥ = λ t h. q.3 t (g.1.own b (t, OfJob job (HandBack q.1)) h (returner g.0 l job q.0 t b q.1 theirs h)) in
      let low : q.1 ≤ p.1 = same_term g.0 l job p.0 q.0 a b p.1 q.1 mine theirs kept in
      let high : p.1 ≤ q.1 = same_term g.0 l job q.0 p.0 b a q.1 p.1 theirs mine kept_too in
      let same : q.1 ≡ p.1 = omega arith in
      same_grant g.0 l job p.0 q.0 a b p.1 mine (subst (λ (m : ℕ). Has g.0 (q.0, OfJob job (Grant b m))) same theirs)
