-- A cut of what a kin set tells, joined to what a set tells that has seen all that the cut needs, is the whole.
use Rattle.std.specs.Prelude.{if◌then◌else◌, nat_lt, max, ◌&&◌, IfSome}
use Rattle.std.proofs.Common.{◌≡◌, ℕ, zero, suc, ◌≤◌, List, [], ◌∷◌, ◌++◌, length, Bool, true, false, ◌||◌, not, Some, None, refl, sym, ap, subst, ◌∙◌, inl, inr, arith, le_trans}
use Rattle.std.proofs.lemmas.Bool.{cases_Bool, cond-true, cond-false, not-false, le-leb, lt-ltb, ltb-false}
use Rattle.fed_stamp.specs.Stamp.{StampValue}
use Rattle.fed_stamp.specs.Version.{counter_of, covers, joined, is_below}
use Rattle.fed_stamp.proofs.VersionLaws.{covers_more, below_trans, below_from_each, below_antisymm, each_from_below, counter_of_joined, length-joined}
use Rattle.fed_lattice.specs.History.{History}
use Rattle.fed_lattice.specs.Register.{joined_registers}
use Rattle.fed_lattice.specs.VersionOf.{version_of}
use Rattle.fed_lattice.proofs.VersionOfLaws.{length-version_of, version_of-origin, version_of-Has}
use Rattle.fed_lattice.proofs.FilterLaws.{Has-filter, filter-Has}
use Rattle.fed_model.specs.Body.{Body}
use Rattle.fed_model.specs.JobView.{JobView, unknown}
use Rattle.fed_model.specs.Lawful.{AreKin}
use Rattle.fed_model.specs.Letter.{is_submitted}
use Rattle.fed_model.specs.Reservation.{ReservationView}
use Rattle.fed_model.specs.Retired.{is_retired, is_retire, retires_in}
use Rattle.fed_model.specs.View.{View, view}
use Rattle.fed_theory.specs.Cut.{is_changed_job, is_changed_reservation, is_changed_site, beyond, cut}
use Rattle.fed_theory.specs.JobSteps.{join_jobs}
use Rattle.fed_theory.specs.ValueOrders.{option_window_cmp}
use Rattle.fed_theory.specs.ViewSteps.{join_views, join_records}
use Rattle.fed_theory.proofs.KnownLaws.{untouched_job, covered_reservation, known_retired}
use Rattle.fed_theory.proofs.RetiredLaws.{retired_union}
use Rattle.fed_theory.proofs.SubmitLaws.{unknown_view}
use Rattle.fed_theory.proofs.VersionGrowth.{zeros_below}
use Rattle.fed_theory.proofs.ViewLaws.{view_union}

-- ---- the counters that are beyond a version
pub length-beyond : (need rs : List ℕ) → length (beyond need rs) ≡ length rs
length-beyond need [] = refl
length-beyond [] (r ∷ rs) = refl
length-beyond (n ∷ need) (r ∷ rs) = ap suc (length-beyond need rs)

pub counter_of_beyond : (need rs : List ℕ) (i : ℕ) → counter_of (beyond need rs) i ≡ (if nat_lt (counter_of need i) (counter_of rs i) then counter_of rs i else 0)
counter_of_beyond [] [] i = refl
counter_of_beyond (n ∷ need) [] i = none (nat_lt (counter_of (n ∷ need) i) 0)
  where
    none : (b : Bool) → ◌≡◌ {A = ℕ} 0 (if b then 0 else 0)
    none true = refl
    none false = refl
counter_of_beyond [] (r ∷ rs) i = all (counter_of (r ∷ rs) i)
  where
    all : (k : ℕ) → k ≡ (if nat_lt 0 k then k else 0)
    all zero = refl
    all (suc k) = sym (cond-true (nat_lt 0 (suc k)) (suc k) 0 (lt-ltb 0 (suc k) (omega arith)))
counter_of_beyond (n ∷ need) (r ∷ rs) zero = refl
counter_of_beyond (n ∷ need) (r ∷ rs) (suc i) = counter_of_beyond need rs i

-- what is not beyond is known already
joined_beyond : (mine need rs : List ℕ) → length mine ≡ length rs → ((i : ℕ) → counter_of rs i ≤ counter_of need i → counter_of rs i ≤ counter_of mine i) → joined mine (beyond need rs) ≡ joined mine rs
joined_beyond mine need rs same known =
    let a : length (joined mine (beyond need rs)) ≡ max (length mine) (length (beyond need rs)) = length-joined mine (beyond need rs) in
    let b : length (joined mine rs) ≡ max (length mine) (length rs) = length-joined mine rs in
    let c : length (beyond need rs) ≡ length rs = length-beyond need rs in
    below_antisymm (joined mine (beyond need rs)) (joined mine rs) (omega arith)
    (below_from_each (joined mine (beyond need rs)) (joined mine rs) (λ i. (each i).0))
    (below_from_each (joined mine rs) (joined mine (beyond need rs)) (λ i. (each i).1))
  where
    each : (i : ℕ) → (counter_of (joined mine (beyond need rs)) i ≤ counter_of (joined mine rs) i) × (counter_of (joined mine rs) i ≤ counter_of (joined mine (beyond need rs)) i)
    each i =
        let a : counter_of (joined mine (beyond need rs)) i ≡ max (counter_of mine i) (counter_of (beyond need rs) i) = counter_of_joined mine (beyond need rs) i in
        let b : counter_of (joined mine rs) i ≡ max (counter_of mine i) (counter_of rs i) = counter_of_joined mine rs i in
        let c = counter_of_beyond need rs i in
        elim (cases_Bool (nat_lt (counter_of need i) (counter_of rs i))) [
          | inl t ↦ (let d : counter_of (beyond need rs) i ≡ counter_of rs i = c ∙ cond-true (nat_lt (counter_of need i) (counter_of rs i)) (counter_of rs i) 0 t in (omega arith, omega arith))
          | inr f ↦ (
              let d : counter_of (beyond need rs) i ≡ 0 = c ∙ cond-false (nat_lt (counter_of need i) (counter_of rs i)) (counter_of rs i) 0 f in
              let k = known i (ltb-false (counter_of need i) (counter_of rs i) f) in (omega arith, omega arith))
        ]

-- ---- what is not changed
pub covered : (need : List ℕ) (r : ReservationView) → is_changed_reservation need r ≡ false → IfSome r (λ latest. covers need latest.0 ≡ true)
covered need None e = tt
covered need (Some latest) e = not-false (covers need latest.0) e

covered_later : (need more : List ℕ) (r : ReservationView) → is_below need more ≡ true → IfSome r (λ latest. covers need latest.0 ≡ true) → IfSome r (λ latest. covers more latest.0 ≡ true)
covered_later need more None below i = tt
covered_later need more (Some latest) below i = covers_more need more latest.0 below i

joined_none : (x : ReservationView) → joined_registers option_window_cmp x None ≡ x
joined_none None = refl
joined_none (Some latest) = refl

module _ (ops others : History Body) (kin : AreKin ops others) (need : List ℕ) (below : is_below need (version_of ops) ≡ true) where
  abbrev mine : StampValue → JobView
  mine id = (view ops).job id

  abbrev theirs : StampValue → JobView
  theirs id = (view others).job id

  abbrev told : StampValue → Bool
  told id = is_changed_site need (version_of (retires_in others)) id.site && is_retired others id

  abbrev joined_if : Bool → StampValue → JobView → JobView
  joined_if b id j = if b then join_jobs (version_of ops) (mine id) (version_of others) j else mine id

  -- ---- retired jobs
  retired_told : (id : StampValue) → (is_retired ops id || told id) ≡ is_retired (ops ++ others) id
  retired_told id = go (is_changed_site need (version_of (retires_in others)) id.site) refl ∙ sym (retired_union ops others id)
    where
      same : (p q : Bool) → (q ≡ true → p ≡ true) → (p || false) ≡ (p || q)
      same true q k = refl
      same false true k = k refl
      same false false k = refl

      go : (b : Bool) → is_changed_site need (version_of (retires_in others)) id.site ≡ b → (is_retired ops id || (b && is_retired others id)) ≡ (is_retired ops id || is_retired others id)
      go true e = refl
      go false e = same (is_retired ops id) (is_retired others id)
          (known_retired ops others kin id (le_trans (ltb-false (counter_of need id.site) (counter_of (version_of (retires_in others)) id.site) e) (each_from_below need (version_of ops) below id.site)))

  -- a Retire that the version covers is there too
  retirement_known : (i : ℕ) → counter_of (version_of (retires_in others)) i ≤ counter_of need i → counter_of (version_of (retires_in others)) i ≤ counter_of (version_of (retires_in ops)) i
  retirement_known i low = elim (version_of-origin (retires_in others) i) [
    | inl z ↦ omega arith
    | inr o ↦ (
        let m = Has-filter is_retire others o.0 o.1 in
        let small = kin.right.sites o.0 m.0 in
        let is = o.3 in
        let up = each_from_below need (version_of ops) below i in
        let at : o.0.0.counter ≤ counter_of (version_of ops) i = omega arith in
        let c : covers (version_of ops) o.0.0 ≡ true = le-leb o.0.0.counter _ (subst (λ n. o.0.0.counter ≤ counter_of (version_of ops) n) (sym o.2) at) in
        let le = version_of-Has (retires_in ops) o.0 (filter-Has is_retire ops o.0 (kin.right_shares o.0 m.0 c) m.1) small in
        let here : o.0.0.counter ≤ counter_of (version_of (retires_in ops)) i = subst (λ n. o.0.0.counter ≤ counter_of (version_of (retires_in ops)) n) o.2 le in
        omega arith)
  ]

  retirements_told : joined (version_of (retires_in ops)) (beyond need (version_of (retires_in others))) ≡ (view (ops ++ others)).retirements
  unfolding join_views
  retirements_told =
      joined_beyond (version_of (retires_in ops)) need (version_of (retires_in others)) (length-version_of (retires_in ops) ∙ sym (length-version_of (retires_in others))) retirement_known
      ∙ sym (ap (λ (v : View). v.retirements) (view_union ops others kin))

  -- ---- jobs that are not retired
  union_job : (id : StampValue) → (view (ops ++ others)).job id ≡ (if is_retired ops id || is_retired others id then unknown else join_jobs (version_of ops) (mine id) (version_of others) (theirs id))
  unfolding join_views
  union_job id = ap (λ (v : View). v.job id) (view_union ops others kin)

  job_known : (id : StampValue) → is_changed_job need (theirs id) ≡ false → (view (ops ++ others)).job id ≡ (if is_retired others id then unknown else mine id)
  job_known id e = untouched_job ops others kin id (below_trans (theirs id).touched need (version_of ops) (not-false (is_below (theirs id).touched need) e) below)

  -- a job that was touched is submitted
  job_submitted : (id : StampValue) → is_changed_job need (theirs id) ≡ true → is_submitted (theirs id) ≡ true
  job_submitted id e = go (is_submitted (theirs id)) refl where
    go : (b : Bool) → is_submitted (theirs id) ≡ b → is_submitted (theirs id) ≡ true
    go true i = i
    go false i = absurd (let f : false ≡ true = sym (ap not (ap (λ (j : JobView). is_below j.touched need) (unknown_view others id kin.right i) ∙ zeros_below 16 need)) ∙ e in cc)

  job_joined : (id : StampValue) (c : Bool) → is_changed_job need (theirs id) ≡ c → is_retired ops id ≡ false → is_retired others id ≡ false
      → joined_if (is_submitted (if c then theirs id else unknown)) id (if c then theirs id else unknown) ≡ (view (ops ++ others)).job id
  job_joined id true e p q =
      ap (λ b. joined_if b id (theirs id)) (job_submitted id e)
      ∙ sym (union_job id ∙ (λ i. if p i || q i then unknown else join_jobs (version_of ops) (mine id) (version_of others) (theirs id)))
  job_joined id false e p q = sym (job_known id e ∙ cond-false (is_retired others id) unknown (mine id) q)

  job_told : (id : StampValue) → (if is_retired ops id || told id then unknown else joined_if (is_submitted (if is_changed_job need (theirs id) then theirs id else unknown)) id (if is_changed_job need (theirs id) then theirs id else unknown))
      ≡ (view (ops ++ others)).job id
  job_told id =
      (λ i. if (retired_told id ∙ retired_union ops others id) i then unknown else joined_if (is_submitted (if is_changed_job need (theirs id) then theirs id else unknown)) id (if is_changed_job need (theirs id) then theirs id else unknown))
      ∙ go (is_retired ops id) refl (is_retired others id) refl
    where
      go : (p : Bool) → is_retired ops id ≡ p → (q : Bool) → is_retired others id ≡ q
          → (if p || q then unknown else joined_if (is_submitted (if is_changed_job need (theirs id) then theirs id else unknown)) id (if is_changed_job need (theirs id) then theirs id else unknown)) ≡ (view (ops ++ others)).job id
      go true e q f = sym (union_job id ∙ cond-true (is_retired ops id || is_retired others id) unknown _ (ap (λ b. b || is_retired others id) e))
      go false e true f = sym (union_job id ∙ (λ i. if e i || f i then unknown else join_jobs (version_of ops) (mine id) (version_of others) (theirs id)))
      go false e false f = job_joined id (is_changed_job need (theirs id)) refl e f

  -- ---- reservations
  union_reservation : (id : StampValue) → (view (ops ++ others)).reservation id ≡ (if is_retired ops id || is_retired others id then None else joined_registers option_window_cmp ((view ops).reservation id) ((view others).reservation id))
  unfolding join_views
  union_reservation id = ap (λ (v : View). v.reservation id) (view_union ops others kin)

  reservation_joined : (id : StampValue) (c : Bool) → is_changed_reservation need ((view others).reservation id) ≡ c → is_retired ops id ≡ false → is_retired others id ≡ false
      → joined_registers option_window_cmp ((view ops).reservation id) (if c then (view others).reservation id else None) ≡ (view (ops ++ others)).reservation id
  reservation_joined id true e p q =
      sym (union_reservation id ∙ (λ i. if p i || q i then None else joined_registers option_window_cmp ((view ops).reservation id) ((view others).reservation id)))
  reservation_joined id false e p q =
      joined_none ((view ops).reservation id)
      ∙ sym (covered_reservation ops others kin id (covered_later need (version_of ops) ((view others).reservation id) below (covered need ((view others).reservation id) e)) ∙ cond-false (is_retired others id) None ((view ops).reservation id) q)

  abbrev told_reservation : StampValue → ReservationView
  told_reservation id = joined_registers option_window_cmp ((view ops).reservation id) (if is_changed_reservation need ((view others).reservation id) then (view others).reservation id else None)

  reservation_told : (id : StampValue) → (if is_retired ops id || told id then None else told_reservation id) ≡ (view (ops ++ others)).reservation id
  reservation_told id =
      (λ i. if (retired_told id ∙ retired_union ops others id) i then None else told_reservation id)
      ∙ go (is_retired ops id) refl (is_retired others id) refl
    where
      go : (p : Bool) → is_retired ops id ≡ p → (q : Bool) → is_retired others id ≡ q → (if p || q then None else told_reservation id) ≡ (view (ops ++ others)).reservation id
      go true e q f = sym (union_reservation id ∙ cond-true (is_retired ops id || is_retired others id) None _ (ap (λ b. b || is_retired others id) e))
      go false e true f = sym (union_reservation id ∙ (λ i. if e i || f i then None else joined_registers option_window_cmp ((view ops).reservation id) ((view others).reservation id)))
      go false e false f = reservation_joined id (is_changed_reservation need ((view others).reservation id)) refl e f

  union_version : (view (ops ++ others)).version ≡ joined (version_of ops) (version_of others)
  unfolding join_views
  union_version = ap (λ (v : View). v.version) (view_union ops others kin)

  pub cut_joins : join_records (view ops) (cut (view others) need) ≡ view (ops ++ others)
  unfolding join_records cut
  cut_joins = λ i. record {
    version = sym union_version i;
    retirements = retirements_told i;
    retired = λ id. retired_told id i;
    job = λ id. job_told id i;
    reservation = λ id. reservation_told id i;
  }
