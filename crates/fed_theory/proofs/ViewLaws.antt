-- What is read of a set: of the union of kin sets, of one operation more, and of sets with the same members.
use Rattle.std.proofs.Common.{◌≡◌, [], ◌∷◌, ◌++◌, Bool, true, false, ◌||◌, None, refl, sym, ap, subst, ◌∙◌, inl, inr}
use Rattle.std.specs.Prelude.{if◌then◌else◌, filter}
use Rattle.std.proofs.lemmas.Bool.{both_ways}
use Rattle.std.proofs.lemmas.List.Elements.{filter-append}
use Rattle.std.proofs.Common.{append-nil}
use Rattle.fed_stamp.specs.Stamp.{StampValue}
use Rattle.fed_stamp.specs.Version.{covers, raised}
use Rattle.fed_lattice.specs.Sets.{IsSameSet}
use Rattle.fed_lattice.specs.SetLaws.{Has-push, any_same}
use Rattle.fed_lattice.specs.History.{History, IsFresh, OneEach}
use Rattle.fed_lattice.specs.Stamped.{with_stamp}
use Rattle.fed_lattice.proofs.FilterLaws.{Has-filter, same_filter, one_each_filter, agree_filter}
use Rattle.fed_lattice.specs.VersionOf.{version_of}
use Rattle.fed_lattice.proofs.VersionOfLaws.{version_of-append, version_of-push, version_of-same, version_of-covers}
use Rattle.fed_model.specs.Body.{Body, is_of_job, is_of_reservation, of_job, of_reservation}
use Rattle.fed_model.specs.Field.{window_in}
use Rattle.fed_model.specs.JobView.{job_view, unknown}
use Rattle.fed_lattice.specs.Register.{joined_registers}
use Rattle.fed_theory.specs.ValueOrders.{option_window_cmp}
use Rattle.fed_theory.specs.ValueOrderLaws.{option_window_total}
use Rattle.fed_theory.specs.JobSteps.{add_to_job, join_jobs}
use Rattle.fed_model.specs.Reservation.{reservation_view}
use Rattle.fed_theory.proofs.FieldLaws.{field_union, field_push, field_same}
use Rattle.fed_theory.proofs.JobLaws.{job_union, job_push, job_same}
use Rattle.fed_model.specs.Retired.{retires, is_retired, is_retire, retires_in}
use Rattle.fed_model.specs.View.{view}
use Rattle.fed_theory.specs.ViewSteps.{add_to_view, join_views}
use Rattle.fed_model.specs.Lawful.{IsLawful, AreKin}
use Rattle.fed_theory.proofs.RetiredLaws.{retired_pushed, retired_union}
use Rattle.fed_theory.proofs.LawfulLaws.{kin_agree, job_history}

pub view_same : (ops others : History Body) → OneEach ops → IsSameSet ops others → view ops ≡ view others
view_same ops others one same =
    let version = version_of-same ops others same in
    let job : (job : StampValue) → job_view (of_job job ops) ≡ job_view (of_job job others) =
    λ job. job_same (of_job job ops) (of_job job others) (same_filter (is_of_job job) ops others same) (one_each_filter (is_of_job job) ops one) in
    let reservation : (id : StampValue) → reservation_view (of_reservation id ops) ≡ reservation_view (of_reservation id others) =
    λ id. field_same window_in (of_reservation id ops) (of_reservation id others) (same_filter (is_of_reservation id) ops others same) (one_each_filter (is_of_reservation id) ops one) in
    let retirements = version_of-same (retires_in ops) (retires_in others) (same_filter is_retire ops others same) in
    let retired : (job : StampValue) → is_retired ops job ≡ is_retired others job =
    λ job. any_same (retires job) (retires job) ops others (λ x. refl) same in
    (λ i. record {
      version = version i;
      retirements = retirements i;
      retired = λ j. retired j i;
      job = λ j. if retired j i then unknown else job j i;
      reservation = λ id. if retired id i then None else reservation id i;
    })

-- the members of a set that pass a test, once one more operation is there
pushed : (p : StampValue × Body → Bool) (ops : History Body) (e : StampValue × Body) → filter p (ops ++ e ∷ []) ≡ (if p e then filter p ops ++ e ∷ [] else filter p ops)
pushed p ops e = filter-append p ops (e ∷ []) ∙ go (p e)
  where
    go : (b : Bool) → filter p ops ++ (if b then e ∷ [] else []) ≡ (if b then filter p ops ++ e ∷ [] else filter p ops)
    go true = refl
    go false = append-nil (filter p ops)

fresh_from : (ops : History Body) (e : StampValue × Body) → IsLawful ops → covers (version_of ops) e.0 ≡ false → IsFresh e.0 ops
fresh_from ops e l new d h same = both_ways (covers (version_of ops) e.0) new (subst (λ s. covers (version_of ops) s ≡ true) same (version_of-covers ops l.sites d h))

pub one_each_push : (ops : History Body) (e : StampValue × Body) → OneEach ops → IsFresh e.0 ops → OneEach (ops ++ e ∷ [])
one_each_push ops e one fresh c d h k same = elim (Has-push ops e c h) [
  | inl p ↦ elim (Has-push ops e d k) [
    | inl q ↦ one c d p q same
    | inr q ↦ absurd (fresh c p (same ∙ sym (ap (λ (x : StampValue × Body). x.0) q)))
  ]
  | inr p ↦ elim (Has-push ops e d k) [
    | inl q ↦ absurd (fresh d q (sym same ∙ sym (ap (λ (x : StampValue × Body). x.0) p)))
    | inr q ↦ sym p ∙ q
  ]
]

module _ (ops : History Body) (e : StampValue × Body) (l : IsLawful ops) (new : covers (version_of ops) e.0 ≡ false) where
  fresh_of : (p : StampValue × Body → Bool) → IsFresh e.0 (filter p ops)
  fresh_of p d h = fresh_from ops e l new d (Has-filter p ops d h).0

  one_of : (p : StampValue × Body → Bool) → OneEach (filter p ops ++ e ∷ [])
  one_of p = one_each_push (filter p ops) e (one_each_filter p ops l.distinct) (fresh_of p)

  job_pushed : (job : StampValue) → job_view (of_job job (ops ++ e ∷ [])) ≡ (if is_of_job job e then add_to_job e.0 e.1 (job_view (of_job job ops)) else job_view (of_job job ops))
  job_pushed job = ap job_view (pushed (is_of_job job) ops e) ∙ go (is_of_job job e)
    where
      go : (b : Bool) → job_view (if b then of_job job ops ++ e ∷ [] else of_job job ops) ≡ (if b then add_to_job e.0 e.1 (job_view (of_job job ops)) else job_view (of_job job ops))
      go true = job_push (of_job job ops) e (one_of (is_of_job job)) (fresh_of (is_of_job job)) (job_history ops l job)
      go false = refl

  reservation_pushed : (id : StampValue) → reservation_view (of_reservation id (ops ++ e ∷ [])) ≡ (if is_of_reservation id e then joined_registers option_window_cmp (reservation_view (of_reservation id ops)) (with_stamp e.0 (window_in e.1)) else reservation_view (of_reservation id ops))
  reservation_pushed id = ap reservation_view (pushed (is_of_reservation id) ops e) ∙ go (is_of_reservation id e)
    where
      go : (b : Bool) → reservation_view (if b then of_reservation id ops ++ e ∷ [] else of_reservation id ops) ≡ (if b then joined_registers option_window_cmp (reservation_view (of_reservation id ops)) (with_stamp e.0 (window_in e.1)) else reservation_view (of_reservation id ops))
      go true = field_push option_window_cmp option_window_total window_in (of_reservation id ops) e (one_of (is_of_reservation id))
      go false = refl

  retirements_pushed : version_of (retires_in (ops ++ e ∷ [])) ≡ (if is_retire e then raised (version_of (retires_in ops)) e.0 else version_of (retires_in ops))
  retirements_pushed = ap version_of (pushed is_retire ops e) ∙ go (is_retire e)
    where
      go : (b : Bool) → version_of (if b then retires_in ops ++ e ∷ [] else retires_in ops) ≡ (if b then raised (version_of (retires_in ops)) e.0 else version_of (retires_in ops))
      go true = version_of-push (retires_in ops) e
      go false = refl

  read_pushed : (job : StampValue)
      → (if is_retired (ops ++ e ∷ []) job then unknown else job_view (of_job job (ops ++ e ∷ [])))
      ≡ (if is_retired ops job || retires job e then unknown else if is_of_job job e then add_to_job e.0 e.1 (if is_retired ops job then unknown else job_view (of_job job ops)) else (if is_retired ops job then unknown else job_view (of_job job ops)))
  read_pushed job =
      (λ i. if retired_pushed ops e job i then unknown else job_pushed job i)
      ∙ go (is_retired ops job) (retires job e)
    where
      go : (p q : Bool) → (if p || q then unknown else if is_of_job job e then add_to_job e.0 e.1 (job_view (of_job job ops)) else job_view (of_job job ops))
          ≡ (if p || q then unknown else if is_of_job job e then add_to_job e.0 e.1 (if p then unknown else job_view (of_job job ops)) else (if p then unknown else job_view (of_job job ops)))
      go true q = refl
      go false true = refl
      go false false = refl

  reading_pushed : (id : StampValue)
      → (if is_retired (ops ++ e ∷ []) id then None else reservation_view (of_reservation id (ops ++ e ∷ [])))
      ≡ (if is_retired ops id || retires id e then None else if is_of_reservation id e then joined_registers option_window_cmp (if is_retired ops id then None else reservation_view (of_reservation id ops)) (with_stamp e.0 (window_in e.1)) else (if is_retired ops id then None else reservation_view (of_reservation id ops)))
  reading_pushed id =
      (λ i. if retired_pushed ops e id i then None else reservation_pushed id i)
      ∙ go (is_retired ops id) (retires id e)
    where
      go : (p q : Bool) → (if p || q then None else if is_of_reservation id e then joined_registers option_window_cmp (reservation_view (of_reservation id ops)) (with_stamp e.0 (window_in e.1)) else reservation_view (of_reservation id ops))
          ≡ (if p || q then None else if is_of_reservation id e then joined_registers option_window_cmp (if p then None else reservation_view (of_reservation id ops)) (with_stamp e.0 (window_in e.1)) else (if p then None else reservation_view (of_reservation id ops)))
      go true q = refl
      go false true = refl
      go false false = refl

  pub view_push : view (ops ++ e ∷ []) ≡ add_to_view (view ops) e
  unfolding add_to_view
  view_push =
      let version = version_of-push ops e in
      (λ i. record {
        version = version i;
        retirements = retirements_pushed i;
        retired = λ job. retired_pushed ops e job i;
        job = λ job. read_pushed job i;
        reservation = λ id. reading_pushed id i;
      })

module _ (ops others : History Body) (kin : AreKin ops others) where
  job_joined : (job : StampValue) → job_view (of_job job (ops ++ others)) ≡ join_jobs (version_of ops) (job_view (of_job job ops)) (version_of others) (job_view (of_job job others))
  job_joined job =
      ap job_view (filter-append (is_of_job job) ops others)
      ∙ job_union (version_of ops) (version_of others) (of_job job ops) (of_job job others)
      (agree_filter (is_of_job job) (version_of ops) (version_of others) ops others (kin_agree ops others kin))
      (job_history ops kin.left job) (job_history others kin.right job)

  reservation_joined : (id : StampValue) → reservation_view (of_reservation id (ops ++ others)) ≡ joined_registers option_window_cmp (reservation_view (of_reservation id ops)) (reservation_view (of_reservation id others))
  reservation_joined id =
      let p = is_of_reservation id in
      ap reservation_view (filter-append p ops others)
      ∙ field_union option_window_cmp option_window_total window_in (filter p ops) (filter p others) (subst OneEach (filter-append p ops others) (one_each_filter p (ops ++ others) kin.both.distinct))

  read_joined : (job : StampValue)
      → (if is_retired (ops ++ others) job then unknown else job_view (of_job job (ops ++ others)))
      ≡ (if is_retired ops job || is_retired others job then unknown else join_jobs (version_of ops) (if is_retired ops job then unknown else job_view (of_job job ops)) (version_of others) (if is_retired others job then unknown else job_view (of_job job others)))
  read_joined job =
      (λ i. if retired_union ops others job i then unknown else job_joined job i)
      ∙ go (is_retired ops job) (is_retired others job)
    where
      go : (p q : Bool) → (if p || q then unknown else join_jobs (version_of ops) (job_view (of_job job ops)) (version_of others) (job_view (of_job job others)))
          ≡ (if p || q then unknown else join_jobs (version_of ops) (if p then unknown else job_view (of_job job ops)) (version_of others) (if q then unknown else job_view (of_job job others)))
      go true q = refl
      go false true = refl
      go false false = refl

  reading_joined : (id : StampValue)
      → (if is_retired (ops ++ others) id then None else reservation_view (of_reservation id (ops ++ others)))
      ≡ (if is_retired ops id || is_retired others id then None else joined_registers option_window_cmp (if is_retired ops id then None else reservation_view (of_reservation id ops)) (if is_retired others id then None else reservation_view (of_reservation id others)))
  reading_joined id =
      (λ i. if retired_union ops others id i then None else reservation_joined id i)
      ∙ go (is_retired ops id) (is_retired others id)
    where
      go : (p q : Bool) → (if p || q then None else joined_registers option_window_cmp (reservation_view (of_reservation id ops)) (reservation_view (of_reservation id others)))
          ≡ (if p || q then None else joined_registers option_window_cmp (if p then None else reservation_view (of_reservation id ops)) (if q then None else reservation_view (of_reservation id others)))
      go true q = refl
      go false true = refl
      go false false = refl

  pub view_union : view (ops ++ others) ≡ join_views (view ops) (view others)
  unfolding join_views
  view_union =
      let version = version_of-append ops others in
      let retirements = ap version_of (filter-append is_retire ops others) ∙ version_of-append (retires_in ops) (retires_in others) in
      (λ i. record {
        version = version i;
        retirements = retirements i;
        retired = λ job. retired_union ops others job i;
        job = λ job. read_joined job i;
        reservation = λ id. reading_joined id i;
      })
