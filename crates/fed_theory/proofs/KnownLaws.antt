-- What a set tells nothing new of, beside a kin set.
use Rattle.std.specs.Prelude.{IfSome, ◌≤◌, ◌||◌, Bool, false, if◌then◌else◌}
use Rattle.std.proofs.Common.{◌≡◌, ◌++◌, true, Option, Some, None, refl, sym, ap, subst, ◌∙◌, inl, inr, append-nil, le_trans}
use Rattle.std.proofs.lemmas.Bool.{le-leb}
use Rattle.std.proofs.lemmas.Cmp.{upto}
use Rattle.std.proofs.lemmas.List.Elements.{filter-append}
use Rattle.fed_stamp.specs.Stamp.{StampValue}
use Rattle.fed_stamp.specs.Version.{counter_of, covers, is_below}
use Rattle.fed_stamp.proofs.VersionLaws.{each_from_below}
use Rattle.fed_lattice.specs.Sets.{Has, IsSameSet}
use Rattle.fed_lattice.specs.SetLaws.{Has-left, Has-cases}
use Rattle.fed_lattice.specs.History.{History, OneEach}
use Rattle.fed_lattice.proofs.FilterLaws.{Has-filter, filter-Has, one_each_filter}
use Rattle.fed_lattice.specs.Latest.{latest, IsLatest}
use Rattle.fed_lattice.specs.LatestLaws.{stamp_total, latest_stands, latest_from_stands}
use Rattle.fed_lattice.specs.Part.{part}
use Rattle.fed_lattice.specs.PartLaws.{part-append, source, Has-part, one_each_part}
use Rattle.fed_lattice.specs.Register.{register_stands_for}
use Rattle.fed_lattice.specs.VersionOf.{version_of}
use Rattle.fed_lattice.proofs.VersionOfLaws.{version_of-Has}
use Rattle.fed_model.specs.declared.windows.Window.{Window}
use Rattle.fed_model.specs.Body.{Body, is_of_job, is_of_reservation, of_job, of_reservation}
use Rattle.fed_model.specs.Field.{window_in}
use Rattle.fed_model.specs.JobView.{job_view, unknown}
use Rattle.fed_model.specs.Reservation.{ReservationView, reservation_view}
use Rattle.fed_theory.proofs.JobLaws.{job_same}
use Rattle.fed_model.specs.Retired.{is_retired, is_retire, retires_in}
use Rattle.fed_theory.proofs.RetiredLaws.{retired_union, retired_by, retiring, retirement}
use Rattle.fed_model.specs.View.{view}
use Rattle.fed_model.specs.Lawful.{AreKin}

-- a change that h has and that is the latest of h: the latest of g, which has it too, is the latest of both
module _ {T : Type 0} (g h : History T) (c : StampValue × T) (known : Has g c) (last : IsLatest h c) where
  kept : (x : Option (StampValue × T)) → register_stands_for x g → register_stands_for x (g ++ h)
  kept None none = absurd (subst (λ l. Has l c) none known)
  kept (Some p) q = (
    Has-left g h p q.0,
    λ e k. elim (Has-cases g h e k) [
      | inl a ↦ q.1 e a
      | inr b ↦ upto stamp_total e.0 c.0 p.0 (last.1 e b) (q.1 c known)
    ],
  )

  latest_kept : OneEach (g ++ h) → latest (g ++ h) ≡ latest g
  latest_kept one = latest_from_stands _ _ (g ++ h) one (latest_stands (g ++ h)) (kept (latest g) (latest_stands g))

module _ (ops others : History Body) (kin : AreKin ops others) where
  -- of a job that the other set did not touch beyond the version
  module _ (job : StampValue) (below : is_below (version_of (of_job job others)) (version_of ops) ≡ true) where
    known_operation : (e : StampValue × Body) → Has (of_job job others) e → Has (of_job job ops) e
    known_operation e h =
        let k = Has-filter (is_of_job job) others e h in
        let small = kin.right.sites e k.0 in
        let touched = version_of-Has (of_job job others) e h small in
        let c : covers (version_of ops) e.0 ≡ true = le-leb e.0.counter _ (le_trans touched (each_from_below (version_of (of_job job others)) (version_of ops) below e.0.site)) in
        filter-Has (is_of_job job) ops e (kin.right_shares e k.0 c) k.1

    untouched_operations : job_view (of_job job (ops ++ others)) ≡ job_view (of_job job ops)
    untouched_operations =
        let g = of_job job ops in
        let h = of_job job others in
        let one = subst OneEach (filter-append (is_of_job job) ops others) (one_each_filter (is_of_job job) (ops ++ others) kin.both.distinct) in
        let same : IsSameSet (g ++ h) g = (λ e k. Has-left g h e k, λ e k. elim (Has-cases g h e k) [ inl a ↦ a | inr b ↦ known_operation e b ]) in
        ap job_view (filter-append (is_of_job job) ops others) ∙ job_same (g ++ h) g same one

  pub untouched_job : (job : StampValue) → is_below ((view others).job job).touched (version_of ops) ≡ true → (view (ops ++ others)).job job ≡ (if (view others).retired job then unknown else (view ops).job job)
  untouched_job job below =
      (λ i. if retired_union ops others job i then unknown else job_view (of_job job (ops ++ others)))
      ∙ go (is_retired ops job) (is_retired others job) below
    where
      go : (p q : Bool) → is_below (if q then unknown else job_view (of_job job others)).touched (version_of ops) ≡ true
          → (if p || q then unknown else job_view (of_job job (ops ++ others))) ≡ (if q then unknown else (if p then unknown else job_view (of_job job ops)))
      go true true low = refl
      go true false low = refl
      go false true low = refl
      go false false low = untouched_operations job low

  -- a site's Retires whose stamps the version covers retire nothing new
  pub known_retired : (job : StampValue) → counter_of (view others).retirements job.site ≤ counter_of (version_of ops) job.site → (view others).retired job ≡ true → (view ops).retired job ≡ true
  known_retired job below e =
      let f = retiring others job e in
      let r = retirement f.0 job f.2 in
      let small = kin.right.sites f.0 f.1 in
      let at = version_of-Has (retires_in others) f.0 (filter-Has is_retire others f.0 f.1 r.counted) small in
      let up : counter_of (version_of (retires_in others)) f.0.0.site ≤ counter_of (version_of ops) f.0.0.site =
      subst (λ n. counter_of (version_of (retires_in others)) n ≤ counter_of (version_of ops) n) (sym r.site) below in
      let c : covers (version_of ops) f.0.0 ≡ true = le-leb f.0.0.counter _ (le_trans at up) in
      retired_by ops job f.0 (kin.right_shares f.0 f.1 c) f.2

  -- of a reservation that the other set does not know, or whose greatest stamp there the version covers
  module _ (id : StampValue) where
    g : History (Option Window)
    g = part window_in (of_reservation id ops)

    h : History (Option Window)
    h = part window_in (of_reservation id others)

    joined_window : reservation_view (of_reservation id (ops ++ others)) ≡ latest (g ++ h)
    unfolding g h
    joined_window =
        ap reservation_view (filter-append (is_of_reservation id) ops others)
        ∙ ap latest (part-append window_in (of_reservation id ops) (of_reservation id others))

    one_window : OneEach (g ++ h)
    unfolding g h
    one_window =
        let p = is_of_reservation id in
        subst OneEach (part-append window_in (of_reservation id ops) (of_reservation id others))
        (one_each_part window_in _ (subst OneEach (filter-append p ops others) (one_each_filter p (ops ++ others) kin.both.distinct)))

    known_window : (c : StampValue × Option Window) → Has h c → covers (version_of ops) c.0 ≡ true → Has g c
    unfolding g h
    known_window c k covered =
        let s = source window_in (of_reservation id others) c k in
        let m = Has-filter (is_of_reservation id) others (c.0, s.0) s.1 in
        Has-part window_in (of_reservation id ops) c.0 s.0 c.1 (filter-Has (is_of_reservation id) ops (c.0, s.0) (kin.right_shares (c.0, s.0) m.0 covered) m.1) s.2

    known_latest : (x : ReservationView) → register_stands_for x h → IfSome x (λ c. covers (version_of ops) c.0 ≡ true) → latest (g ++ h) ≡ latest g
    known_latest None none covered = ap (λ l. latest (g ++ l)) none ∙ ap latest (append-nil g)
    known_latest (Some c) last covered = latest_kept g h c (known_window c last.0 covered) last one_window

    covered_operations : IfSome (reservation_view (of_reservation id others)) (λ c. covers (version_of ops) c.0 ≡ true) → reservation_view (of_reservation id (ops ++ others)) ≡ reservation_view (of_reservation id ops)
    unfolding g h
    covered_operations covered = joined_window ∙ known_latest (latest h) (latest_stands h) covered

  pub covered_reservation : (id : StampValue) → IfSome ((view others).reservation id) (λ c. covers (version_of ops) c.0 ≡ true) → (view (ops ++ others)).reservation id ≡ (if (view others).retired id then None else (view ops).reservation id)
  covered_reservation id covered =
      (λ i. if retired_union ops others id i then None else reservation_view (of_reservation id (ops ++ others)))
      ∙ go (is_retired ops id) (is_retired others id) covered
    where
      go : (p q : Bool) → IfSome (if q then None else reservation_view (of_reservation id others)) (λ c. covers (version_of ops) c.0 ≡ true)
          → (if p || q then None else reservation_view (of_reservation id (ops ++ others))) ≡ (if q then None else (if p then None else reservation_view (of_reservation id ops)))
      go true true i = refl
      go true false i = refl
      go false true i = refl
      go false false i = covered_operations id i
