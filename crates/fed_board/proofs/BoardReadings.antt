-- Boards that read the same are the same.
use Rattle.std.specs.Ordering.{nat_cmp}
use Rattle.std.specs.BTreeMap.{is_at}
use Rattle.std.specs.List.Sorted.{IsStrictlySortedBy}
use Rattle.std.specs.Cmp.{nat_cmp_total}
use Rattle.std.specs.Map.{keys_of}
use Rattle.std.proofs.lemmas.List.FromFn.{get_or-map-range_with_len}
use Rattle.std.proofs.lemmas.Map.Lookups.{exact_unsigned}
use Rattle.std.proofs.Common.{◌≡◌, ℕ, ◌<◌, slice_index, List, true, false, Option, Some, None, IfSome, unwrap_or, refl, sym, ap, ◌∙◌, arith}
use Rattle.std.proofs.lemmas.Map.Views.{IfSome-lookup_from_All}
use Rattle.fed_stamp.specs.Stamp.{StampValue}
use Rattle.fed_lattice.specs.ExactLaws.{exact_stamp}
use Rattle.fed_lattice.specs.Latest.{stamp_cmp}
use Rattle.fed_lattice.specs.LatestLaws.{stamp_total}
use Rattle.fed_lattice.specs.Table.{IsTable}
use Rattle.fed_lattice.specs.TableEntryLaws.{same_tables}
use Rattle.fed_lattice.specs.KeySetLaws.{same_sets}
use Rattle.fed_tags.specs.Tags.{pair_cmp}
use Rattle.fed_model.specs.Hold.{kind_cmp}
use Rattle.fed_record.specs.JobRecord.{JobRecordValue, job_reads}
use Rattle.fed_model.specs.JobView.{JobView}
use Rattle.fed_model.specs.Letter.{is_submitted}
use Rattle.fed_record.specs.RecordLaws.{hold_order, hold_exact, site_order, site_exact}
use Rattle.fed_model.specs.Reservation.{ReservationView}
use Rattle.fed_ranges.specs.RangeLaws.{one_list}
use Rattle.fed_ranges.specs.Retired.{RetiredValue, has_retired, latest_retires, retired_at}
use Rattle.fed_ranges.specs.Retirements.{RetirementsValue, no_retirements}
use Rattle.fed_board.specs.Board.{BoardValue, IsBoard, IsKnownJob, IsKnownReservation, AreKnownRetirements, no_operation, board_reads}
use Rattle.fed_board.proofs.RetiredTables.{AreAllApart, all_apart}
use Rattle.fed_model.specs.View.{View}

-- the pairs stand in their order
abbrev pub HasSortedTags : JobRecordValue → Type 0
HasSortedTags r = IsStrictlySortedBy (pair_cmp kind_cmp) r.holds × IsStrictlySortedBy (pair_cmp nat_cmp) r.sites

same_records : (r s : JobRecordValue) → HasSortedTags r → HasSortedTags s → job_reads r ≡ job_reads s → r ≡ s
same_records r s p q e =
    let holds = same_sets (pair_cmp kind_cmp) hold_order hold_exact r.holds s.holds p.0 q.0 (λ k. ap (λ (j : JobView). j.holds k.0 k.1) e) in
    let sites = same_sets (pair_cmp nat_cmp) site_order site_exact r.sites s.sites p.1 q.1 (λ k. ap (λ (j : JobView). j.sites k.0 k.1) e) in
    λ i. record {
      fields = (e i).fields;
      holds = holds i;
      sites = sites i;
      stages = (e i).stages;
      touched = (e i).touched;
    }

-- what two boards have at an identifier
same_jobs_at : (v w : List ℕ) (id : StampValue) (x y : Option JobRecordValue) → IfSome x (IsKnownJob v id) → IfSome y (IsKnownJob w id) → IfSome x HasSortedTags → IfSome y HasSortedTags
    → job_reads (unwrap_or x no_operation) ≡ job_reads (unwrap_or y no_operation) → x ≡ y
same_jobs_at v w id None None p q s t e = refl
same_jobs_at v w id None (Some y) p q s t e = absurd (let f : false ≡ true = ap is_submitted e ∙ q.submitted in cc)
same_jobs_at v w id (Some x) None p q s t e = absurd (let f : false ≡ true = sym (ap is_submitted e) ∙ p.submitted in cc)
same_jobs_at v w id (Some x) (Some y) p q s t e = ap Some (same_records x y s t e)

same_reservations_at : (v w : List ℕ) (id : StampValue) (x y : Option ReservationView) → IfSome x (IsKnownReservation v id) → IfSome y (IsKnownReservation w id) → unwrap_or x None ≡ unwrap_or y None → x ≡ y
same_reservations_at v w id None None p q e = refl
same_reservations_at v w id None (Some None) p q e = absurd (let f : false ≡ true = q.made in cc)
same_reservations_at v w id None (Some (Some y)) p q e = cc
same_reservations_at v w id (Some None) None p q e = absurd (let f : false ≡ true = p.made in cc)
same_reservations_at v w id (Some (Some x)) None p q e = cc
same_reservations_at v w id (Some x) (Some y) p q e = ap Some e

-- what two boards have of a site: the ranges are told apart by what they have, and there is no site without any
ranges_where : (r s : RetiredValue) → AreAllApart r → AreAllApart s → ((id : StampValue) → has_retired r id ≡ has_retired s id) → (site : ℕ) → (retired_at r site).ranges ≡ (retired_at s site).ranges
ranges_where r s p q same site = one_list 1 (retired_at r site).ranges (retired_at s site).ranges (p site) (q site) (λ n. same (record { counter = n; site = site }))

latest_where : (r s : RetiredValue) → latest_retires r ≡ latest_retires s → (site : ℕ) → site < 16 → (retired_at r site).latest ≡ (retired_at s site).latest
unfolding latest_retires
latest_where r s e site small =
    sym (get_or-map-range_with_len (λ n. (retired_at r n).latest) 0 16 site site 0 small (omega arith))
    ∙ ap (λ l. slice_index l site) e
    ∙ get_or-map-range_with_len (λ n. (retired_at s n).latest) 0 16 site site 0 small (omega arith)

same_retirements_at : (v w : List ℕ) (site : ℕ) (x y : Option RetirementsValue) → IfSome x (AreKnownRetirements v site) → IfSome y (AreKnownRetirements w site)
    → (site < 16 → (unwrap_or x no_retirements).latest ≡ (unwrap_or y no_retirements).latest) → (unwrap_or x no_retirements).ranges ≡ (unwrap_or y no_retirements).ranges → x ≡ y
same_retirements_at v w site None None p q latest ranges = refl
same_retirements_at v w site None (Some y) p q latest ranges = absurd (q.some (sym ranges))
same_retirements_at v w site (Some x) None p q latest ranges = absurd (p.some ranges)
same_retirements_at v w site (Some x) (Some y) p q latest ranges = let l = latest p.placed in λ i. Some (record { latest = l i; ranges = ranges i })

pub same_where_read : (a b : BoardValue) → IsBoard a → IsBoard b → IsStrictlySortedBy nat_cmp (keys_of a.retired) → IsStrictlySortedBy nat_cmp (keys_of b.retired) → IsTable stamp_cmp HasSortedTags a.jobs → IsTable stamp_cmp HasSortedTags b.jobs
    → IsTable {X = ReservationView} stamp_cmp (λ _. Unit {0}) a.reservations → IsTable {X = ReservationView} stamp_cmp (λ _. Unit {0}) b.reservations → board_reads a ≡ board_reads b → a ≡ b
same_where_read a b i k m n s t u v e =
    let version : a.version ≡ b.version = ap (λ (x : View). x.version) e in
    let ranges = ranges_where a.retired b.retired (all_apart a.version a.retired i.retired) (all_apart b.version b.retired k.retired) (λ id. ap (λ (x : View). x.retired id) e) in
    let retired = same_tables nat_cmp nat_cmp_total exact_unsigned a.retired b.retired m n
    (λ site. same_retirements_at a.version b.version site _ _ (i.retired site) (k.retired site) (latest_where a.retired b.retired (ap (λ (x : View). x.retirements) e) site) (ranges site)) in
    let jobs = same_tables stamp_cmp stamp_total exact_stamp a.jobs b.jobs s.0 t.0
    (λ id. same_jobs_at a.version b.version id _ _ (i.jobs id) (k.jobs id)
    (IfSome-lookup_from_All HasSortedTags (is_at (stamp_cmp id)) a.jobs s.1) (IfSome-lookup_from_All HasSortedTags (is_at (stamp_cmp id)) b.jobs t.1)
    (ap (λ (x : View). x.job id) e)) in
    let reservations = same_tables stamp_cmp stamp_total exact_stamp a.reservations b.reservations u.0 v.0
    (λ id. same_reservations_at a.version b.version id _ _ (i.reservations id) (k.reservations id) (ap (λ (x : View). x.reservation id) e)) in
    λ j. record { version = version j; retired = retired j; jobs = jobs j; reservations = reservations j }
