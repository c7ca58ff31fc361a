-- How many identifiers a list has of a site, counted by the counters that the site gave.
use Rattle.std.specs.Prelude.{count_by, cond, filter, is_some}
use Rattle.std.specs.BTreeMap.{is_at}
use Rattle.std.specs.Map.{keys_of, lookup}
use Rattle.std.specs.List.{AllByRecursion, list_any, range_with_len}
use Rattle.std.specs.List.Sorted.{IsStrictlySortedBy}
use Rattle.std.proofs.Common.{◌≡◌, ◌↔◌, ℕ, zero, suc, ◌+◌, ◌≤◌, ◌<◌, ◌==◌, List, [], ◌∷◌, Bool, true, false, ◌&&◌, ◌||◌, Less, Equal, refl, sym, ap, subst, ◌∙◌, inl, inr, arith}
use Rattle.std.proofs.lemmas.Bool.{cases_eq, leb-true, eqb-true, eq-eqb, ne_eqb}
use Rattle.std.proofs.lemmas.Cmp.{tied_itself}
use Rattle.std.proofs.lemmas.List.Sums.{sum_by-cons}
use Rattle.std.proofs.lemmas.List.Kept.{IsStrictlySortedBy-filter}
use Rattle.std.proofs.Math.Bool.{and-true, and-false}
use Rattle.fed_stamp.specs.Stamp.{StampValue, same_stamp}
use Rattle.fed_stamp.specs.Version.{counter_of, covers}
use Rattle.fed_lattice.specs.ExactLaws.{same_stamp_is, same_stamp_itself}
use Rattle.fed_lattice.specs.History.{History}
use Rattle.fed_lattice.specs.Latest.{stamp_cmp}
use Rattle.fed_lattice.specs.LatestLaws.{stamp_total}
use Rattle.fed_lattice.specs.Sets.{Has}
use Rattle.fed_lattice.specs.SetLaws.{found, any_from}
use Rattle.fed_lattice.specs.VersionOf.{version_of, HasSites}
use Rattle.fed_lattice.proofs.FilterLaws.{Has-filter, filter-Has}
use Rattle.fed_lattice.proofs.VersionOfLaws.{version_of-covers}
use Rattle.fed_model.specs.Body.{Body, Body.Submit, Body.Reserve}
use Rattle.fed_model.specs.Letter.{is_submitted}
use Rattle.fed_board.specs.Board.{BoardValue, IsBoard, board_reads}
use Rattle.fed_board.specs.Counts.{ids_of}
use Rattle.fed_model.specs.Lawful.{IsLawful}
use Rattle.fed_model.specs.Identifiers.{covered_stamps, jobs_in, reservations_in}
use Rattle.fed_model.specs.View.{view}
use Rattle.fed_theory.proofs.CoveredStamps.{covered_ascend, covered_has}
use Rattle.fed_theory.proofs.SubmitLaws.{submit_of, reserve_of}
use Rattle.fed_board.proofs.ListedIdentifiers.{known_job, known_reservation}
use Rattle.fed_model.specs.Origin.{jobs_of, reservations_of}
use Rattle.fed_theory.proofs.OriginCounts.{first_counted, fewer}

-- ---- counts over ranges
count_none : (n a : ℕ) → count_by (λ (k : ℕ). false) (range_with_len a n) ≡ 0
count_none zero a = refl
count_none (suc n) a = let h : count_by (λ (k : ℕ). false) (range_with_len (a + 1) n) ≡ 0 = count_none n (a + 1) in omega (arith, first_counted (λ (k : ℕ). false) a n)

bit_or : (b c : Bool) → (b ≡ true → c ≡ true → ⊥) → ◌≡◌ {A = ℕ} (cond (b || c) 1 0) (cond b 1 0 + cond c 1 0)
bit_or true true apart = absurd (apart refl refl)
bit_or true false apart = refl
bit_or false true apart = refl
bit_or false false apart = refl

-- of two tests that no number passes both
count_or : (p q : ℕ → Bool) → ((k : ℕ) → p k ≡ true → q k ≡ true → ⊥) → (n a : ℕ) → count_by (λ k. p k || q k) (range_with_len a n) ≡ count_by p (range_with_len a n) + count_by q (range_with_len a n)
count_or p q apart zero a = refl
count_or p q apart (suc n) a =
    let h : count_by (λ k. p k || q k) (range_with_len (a + 1) n) ≡ count_by p (range_with_len (a + 1) n) + count_by q (range_with_len (a + 1) n) = count_or p q apart n (a + 1) in
    omega (arith, first_counted (λ k. p k || q k) a n, first_counted p a n, first_counted q a n, bit_or (p a) (q a) (apart a))

-- one number alone
counted_never : (c n a : ℕ) → c < a → count_by (λ k. c == k) (range_with_len a n) ≡ 0
counted_never c zero a below = refl
counted_never c (suc n) a below =
    let h : count_by (λ k. c == k) (range_with_len (a + 1) n) ≡ 0 = counted_never c n (a + 1) (omega arith) in
    let off : ◌≡◌ {A = ℕ} (cond (c == a) 1 0) 0 = ap (λ b. cond {A = ℕ} b 1 0) (ne_eqb c a (λ e. omega arith)) in
    omega (arith, first_counted (λ k. c == k) a n)

counted_once : (c n a : ℕ) → a ≤ c → c < a + n → count_by (λ k. c == k) (range_with_len a n) ≡ 1
counted_once c zero a low high = absurd (omega arith)
counted_once c (suc n) a low high = elim (cases_eq c a) [
  | inl e ↦ (
      let h : count_by (λ k. c == k) (range_with_len (a + 1) n) ≡ 0 = counted_never c n (a + 1) (omega arith) in
      let on : ◌≡◌ {A = ℕ} (cond (c == a) 1 0) 1 = ap (λ b. cond {A = ℕ} b 1 0) (eq-eqb c a e) in
      omega (arith, first_counted (λ k. c == k) a n))
  | inr apart ↦ (
      let h : count_by (λ k. c == k) (range_with_len (a + 1) n) ≡ 1 = counted_once c n (a + 1) (omega arith) (omega arith) in
      let off : ◌≡◌ {A = ℕ} (cond (c == a) 1 0) 0 = ap (λ b. cond {A = ℕ} b 1 0) (ne_eqb c a apart) in
      omega (arith, first_counted (λ k. c == k) a n))
]

-- ---- lists of different identifiers
abbrev AreApart : List StampValue → Type 0
AreApart [] = Unit {0}
AreApart (x ∷ xs) = (Has xs x → ⊥) × AreApart xs

module _ (site : ℕ) where
  abbrev at : ℕ → StampValue
  at counter = record { counter = counter; site = site }

  counted_id : (x : StampValue) (m : ℕ) → (x.site ≡ site → x.counter < m) → count_by (λ k. same_stamp x (at k)) (range_with_len 0 m) ≡ cond (x.site == site) 1 0
  counted_id x m below = go (x.site == site) refl
    where
      go : (b : Bool) → (x.site == site) ≡ b → count_by (λ k. x.counter == k && b) (range_with_len 0 m) ≡ cond b 1 0
      go true e = ap (λ p. count_by p (range_with_len 0 m)) (λ i k. and-true (x.counter == k) i) ∙ (let h = below (eqb-true x.site site e) in counted_once x.counter m 0 (omega arith) (omega arith))
      go false e = ap (λ p. count_by p (range_with_len 0 m)) (λ i k. and-false (x.counter == k) i) ∙ count_none m 0

  counted_ids : (ids : List StampValue) (m : ℕ) → AreApart ids → ((x : StampValue) → Has ids x → x.site ≡ site → x.counter < m) → ids_of site ids ≡ count_by (λ k. list_any (λ x. same_stamp x (at k)) ids) (range_with_len 0 m)
  counted_ids [] m apart below = sym (count_none m 0)
  counted_ids (x ∷ ids) m apart below =
      let rest = counted_ids ids m apart.1 (λ y h. below y (inr h)) in
      let first = counted_id x m (below x (inl refl)) in
      let split = count_or (λ k. same_stamp x (at k)) (λ k. list_any (λ y. same_stamp y (at k)) ids) (λ k p q.
      let f = found (λ y. same_stamp y (at k)) ids q in
      apart.0 (subst (Has ids) (same_stamp_is f.0 (at k) f.2 ∙ sym (same_stamp_is x (at k) p)) f.1)) m 0 in
      sum_by-cons (λ (id : StampValue). cond (id.site == site) 1 0) x ids ∙ (omega (arith, rest, first, split))

  pub ids_counted : (ids : List StampValue) (test : StampValue → Bool) (m : ℕ) → AreApart ids → ((x : StampValue) → Has ids x ↔ (test x ≡ true)) → ((x : StampValue) → Has ids x → x.site ≡ site → x.counter < m) → ids_of site ids ≡ count_by (λ k. test (at k)) (range_with_len 0 m)
  ids_counted ids test m apart all below =
      let e = counted_ids ids m apart below in
      let less : count_by (λ k. list_any (λ x. same_stamp x (at k)) ids) (range_with_len 0 m) ≤ count_by (λ k. test (at k)) (range_with_len 0 m) =
      fewer (λ k. list_any (λ x. same_stamp x (at k)) ids) (λ k. test (at k)) m 0 (λ k h t.
      let f = found (λ x. same_stamp x (at k)) ids t in (all (at k)).0 (subst (Has ids) (same_stamp_is f.0 (at k) f.2) f.1)) in
      let more : count_by (λ k. test (at k)) (range_with_len 0 m) ≤ count_by (λ k. list_any (λ x. same_stamp x (at k)) ids) (range_with_len 0 m) =
      fewer (λ k. test (at k)) (λ k. list_any (λ x. same_stamp x (at k)) ids) m 0 (λ k h t.
      any_from (λ x. same_stamp x (at k)) ids (at k) ((all (at k)).1 t) (same_stamp_itself (at k))) in
      omega arith

-- identifiers that ascend are different
pub apart_from_sorted : (ids : List StampValue) → IsStrictlySortedBy stamp_cmp ids → AreApart ids
unfolding IsStrictlySortedBy
apart_from_sorted [] s = tt
apart_from_sorted (x ∷ ids) s = (λ h. above ids s.0 h, apart_from_sorted ids s.1)
  where
    above : (ys : List StampValue) → AllByRecursion (λ y. stamp_cmp x y ≡ Less) ys → Has ys x → ⊥
    above [] a h = h
    above (y ∷ ys) a (inl e) = let p : stamp_cmp x x ≡ Less = subst (λ z. stamp_cmp x z ≡ Less) e a.0 in let q : stamp_cmp x x ≡ Equal = tied_itself stamp_total x in let r : Less ≡ Equal = sym p ∙ q in cc
    above (y ∷ ys) a (inr h) = above ys a.1 h

-- the identifiers that a version covers and that pass a test, where no others pass
pub covered_counted : (v : List ℕ) (p : StampValue → Bool) → ((id : StampValue) → p id ≡ true → (id.site < 16) × (covers v id ≡ true)) → (site : ℕ)
    → ids_of site (filter p (covered_stamps v)) ≡ count_by (λ k. p (at site k)) (range_with_len 0 (suc (counter_of v site)))
covered_counted v p known site =
    let ids : List StampValue = filter p (covered_stamps v) in
    ids_counted site ids p (suc (counter_of v site)) (apart_from_sorted ids (IsStrictlySortedBy-filter stamp_cmp p (covered_stamps v) (covered_ascend v)))
    (λ x. (λ h. (Has-filter p (covered_stamps v) x h).1, λ e. let k = known x e in filter-Has p (covered_stamps v) x (covered_has v x k.0 k.1) e))
    (λ x h at.
    let k = known x (Has-filter p (covered_stamps v) x h).1 in
    let le : x.counter ≤ counter_of v x.site = leb-true x.counter _ k.1 in
    let here : x.counter ≤ counter_of v site = subst (λ (n : ℕ). x.counter ≤ counter_of v n) at le in omega arith)

-- ---- of a set
pub sited_jobs_counted : (ops : History Body) → HasSites ops → (site : ℕ) → ids_of site (jobs_in (view ops)) ≡ jobs_of (view ops) site
sited_jobs_counted ops sites = covered_counted (version_of ops) (λ job. is_submitted ((view ops).job job)) (λ job e.
    let s = submit_of ops job e in (sites (job, Submit s.0 s.1 s.2) s.3, version_of-covers ops sites (job, Submit s.0 s.1 s.2) s.3))

pub set_jobs_counted : (ops : History Body) → IsLawful ops → (site : ℕ) → ids_of site (jobs_in (view ops)) ≡ jobs_of (view ops) site
set_jobs_counted ops l = sited_jobs_counted ops l.sites

pub set_reservations_counted : (ops : History Body) → IsLawful ops → (site : ℕ) → ids_of site (reservations_in (view ops)) ≡ reservations_of (view ops) site
set_reservations_counted ops l = covered_counted (version_of ops) (λ id. is_some ((view ops).reservation id)) (λ id e.
    let r = reserve_of ops id l e in (l.sites (id, Reserve r.0) r.1, version_of-covers ops l.sites (id, Reserve r.0) r.1))

-- ---- of a board
pub jobs_counted : (b : BoardValue) → IsBoard b → keys_of b.jobs ≡ jobs_in (board_reads b) → (site : ℕ) → ids_of site (keys_of b.jobs) ≡ jobs_of (board_reads b) site
jobs_counted b board ids site =
    ap (ids_of site) ids
    ∙ covered_counted b.version (λ job. is_submitted ((board_reads b).job job)) (λ job e. known_job b.version job (lookup (is_at (stamp_cmp job)) b.jobs) (board.jobs job) e) site

pub reservations_counted : (b : BoardValue) → IsBoard b → keys_of b.reservations ≡ reservations_in (board_reads b) → (site : ℕ) → ids_of site (keys_of b.reservations) ≡ reservations_of (board_reads b) site
reservations_counted b board ids site =
    ap (ids_of site) ids
    ∙ covered_counted b.version (λ id. is_some ((board_reads b).reservation id)) (λ id e. known_reservation b.version id (lookup (is_at (stamp_cmp id)) b.reservations) (board.reservations id) e) site
