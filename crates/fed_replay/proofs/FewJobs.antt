-- A view of whose jobs each site has submitted 10,000 at most has 160,000 at most.
use Rattle.std.specs.Prelude.{count_by, flat_map, map, nat_lt}
use Rattle.std.specs.List.{range_with_len}
use Rattle.std.proofs.Common.{◌≡◌, ◌==◌, ◌<◌, ◌≤◌, ◌+◌, ◌*◌, ℕ, zero, suc, List, [], ◌∷◌, length, cond, refl, ap, inl, inr, arith}
use Rattle.std.proofs.lemmas.Bool.{cases_eq, cases_lt, eq-eqb, le-ltb, lt-ltb, ne_eqb}
use Rattle.std.proofs.lemmas.List.Sums.{sum_by-cons}
use Rattle.fed_stamp.specs.Stamp.{StampValue}
use Rattle.fed_stamp.specs.Version.{covers, greatest}
use Rattle.fed_lattice.specs.Sets.{Has}
use Rattle.fed_lattice.specs.SetLaws.{Has-cases}
use Rattle.fed_lattice.proofs.FilterLaws.{Has-filter}
use Rattle.fed_model.specs.Letter.{is_submitted}
use Rattle.fed_board.specs.Counts.{ids_of}
use Rattle.fed_model.specs.Identifiers.{covered_stamps, jobs_in, stamps_of}
use Rattle.fed_model.specs.View.{View}
use Rattle.fed_board.proofs.CountLaws.{ids-push}

-- ---- identifiers that the sites below a number gave
abbrev ids_below : ℕ → List StampValue → ℕ
ids_below n ids = count_by (λ (id : StampValue). nat_lt id.site n) ids

below-push : (n : ℕ) (id : StampValue) (ids : List StampValue) → ids_below n (id ∷ ids) ≡ cond (nat_lt id.site n) 1 0 + ids_below n ids
below-push n id ids = sum_by-cons (λ (s : StampValue). cond (nat_lt s.site n) 1 0) id ids

-- a site below the next number is below the number or is it
one_site : (n site : ℕ) → cond (nat_lt site (suc n)) 1 0 ≡ cond (nat_lt site n) 1 0 + cond (site == n) 1 0
one_site n site = elim (cases_lt site n) [
  | inl low ↦ rw (lt-ltb site (suc n) (omega arith), lt-ltb site n low, ne_eqb site n (λ e. absurd (omega arith))) refl
  | inr high ↦ elim (cases_eq site n) [
    | inl same ↦ rw (lt-ltb site (suc n) (omega arith), le-ltb site n high, eq-eqb site n same) refl
    | inr apart ↦ rw (le-ltb site (suc n) (omega arith), le-ltb site n high, ne_eqb site n apart) refl
  ]
]

one_site_more : (n : ℕ) (ids : List StampValue) → ids_below (suc n) ids ≡ ids_below n ids + ids_of n ids
one_site_more n [] = refl
one_site_more n (id ∷ ids) =
    omega (arith, below-push (suc n) id ids, below-push n id ids, ids-push n id ids, one_site n id.site, one_site_more n ids)

none_below : (ids : List StampValue) → ids_below 0 ids ≡ 0
none_below [] = refl
none_below (id ∷ ids) =
    let here : ◌≡◌ {A = ℕ} (cond (nat_lt id.site 0) 1 0) 0 = ap (λ b. cond b 1 0) (le-ltb id.site 0 (omega arith)) in
    omega (arith, below-push 0 id ids, here, none_below ids)

few_below : (ids : List StampValue) → ((site : ℕ) → ids_of site ids ≤ 10_000) → (n : ℕ) → ids_below n ids ≤ n * 10_000
few_below ids each zero = omega (arith, none_below ids)
few_below ids each (suc n) = omega (arith, one_site_more n ids, few_below ids each n, each n)

all_below : (n : ℕ) (ids : List StampValue) → ((id : StampValue) → Has ids id → id.site < n) → ids_below n ids ≡ length ids
all_below n [] placed = refl
all_below n (id ∷ ids) placed =
    let here : ◌≡◌ {A = ℕ} (cond (nat_lt id.site n) 1 0) 1 = ap (λ b. cond b 1 0) (lt-ltb id.site n (placed id (inl refl))) in
    omega (arith, below-push n id ids, here, all_below n ids (λ s h. placed s (inr h)))

-- ---- the jobs of a view are named by the 16 sites
row_placed : (counter n a : ℕ) (s : StampValue) → Has (map (λ site. let t : StampValue = record { counter = counter; site = site } in t) (range_with_len a n)) s → s.site < a + n
row_placed counter zero a s h = absurd h
row_placed counter (suc n) a s (inl e) = let k : a ≡ s.site = ap (λ (t : StampValue). t.site) e in omega arith
row_placed counter (suc n) a s (inr h) = let k : s.site < a + 1 + n = row_placed counter n (a + 1) s h in omega arith

table_placed : (m a : ℕ) (s : StampValue) → Has (flat_map stamps_of (range_with_len a m)) s → s.site < 16
table_placed zero a s h = absurd h
table_placed (suc m) a s h = elim (Has-cases (stamps_of a) (flat_map stamps_of (range_with_len (a + 1) m)) s h) [
  | inl here ↦ row_placed a 16 0 s here
  | inr later ↦ table_placed m (a + 1) s later
]

job_placed : (v : View) (job : StampValue) → Has (jobs_in v) job → job.site < 16
job_placed v job h =
    let covered : Has (covered_stamps v.version) job = (Has-filter (λ j. is_submitted (v.job j)) (covered_stamps v.version) job h).0 in
    table_placed (suc (greatest v.version)) 0 job (Has-filter (covers v.version) (flat_map stamps_of (range_with_len 0 (suc (greatest v.version)))) job covered).0

pub few_jobs : (v : View) → ((site : ℕ) → ids_of site (jobs_in v) ≤ 10_000) → length (jobs_in v) ≤ 160_000
few_jobs v each = omega (arith, few_below (jobs_in v) each 16, all_below 16 (jobs_in v) (job_placed v))
