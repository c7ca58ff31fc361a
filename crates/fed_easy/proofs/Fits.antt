-- The test of a fit.
use Rattle.std.proofs.Common.{◌≡◌, ◌↔◌, IsTrue, ℕ, zero, suc, ◌+◌, ◌≤◌, ◌<◌, Bool, true, false, cond, leb, refl, sym, arith, inl, inr}
use Rattle.std.specs.Prelude.{min}
use Rattle.std.proofs.lemmas.Bool.{and_parts, and_from, leb-true, le-leb, lt-leb, cases_lt}
use Rattle.fed_easy.specs.declared.queues.QueuedJob.{QueuedJob}
use Rattle.fed_easy.specs.declared.profiles.Profile.{Profile}
use Rattle.fed_easy.specs.Use.{is_during, with_nodes, with_job, HasRoom, IsLeastRoom, has_room, fits}
use Rattle.fed_easy.specs.Profile.{nodes_in, Tells, TellsUntil}

-- the job fits at second t
abbrev pub Fits : ℕ → (ℕ → ℕ) → QueuedJob → ℕ → Type 0
Fits capacity used j t = HasRoom capacity used j.nodes t (t + j.limit)

-- room in each second, as the test says
pub room_each : (capacity : ℕ) (used : ℕ → ℕ) (nodes k t u : ℕ) → has_room capacity used nodes k t ≡ true → t ≤ u → u < t + k → used u + nodes ≤ capacity
room_each capacity used nodes zero t u e from until = absurd (omega arith)
room_each capacity used nodes (suc k) t u e from until =
    let both = and_parts (leb (used t + nodes) capacity) (has_room capacity used nodes k (suc t)) e in
    elim (cases_lt t u) [
      | inl later ↦ room_each capacity used nodes k (suc t) u both.1 (omega arith) (omega arith)
      | inr here ↦ let same : u ≡ t = omega arith in rw same (leb-true (used t + nodes) capacity both.0)
    ]

pub each_room : (capacity : ℕ) (used : ℕ → ℕ) (nodes k t : ℕ) → ((u : ℕ) → t ≤ u → u < t + k → used u + nodes ≤ capacity) → has_room capacity used nodes k t ≡ true
each_room capacity used nodes zero t h = refl
each_room capacity used nodes (suc k) t h =
    and_from (leb (used t + nodes) capacity) (has_room capacity used nodes k (suc t))
    (le-leb (used t + nodes) capacity (h t (omega arith) (omega arith)))
    (each_room capacity used nodes k (suc t) (λ u from until. h u (omega arith) (omega arith)))

-- the test of a fit says whether the job fits
pub fits-true : (capacity : ℕ) (used : ℕ → ℕ) (j : QueuedJob) (t : ℕ) → fits capacity used j t ≡ true → Fits capacity used j t
fits-true capacity used j t e u from until = room_each capacity used j.nodes j.limit t u e from until

pub Fits-fits : (capacity : ℕ) (used : ℕ → ℕ) (j : QueuedJob) (t : ℕ) → Fits capacity used j t → fits capacity used j t ≡ true
Fits-fits capacity used j t h = each_room capacity used j.nodes j.limit t h

pub same_test : (s t : Bool) → (s ≡ true → t ≡ true) → (t ≡ true → s ≡ true) → s ≡ t
same_test true t p q = sym (p refl)
same_test false true p q = q refl
same_test false false p q = refl

-- room beside what counts the same is room
pub counted_room : (capacity a b nodes : ℕ) → min a (suc capacity) ≡ min b (suc capacity) → a + nodes ≤ capacity → b + nodes ≤ capacity
counted_room capacity a b nodes e h = omega arith

-- whether a job fits beside what a profile tells
pub told_fits : (p : Profile) (until : ℕ) (used : ℕ → ℕ) (j : QueuedJob) (t : Bool) → TellsUntil p until used → p.start + j.limit ≤ until
    → (IsTrue t ↔ HasRoom p.capacity (nodes_in p) j.nodes p.start (p.start + j.limit)) → t ≡ fits p.capacity used j p.start
told_fits p until used j t tells soon iff =
    same_test t (fits p.capacity used j p.start)
    (λ yes. Fits-fits p.capacity used j p.start (λ u from before. counted_room p.capacity (nodes_in p u) (used u) j.nodes (tells u from (omega arith)) (iff.0 yes u from before)))
    (λ e. iff.1 (λ u from before. counted_room p.capacity (used u) (nodes_in p u) j.nodes (sym (tells u from (omega arith))) (fits-true p.capacity used j p.start e u from before)))

add_counted : (t : Bool) (capacity a b n : ℕ) → min a (suc capacity) ≡ min b (suc capacity) → min (cond t (min (a + n) (suc capacity)) a) (suc capacity) ≡ min (cond t n 0 + b) (suc capacity)
add_counted true capacity a b n e = omega arith
add_counted false capacity a b n e = omega arith

-- nodes added to a profile are added to what it tells
pub told_more : (p q : Profile) (used : ℕ → ℕ) (from until nodes u : ℕ) → min (nodes_in p u) (suc p.capacity) ≡ min (used u) (suc p.capacity) → q.capacity ≡ p.capacity
    → nodes_in q u ≡ cond (is_during from until u) (min (nodes_in p u + nodes) (suc p.capacity)) (nodes_in p u)
    → min (nodes_in q u) (suc q.capacity) ≡ min (with_nodes from until nodes used u) (suc q.capacity)
told_more p q used from until nodes u e same added =
    rw (same, added) (add_counted (is_during from until u) p.capacity (nodes_in p u) (used u) nodes e)

-- the same, of numbers that equal the job's and the profile's
pub told_test : (p : Profile) (until : ℕ) (used : ℕ → ℕ) (j : QueuedJob) (t : Bool) (capacity now nodes limit : ℕ) → p.capacity ≡ capacity → p.start ≡ now → nodes ≡ j.nodes → limit ≡ j.limit
    → TellsUntil p until used → now + limit ≤ until → (IsTrue t ↔ HasRoom p.capacity (nodes_in p) nodes p.start (p.start + limit)) → t ≡ fits capacity used j now
told_test p until used j t capacity now nodes limit same_capacity same_start same_nodes same_limit tells soon iff =
    let ends : p.start + j.limit ≤ until = omega arith in
    let exact : IsTrue t ↔ HasRoom p.capacity (nodes_in p) j.nodes p.start (p.start + j.limit) = rw (same_nodes, same_limit) at iff in
    rw (same_capacity, same_start) at (told_fits p until used j t tells ends exact)

pub told_job : (p q : Profile) (used : ℕ → ℕ) (j : QueuedJob) (from nodes limit u : ℕ) → nodes ≡ j.nodes → limit ≡ j.limit → min (nodes_in p u) (suc p.capacity) ≡ min (used u) (suc p.capacity) → q.capacity ≡ p.capacity
    → nodes_in q u ≡ cond (is_during from (from + limit) u) (min (nodes_in p u + nodes) (suc p.capacity)) (nodes_in p u)
    → min (nodes_in q u) (suc q.capacity) ≡ min (with_job from j used u) (suc q.capacity)
told_job p q used j from nodes limit u same_nodes same_limit e same added =
    rw (same_nodes, same_limit) at (told_more p q used from (from + limit) nodes u e same added)

-- the least second with room is that beside what the profile tells
pub told_shadow : (p : Profile) (used : ℕ → ℕ) (nodes limit s : ℕ) → Tells p used → IsLeastRoom p.capacity (nodes_in p) nodes limit p.start s → IsLeastRoom p.capacity used nodes limit p.start s
told_shadow p used nodes limit s tells least = record {
  from_now = least.from_now;
  room = λ u from before. counted_room p.capacity (nodes_in p u) (used u) nodes (tells u (omega (arith, least.from_now))) (least.room u from before);
  least = λ t from room. least.least t from (λ u after before. counted_room p.capacity (used u) (nodes_in p u) nodes (sym (tells u (omega arith))) (room u after before));
}

-- a time that begins later is not used before it
pub not_yet : (s end nodes u : ℕ) (used : ℕ → ℕ) → u < s → with_nodes s end nodes used u ≡ used u
not_yet s end nodes u used before = rw (lt-leb s u before) (omega arith)
