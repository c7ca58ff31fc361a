-- The stamp of the next operation at a site is above those of the operations there.
use Rattle.std.specs.Prelude.{nat_lt, Ok, Err, cond}
use Rattle.std.specs.Ordering.{ordering_then, nat_cmp, is_lt}
use Rattle.std.proofs.Common.{◌≡◌, ℕ, ◌+◌, ◌≤◌, ◌<◌, ◌==◌, List, Bool, true, false, Ordering, refl, sym, ap, arith, inl, inr}
use Rattle.std.proofs.lemmas.Bool.{lt-ltb, ltb-true, le-ltb, ne_eqb, cases_lt, cases_Bool}
use Rattle.fed_stamp.specs.declared.versions.ClockFull.{ClockFull}
use Rattle.fed_stamp.specs.declared.stamps.TheConstants.{MAX_COUNTER}
use Rattle.fed_stamp.specs.Stamp.{StampValue}
use Rattle.fed_stamp.specs.Version.{covers, greatest, next_stamp}
use Rattle.fed_stamp.proofs.VersionLaws.{covered_counter_le_greatest}
use Rattle.fed_lattice.specs.Sets.{Has}
use Rattle.fed_lattice.specs.History.{History, IsFresh}
use Rattle.fed_lattice.specs.Latest.{is_before}
use Rattle.fed_lattice.specs.VersionOf.{version_of, HasSites}
use Rattle.fed_lattice.proofs.VersionOfLaws.{version_of-covers}
use Rattle.fed_model.specs.Body.{Body}

pub record IsNext (v : List ℕ) (here : ℕ) (t : StampValue) : Type 0 where
  pub next : next_stamp v here ≡ Ok t
  pub counter : t.counter ≡ greatest v + 1
  pub site : t.site ≡ here
  pub counted : t.counter ≤ MAX_COUNTER

pub next_is : (v : List ℕ) (here : ℕ) (t : StampValue) → next_stamp v here ≡ Ok t → IsNext v here t
next_is v here t e = go (nat_lt (greatest v) MAX_COUNTER) refl e
  where
    go : (b : Bool) → nat_lt (greatest v) MAX_COUNTER ≡ b → cond b (Ok (let s : StampValue = record { counter = greatest v + 1; site = here } in s)) (Err (let f : ClockFull = record {} in f)) ≡ Ok t → IsNext v here t
    go true q r =
        let p : (let s : StampValue = record { counter = greatest v + 1; site = here } in s) ≡ t = cc in
        let c : greatest v + 1 ≡ t.counter = ap (λ (s : StampValue). s.counter) p in
        let l = ltb-true (greatest v) MAX_COUNTER q in
        record { next = e; counter = sym c; site = sym (ap (λ (s : StampValue). s.site) p); counted = omega arith }
    go false q r = cc

less_first : (a b : ℕ) (o : Ordering) → a < b → is_lt (ordering_then (nat_cmp a b) o) ≡ true
less_first a b o l = rw (lt-ltb a b l) refl

-- the version doesn't cover it
pub next_uncovered : (v : List ℕ) (here : ℕ) (t : StampValue) → IsNext v here t → covers v t ≡ false
next_uncovered v here t next = elim (cases_Bool (covers v t)) [
  | inl c ↦ (let le = covered_counter_le_greatest v t c in let q = next.counter in absurd (omega arith))
  | inr c ↦ c
]

module _ (ops : History Body) (sites : HasSites ops) (here : ℕ) (t : StampValue) (next : IsNext (version_of ops) here t) where
  pub counter_below : (e : StampValue × Body) → Has ops e → e.0.counter < t.counter
  counter_below e h =
      let le = covered_counter_le_greatest (version_of ops) e.0 (version_of-covers ops sites e h) in
      let c = next.counter in omega arith

  pub fresh_next : IsFresh t ops
  fresh_next e h same = let below = counter_below e h in let q : e.0.counter ≡ t.counter = ap (λ (s : StampValue). s.counter) same in omega arith

  pub before_next : (e : StampValue × Body) → Has ops e → is_before e.0 t ≡ true
  before_next e h = less_first e.0.counter t.counter _ (counter_below e h)

-- a stamp that is before another has no greater counter
pub before_counter : (s t : StampValue) → is_before s t ≡ true → s.counter ≤ t.counter
before_counter s t e = elim (cases_lt t.counter s.counter) [
  | inr l ↦ l
  | inl l ↦ absurd (
      let p : nat_lt s.counter t.counter ≡ false = le-ltb s.counter t.counter (omega arith) in
      let q : (s.counter == t.counter) ≡ false = ne_eqb s.counter t.counter (λ k. omega arith) in
      let r = rw (p, q) at e in cc)
]
