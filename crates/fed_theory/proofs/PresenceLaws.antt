-- An element is present exactly where it has a live pair.
use Rattle.std.proofs.Common.{◌≡◌, ℕ, zero, suc, ◌≤◌, ◌<◌, List, Bool, true, sym, ap, subst, ◌∙◌, inl, inr, arith}
use Rattle.std.specs.Prelude.{◌↔◌}
use Rattle.std.specs.List.{list_any}
use Rattle.std.proofs.lemmas.Bool.{or_cases, or_left, or_right, cases_eq, and_parts}
use Rattle.fed_stamp.specs.Stamp.{StampValue, same_stamp}
use Rattle.fed_stamp.specs.Version.{counter_of}
use Rattle.fed_lattice.specs.Sets.{Has}
use Rattle.fed_lattice.specs.SetLaws.{found}
use Rattle.fed_lattice.specs.History.{History}
use Rattle.fed_lattice.specs.VersionOf.{version_of, HasSites}
use Rattle.fed_lattice.proofs.VersionOfLaws.{version_of-Has}
use Rattle.fed_model.specs.Body.{Body}
use Rattle.fed_model.specs.Letter.{any_below, any_covered}
use Rattle.fed_model.specs.Pairs.{adds_pair, is_live}
use Rattle.fed_lattice.specs.ExactLaws.{same_stamp_is}

pub any_below_from : (n : ℕ) (test : ℕ → Bool) (k : ℕ) → k < n → test k ≡ true → any_below n test ≡ true
unfolding any_below
any_below_from zero test k h t = absurd (omega arith)
any_below_from (suc n) test k h t = elim (cases_eq k n) [
  | inl e ↦ or_left (test n) (any_below n test) (ap test (sym e) ∙ t)
  | inr ne ↦ or_right (test n) (any_below n test) (any_below_from n test k (omega arith) t)
]

pub any_below_found : (n : ℕ) (test : ℕ → Bool) → any_below n test ≡ true → (k : ℕ) × (k < n) × (test k ≡ true)
unfolding any_below
any_below_found zero test e = cc
any_below_found (suc n) test e =
    let ih = any_below_found n test in
    elim (or_cases (test n) (any_below n test) e) [ inl t ↦ (n, omega arith, t) | inr t ↦ (let r = ih t in let below = r.1 in (r.0, omega arith, r.2)) ]

-- a stamp of one of the 16 sites that the version covers, and that passes the test
pub any_covered_from : (v : List ℕ) (test : StampValue → Bool) (s : StampValue) → s.site < 16 → s.counter ≤ counter_of v s.site → test s ≡ true → any_covered v test ≡ true
any_covered_from v test s small covered e =
    any_below_from 16 _ s.site small (any_below_from (suc (counter_of v s.site)) _ s.counter (omega arith) e)

pub any_covered_found : (v : List ℕ) (test : StampValue → Bool) → any_covered v test ≡ true → (s : StampValue) × (test s ≡ true)
any_covered_found v test e =
    let a = any_below_found 16 (λ site. any_below (suc (counter_of v site)) (λ counter. test (record { counter = counter; site = site }))) e in
    let b = any_below_found (suc (counter_of v a.0)) (λ counter. test (record { counter = counter; site = a.0 })) a.2 in
    (record { counter = b.0; site = a.0 }, b.2)

module _ {E : Type 0} (adds : Body → E → Bool) (removes : Body → E → StampValue → Bool) (h : History Body) (sites : HasSites h) (element : E) where
  -- the stamp of a live pair is that of an operation
  tagged : (tag : StampValue) → is_live adds removes h element tag ≡ true → (body : Body) × Has h (tag, body)
  tagged tag e =
      let f = found (adds_pair adds removes element tag) h (and_parts (list_any (adds_pair adds removes element tag) h) _ e).0 in
      (f.0.1, subst (λ (s : StampValue). Has h (s, f.0.1)) (same_stamp_is f.0.0 tag (and_parts (same_stamp f.0.0 tag) (adds f.0.1 element) f.2).0) f.1)

  pub present_where_live : (any_covered (version_of h) (is_live adds removes h element) ≡ true) ↔ ((tag : StampValue) × (is_live adds removes h element tag ≡ true))
  present_where_live = (
    any_covered_found (version_of h) (is_live adds removes h element),
    λ p.
        let t = tagged p.0 p.1 in
        let small = sites (p.0, t.0) t.1 in
        any_covered_from (version_of h) (is_live adds removes h element) p.0 small (version_of-Has h (p.0, t.0) t.1 small) p.1,
  )
