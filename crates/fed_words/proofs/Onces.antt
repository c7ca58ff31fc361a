-- Jobs, each once, found one after another.
use Rattle.std.proofs.Common.{◌≡◌, ℕ, Bool, true, false, not, ◌&&◌, List, [], ◌∷◌, ◌++◌, filter, map, refl, ap, sym, ◌∙◌, inl, inr}
use Rattle.std.specs.Prelude.{◌==◌, if◌then◌else◌}
use Rattle.std.specs.List.{list_any}
use Rattle.std.proofs.lemmas.Bool.{cases_Bool}
use Rattle.std.proofs.lemmas.List.{map_push}
use Rattle.fed_lattice.specs.ExactLaws.{same_stamp_is, same_stamp_itself}
use Rattle.fed_stamp.specs.Stamp.{StampValue, same_stamp}
use Rattle.fed_words.specs.Request.{once}

-- what passes is not filtered away where it differs from x
any_filter : (x job : StampValue) (ys : List StampValue) → same_stamp x job ≡ false → list_any (same_stamp job) (filter (λ y. not (same_stamp x y)) ys) ≡ list_any (same_stamp job) ys
any_filter x job [] e = refl
any_filter x job (y ∷ ys) e = elim (cases_Bool (same_stamp x y)) [
  | inl same ↦
      let at : x ≡ y = same_stamp_is x y same in
      let differs : same_stamp job y ≡ false = elim (cases_Bool (same_stamp job y)) [
        | inl again ↦ absurd (let is : job ≡ y = same_stamp_is job y again in let bad : same_stamp x job ≡ true = rw (is, at) (same_stamp_itself y) in cc)
        | inr other ↦ other
      ] in
      rw (same, differs) (any_filter x job ys e)
  | inr other ↦ rw (other, any_filter x job ys e) refl
]

filter-push : (test : StampValue → Bool) (ys : List StampValue) (y : StampValue) → filter test (ys ++ y ∷ []) ≡ filter test ys ++ (if test y then y ∷ [] else [])
filter-push test [] y = elim (cases_Bool (test y)) [ inl yes_ ↦ rw yes_ refl | inr no_ ↦ rw no_ refl ]
filter-push test (z ∷ ys) y = elim (cases_Bool (test z)) [
  | inl kept ↦ rw (kept, filter-push test ys y) refl
  | inr dropped ↦ rw (dropped, filter-push test ys y) refl
]

append-none : (ys : List StampValue) → ys ++ [] ≡ ys
append-none [] = refl
append-none (y ∷ ys) = ap (λ zs. y ∷ zs) (append-none ys)

-- of one more
pub once-push : (jobs : List StampValue) (job : StampValue) → once (jobs ++ job ∷ []) ≡ (if list_any (same_stamp job) (once jobs) then once jobs else once jobs ++ job ∷ [])
once-push [] job = refl
once-push (x ∷ jobs) job = elim (cases_Bool (same_stamp x job)) [
  | inl same ↦
      let at : x ≡ job = same_stamp_is x job same in
      let back : same_stamp job x ≡ true = rw at (same_stamp_itself job) in
      elim (cases_Bool (list_any (same_stamp job) (once jobs))) [
        | inl known ↦ rw (once-push jobs job, known, back) refl
        | inr new ↦ rw (once-push jobs job, new, back, filter-push (λ y. not (same_stamp x y)) (once jobs) job, same, append-none (filter (λ y. not (same_stamp x y)) (once jobs))) refl
      ]
  | inr differs ↦
      let back : same_stamp job x ≡ false = elim (cases_Bool (same_stamp job x)) [
        | inl again ↦ absurd (let is : job ≡ x = same_stamp_is job x again in let bad : same_stamp x job ≡ true = rw is (same_stamp_itself x) in cc)
        | inr other ↦ other
      ] in
      elim (cases_Bool (list_any (same_stamp job) (once jobs))) [
        | inl known ↦ rw (once-push jobs job, known, back, any_filter x job (once jobs) differs, known) refl
        | inr new ↦ rw (once-push jobs job, new, back, any_filter x job (once jobs) differs, new, filter-push (λ y. not (same_stamp x y)) (once jobs) job, differs) refl
      ]
]

-- the pair that stands for a job in a set
abbrev pub key : StampValue → ℕ × ℕ
key job = (job.counter, job.site)

any_key : (job : StampValue) (jobs : List StampValue) → list_any (λ y. (job.counter == y.0) && (job.site == y.1)) (map key jobs) ≡ list_any (same_stamp job) jobs
any_key job [] = refl
any_key job (x ∷ jobs) = rw (any_key job jobs) refl

chosen_keys : (t : Bool) (job : StampValue) (jobs : List StampValue) → (if t then map key jobs else map key jobs ++ key job ∷ []) ≡ map key (if t then jobs else jobs ++ job ∷ [])
chosen_keys true job jobs = refl
chosen_keys false job jobs = sym (map_push key jobs job)

-- a set of the jobs, as pairs, gets one more
pub keys-once : (job : StampValue) (done : List StampValue) (a b : ℕ) (keys keys' : List (ℕ × ℕ)) → a ≡ job.counter → b ≡ job.site → keys ≡ map key (once done) → keys' ≡ (if list_any (λ y. (a == y.0) && (b == y.1)) keys then keys else keys ++ (a, b) ∷ []) → keys' ≡ map key (once (done ++ job ∷ []))
keys-once job done a b keys keys' counter site held put =
    put ∙ rw (counter, site, held, any_key job (once done)) (chosen_keys (list_any (same_stamp job) (once done)) job (once done) ∙ ap (map key) (sym (once-push done job)))

-- whether it is new
pub is_known : (job : StampValue) (done : List StampValue) (a b : ℕ) (keys : List (ℕ × ℕ)) → a ≡ job.counter → b ≡ job.site → keys ≡ map key (once done) → list_any (λ y. (a == y.0) && (b == y.1)) keys ≡ list_any (same_stamp job) (once done)
is_known job done a b keys counter site held = rw (counter, site, held) (any_key job (once done))

pub once-new : (job : StampValue) (done : List StampValue) → list_any (same_stamp job) (once done) ≡ false → once done ++ job ∷ [] ≡ once (done ++ job ∷ [])
once-new job done new = sym (once-push done job ∙ rw new refl)

pub once-known : (job : StampValue) (done : List StampValue) → list_any (same_stamp job) (once done) ≡ true → once done ≡ once (done ++ job ∷ [])
once-known job done known = sym (once-push done job ∙ rw known refl)
