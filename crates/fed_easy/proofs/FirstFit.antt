-- The first second at which a job fits is its shadow.
use Rattle.std.proofs.Common.{◌≡◌, ℕ, zero, suc, ◌+◌, ◌-◌, ◌≤◌, Bool, true, false, cond, refl, arith, inl, inr}
use Rattle.std.proofs.lemmas.Bool.{cases_lt}
use Rattle.fed_easy.specs.declared.queues.QueuedJob.{QueuedJob}
use Rattle.fed_easy.specs.Promises.{IsIdleFrom}
use Rattle.fed_easy.specs.Use.{first_fit, fits, shadow, IsShadow}
use Rattle.fed_easy.proofs.Fits.{Fits, fits-true, Fits-fits}

module _ (capacity now end : ℕ) (used : ℕ → ℕ) (j : QueuedJob) (idle : IsIdleFrom end used) (narrow : j.nodes ≤ capacity) where
  fits_idle : (t : ℕ) → end ≤ t → Fits capacity used j t
  fits_idle t late u from until = let none : used u ≡ 0 = idle u (omega arith) in omega arith

  -- the job fits at no second, from now on, before this one
  abbrev NotBefore : ℕ → Type 0
  NotBefore t = (r : ℕ) → now ≤ r → Fits capacity used j r → t ≤ r

  choice : (k t : ℕ) (b : Bool) → fits capacity used j t ≡ b → now ≤ t → NotBefore t
      → (NotBefore (suc t) → IsShadow capacity used now j (first_fit capacity used j k (suc t)))
      → IsShadow capacity used now j (cond b t (first_fit capacity used j k (suc t)))
  choice k t true e from least later = record { from_now = from; room = fits-true capacity used j t e; least = least }
  choice k t false e from least later = later (λ r early f. elim (cases_lt t r) [
    | inl behind ↦ omega arith
    | inr le ↦
        let low : t ≤ r = least r early f in
        let same : r ≡ t = omega arith in
        let yes : fits capacity used j t ≡ true = Fits-fits capacity used j t (rw same at f) in
        absurd cc
  ])

  found : (k t : ℕ) → now ≤ t → end ≤ t + k → NotBefore t → IsShadow capacity used now j (first_fit capacity used j k t)
  found zero t from late least = record { from_now = from; room = fits_idle t (omega arith); least = least }
  found (suc k) t from late least =
      choice k t (fits capacity used j t) refl from least (λ more. found k (suc t) (omega arith) (omega arith) more)

  pub shadow_least : IsShadow capacity used now j (shadow capacity used end now j)
  shadow_least = found (end - now) now (omega arith) (omega arith) (λ r from f. from)

  -- there is one least second
  pub shadow_is : (s : ℕ) → IsShadow capacity used now j s → s ≡ shadow capacity used end now j
  shadow_is s a =
      let t : ℕ = shadow capacity used end now j in
      let b : IsShadow capacity used now j t = shadow_least in
      let below : s ≤ t = a.least t b.from_now b.room in
      let above : t ≤ s = b.least s a.from_now a.room in
      omega arith
