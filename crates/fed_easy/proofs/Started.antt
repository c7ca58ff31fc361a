-- What is in use once jobs have started, and which jobs are left.
use Rattle.std.proofs.Common.{◌≡◌, ℕ, zero, suc, ◌+◌, ◌≤◌, List, [], ◌∷◌, drop, length, refl, arith}
use Rattle.std.specs.List.{AllByRecursion}
use Rattle.std.specs.Prelude.{nat_le, nat_lt}
use Rattle.std.proofs.lemmas.Bool.{and_right, le-ltb}
use Rattle.fed_easy.specs.declared.bookings.Booking.{Booking}
use Rattle.fed_easy.specs.declared.queues.QueuedJob.{QueuedJob}
use Rattle.fed_easy.specs.Plan.{behind, front}
use Rattle.fed_easy.specs.Promises.{IsIdleFrom}
use Rattle.fed_easy.specs.Use.{end_with, last_end, use_at, with_job, with_jobs, with_nodes}

-- nodes are not used from the end of their time on
pub over : (from until nodes u : ℕ) (used : ℕ → ℕ) → until ≤ u → with_nodes from until nodes used u ≡ used u
over from until nodes u used late = rw (and_right (nat_le from u) (nat_lt u until) (le-ltb u until late)) (omega arith)

pub idle_bookings : (bs : List Booking) → IsIdleFrom (last_end bs) (use_at bs)
idle_bookings [] u late = refl
idle_bookings (b ∷ bs) u late =
    let rest = idle_bookings bs u (omega (arith, late)) in
    rw (over b.from b.until b.nodes u (use_at bs) (omega (arith, late))) rest

end_least : (now : ℕ) (js : List QueuedJob) (end : ℕ) → end ≤ end_with now js end
end_least now [] end = omega arith
end_least now (j ∷ js) end = let rest = end_least now js end in omega arith

idle_at : (now : ℕ) (js : List QueuedJob) (used : ℕ → ℕ) (end u : ℕ) → used u ≡ 0 → end_with now js end ≤ u → with_jobs now js used u ≡ 0
idle_at now [] used end u none late = none
idle_at now (j ∷ js) used end u none late =
    let here : with_job now j used u ≡ 0 = rw (over now (now + j.limit) j.nodes u used (omega (arith, late))) none in
    idle_at now js (with_job now j used) end u here (omega (arith, late))

pub idle_started : (now : ℕ) (js : List QueuedJob) (used : ℕ → ℕ) (end : ℕ) → IsIdleFrom end used → IsIdleFrom (end_with now js end) (with_jobs now js used)
idle_started now js used end idle u late =
    let least = end_least now js end in
    idle_at now js used end u (idle u (omega (arith, late))) late

-- what holds of all jobs holds of those that are left
module _ (P : QueuedJob → Type 0) where
  all_dropped : (n : ℕ) (js : List QueuedJob) → AllByRecursion P js → AllByRecursion P (drop n js)
  all_dropped zero js h = h
  all_dropped (suc n) [] h = tt
  all_dropped (suc n) (j ∷ js) h = all_dropped n js h.1

  pub all_behind : (capacity now : ℕ) (js : List QueuedJob) (used : ℕ → ℕ) → AllByRecursion P js → AllByRecursion P (behind capacity now used js)
  all_behind capacity now js used = all_dropped (length (front capacity now used js)) js
