use Rattle.std.proofs.Common.{◌≡◌, ℕ, ◌++◌, take, drop, length}
use Rattle.fed_easy.specs.Plan.{front, behind, ids}
use Rattle.fed_easy.specs.Use.{with_jobs}
use Rattle.fed_easy.specs.Profile.{IsProfile, Tells}
use Rattle.fed_easy.proofs.queue_planning.start_front.Given as goal

abbrev pub invariant-loop-i : goal.invariant-loop-i
invariant-loop-i l = record {
  profile : IsProfile l.profile;
  start : l.profile.start ≡ l.fn.profile.start;
  capacity : l.profile.capacity ≡ l.fn.profile.capacity;
  end : l.i-end ≡ length l.queue;
  starts : l.starts.items ≡ l.fn.starts.items ++ ids (take l.i l.queue);
  front : (used : ℕ → ℕ) → Tells l.fn.profile used → front l.fn.profile.capacity l.fn.profile.start used l.queue
      ≡ take l.i l.queue ++ front l.fn.profile.capacity l.fn.profile.start (with_jobs l.fn.profile.start (take l.i l.queue) used) (drop l.i l.queue);
  behind : (used : ℕ → ℕ) → Tells l.fn.profile used → behind l.fn.profile.capacity l.fn.profile.start used l.queue
      ≡ behind l.fn.profile.capacity l.fn.profile.start (with_jobs l.fn.profile.start (take l.i l.queue) used) (drop l.i l.queue);
  tells : (used : ℕ → ℕ) → Tells l.fn.profile used → Tells l.profile (with_jobs l.fn.profile.start (take l.i l.queue) used);
}
