use Rattle.std.proofs.Common.{◌≡◌, ℕ, ◌++◌, ◌^◌, drop, length}
use Rattle.fed_easy.specs.Plan.{backfill, ids}
use Rattle.fed_easy.specs.Profile.{IsProfile, TellsUntil}
use Rattle.fed_easy.proofs.queue_planning.start_behind.Given as goal

abbrev pub invariant-loop-i : goal.invariant-loop-i
invariant-loop-i l = record {
  profile : IsProfile l.profile;
  start : l.profile.start ≡ l.fn.profile.start;
  capacity : l.profile.capacity ≡ l.fn.profile.capacity;
  end : l.i-end ≡ length l.queue;
  so_far : (used : ℕ → ℕ) → TellsUntil l.fn.profile (2 ^ 62) used → (now : ℕ → ℕ) × (TellsUntil l.profile (2 ^ 62) now
      × (l.fn.starts.items ++ ids (backfill l.fn.profile.capacity l.fn.profile.start used l.queue) ≡ l.starts.items ++ ids (backfill l.fn.profile.capacity l.fn.profile.start now (drop l.i l.queue))));
}
