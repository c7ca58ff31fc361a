-- Stretches of time on a device, one after the other.
use Rattle.std.proofs.Common.{inl, inr, ⊎_elim, ℕ, List, arith}
use Rattle.fed_journal.specs.Device.{LeavesOnly, Passes}

module _ {D : Type 0} (moment : D → ℕ) (left_since : D → ℕ → List ℕ → Type 0) where
  -- the moment itself
  pub still : (now : D) (P : List ℕ → Type 0) → ((c : List ℕ) → left_since now (moment now) c → P c) → LeavesOnly moment left_since now now P
  still now P here = record { later = omega arith; each = here; joined = λ t c le left. inl left }

  pub weaker : (old new : D) (P Q : List ℕ → Type 0) → ((c : List ℕ) → P c → Q c) → LeavesOnly moment left_since old new P → LeavesOnly moment left_since old new Q
  weaker old new P Q implies run = record {
    later = run.later;
    each = λ c left. implies c (run.each c left);
    joined = λ t c le left. ⊎_elim (λ was. inl was) (λ p. inr (implies c p)) (run.joined t c le left);
  }

  pub both : (old mid new : D) (P : List ℕ → Type 0) → LeavesOnly moment left_since old mid P → LeavesOnly moment left_since mid new P → LeavesOnly moment left_since old new P
  both old mid new P first second = record {
    later = omega (arith, first.later, second.later);
    each = λ c left. ⊎_elim (first.each c) (λ p. p) (second.joined (moment old) c first.later left);
    joined = λ t c le left. ⊎_elim (first.joined t c le) (λ p. inr p) (second.joined t c (omega (arith, le, first.later)) left);
  }

  -- one call more, after which a crash leaves only what has P
  pub goes_on : (old mid new : D) (P may_leave : List ℕ → Type 0) → LeavesOnly moment left_since old mid P → Passes (moment mid) (moment new) (left_since mid) (left_since new) may_leave → ((c : List ℕ) → may_leave c → P c)
      → LeavesOnly moment left_since old new P
  goes_on old mid new P may_leave run time here = record {
    later = omega (arith, run.later, time.later);
    each = λ c left. ⊎_elim (run.each c) (here c) (time.no_more (moment old) c run.later left);
    joined = λ t c le left. ⊎_elim (run.joined t c le) (λ p. inr (here c p)) (time.no_more t c (omega (arith, le, run.later)) left);
  }
