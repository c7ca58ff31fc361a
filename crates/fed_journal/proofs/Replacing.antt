-- A journal takes the place of another.
use Rattle.std.proofs.Common.{◌≡◌, ◌∙◌, ◌⊎◌, inl, inr, ap, subst, sym, List, ℕ, ◌+◌, ◌-◌, [], length, Ok, arith}
use Rattle.std.specs.List.{All}
use Rattle.fed_journal.specs.Device.{Leaves, LeavesJust, LeavesOnly, Passes}
use Rattle.fed_journal.specs.Lines.{IsLine, closed_lines, first_digest, last_digest, open_lines, recovered}
use Rattle.fed_journal.specs.Journal.{IsOldOrNew, IsSettled}
use Rattle.fed_journal.specs.declared.journals.Journal.{Journal}
use Rattle.fed_journal.proofs.Moments.{goes_on, still}
use Rattle.fed_journal.proofs.Reading.{recovered_closed}
use Rattle.fed_journal.proofs.Crash.{length-at_rest}
use Rattle.fed_journal.proofs.Appending.{settled}

-- a file of these entries alone
module _ (entries : List (List ℕ)) (lines : All IsLine entries) (written : List ℕ) (is : written ≡ closed_lines first_digest entries) where
  pub is_recovered : (file : List ℕ) → file ≡ written → recovered file ≡ Ok entries
  is_recovered file same = ap recovered (same ∙ is) ∙ recovered_closed entries [] lines

  pub is_settled : {D : Type 0} (seen : D → List ℕ) (may_leave : D → List ℕ → Type 0) (journal : Journal D) → seen journal.device ≡ written → LeavesJust written (may_leave journal.device)
      → journal.len ≡ length written → journal.gate ≡ journal.len - 1 → journal.digest ≡ last_digest first_digest entries → IsSettled seen may_leave journal
  is_settled seen may_leave journal same durable len gate digest =
      let bytes : journal.len ≡ length (open_lines first_digest entries) + 1 = omega (arith, len, ap length is, length-at_rest entries) in
      settled seen may_leave journal entries lines (same ∙ is) digest (omega (arith, bytes, gate)) (omega (arith, bytes, gate))
      (subst (λ (f : List ℕ). LeavesJust f (may_leave journal.device)) (sym same) durable)

  -- it takes the place of another
  pub old_or_new : {D : Type 0} (moment : D → ℕ) (left_since : D → ℕ → List ℕ → Type 0) (seen : D → List ℕ) (may_leave : D → List ℕ → Type 0)
      → ((file : D) (c : List ℕ) → left_since file (moment file) c → may_leave file c) → (old new : D) → LeavesJust (seen old) (may_leave old)
      → (LeavesJust (seen old) (may_leave old) → Leaves (λ c. (c ≡ seen old) ⊎ (c ≡ written)) (may_leave new))
      → Passes (moment old) (moment new) (left_since old) (left_since new) (may_leave new) → LeavesOnly moment left_since old new (IsOldOrNew (seen old) entries)
  old_or_new moment left_since seen may_leave only old new durable crash time =
      goes_on moment left_since old old new (IsOldOrNew (seen old) entries) (may_leave new)
      (still moment left_since old (IsOldOrNew (seen old) entries) (λ c left. inl (ap recovered (durable c (only old c left)))))
      time (λ c left. stands c (crash durable c left))
    where
      stands : (c : List ℕ) → (c ≡ seen old) ⊎ (c ≡ written) → IsOldOrNew (seen old) entries c
      stands c (inl was) = inl (ap recovered was)
      stands c (inr now) = inr (is_recovered c now)
