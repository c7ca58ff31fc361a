-- The end of a file that a crash has left is repaired.
use Rattle.std.proofs.Common.{◌≡◌, inl, inr, ℕ, ◌+◌, ◌<◌, List, [], ◌++◌, length, take, sym, ◌∙◌, ap, arith}
use Rattle.fed_journal.specs.Device.{LeavesJust, LeavesOnly, Passes, Shortened}
use Rattle.fed_journal.specs.Lines.{Stands, at_rest, recovered}
use Rattle.fed_journal.specs.Journal.{IsRead, IsSettled, entries_in}
use Rattle.fed_journal.specs.declared.journals.Journal.{Journal}
use Rattle.fed_journal.proofs.Moments.{still, weaker, goes_on}
use Rattle.fed_journal.proofs.Crash.{cut_behind, length-at_rest, recovered_stands, shortened}
use Rattle.fed_journal.proofs.Reading.{recovered_closed}
use Rattle.fed_journal.proofs.Appending.{settled}

-- a read leaves the file as it is
pub read_step : {D : Type 0} (moment : D → ℕ) (left_since : D → ℕ → List ℕ → Type 0) (may_leave : D → List ℕ → Type 0) → ((file : D) (c : List ℕ) → left_since file (moment file) c → may_leave file c)
    → (old new : D) (file : List ℕ) → LeavesJust file (may_leave old) → ((c : List ℕ) → may_leave new c → may_leave old c) → Passes (moment old) (moment new) (left_since old) (left_since new) (may_leave new)
    → LeavesOnly moment left_since old new (λ c. c ≡ file)
read_step moment left_since may_leave only_now old new file durable crash time =
    goes_on moment left_since old old new (λ c. c ≡ file) (may_leave new) (still moment left_since old (λ c. c ≡ file) (λ c left. durable c (only_now old c left))) time (λ c left. durable c (crash c left))

module _ {D : Type 0} (moment : D → ℕ) (left_since : D → ℕ → List ℕ → Type 0) (seen : D → List ℕ) (may_leave : D → List ℕ → Type 0) (journal : Journal D) (tail : List ℕ) (read : IsRead seen may_leave journal tail)
    (longer : journal.gate + 1 < journal.len) (new : D) where
  abbrev entries : List (List ℕ)
  entries = entries_in (seen journal.device)

  ends : journal.gate + 1 ≡ length (at_rest entries)
  ends = omega (arith, read.has.at, length-at_rest entries)

  gated : Stands (seen journal.device) entries tail → seen journal.device ≡ at_rest entries ++ tail
  gated (inl is) = is
  gated (inr bare) = absurd (omega (arith, longer, read.has.whole, ap length bare.0))

  -- what stands behind the gate is cut
  pub cut_step : LeavesOnly moment left_since journal.device new (Shortened (journal.gate + 1) (seen journal.device)) → LeavesOnly moment left_since journal.device new (λ c. recovered c ≡ recovered (seen journal.device))
  cut_step run =
      weaker moment left_since journal.device new (Shortened (journal.gate + 1) (seen journal.device)) (λ c. recovered c ≡ recovered (seen journal.device))
      (λ c cut. shortened entries tail (seen journal.device) read.has.lines (gated read.has.stands) (journal.gate + 1) ends c cut) run

  is_at_rest : seen new ≡ take (journal.gate + 1) (seen journal.device) → seen new ≡ at_rest entries
  is_at_rest cut = cut ∙ cut_behind entries tail (seen journal.device) read.has.lines (gated read.has.stands) (journal.gate + 1) ends

  pub cut_settled : seen new ≡ take (journal.gate + 1) (seen journal.device) → LeavesJust (seen new) (may_leave new) → IsSettled seen may_leave (record journal { device = new; len = journal.gate + 1 })
  cut_settled cut durable =
      settled seen may_leave (record journal { device = new; len = journal.gate + 1 }) entries read.has.lines (is_at_rest cut) read.has.last read.has.at (omega arith) durable

  pub cut_same : seen new ≡ take (journal.gate + 1) (seen journal.device) → recovered (seen new) ≡ recovered (seen journal.device)
  cut_same cut =
      ap recovered (is_at_rest cut) ∙ recovered_closed entries [] read.has.lines ∙ sym (recovered_stands (seen journal.device) entries tail read.has.lines read.has.stands)
