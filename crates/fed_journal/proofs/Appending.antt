-- A group is written behind the closed gate, and then the gate is opened.
use Rattle.std.proofs.Common.{◌≡◌, ◌∙◌, refl, sym, ap, subst, inl, IsErrOf, Err, List, ℕ, ◌+◌, ◌-◌, ◌==◌, false, [], ◌∷◌, ◌++◌, length, take, drop, Ok, arith}
use Rattle.std.specs.List.{All}
use Rattle.std.proofs.lemmas.List.{append-nil, length-append}
use Rattle.std.proofs.lemmas.List.Elements.{All-append}
use Rattle.std.specs.declared.io.Error.{Error}
use Rattle.fed_journal.specs.Device.{Holds, LeavesJust, LeavesOnly, Torn}
use Rattle.fed_journal.specs.Fault.{StopsGate, is_in_doubt}
use Rattle.fed_journal.specs.declared.faults.JournalFault.{JournalFault}
use Rattle.fed_journal.specs.declared.faults.JournalFault.TheVariants.{NoMemory, Failed, Damaged, Full, InDoubt}
use Rattle.fed_journal.specs.Lines.{IsLine, closed_lines, first_digest, last_digest, open_lines, at_rest, recovered}
use Rattle.fed_journal.specs.Journal.{IsBeforeOrAfter, IsSettled, entries_in}
use Rattle.fed_journal.specs.declared.journals.Journal.{Journal}
use Rattle.fed_journal.proofs.Moments.{weaker, both}
use Rattle.fed_journal.proofs.Reading.{recovered_closed, last_digest-append}
use Rattle.fed_journal.proofs.Crash.{staged, torn_behind, written_behind, torn_gate, opened, behind_first, length-at_rest, length-at_rest-append, entries-at_rest}

-- a file at rest that the disk has is a journal's
pub settled : {D : Type 0} (seen : D → List ℕ) (may_leave : D → List ℕ → Type 0) (journal : Journal D) (entries : List (List ℕ)) → All IsLine entries → seen journal.device ≡ at_rest entries
    → journal.digest ≡ last_digest first_digest entries → journal.gate ≡ length (open_lines first_digest entries) → journal.len ≡ journal.gate + 1
    → LeavesJust (seen journal.device) (may_leave journal.device) → IsSettled seen may_leave journal
settled seen may_leave journal entries lines is last at ends durable =
    let same = sym (entries-at_rest entries (seen journal.device) lines is) in
    let file = is ∙ ap at_rest same in
    record {
      file = file;
      read = record {
        has = record {
          stands = inl (file ∙ sym (append-nil (at_rest (entries_in (seen journal.device)))));
          lines = subst (All IsLine) same lines;
          last = last ∙ ap (λ (texts : List (List ℕ)). last_digest first_digest texts) same;
          at = at ∙ ap (λ (texts : List (List ℕ)). length (open_lines first_digest texts)) same;
          whole = omega (arith, ends, at, length-at_rest entries, ap length is);
        };
        durable = durable;
      };
    }

module _ {D : Type 0} (moment : D → ℕ) (left_since : D → ℕ → List ℕ → Type 0) (seen : D → List ℕ) (may_leave : D → List ℕ → Type 0) (journal : Journal D) (s : IsSettled seen may_leave journal)
    (group : List (List ℕ)) (lines : All IsLine group) (n : ℕ) (count : length group ≡ n) (some : (n == 0) ≡ false) (written : List ℕ) (is : written ≡ closed_lines journal.digest group) where
  abbrev old : List (List ℕ)
  old = entries_in (seen journal.device)

  abbrev more : List ℕ
  more = take (length written - 1) (drop 1 written)

  all : All IsLine (old ++ group)
  all = All-append IsLine old group s.read.has.lines lines

  closed : written ≡ closed_lines (last_digest first_digest old) group
  closed = is ∙ ap (λ (d : List ℕ). closed_lines d group) s.read.has.last

  behind : 43 ∷ more ≡ closed_lines (last_digest first_digest old) group
  behind = behind_first (last_digest first_digest old) group written n count some closed

  pub first_step : (mid : D) → LeavesOnly moment left_since journal.device mid (Torn (journal.gate + 1) more (seen journal.device)) → LeavesOnly moment left_since journal.device mid (IsBeforeOrAfter old group)
  first_step mid run =
      weaker moment left_since journal.device mid (Torn (journal.gate + 1) more (seen journal.device)) (IsBeforeOrAfter old group)
      (λ c torn. inl (torn_behind old s.read.has.lines journal.gate s.read.has.at more c (subst (λ (f : List ℕ). Torn (journal.gate + 1) more f c) s.file torn))) run

  known : recovered (seen journal.device) ≡ Ok old
  known = ap recovered s.file ∙ recovered_closed old [] s.read.has.lines

  -- what is torn behind the gate is nothing of the group
  pub kept_out : (mid : D) → LeavesOnly moment left_since journal.device mid (Torn (journal.gate + 1) more (seen journal.device)) → LeavesOnly moment left_since journal.device mid (λ c. recovered c ≡ recovered (seen journal.device))
  kept_out mid run =
      weaker moment left_since journal.device mid (Torn (journal.gate + 1) more (seen journal.device)) (λ c. recovered c ≡ recovered (seen journal.device))
      (λ c torn. torn_behind old s.read.has.lines journal.gate s.read.has.at more c (subst (λ (f : List ℕ). Torn (journal.gate + 1) more f c) s.file torn) ∙ sym known) run

  -- nor is there any where the gate stayed closed
  pub gate_closed : (mid new : D) (before now : List Error) (fault : JournalFault) → LeavesOnly moment left_since journal.device mid (Torn (journal.gate + 1) more (seen journal.device)) → StopsGate before now fault
      → (IsErrOf {T = Unit {0}} (Err fault) NoMemory → new ≡ mid) → is_in_doubt fault ≡ false → LeavesOnly moment left_since journal.device new (λ c. recovered c ≡ recovered (seen journal.device))
  gate_closed mid new before now NoMemory run stops same sure = subst (λ (d : D). LeavesOnly moment left_since journal.device d (λ c. recovered c ≡ recovered (seen journal.device))) (sym (same refl)) (kept_out mid run)
  gate_closed mid new before now (Failed error) run stops same sure = absurd stops
  gate_closed mid new before now (Damaged line) run stops same sure = absurd stops
  gate_closed mid new before now Full run stops same sure = absurd stops
  gate_closed mid new before now (InDoubt error) run stops same sure = cc

  pub group_bytes : length (at_rest (old ++ group)) ≡ journal.gate + length written
  group_bytes = omega (arith, length-at_rest-append old group, ap length closed, s.read.has.at)

  module _ (mid new : D) (holds : Holds (journal.gate + 1) more (seen journal.device) (seen mid)) where
    is_staged : seen mid ≡ staged old s.read.has.lines journal.gate s.read.has.at more
    is_staged = written_behind old s.read.has.lines journal.gate s.read.has.at more (seen mid) (subst (λ (f : List ℕ). Holds (journal.gate + 1) more f (seen mid)) s.file holds)

    pub second_step : LeavesOnly moment left_since journal.device mid (Torn (journal.gate + 1) more (seen journal.device)) → LeavesOnly moment left_since mid new (Torn journal.gate (43 ∷ []) (seen mid))
        → LeavesOnly moment left_since journal.device new (IsBeforeOrAfter old group)
    second_step before run =
        both moment left_since journal.device mid new (IsBeforeOrAfter old group) (first_step mid before)
        (weaker moment left_since mid new (Torn journal.gate (43 ∷ []) (seen mid)) (IsBeforeOrAfter old group)
        (λ c torn. torn_gate old s.read.has.lines journal.gate s.read.has.at group more behind all c (subst (λ (f : List ℕ). Torn journal.gate (43 ∷ []) f c) is_staged torn)) run)

    pub is_opened : Holds journal.gate (43 ∷ []) (seen mid) (seen new) → seen new ≡ at_rest (old ++ group)
    is_opened gate = opened old s.read.has.lines journal.gate s.read.has.at group more behind (seen new) (subst (λ (f : List ℕ). Holds journal.gate (43 ∷ []) f (seen new)) is_staged gate)

    pub is_recovered : Holds journal.gate (43 ∷ []) (seen mid) (seen new) → recovered (seen new) ≡ Ok (old ++ group)
    is_recovered gate = ap recovered (is_opened gate) ∙ recovered_closed (old ++ group) [] all

    pub is_settled : (at len : ℕ) (digest : List ℕ) → at ≡ journal.gate + (length written - 1) → len ≡ at + 1 → digest ≡ last_digest journal.digest group
        → Holds journal.gate (43 ∷ []) (seen mid) (seen new) → LeavesJust (seen new) (may_leave new) → IsSettled seen may_leave (record journal { device = new; len = len; gate = at; digest = digest })
    is_settled at len digest at_is len_is digest_is gate durable =
        settled seen may_leave (record journal { device = new; len = len; gate = at; digest = digest }) (old ++ group) all (is_opened gate)
        (digest_is ∙ ap (λ (d : List ℕ). last_digest d group) s.read.has.last ∙ sym (last_digest-append first_digest old group))
        (omega (arith, at_is, s.read.has.at, ap length closed, length-at_rest-append old group, length-at_rest (old ++ group), length-append (open_lines (last_digest first_digest old) group) (45 ∷ [])))
        len_is durable
