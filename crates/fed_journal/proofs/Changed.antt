-- An entry whose text was changed.
use Rattle.std.proofs.Common.{◌≡◌, ◌≢◌, inl, inr, ℕ, ◌+◌, false, List, [], ◌∷◌, ◌++◌, length, drop, Err, refl, sym, ◌∙◌, ap}
use Rattle.std.specs.List.{All}
use Rattle.std.proofs.lemmas.Bool.{cases_Bool}
use Rattle.std.proofs.lemmas.List.{append_cancel_right, take_at, drop_at}
use Rattle.std.proofs.lemmas.List.Elements.{All-append}
use Rattle.std.proofs.lemmas.Slice.Eq.{bytes_eq-Decides}
use Rattle.fed_journal.specs.Lines.{IsLine, digest_of, first_digest, front_of, is_entry, is_line_feed, last_digest, open_lines, recovered}
use Rattle.fed_journal.proofs.Reading.{broken_line, front_line, length-front, recovered_broken, some_bytes}

same_digest : (one other : List ℕ) → front_of one ≡ front_of other → one ≡ other
same_digest one other is = append_cancel_right one other (32 ∷ []) (ap (λ (l : List ℕ). drop 2 l) is)

apart_line : (before text other : List ℕ) → digest_of before other ≢ digest_of before text → is_entry before (front_of (digest_of before text) ++ other) ≡ false
apart_line before text other apart =
    let front = front_of (digest_of before text) in
    elim (cases_Bool (is_entry before (front ++ other))) [
      | inl is ↦
          let same : front ≡ front_of (digest_of before other) =
          sym (take_at front other 19 (length-front before text)) ∙ (bytes_eq-Decides _ _).0 is ∙ ap (λ (t : List ℕ). front_of (digest_of before t)) (drop_at front other 19 (length-front before text)) in
          absurd (apart (sym (same_digest (digest_of before text) (digest_of before other) same)))
      | inr bad ↦ bad
    ]

pub changed : (entries : List (List ℕ)) (text other more : List ℕ) → All IsLine entries → IsLine other → digest_of (last_digest first_digest entries) other ≢ digest_of (last_digest first_digest entries) text
    → recovered (open_lines first_digest entries ++ ((front_of (digest_of (last_digest first_digest entries) text) ++ other) ++ 10 ∷ more)) ≡ Err (length entries + 1)
changed entries text other more lines line apart =
    let last = last_digest first_digest entries in
    let front = front_of (digest_of last text) in
    let rest : List ℕ = (front ++ other) ++ 10 ∷ more in
    recovered_broken entries (open_lines first_digest entries ++ rest) rest lines (some_bytes first_digest entries rest refl) refl
    (broken_line last (front ++ other) more refl (All-append (λ byte. is_line_feed byte ≡ false) front other (front_line last text) line) (apart_line last text other apart))
