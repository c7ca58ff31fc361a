-- Digests have sixteen bytes, and no line feed.
use Rattle.std.proofs.Common.{◌≡◌, ℕ, ◌/◌, ◌%◌, false, List, [], ◌∷◌, ◌++◌, length, take, slice_index, Some, None, inl, inr, sym, ◌∙◌, ap, arith}
use Rattle.std.proofs.lemmas.Bool.{cases_lt, ne_eqb}
use Rattle.std.proofs.lemmas.List.{length-take}
use Rattle.std.proofs.Math.ListN.{get_or-eq_default}
use Rattle.std.proofs.lemmas.List.Elements.{All-cons, All-nil}
use Rattle.hex.specs.Hex.{encode_with, hex_digit_value, lower_digits}
use Rattle.hex.proofs.HexLemmas.{IsDigits-lower_digits, length-encode_with}
use Rattle.sha2.specs.Sha256.{sha256}
use Rattle.sha2.proofs.Facts256.{length-sha256}
use Rattle.fed_journal.specs.Lines.{IsLine, digest_of, is_line_feed}

digit : (d : ℕ) → is_line_feed (slice_index lower_digits d) ≡ false
digit d = elim (cases_lt d 16) [
  | inl below ↦ ne_eqb (slice_index lower_digits d) 10 (λ is. none (sym (ap hex_digit_value is) ∙ IsDigits-lower_digits d below))
  | inr past ↦ ap is_line_feed (get_or-eq_default lower_digits 0 past)
]
  where
    none : None ≡ Some d → ⊥
    none is = cc

digits : (bytes : List ℕ) → IsLine (encode_with lower_digits bytes)
unfolding encode_with
digits [] = All-nil (λ (b : ℕ). is_line_feed b ≡ false)
digits (byte ∷ bytes) =
    let P : ℕ → Type 0 = λ b. is_line_feed b ≡ false in
    All-cons P (slice_index lower_digits (byte / 16)) (slice_index lower_digits (byte % 16) ∷ encode_with lower_digits bytes) (digit (byte / 16))
    (All-cons P (slice_index lower_digits (byte % 16)) (encode_with lower_digits bytes) (digit (byte % 16)) (digits bytes))

pub line-digest_of : (before text : List ℕ) → IsLine (digest_of before text)
unfolding digest_of
line-digest_of before text = digits (take 8 (sha256 (before ++ text)))

pub length-digest_of : (before text : List ℕ) → length (digest_of before text) ≡ 16
unfolding digest_of
length-digest_of before text =
    let bytes = sha256 (before ++ text) in
    omega (arith, length-encode_with lower_digits (take 8 bytes), length-take 8 bytes, length-sha256 (before ++ text))
