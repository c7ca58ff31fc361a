-- What is read of a file.
use Rattle.std.proofs.Common.{◌≡◌, ◌⊎◌, inl, inr, ℕ, ◌-◌, true, List, [], ◌∷◌, ◌++◌, length, drop, refl, sym, ◌∙◌, ap, arith, append_assoc}
use Rattle.std.specs.List.{All}
use Rattle.std.proofs.lemmas.Bool.{eqb-true}
use Rattle.std.proofs.lemmas.List.{length-append}
use Rattle.fed_journal.specs.Lines.{IsLine, Stands, first_digest, is_closed, last_digest, open_lines}
use Rattle.fed_journal.specs.Journal.{Has}

closed_rest : (rest : List ℕ) → is_closed rest ≡ true → rest ≡ 45 ∷ drop 1 rest
closed_rest (byte ∷ rest) closed = ap (λ (b : ℕ). b ∷ rest) (eqb-true byte 45 closed)
closed_rest [] closed = cc

nothing : (before : List ℕ) (entries : List (List ℕ)) (rest : List ℕ) → open_lines before entries ++ rest ≡ [] → (entries ≡ []) × (rest ≡ [])
nothing before [] rest is = (refl, is)
nothing before (text ∷ texts) rest is = absurd (cons_nil is)
  where
    cons_nil : {x : ℕ} {xs : List ℕ} → x ∷ xs ≡ [] → ⊥
    cons_nil is = cc

stands : (file : List ℕ) (entries : List (List ℕ)) (rest tail : List ℕ) → file ≡ open_lines first_digest entries ++ rest → tail ≡ drop 1 rest → (file ≡ []) ⊎ (is_closed rest ≡ true) → Stands file entries tail
stands file entries rest tail is cut (inl bare) =
    let none = nothing first_digest entries rest (sym is ∙ bare) in
    inr (bare, none.0, cut ∙ ap (λ (l : List ℕ). drop 1 l) none.1)
stands file entries rest tail is cut (inr closed) =
    inl (is ∙ ap (λ (l : List ℕ). open_lines first_digest entries ++ l) (closed_rest rest closed ∙ ap (λ (l : List ℕ). 45 ∷ l) (sym cut)) ∙ sym (append_assoc (open_lines first_digest entries) (45 ∷ []) tail))

pub has_read : (file : List ℕ) (entries : List (List ℕ)) (rest tail digest : List ℕ) (gate len : ℕ) → All IsLine entries → digest ≡ last_digest first_digest entries → file ≡ open_lines first_digest entries ++ rest
    → tail ≡ drop 1 rest → (file ≡ []) ⊎ (is_closed rest ≡ true) → gate ≡ length file - length rest → len ≡ length file → Has file entries tail digest gate len
has_read file entries rest tail digest gate len lines last is cut closed at whole = record {
  stands = stands file entries rest tail is cut closed;
  lines = lines;
  last = last;
  at = omega (arith, at, ap length is, length-append (open_lines first_digest entries) rest);
  whole = whole;
}
