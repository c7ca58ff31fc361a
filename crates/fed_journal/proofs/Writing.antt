-- Lines that are written one after the other.
use Rattle.std.proofs.Common.{◌≡◌, ◌∙◌, sym, ap, subst, arith, List, ℕ, ◌+◌, ◌<◌, [], ◌∷◌, ◌++◌, length, take, get_or, map, Bor}
use Rattle.std.specs.List.{All}
use Rattle.std.proofs.lemmas.List.{get_or-map, length-map, map_more}
use Rattle.fed_journal.specs.Lines.{IsLine, digest_of, front_of, last_digest, open_lines}
use Rattle.fed_journal.proofs.Reading.{last_digest-append, open_lines-append}

-- what has been written of these texts, and the digest of the last
pub record Wrote (before : List ℕ) (texts : List (List ℕ)) (bytes digest : List ℕ) : Type 0 where
  pub lines : bytes ≡ open_lines before texts
  pub last : digest ≡ last_digest before texts

pub wrote_more : (before : List ℕ) (texts : List (Bor (List ℕ))) (i : ℕ) (d : Bor (List ℕ)) (bytes digest more next : List ℕ) → i < length texts → Wrote before (map (λ text. text.now) (take i texts)) bytes digest
    → next ≡ digest_of digest (get_or texts i d).now → more ≡ bytes ++ ((front_of next ++ (get_or texts i d).now) ++ 10 ∷ []) → Wrote before (map (λ text. text.now) (take (i + 1) texts)) more next
wrote_more before texts i d bytes digest more next h so_far next_is more_is =
    let texts_of : List (Bor (List ℕ)) → List (List ℕ) = λ ts. map (λ (text : Bor (List ℕ)). text.now) ts in
    let old = texts_of (take i texts) in
    let text = (get_or texts i d).now in
    let now : texts_of (take (i + 1) texts) ≡ old ++ text ∷ [] = map_more (λ (text : Bor (List ℕ)). text.now) texts i d h in
    let is : next ≡ digest_of (last_digest before old) text = next_is ∙ ap (λ (e : List ℕ). digest_of e text) so_far.last in
    record {
      lines =
          more_is ∙ ap (λ (l : List ℕ). l ++ ((front_of next ++ text) ++ 10 ∷ [])) so_far.lines ∙ ap (λ (e : List ℕ). open_lines before old ++ ((front_of e ++ text) ++ 10 ∷ [])) is
          ∙ sym (open_lines-append before old (text ∷ [])) ∙ ap (λ (ts : List (List ℕ)). open_lines before ts) (sym now);
      last = is ∙ sym (last_digest-append before old (text ∷ [])) ∙ ap (λ (ts : List (List ℕ)). last_digest before ts) (sym now);
    }

pub line_at : (texts : List (Bor (List ℕ))) (i : ℕ) (d : Bor (List ℕ)) → i < length texts → All IsLine (map (λ text. text.now) texts) → IsLine (get_or texts i d).now
line_at texts i d h all = subst IsLine (get_or-map (λ (text : Bor (List ℕ)). text.now) texts i d d.now h) (all i d.now (omega (arith, h, length-map texts (λ (text : Bor (List ℕ)). text.now))))
