-- A line that is kept has no line feed.
use Rattle.std.specs.Prelude.{Some, None, if◌then◌else◌, nat_eq, not, ◌&&◌, codes}
use Rattle.std.proofs.Common.{◌≡◌, ℕ, Bool, true, false, List, [], ◌∷◌, ◌++◌, drop, refl, arith}
use Rattle.std.specs.List.{All, list_any, starts_with}
use Rattle.std.proofs.lemmas.List.Elements.{All-nil, All-cons}
use Rattle.std.proofs.lemmas.List.Sums.{AllPass-from_list_all}
use Rattle.std.proofs.lemmas.Bool.{or_parts}
use Rattle.std.proofs.lemmas.Bool.Decides.{nat_tests}
use Rattle.fed_replica.specs.State.{State}
use Rattle.fed_script.specs.Line.{told as words_told}
use Rattle.fed_script.specs.Lines.{is_readable, is_readable_byte, words_of}
use Rattle.fed_site.specs.Journal.{kept_line, kept_lines}
use Rattle.fed_site.specs.Rosters.{roster_after}
use Rattle.fed_site.specs.Says.{after_own, site_says}
use Rattle.fed_site.proofs.ReadLines.{read_is}
use Rattle.fed_journal.specs.Lines.{IsLine, is_line_feed}

readable_byte : (b : ℕ) → is_readable_byte b ≡ true → is_line_feed b ≡ false
readable_byte b e = grind (arith, nat_tests)

pub readable_line : (line : List ℕ) → is_readable line ≡ true → IsLine line
readable_line line e = λ k d within. readable_byte _ (AllPass-from_list_all is_readable_byte line e k d within)

other_byte : (b : ℕ) → nat_eq 10 b ≡ false → is_line_feed b ≡ false
other_byte b e = grind (arith, nat_tests)

-- without a line feed
no_line_feed : (line : List ℕ) → list_any (nat_eq 10) line ≡ false → IsLine line
no_line_feed [] e = All-nil (λ byte. is_line_feed byte ≡ false)
no_line_feed (b ∷ line) e =
    let parts = or_parts (nat_eq 10 b) (list_any (nat_eq 10) line) e in
    All-cons (λ byte. is_line_feed byte ≡ false) b line (other_byte b parts.0) (no_line_feed line parts.1)

module _ (roster : List (List ℕ × ℕ)) (s : State) (line : List ℕ) where
  packet_line : (starts feeds : Bool) (text : List ℕ) → list_any (nat_eq 10) line ≡ feeds → (if starts && not feeds then Some (drop 5 line) else None) ≡ Some text → IsLine line
  packet_line true false text feeds e = no_line_feed line feeds
  packet_line true true text feeds e = cc
  packet_line false feeds text is e = cc

  words_line : (readable : Bool) (words : List (List ℕ)) → is_readable line ≡ readable → (if readable then Some (words_told (words_of line)) else None) ≡ Some words → IsLine line
  words_line true words read e = readable_line line read
  words_line false words read e = cc

  -- a line that can't be read is not kept, nor is one that asks for a look
  pub kept_is_line : (site_says roster s line).kept ≡ true → IsLine line
  kept_is_line = read_is roster s.site line (λ said. (after_own roster s said).kept ≡ true → IsLine line)
      (λ text is kept. packet_line (starts_with nat_eq line (codes "take ")) (list_any (nat_eq 10) line) text refl is)
      (λ words is told names kept. words_line (is_readable line) words refl is)
      (λ words is none look kept. words_line (is_readable line) words refl is)
      (λ words is none kept. words_line (is_readable line) words refl is)
      (λ is kept. let never : false ≡ true = kept in cc)

and_more : (roster : List (List ℕ × ℕ)) (s : State) (line : List ℕ) (lines : List (List ℕ)) (kept : Bool) → (site_says roster s line).kept ≡ kept → All IsLine lines → All IsLine (kept_line kept line ++ lines)
and_more roster s line lines true e more = All-cons IsLine line lines (kept_is_line roster s line e) more
and_more roster s line lines false e more = more

pub kept_are_lines : (roster : List (List ℕ × ℕ)) (s : State) (lines : List (List ℕ)) → All IsLine (kept_lines roster s lines)
kept_are_lines roster s [] = All-nil IsLine
kept_are_lines roster s (line ∷ lines) =
    let after = (site_says roster s line).after in
    let next = roster_after roster line in
    and_more roster s line (kept_lines next after lines) (site_says roster s line).kept refl (kept_are_lines next after lines)
