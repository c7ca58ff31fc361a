-- The header of a compacted journal is read as what it was made of.
use Rattle.std.specs.Prelude.{nat_lt, not, codes, filter, map, is_some, option_and_then, option_map, unwrap_or, Option, Some, None, Ok, Err, if◌then◌else◌}
use Rattle.std.specs.Char.{is_ascii_whitespace}
use Rattle.std.specs.Fmt.{decimal}
use Rattle.std.specs.Int.{IsInRange}
use Rattle.std.specs.List.{All, filter_map, join_by, list_all, list_any}
use Rattle.std.specs.Option.{ok_or}
use Rattle.std.specs.Result.{result_ok}
use Rattle.std.proofs.Common.{◌≡◌, ℕ, ◌<◌, ◌≤◌, ◌^◌, ◌-◌, Bool, true, false, ◌||◌, List, [], ◌∷◌, ◌++◌, length, get_or, append-nil, refl, sym, ap, ◌∙◌, arith}
use Rattle.std.proofs.lemmas.Bool.{and_from, and_parts, leb-true, le-leb, lt-ltb, not-false, or_parts}
use Rattle.std.proofs.lemmas.Bool.Decides.{nat_tests}
use Rattle.std.proofs.lemmas.List.Elements.{All-head, All-tail}
use Rattle.std.proofs.lemmas.List.Folds.{list_all-append}
use Rattle.std.proofs.lemmas.Option.{slice_get-get_or}
use Rattle.fed_stamp.specs.Roster.{IsRoster, first_fault, is_node_count, is_site_byte, is_site_name, name_at, ok_unless}
use Rattle.fed_stamp.specs.Word.{is_name}
use Rattle.fed_stamp.proofs.RosterLemmas.{no_fault_from_roster}
use Rattle.fed_words.specs.declared.faults.UsageFault.TheVariants.{UnknownSite}
use Rattle.fed_words.specs.Number.{is_within}
use Rattle.fed_words.specs.Site.{site_named}
use Rattle.fed_words.proofs.Cuts.{Free, cut-after, cut-before, cut-found, free-append, split-first, split-none}
use Rattle.fed_words.proofs.Readback.{site_in-name}
use Rattle.fed_words.proofs.Texts.{free-decimal, free-site_name, number_in-decimal}
use Rattle.fed_script.specs.Forms.{◌>>=◌}
use Rattle.fed_script.specs.Line.{told, words_in}
use Rattle.fed_script.specs.Lines.{is_readable, is_readable_byte, words_of}
use Rattle.fed_script.specs.Rosters.{is_colon, is_reserved, roster_of, site_of, sites_in}
use Rattle.fed_qstat.specs.Identifier.{text_of_site}
use Rattle.fed_site.specs.Rosters.{text_of_roster, word_of_site}
use Rattle.fed_site.proofs.RosterLines.{IsUnreserved}
use Rattle.fed_home.specs.declared.headers.JournalFormat.TheVariants.{Four}
use Rattle.fed_home.specs.Header.{header_in, header_of, header_text}

-- ---- words of a line
-- a byte that no word has: white space, or one that can't be read
abbrev is_outside : ℕ → Bool
is_outside b = is_ascii_whitespace b || not (is_readable_byte b)

-- one byte or more of which each may stand in a word
record IsWord (word : List ℕ) : Type 0 where
  some : 0 < length word
  free : Free is_outside word

free_of_blanks : (xs : List ℕ) → Free is_outside xs → Free is_ascii_whitespace xs
free_of_blanks [] free = tt
free_of_blanks (x ∷ xs) free = ((or_parts (is_ascii_whitespace x) (not (is_readable_byte x)) free.0).0, free_of_blanks xs free.1)

is_read : (xs : List ℕ) → Free is_outside xs → is_readable xs ≡ true
is_read [] free = refl
is_read (x ∷ xs) free = and_from (is_readable_byte x) (is_readable xs) (not-false (is_readable_byte x) (or_parts (is_ascii_whitespace x) (not (is_readable_byte x)) free.0).1) (is_read xs free.1)

module _ (word : List ℕ) (h : IsWord word) where
  stays : nat_lt 0 (length word) ≡ true
  stays = lt-ltb 0 (length word) h.some

  words_of-first : (rest : List ℕ) → words_of (word ++ 32 ∷ rest) ≡ word ∷ words_of rest
  words_of-first rest = ap (filter (λ w. nat_lt 0 (length w))) (split-first is_ascii_whitespace 32 rest refl word (free_of_blanks word h.free)) ∙ rw stays refl

  words_of-only : words_of word ≡ word ∷ []
  words_of-only = ap (filter (λ w. nat_lt 0 (length w))) (split-none is_ascii_whitespace word (free_of_blanks word h.free)) ∙ rw stays refl

  readable-first : (rest : List ℕ) → is_readable rest ≡ true → is_readable (word ++ 32 ∷ rest) ≡ true
  readable-first rest e = list_all-append is_readable_byte word (32 ∷ rest) ∙ and_from (is_readable word) (is_readable (32 ∷ rest)) (is_read word h.free) e

module _ {X : Type 0} (text : X → List ℕ) where
  words_of-joined : (x : X) (xs : List X) → All (λ y. IsWord (text y)) (x ∷ xs) → words_of (join_by text (codes " ") (x ∷ xs)) ≡ map text (x ∷ xs)
  words_of-joined x [] all = ap words_of (append-nil (text x)) ∙ words_of-only (text x) (All-head (λ y. IsWord (text y)) x [] all)
  words_of-joined x (y ∷ ys) all =
      words_of-first (text x) (All-head (λ z. IsWord (text z)) x (y ∷ ys) all) (join_by text (codes " ") (y ∷ ys))
      ∙ ap (λ ws. text x ∷ ws) (words_of-joined y ys (All-tail (λ z. IsWord (text z)) x (y ∷ ys) all))

  readable-joined : (x : X) (xs : List X) → All (λ y. IsWord (text y)) (x ∷ xs) → is_readable (join_by text (codes " ") (x ∷ xs)) ≡ true
  readable-joined x [] all = ap is_readable (append-nil (text x)) ∙ is_read (text x) (All-head (λ y. IsWord (text y)) x [] all).free
  readable-joined x (y ∷ ys) all =
      readable-first (text x) (All-head (λ z. IsWord (text z)) x (y ∷ ys) all) (join_by text (codes " ") (y ∷ ys))
      (readable-joined y ys (All-tail (λ z. IsWord (text z)) x (y ∷ ys) all))

-- ---- the words of a roster
site_byte : (b : ℕ) → is_site_byte b ≡ true → is_outside b ≡ false
site_byte b e = grind (arith, nat_tests)

digit_byte : (b : ℕ) → IsInRange 48 57 b → is_outside b ≡ false
digit_byte b h = grind (arith, nat_tests)

no_colon : (b : ℕ) → is_site_byte b ≡ true → is_colon b ≡ false
no_colon b e = grind (arith, nat_tests)

name_some : (name : List ℕ) → is_site_name name ≡ true → 0 < length name
unfolding is_site_name is_name
name_some name e =
    let one = leb-true 1 (length name) (and_parts _ _ (and_parts _ _ (and_parts _ _ (and_parts _ _ e).0).0).0).0 in
    omega arith

name_word : (name : List ℕ) → is_site_name name ≡ true → IsWord name
name_word name e = record { some = name_some name e; free = free-site_name is_outside name site_byte e }

longer : (xs : List ℕ) (y : ℕ) (ys : List ℕ) → 0 < length (xs ++ y ∷ ys)
longer [] y ys = omega arith
longer (x ∷ xs) y ys = omega arith

module _ (site : List ℕ × ℕ) (named : is_site_name site.0 ≡ true) (counted : is_node_count site.1 ≡ true) where
  few : site.1 ≤ 1_000_000
  few = leb-true site.1 1_000_000 (and_parts _ _ counted).1

  site_word : IsWord (word_of_site site)
  site_word = record {
    some = longer site.0 58 (decimal site.1);
    free = free-append is_outside site.0 (58 ∷ decimal site.1) (free-site_name is_outside site.0 site_byte named)
        (refl, free-decimal is_outside site.1 (let h = few in omega arith) digit_byte);
  }

  site_back : site_of (word_of_site site) ≡ Some site
  site_back =
      let free = free-site_name is_colon site.0 no_colon named in
      let within : is_within 0 (2 ^ 64 - 1) site.1 ≡ true = and_from _ _ (le-leb 0 site.1 (omega arith)) (le-leb site.1 (2 ^ 64 - 1) (let h = few in omega arith)) in
      rw (
        cut-found is_colon 58 (decimal site.1) refl site.0 free,
        cut-before is_colon 58 (decimal site.1) refl site.0 free,
        cut-after is_colon 58 (decimal site.1) refl site.0 free,
        number_in-decimal 0 (2 ^ 64 - 1) site.1 (omega arith) within,
      ) refl

abbrev Sites : Type 0
Sites = List (List ℕ × ℕ)

all_named : (sites : Sites) → All (λ s. site_of (word_of_site s) ≡ Some s) sites → list_all (λ word. is_some (site_of word)) (map word_of_site sites) ≡ true
all_named [] all = refl
all_named (s ∷ sites) all =
    and_from (is_some (site_of (word_of_site s))) (list_all (λ word. is_some (site_of word)) (map word_of_site sites)) (ap is_some (All-head (λ t. site_of (word_of_site t) ≡ Some t) s sites all))
    (all_named sites (All-tail (λ t. site_of (word_of_site t) ≡ Some t) s sites all))

each_back : (sites : Sites) → All (λ s. site_of (word_of_site s) ≡ Some s) sites → filter_map site_of (map word_of_site sites) ≡ sites
each_back [] all = refl
each_back (s ∷ sites) all =
    rw (All-head (λ t. site_of (word_of_site t) ≡ Some t) s sites all) (ap (λ t. s ∷ t) (each_back sites (All-tail (λ t. site_of (word_of_site t) ≡ Some t) s sites all)))

words_are : (sites : Sites) → 0 < length sites → All (λ s. IsWord (word_of_site s)) sites → (words_of (text_of_roster sites) ≡ map word_of_site sites) × (is_readable (text_of_roster sites) ≡ true)
words_are [] some all = absurd (omega arith)
words_are (s ∷ sites) some all = (words_of-joined word_of_site s sites all, readable-joined word_of_site s sites all)

given : (o : Option ℕ) (i : ℕ) → ok_or o UnknownSite ≡ Ok i → o ≡ Some i
given None i e = cc
given (Some j) i e = cc

module _ (roster : Sites) (lawful : IsRoster roster) where
  sites_back : sites_in (map word_of_site roster) ≡ Some roster
  sites_back =
      let all : All (λ s. site_of (word_of_site s) ≡ Some s) roster = λ k d within. site_back (get_or roster k d) (lawful.named k d within) (lawful.counted k d within) in
      rw (all_named roster all) (ap Some (each_back roster all))

  roster_back : IsUnreserved roster → roster_of (map word_of_site roster) ≡ Some roster
  roster_back free =
      ap (option_and_then (λ sites. if list_any (λ site. is_reserved site.0) sites then None else result_ok (ok_unless (first_fault sites) sites))) sites_back
      ∙ ap (λ b. if b then None else result_ok (ok_unless (first_fault roster) roster)) free
      ∙ ap (λ f. result_ok (ok_unless f roster)) (no_fault_from_roster roster lawful)

  -- ---- the site's name
  module _ (here : ℕ) (within : here < length roster) where
    name_is : text_of_site roster here ≡ name_at roster here
    name_is = ap (λ o. unwrap_or (option_map (λ (s : List ℕ × ℕ). s.0) o) (35 ∷ decimal here)) (slice_get-get_or roster here ([], 0) within)

    name_back : site_named roster (name_at roster here) ≡ Some here
    name_back = given (site_named roster (name_at roster here)) here
        (ap (λ b. if b then ok_or (site_named roster (name_at roster here)) UnknownSite else Err UnknownSite) (sym (lawful.named here ([], 0) within))
        ∙ site_in-name roster lawful UnknownSite here within)

    -- ---- the header
    header_words : words_in (header_text roster here) ≡ Some (codes "nettlebeam" ∷ codes "4" ∷ name_at roster here ∷ map word_of_site roster)
    header_words =
        let sites = words_are roster (let h = lawful.at_least in omega arith) (λ k d low. site_word (get_or roster k d) (lawful.named k d low) (lawful.counted k d low)) in
        let one : IsWord (name_at roster here) = name_word (name_at roster here) (lawful.named here ([], 0) within) in
        let program : IsWord (codes "nettlebeam") = record { some = omega arith; free = (refl, (refl, (refl, (refl, (refl, (refl, (refl, (refl, (refl, (refl, tt)))))))))) } in
        let version : IsWord (codes "4") = record { some = omega arith; free = (refl, tt) } in
        let text : List ℕ = name_at roster here ++ 32 ∷ text_of_roster roster in
        ap (λ n. words_in (codes "nettlebeam 4 " ++ n ++ 32 ∷ text_of_roster roster)) name_is
        ∙ ap (λ b. if b then Some (told (words_of (codes "nettlebeam 4 " ++ text))) else None)
        (readable-first (codes "nettlebeam") program (codes "4 " ++ text) (readable-first (codes "4") version text (readable-first (name_at roster here) one (text_of_roster roster) sites.1)))
        ∙ ap (λ ws. Some (told ws))
        (words_of-first (codes "nettlebeam") program (codes "4 " ++ text)
        ∙ ap (λ ws. codes "nettlebeam" ∷ ws) (words_of-first (codes "4") version text
        ∙ ap (λ ws. codes "4" ∷ ws) (words_of-first (name_at roster here) one (text_of_roster roster)
        ∙ ap (λ ws. name_at roster here ∷ ws) sites.0)))

    pub header_back : IsUnreserved roster → header_in (header_text roster here) ≡ Some (record { roster = roster; site = here; format = Four })
    header_back free =
        ap (λ o. o >>= header_of) header_words
        ∙ ap (λ o. o >>= λ r. option_map (λ site. record { roster = r; site = site; format = Four }) (site_named r (name_at roster here))) (roster_back free)
        ∙ ap (option_map (λ site. record { roster = roster; site = site; format = Four })) name_back
