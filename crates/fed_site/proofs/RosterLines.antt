-- Rosters that go on, and lines that tell none.
use Rattle.std.specs.Prelude.{◌↔◌, ◌&&◌, not, nat_eq, codes, Option, Some, None, is_some, option_and_then, option_map, position, slice_get, unwrap_or, if◌then◌else◌}
use Rattle.std.specs.List.{list_any, starts_with}
use Rattle.std.specs.Result.{result_ok}
use Rattle.std.specs.Str.{bytes_eq}
use Rattle.std.proofs.Common.{◌≡◌, ◌<◌, ◌≤◌, ℕ, zero, suc, Bool, true, false, List, [], ◌∷◌, ◌++◌, drop, length, refl, sym, ap, subst, ◌∙◌, arith}
use Rattle.std.proofs.lemmas.List.{drop_all}
use Rattle.std.proofs.lemmas.Bool.{and_from, and_parts}
use Rattle.std.proofs.lemmas.Bool.Decides.{Decides-eqb, same_from_decides}
use Rattle.std.proofs.lemmas.Slice.Eq.{bytes_eq-Decides, starts_is}
use Rattle.fed_stamp.specs.declared.rosters.RosterFault.{RosterFault}
use Rattle.fed_stamp.specs.contracts.rosters.RosterPartialEq.TheImpl.{ghosts as rosters}
use Rattle.fed_stamp.specs.Roster.{IsRoster, first_fault, name_at, ok_unless, places, sites_in as stored}
use Rattle.fed_stamp.proofs.RosterLemmas.{roster_from_no_fault, sites_in-places}
use Rattle.fed_lattice.specs.Exact.{TellsApart}
use Rattle.fed_lattice.specs.ExactLaws.{tells_lists, tells_numbers, tells_options, tells_pairs}
use Rattle.fed_record.specs.JobRecordLaws.{tells_names}
use Rattle.fed_script.specs.Forms.{◌>>=◌}
use Rattle.fed_script.specs.Line.{told, words_in}
use Rattle.fed_script.specs.Lines.{is_readable, words_of}
use Rattle.fed_script.specs.Rosters.{is_colon, is_reserved, roster_of, sites_in}
use Rattle.fed_site.specs.Line.{packet_text}
use Rattle.fed_site.specs.Rosters.{are_same, begins, next_roster, roster_after, roster_after_lines, roster_told, told_in, words_behind}

-- ---- two rosters
abbrev Sites : Type 0
Sites = List (List ℕ × ℕ)

pub tells_sites : TellsApart are_same
tells_sites = tells_lists _ (tells_pairs _ _ tells_names tells_numbers)

-- `==` looks at the places of rosters, and these are equal where the sites are
pub tells_rosters : TellsApart rosters.eq
tells_rosters one other = (λ e. sym (sites_in-places one) ∙ ap stored (places_tell.0 e) ∙ sites_in-places other, λ e. places_tell.1 (ap places e))
  where
    places_tell : (rosters.eq one other ≡ true) ↔ (places one ≡ places other)
    places_tell = tells_lists _ (tells_options _ (tells_pairs _ _ tells_names tells_numbers)) (places one) (places other)

pub rosters_eq : (one other : Sites) → rosters.eq one other ≡ are_same one other
rosters_eq one other = same_from_decides _ _ (tells_rosters one other) (tells_sites one other)

pub begins_itself : (sites : List (List ℕ × ℕ)) → begins sites sites ≡ true
begins_itself [] = refl
begins_itself (site ∷ sites) = and_from _ _ ((bytes_eq-Decides site.0 site.0).1 refl) (begins_itself sites)

pub begins_on : (one two three : List (List ℕ × ℕ)) → begins one two ≡ true → begins two three ≡ true → begins one three ≡ true
begins_on [] two three e f = refl
begins_on (x ∷ xs) [] three e f = cc
begins_on (x ∷ xs) (y ∷ ys) [] e f = cc
begins_on (x ∷ xs) (y ∷ ys) (z ∷ zs) e f =
    let first = and_parts (bytes_eq x.0 y.0) (begins xs ys) e in
    let second = and_parts (bytes_eq y.0 z.0) (begins ys zs) f in
    let same = (bytes_eq-Decides x.0 y.0).0 first.0 ∙ (bytes_eq-Decides y.0 z.0).0 second.0 in
    and_from _ _ ((bytes_eq-Decides x.0 z.0).1 same) (begins_on xs ys zs first.1 second.1)

pub begins_length : (known sites : List (List ℕ × ℕ)) → begins known sites ≡ true → length known ≤ length sites
begins_length [] sites e = omega arith
begins_length (x ∷ xs) [] e = cc
begins_length (x ∷ xs) (y ∷ ys) e =
    let rest = begins_length xs ys (and_parts (bytes_eq x.0 y.0) (begins xs ys) e).1 in omega (arith, rest)

pub begins_names : (known sites : List (List ℕ × ℕ)) (i : ℕ) → begins known sites ≡ true → i < length known → name_at sites i ≡ name_at known i
begins_names [] sites i e less = absurd (omega (arith, less))
begins_names (x ∷ xs) [] i e less = cc
begins_names (x ∷ xs) (y ∷ ys) zero e less = sym ((bytes_eq-Decides x.0 y.0).0 (and_parts (bytes_eq x.0 y.0) (begins xs ys) e).0)
begins_names (x ∷ xs) (y ∷ ys) (suc i) e less = begins_names xs ys i (and_parts (bytes_eq x.0 y.0) (begins xs ys) e).1 (omega (arith, less))

-- ---- rosters that are read
-- no site has a reserved name
abbrev pub IsUnreserved : List (List ℕ × ℕ) → Type 0
IsUnreserved roster = list_any (λ site. is_reserved site.0) roster ≡ false

abbrev IsRead : Sites → Type 0
IsRead roster = IsRoster roster × IsUnreserved roster

faultless : (sites roster : Sites) (f : Option RosterFault) → first_fault sites ≡ f → IsUnreserved sites → result_ok (ok_unless f sites) ≡ Some roster → IsRead roster
faultless sites roster None is free e = let same : sites ≡ roster = cc in subst IsRead same (roster_from_no_fault sites is, free)
faultless sites roster (Some fault) is free e = let none : None ≡ Some roster = e in cc

unreserved : (sites roster : Sites) (b : Bool) → list_any (λ site. is_reserved site.0) sites ≡ b → (if b then None else result_ok (ok_unless (first_fault sites) sites)) ≡ Some roster → IsRead roster
unreserved sites roster true is e = cc
unreserved sites roster false is e = faultless sites roster (first_fault sites) refl is e

named : (roster : Sites) (o : Option Sites)
    → option_and_then (λ sites. if list_any (λ site. is_reserved site.0) sites then None else result_ok (ok_unless (first_fault sites) sites)) o ≡ Some roster → IsRead roster
named roster None e = cc
named roster (Some sites) e = unreserved sites roster (list_any (λ site. is_reserved site.0) sites) refl e

pub read_lawful : (words : List (List ℕ)) (roster : List (List ℕ × ℕ)) → roster_of words ≡ Some roster → IsRoster roster
read_lawful words roster e = (named roster (sites_in words) e).0

pub read_unreserved : (words : List (List ℕ)) (roster : List (List ℕ × ℕ)) → roster_of words ≡ Some roster → IsUnreserved roster
read_unreserved words roster e = (named roster (sites_in words) e).1

-- ---- the next roster
-- what holds of each roster that words name still holds of the one that is known
module _ (P : List (List ℕ × ℕ) → Type 0) (read : (words : List (List ℕ)) (roster : List (List ℕ × ℕ)) → roster_of words ≡ Some roster → P roster) where
  next_still : (known : Sites) → P known → (told : Option Sites) → ((sites : Sites) → told ≡ Some sites → P sites) → P (unwrap_or (next_roster known told) known)
  next_still known holds None named = holds
  next_still known holds (Some sites) named = go (begins known sites)
    where
      go : (b : Bool) → P (unwrap_or (if b then Some sites else None) known)
      go true = named sites refl
      go false = holds

  words_still : (known : Sites) → P known → (words : Option (List (List ℕ))) → P (roster_told known (option_map roster_of words))
  words_still known holds None = holds
  words_still known holds (Some words) = next_still known holds (roster_of words) (read words)

  pub after_still : (known : List (List ℕ × ℕ)) (line : List ℕ) → P known → P (roster_after known line)
  after_still known line holds = words_still known holds (words_in line >>= words_behind)

  -- after more lines
  pub lines_still : (known : List (List ℕ × ℕ)) (lines : List (List ℕ)) → P known → P (roster_after_lines known lines)
  lines_still known [] holds = holds
  lines_still known (line ∷ lines) holds = lines_still (roster_after known line) lines (after_still known line holds)

pub next_begins : (known : List (List ℕ × ℕ)) (told : Option (List (List ℕ × ℕ))) → begins known (unwrap_or (next_roster known told) known) ≡ true
next_begins known None = begins_itself known
next_begins known (Some sites) = go (begins known sites) refl
  where
    go : (b : Bool) → begins known sites ≡ b → begins known (unwrap_or (if b then Some sites else None) known) ≡ true
    go true e = e
    go false e = begins_itself known

told_begins : (known : List (List ℕ × ℕ)) (told : Option (Option (List (List ℕ × ℕ)))) → begins known (roster_told known told) ≡ true
told_begins known None = begins_itself known
told_begins known (Some told) = next_begins known told

pub after_begins : (known : List (List ℕ × ℕ)) (line : List ℕ) → begins known (roster_after known line) ≡ true
after_begins known line = told_begins known (told_in line)

-- after more lines
pub lines_begin : (known : List (List ℕ × ℕ)) (lines : List (List ℕ)) → begins known (roster_after_lines known lines) ≡ true
lines_begin known [] = begins_itself known
lines_begin known (line ∷ lines) = begins_on known (roster_after known line) (roster_after_lines known (line ∷ lines)) (after_begins known line) (lines_begin (roster_after known line) lines)

-- ---- a line that carries a packet tells none
of_line : (readable : Bool) (words : List (List ℕ)) → words_behind (told words) ≡ None → option_map roster_of ((if readable then Some (told words) else None) >>= words_behind) ≡ None
of_line true words e = ap (option_map roster_of) e
of_line false words e = refl

behind_none : (first : List ℕ) (others : List (List ℕ)) → bytes_eq first (codes "roster") ≡ false → words_behind (first ∷ others) ≡ None
behind_none first [] e = refl
behind_none first (word ∷ words) e = ap (λ b. if b && is_some (position is_colon word) then Some (word ∷ words) else None) e

takes_tell_none : (line rest : List ℕ) → line ≡ codes "take " ++ rest → told_in line ≡ None
takes_tell_none line rest is = subst (λ l. told_in l ≡ None) (sym is)
    (of_line (is_readable (codes "take " ++ rest)) (words_of (codes "take " ++ rest)) (behind_none (codes "take") _ refl))

pub packet_tells_none : (line text : List ℕ) → packet_text line ≡ Some text → told_in line ≡ None
packet_tells_none line text e = go (starts_with nat_eq line (codes "take ")) refl e
  where
    go : (b : Bool) → starts_with nat_eq line (codes "take ") ≡ b → (if b && not (list_any (nat_eq 10) line) then Some (drop 5 line) else None) ≡ Some text → told_in line ≡ None
    go true s f = takes_tell_none line (drop 5 line) ((starts_is Decides-eqb line (codes "take ") (starts_with nat_eq line (codes "take ")) refl).0 s)
    go false s f = cc

-- ---- rosters that are compared place by place
abbrev name_of : Option (List ℕ × ℕ) → Option (List ℕ)
name_of o = option_map (λ (s : List ℕ × ℕ). s.0) o

pub named_at : (site k : ℕ) (sites : Sites) (o : Option (List ℕ)) → site ≡ k → o ≡ name_of (slice_get sites site) → o ≡ name_of (slice_get sites k)
named_at site k sites o is e = subst (λ (j : ℕ). o ≡ name_of (slice_get sites j)) is e

-- at a place that both have
begins_at : (k : ℕ) (known new : Sites) (x y : List ℕ) → Some x ≡ name_of (slice_get known k) → Some y ≡ name_of (slice_get new k)
    → begins (drop k known) (drop k new) ≡ (bytes_eq x y && begins (drop (suc k) known) (drop (suc k) new))
begins_at zero [] new x y a b = cc
begins_at zero (s ∷ known) [] x y a b = cc
begins_at zero (s ∷ known) (t ∷ new) x y a b =
    let first : x ≡ s.0 = cc in
    let second : y ≡ t.0 = cc in
    (λ i. bytes_eq (sym first i) (sym second i) && begins known new)
begins_at (suc k) [] new x y a b = cc
begins_at (suc k) (s ∷ known) [] x y a b = cc
begins_at (suc k) (s ∷ known) (t ∷ new) x y a b = begins_at k known new x y a b

pub begins_step : (k : ℕ) (known new : Sites) (x y : List ℕ) → Some x ≡ name_of (slice_get known k) → Some y ≡ name_of (slice_get new k) → bytes_eq x y ≡ true → begins (drop k known) (drop k new) ≡ begins (drop (suc k) known) (drop (suc k) new)
begins_step k known new x y a b e = begins_at k known new x y a b ∙ ap (λ q. q && begins (drop (suc k) known) (drop (suc k) new)) e

pub begins_differ : (k : ℕ) (known new : Sites) (x y : List ℕ) → Some x ≡ name_of (slice_get known k) → Some y ≡ name_of (slice_get new k) → bytes_eq x y ≡ false → begins (drop k known) (drop k new) ≡ false
begins_differ k known new x y a b e = begins_at k known new x y a b ∙ ap (λ q. q && begins (drop (suc k) known) (drop (suc k) new)) e

-- a place that is there, or isn't
there : (k : ℕ) (sites : Sites) (x : List ℕ) → Some x ≡ name_of (slice_get sites k) → (s : List ℕ × ℕ) × ((rest : Sites) × (drop k sites ≡ s ∷ rest))
there zero [] x e = cc
there zero (s ∷ sites) x e = (s, (sites, refl))
there (suc k) [] x e = cc
there (suc k) (s ∷ sites) x e = there k sites x e

gone : (k : ℕ) (sites : Sites) → None ≡ name_of (slice_get sites k) → drop k sites ≡ []
gone zero [] e = refl
gone zero (s ∷ sites) e = cc
gone (suc k) [] e = refl
gone (suc k) (s ∷ sites) e = gone k sites e

pub begins_short : (k : ℕ) (known new : Sites) (x : List ℕ) → Some x ≡ name_of (slice_get known k) → None ≡ name_of (slice_get new k) → begins (drop k known) (drop k new) ≡ false
begins_short k known new x a b = let it = there k known x a in (λ i. begins (it.1.1 i) (gone k new b i))

pub begins_done : (k : ℕ) (known new : Sites) → None ≡ name_of (slice_get known k) → begins (drop k known) (drop k new) ≡ true
begins_done k known new e = (λ i. begins (gone k known e i) (drop k new))

pub begins_past : (k : ℕ) (known new : Sites) → length known ≤ k → begins (drop k known) (drop k new) ≡ true
begins_past k known new past = ap (λ l. begins l (drop k new)) (drop_all k known past)
