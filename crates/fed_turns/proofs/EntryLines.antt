-- The entries of a compacted journal are lines.
use Rattle.std.specs.Prelude.{codes, flat_map, option_map, slice_get, unwrap_or}
use Rattle.std.specs.Fmt.{decimal}
use Rattle.std.specs.List.{All, list_all, list_any}
use Rattle.std.proofs.Common.{◌≡◌, ℕ, zero, suc, Bool, true, false, List, [], ◌∷◌, ◌++◌, length, refl, sym, subst, arith}
use Rattle.std.proofs.lemmas.Bool.{and_parts, or_parts}
use Rattle.std.proofs.lemmas.Bool.Decides.{nat_tests}
use Rattle.std.proofs.lemmas.List.Elements.{All-append, All-cons, All-head, All-nil, All-tail}
use Rattle.fed_stamp.specs.Roster.{IsRoster, is_site_byte, is_site_name}
use Rattle.fed_job_json.specs.declared.formats.Format.TheVariants.{Two}
use Rattle.fed_wire.specs.Packet.{packet_value}
use Rattle.fed_replica.specs.State.{State, hearing}
use Rattle.fed_qstat.specs.Identifier.{text_of_site}
use Rattle.fed_site.specs.Rosters.{text_of_roster, word_of_site}
use Rattle.fed_site.proofs.JsonLines.{IsFeedless, decimal_feedless, feedless-append, feedless-cons, value_feedless}
use Rattle.fed_journal.specs.Lines.{IsLine, is_line_feed}
use Rattle.fed_home.specs.Compaction.{AreEntriesOf, heard_texts}
use Rattle.fed_home.specs.Header.{header_text}
use Rattle.fed_home.specs.Replay.{Replayed, heard_text}
use Rattle.fed_turns.proofs.CompactedEntries.{text_if}

feedless_line : (text : List ℕ) → IsFeedless text → IsLine text
feedless_line [] e = All-nil (λ byte. is_line_feed byte ≡ false)
feedless_line (b ∷ text) e =
    let parts = or_parts (is_line_feed b) (list_any is_line_feed text) e in
    All-cons (λ byte. is_line_feed byte ≡ false) b text parts.0 (feedless_line text parts.1)

-- ---- the header, of any site
site_byte : (b : ℕ) → is_site_byte b ≡ true → is_line_feed b ≡ false
site_byte b e = grind (arith, nat_tests)

bytes_feedless : (name : List ℕ) → list_all is_site_byte name ≡ true → IsFeedless name
bytes_feedless [] e = refl
bytes_feedless (b ∷ name) e =
    let parts = and_parts (is_site_byte b) (list_all is_site_byte name) e in
    feedless-cons b name (site_byte b parts.0) (bytes_feedless name parts.1)

name_feedless : (name : List ℕ) → is_site_name name ≡ true → IsFeedless name
unfolding is_site_name
name_feedless name e = bytes_feedless name (and_parts _ _ e).1

abbrev Sites : Type 0
Sites = List (List ℕ × ℕ)

abbrev AreNamed : Sites → Type 0
AreNamed roster = All (λ s. is_site_name s.0 ≡ true) roster

site_feedless : (roster : Sites) (i : ℕ) (other : List ℕ) → AreNamed roster → IsFeedless other → IsFeedless (unwrap_or (option_map (λ s. s.0) (slice_get roster i)) other)
site_feedless [] i other named e = e
site_feedless (s ∷ roster) zero other named e = name_feedless s.0 (All-head (λ t. is_site_name t.0 ≡ true) s roster named)
site_feedless (s ∷ roster) (suc i) other named e = site_feedless roster i other (All-tail (λ t. is_site_name t.0 ≡ true) s roster named) e

word_feedless : (s : List ℕ × ℕ) → is_site_name s.0 ≡ true → IsFeedless (word_of_site s)
word_feedless s e = feedless-append s.0 (58 ∷ decimal s.1) (name_feedless s.0 e) (decimal_feedless s.1)

words_feedless : (roster : Sites) → AreNamed roster → IsFeedless (flat_map (λ s. codes " " ++ word_of_site s) roster)
words_feedless [] named = refl
words_feedless (s ∷ roster) named =
    feedless-append (word_of_site s) (flat_map (λ t. codes " " ++ word_of_site t) roster) (word_feedless s (All-head (λ t. is_site_name t.0 ≡ true) s roster named))
    (words_feedless roster (All-tail (λ t. is_site_name t.0 ≡ true) s roster named))

-- the first word has no blank before it, and a blank is no line feed
roster_feedless : (roster : Sites) → AreNamed roster → IsFeedless (text_of_roster roster)
roster_feedless [] named = refl
roster_feedless (s ∷ roster) named = words_feedless (s ∷ roster) named

header_feedless : (roster : Sites) (here : ℕ) → AreNamed roster → IsFeedless (header_text roster here)
header_feedless roster here named =
    feedless-append (text_of_site roster here) (32 ∷ text_of_roster roster) (site_feedless roster here (35 ∷ decimal here) named (decimal_feedless here)) (roster_feedless roster named)

-- ---- what was heard, or nothing
heard_or_nothing : (nothing : Bool) (s : State) (k : ℕ) → IsFeedless (text_if nothing s k)
heard_or_nothing true s k = refl
heard_or_nothing false s k = value_feedless (packet_value Two (hearing s k))

heard_are_lines : (s : State) (n : ℕ) → All IsLine (heard_texts s n)
heard_are_lines s zero = All-nil IsLine
heard_are_lines s (suc n) =
    All-append IsLine (heard_texts s n) (heard_text s n ∷ []) (heard_are_lines s n)
    (All-cons IsLine (heard_text s n) [] (feedless_line (heard_text s n) (heard_or_nothing _ s n)) (All-nil IsLine))

-- ---- all of them
pub entries_are_lines : (now : Replayed) (entries : List (List ℕ)) → IsRoster now.roster → AreEntriesOf now entries → All IsLine entries
entries_are_lines now entries named are =
    let s = now.state in
    let header = header_text now.roster s.site in
    let texts = heard_texts s (length now.roster) in
    let known : IsFeedless are.known = subst IsFeedless (sym are.knows.written) (value_feedless (packet_value Two are.knows.packet)) in
    subst (All IsLine) (sym are.are)
    (All-cons IsLine header (are.known ∷ texts) (feedless_line header (header_feedless now.roster s.site named.named))
    (All-cons IsLine are.known texts (feedless_line are.known known) (heard_are_lines s (length now.roster))))
