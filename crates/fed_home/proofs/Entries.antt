-- The entries of a compacted journal: how many bytes they take, and how they are gathered.
use Rattle.std.specs.Prelude.{Vec, suc}
use Rattle.std.specs.declared.alloc.Global.{Global}
use Rattle.std.proofs.Common.{◌≡◌, ℕ, ◌+◌, ◌<◌, ◌≤◌, List, [], ◌∷◌, ◌++◌, drop, drop-cons, get_or, length, add-one, refl, ap, sym, ◌∙◌, arith}
use Rattle.std.proofs.lemmas.List.{drop_all, length-append, map-append}
use Rattle.fed_replica.specs.State.{State}
use Rattle.fed_site.specs.Known.{unheard}
use Rattle.fed_site.specs.Packets.{IsPacketText}
use Rattle.fed_journal.specs.Lines.{at_rest, digest_of, first_digest, front_of, line_of, open_lines, texts_of}
use Rattle.fed_journal.proofs.Hexadecimal.{length-digest_of}
use Rattle.fed_home.specs.Compaction.{AreEntries, heard_texts}
use Rattle.fed_home.specs.Replay.{heard_text}

-- ---- bytes
-- how many bytes the lines of these entries take
abbrev pub line_bytes : List (Vec ℕ Global) → ℕ
line_bytes [] = 0
line_bytes (entry ∷ entries) = length entry.items + 20 + line_bytes entries

length-open_lines : (before : List ℕ) (entries : List (Vec ℕ Global)) → length (open_lines before (texts_of entries)) ≡ line_bytes entries
length-open_lines before [] = refl
length-open_lines before (entry ∷ entries) =
    let text = entry.items in
    let digest = digest_of before text in
    let rest = open_lines digest (texts_of entries) in
    let front : length (front_of digest) ≡ length digest + 3 = simp (length-append) (omega arith) in
    let line : length (line_of before text) ≡ length (front_of digest) + length text = length-append (front_of digest) text in
    let all : length (line_of before text ++ 10 ∷ rest) ≡ length (line_of before text) + length (10 ∷ rest) = length-append (line_of before text) (10 ∷ rest) in
    let more = length-open_lines digest entries in
    let few = length-digest_of before text in
    omega (arith, front, line, all, more, few)

pub length-at_rest : (entries : List (Vec ℕ Global)) → length (at_rest (texts_of entries)) ≡ 1 + line_bytes entries
length-at_rest entries =
    let lines = open_lines first_digest (texts_of entries) in
    omega (arith, length-append lines (45 ∷ []), length-open_lines first_digest entries)

pub line_bytes_at : (entries : List (Vec ℕ Global)) (i : ℕ) (d : Vec ℕ Global) → i < length entries → line_bytes (drop i entries) ≡ length (get_or entries i d).items + 20 + line_bytes (drop (i + 1) entries)
line_bytes_at entries i d within = ap line_bytes (drop-cons entries i d within ∙ (λ j. get_or entries i d ∷ drop (sym (add-one i) j) entries))

pub no_bytes : (entries : List (Vec ℕ Global)) (i : ℕ) → length entries ≤ i → line_bytes (drop i entries) ≡ 0
no_bytes entries i past = ap line_bytes (drop_all i entries past)

-- ---- what is gathered
pub gathered_none : (s : State) (header known : Vec ℕ Global) (one two three : List (Vec ℕ Global)) → one ≡ [] → two ≡ one ++ header ∷ [] → three ≡ two ++ known ∷ [] → IsPacketText (unheard s) 0 known.items → AreEntries header.items s 0 (texts_of three)
gathered_none s header known one two three a b c knows = record {
  known = known.items;
  knows = knows;
  are = ap texts_of (c ∙ ap (λ (es : List (Vec ℕ Global)). es ++ known ∷ []) (b ∙ ap (λ (es : List (Vec ℕ Global)). es ++ header ∷ []) a));
}

pub gathered_more : (header : List ℕ) (s : State) (count : ℕ) (entries new : List (Vec ℕ Global)) (text : Vec ℕ Global) → AreEntries header s count (texts_of entries) → new ≡ entries ++ text ∷ [] → text.items ≡ heard_text s count → AreEntries header s (count + 1) (texts_of new)
gathered_more header s count entries new text are is told = record {
  known = are.known;
  knows = are.knows;
  are = ap texts_of is
      ∙ map-append (λ (entry : Vec ℕ Global). entry.items) entries (text ∷ [])
      ∙ (λ i. are.are i ++ told i ∷ [])
      ∙ (λ i. header ∷ (are.known ∷ heard_texts s (sym (add-one count) i)));
}

-- ---- how many
pub length-texts_of : (entries : List (Vec ℕ Global)) → length (texts_of entries) ≡ length entries
length-texts_of [] = refl
length-texts_of (entry ∷ entries) = ap suc (length-texts_of entries)
