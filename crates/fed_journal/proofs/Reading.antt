-- What files of lines say.
use Rattle.std.proofs.Common.{◌≡◌, inl, inr, Bool, ℕ, suc, ◌+◌, ◌<◌, true, false, ◌==◌, not, ◌&&◌, List, [], ◌∷◌, ◌++◌, length, take, drop, Ok, Err, refl, sym, ◌∙◌, ap, arith, append_assoc, Vec}
use Rattle.std.specs.List.{All, slice_split, onto_first, count_by}
use Rattle.std.proofs.lemmas.Bool.{cases_Bool, true≢false, cond-true, cond-false, and_left, and_right}
use Rattle.std.proofs.lemmas.List.{append-nil, take_at, drop_at, length-take, length-append, map_push}
use Rattle.std.proofs.lemmas.List.Elements.{All-append, All-cons, All-nil, All-tail, All-head}
use Rattle.std.proofs.lemmas.List.Splits.{slice_split_none, slice_split_at, length-slice_split}
use Rattle.std.proofs.lemmas.Slice.Eq.{bytes_eq-Decides}
use Rattle.std.specs.declared.alloc.Global.{Global}
use Rattle.fed_journal.specs.Lines.{is_line_feed, IsLine, front_of, line_of, is_entry, is_closed, is_empty, digest_of, first_digest, last_digest, Reading, behind, read_from, recovered, open_lines, texts_of}
use Rattle.fed_journal.proofs.Hexadecimal.{line-digest_of, length-digest_of}

-- no front of the bytes is an entry's line, whatever its number
abbrev pub IsBroken : List ℕ → List ℕ → Type 0
IsBroken before bytes = (n : ℕ) → read_from n before (slice_split is_line_feed bytes) ≡ Err n

-- the lines of a file
abbrev lines : List ℕ → List (List ℕ)
lines file = slice_split is_line_feed file

some_lines : (file : List ℕ) → is_empty (lines file) ≡ false
some_lines file = some (lines file) (length-slice_split is_line_feed file)
  where
    some : (parts : List (List ℕ)) → length parts ≡ count_by is_line_feed file + 1 → is_empty parts ≡ false
    some [] is = absurd (omega (arith, is))
    some (part ∷ parts) is = refl

-- ---- one line

pub length-front : (before text : List ℕ) → length (front_of (digest_of before text)) ≡ 19
length-front before text = omega (arith, length-append (digest_of before text) (32 ∷ []), length-digest_of before text)

take-line : (before text : List ℕ) → take 19 (line_of before text) ≡ front_of (digest_of before text)
take-line before text = take_at (front_of (digest_of before text)) text 19 (length-front before text)

drop-line : (before text : List ℕ) → drop 19 (line_of before text) ≡ text
drop-line before text = drop_at (front_of (digest_of before text)) text 19 (length-front before text)

is_entry-line : (before text : List ℕ) → is_entry before (line_of before text) ≡ true
is_entry-line before text =
    (bytes_eq-Decides _ _).1 (take-line before text ∙ ap (λ (t : List ℕ). front_of (digest_of before t)) (sym (drop-line before text)))

pub front_line : (before text : List ℕ) → IsLine (front_of (digest_of before text))
front_line before text =
    let P : ℕ → Type 0 = λ byte. is_line_feed byte ≡ false in
    let digest = digest_of before text in
    All-cons P 43 (32 ∷ (digest ++ 32 ∷ [])) refl (All-cons P 32 (digest ++ 32 ∷ []) refl (All-append P digest (32 ∷ []) (line-digest_of before text) (All-cons P 32 [] refl (All-nil P))))

line-line : (before text : List ℕ) → IsLine text → IsLine (line_of before text)
line-line before text line = All-append (λ byte. is_line_feed byte ≡ false) (front_of (digest_of before text)) text (front_line before text) line

-- a line without room for a digest is no entry's
pub short : (before line : List ℕ) → length line < 19 → is_entry before line ≡ false
short before line below = elim (cases_Bool (is_entry before line)) [
  | inl is ↦
      let same : take 19 line ≡ front_of (digest_of before (drop 19 line)) = (bytes_eq-Decides _ _).0 is in
      absurd (omega (arith, below, length-take 19 line, ap length same, length-front before (drop 19 line)))
  | inr other ↦ other
]

-- an entry's line and what follows it
pub read_entry : (n : ℕ) (before text rest : List ℕ) → IsLine text → read_from n before (lines (line_of before text ++ 10 ∷ rest)) ≡ behind (text ∷ []) (read_from (suc n) (digest_of before text) (lines rest))
read_entry n before text rest line =
    let first : lines (line_of before text ++ 10 ∷ rest) ≡ line_of before text ∷ lines rest = slice_split_at is_line_feed (line_of before text) 10 rest (line-line before text line) refl in
    ap (λ (parts : List (List ℕ)). read_from n before parts) first
    ∙ cond-true (is_entry before (line_of before text) && not (is_empty (lines rest))) _ _ (ap (λ (is : Bool). is && not (is_empty (lines rest))) (is_entry-line before text) ∙ ap not (some_lines rest))
    ∙ ap (λ (t : List ℕ). behind (t ∷ []) (read_from (suc n) (digest_of before t) (lines rest))) (drop-line before text)

-- a closed gate, whatever follows it
pub read_closed : (n : ℕ) (before rest : List ℕ) → read_from n before (lines (45 ∷ rest)) ≡ Ok []
read_closed n before rest = at (lines rest)
  where
    at : (parts : List (List ℕ)) → read_from n before (onto_first 45 parts) ≡ Ok []
    at [] = refl
    at (part ∷ parts) = refl

-- neither closed nor an entry's line with a line feed
read_bad : (n : ℕ) (before line : List ℕ) (more : List (List ℕ)) → is_closed line ≡ false → (is_entry before line && not (is_empty more)) ≡ false → read_from n before (line ∷ more) ≡ Err n
read_bad n before line more shut bad = cond-false _ _ _ shut ∙ cond-false _ _ _ bad

-- a line that no line feed ends
pub broken_end : (before bytes : List ℕ) → is_closed bytes ≡ false → IsLine bytes → IsBroken before bytes
broken_end before bytes shut line n =
    ap (λ (parts : List (List ℕ)). read_from n before parts) (slice_split_none is_line_feed bytes line) ∙ read_bad n before bytes [] shut (and_right _ _ refl)

-- a line that is no entry's
pub broken_line : (before line more : List ℕ) → is_closed (line ++ 10 ∷ more) ≡ false → IsLine line → is_entry before line ≡ false → IsBroken before (line ++ 10 ∷ more)
broken_line before line more shut whole bad n =
    ap (λ (parts : List (List ℕ)). read_from n before parts) (slice_split_at is_line_feed line 10 more whole refl) ∙ read_bad n before line (lines more) (front line shut) (and_left _ _ bad)
  where
    front : (line : List ℕ) → is_closed (line ++ 10 ∷ more) ≡ false → is_closed line ≡ false
    front [] shut = refl
    front (byte ∷ line) shut = shut

-- ---- several lines

pub open_lines-append : (before : List ℕ) (texts more : List (List ℕ)) → open_lines before (texts ++ more) ≡ open_lines before texts ++ open_lines (last_digest before texts) more
open_lines-append before [] more = refl
open_lines-append before (text ∷ texts) more =
    ap (λ (l : List ℕ). line_of before text ++ 10 ∷ l) (open_lines-append (digest_of before text) texts more)
    ∙ sym (append_assoc (line_of before text) (10 ∷ open_lines (digest_of before text) texts) (open_lines (last_digest before (text ∷ texts)) more))

pub last_digest-append : (before : List ℕ) (texts more : List (List ℕ)) → last_digest before (texts ++ more) ≡ last_digest (last_digest before texts) more
last_digest-append before [] more = refl
last_digest-append before (text ∷ texts) more = last_digest-append (digest_of before text) texts more

behind_none : (r : Reading) → behind [] r ≡ r
behind_none (Ok entries) = refl
behind_none (Err line) = refl

behind_more : (texts more : List (List ℕ)) (r : Reading) → behind texts (behind more r) ≡ behind (texts ++ more) r
behind_more texts more (Ok entries) = ap Ok (sym (append_assoc texts more entries))
behind_more texts more (Err line) = refl

-- lines of entries, and then what the rest says
pub read-open_lines : (n : ℕ) (before : List ℕ) (texts : List (List ℕ)) (rest : List ℕ) → All IsLine texts
    → read_from n before (lines (open_lines before texts ++ rest)) ≡ behind texts (read_from (n + length texts) (last_digest before texts) (lines rest))
read-open_lines n before [] rest all = sym (behind_none _ ∙ ap (λ (k : ℕ). read_from k before (lines rest)) (omega arith))
read-open_lines n before (text ∷ texts) rest all =
    let next = digest_of before text in
    ap (λ (l : List ℕ). read_from n before (lines l)) (append_assoc (line_of before text) (10 ∷ open_lines next texts) rest)
    ∙ read_entry n before text (open_lines next texts ++ rest) (All-head IsLine text texts all)
    ∙ ap (λ (r : Reading). behind (text ∷ []) r) (read-open_lines (suc n) next texts rest (All-tail IsLine text texts all))
    ∙ behind_more (text ∷ []) texts (read_from (suc n + length texts) (last_digest next texts) (lines rest))
    ∙ ap (λ (k : ℕ). behind (text ∷ texts) (read_from k (last_digest next texts) (lines rest))) (omega arith)

-- ---- whole files

pub some_bytes : (before : List ℕ) (texts : List (List ℕ)) (rest : List ℕ) → is_empty rest ≡ false → is_empty (open_lines before texts ++ rest) ≡ false
some_bytes before [] rest some = some
some_bytes before (text ∷ texts) rest some = refl

-- lines of entries and a closed gate, whatever stands behind that
pub recovered_closed : (texts : List (List ℕ)) (rest : List ℕ) → All IsLine texts → recovered (open_lines first_digest texts ++ 45 ∷ rest) ≡ Ok texts
recovered_closed texts rest all =
    cond-false _ _ _ (some_bytes first_digest texts (45 ∷ rest) refl)
    ∙ read-open_lines 1 first_digest texts (45 ∷ rest) all ∙ ap (λ (r : Reading). behind texts r) (read_closed (1 + length texts) (last_digest first_digest texts) rest) ∙ ap Ok (append-nil texts)

-- or with a front that no entry's line begins
pub recovered_broken : (texts : List (List ℕ)) (file rest : List ℕ) → All IsLine texts → is_empty file ≡ false → file ≡ open_lines first_digest texts ++ rest → IsBroken (last_digest first_digest texts) rest
    → recovered file ≡ Err (length texts + 1)
recovered_broken texts file rest all some is broken =
    cond-false _ _ _ some ∙ ap (λ (l : List ℕ). read_from 1 first_digest (lines l)) is
    ∙ read-open_lines 1 first_digest texts rest all ∙ ap (λ (r : Reading). behind texts r) (broken (1 + length texts)) ∙ ap Err (omega arith)

-- ---- one entry more

pub some_file : (file : List ℕ) (n : ℕ) → length file ≡ n → (n == 0) ≡ false → is_empty file ≡ false
some_file [] n none some = absurd (true≢false (ap (λ (k : ℕ). k == 0) none ∙ some))
some_file (byte ∷ file) n count some = refl

back : (P : ℕ → Type 0) (xs ys : List ℕ) → All P (xs ++ ys) → All P ys
back P [] ys all = all
back P (x ∷ xs) ys all = back P xs ys (All-tail P x (xs ++ ys) all)

pub line_text : (before text : List ℕ) → IsLine (line_of before text) → IsLine text
line_text before text line = back (λ byte. is_line_feed byte ≡ false) (front_of (digest_of before text)) text line

pub read_more : (before : List ℕ) (texts : List (List ℕ)) (text rest more : List ℕ) → rest ≡ line_of (last_digest before texts) text ++ 10 ∷ more
    → open_lines before texts ++ rest ≡ open_lines before (texts ++ text ∷ []) ++ more
read_more before texts text rest more is =
    let last = last_digest before texts in
    ap (λ (l : List ℕ). open_lines before texts ++ l) (is ∙ sym (append_assoc (line_of last text) (10 ∷ []) more))
    ∙ sym (append_assoc (open_lines before texts) (line_of last text ++ 10 ∷ []) more) ∙ ap (λ (l : List ℕ). l ++ more) (sym (open_lines-append before texts (text ∷ [])))

pub texts-push : (entries : List (Vec ℕ Global)) (entry : Vec ℕ Global) → texts_of (entries ++ entry ∷ []) ≡ texts_of entries ++ entry.items ∷ []
texts-push entries entry = map_push (λ (e : Vec ℕ Global). e.items) entries entry
