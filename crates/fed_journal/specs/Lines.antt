-- What the bytes of a journal say. A line begins with a gate: '+' (43) is open and '-' (45) is closed.
use Rattle.std.specs.Prelude.{◌≡◌, ◌⊎◌, ℕ, suc, ◌==◌, Bool, true, false, ◌&&◌, not, List, [], ◌∷◌, ◌++◌, map, replicate, take, drop, slice_index, Result, Ok, Err, if◌then◌else◌, Vec}
use Rattle.std.specs.List.{All, slice_split}
use Rattle.std.specs.Str.{bytes_eq}
use Rattle.std.specs.declared.alloc.Global.{Global}
use Rattle.sha2.specs.Sha256.{sha256}
use Rattle.hex.specs.Hex.{encode_lower}

-- the digest of an entry, by the digest before it and its text: sixteen hexadecimal digits
unfoldable pub digest_of : List ℕ → List ℕ → List ℕ
digest_of before text = encode_lower (take 8 (sha256 (before ++ text)))

-- what stands before the first entry: sixteen zeros
abbrev pub first_digest : List ℕ
first_digest = replicate 16 48

-- the digest of the last of these entries
abbrev pub last_digest : List ℕ → List (List ℕ) → List ℕ
last_digest before [] = before
last_digest before (text ∷ texts) = last_digest (digest_of before text) texts

abbrev pub is_line_feed : ℕ → Bool
is_line_feed byte = byte == 10

-- a text that is kept in a line
abbrev pub IsLine : List ℕ → Type 0
IsLine text = All (λ byte. is_line_feed byte ≡ false) text

-- an open gate, a space, a digest and a space
abbrev pub front_of : List ℕ → List ℕ
front_of digest = 43 ∷ 32 ∷ (digest ++ 32 ∷ [])

-- the line of an entry
abbrev pub line_of : List ℕ → List ℕ → List ℕ
line_of before text = front_of (digest_of before text) ++ text

-- a line with the digest that its text has behind that one
abbrev pub is_entry : List ℕ → List ℕ → Bool
is_entry before line = bytes_eq (take 19 line) (front_of (digest_of before (drop 19 line)))

abbrev pub is_closed : List ℕ → Bool
is_closed line = slice_index line 0 == 45

-- entries, or the number of a line that is damaged
abbrev pub Reading : Type 0
Reading = Result (List (List ℕ)) ℕ

abbrev pub is_empty : {X : Type 0} → List X → Bool
is_empty [] = true
is_empty (x ∷ xs) = false

abbrev pub behind : List (List ℕ) → Reading → Reading
behind entries (Ok more) = Ok (entries ++ more)
behind entries (Err line) = Err line

-- What the lines from the nth on say, behind an entry with that digest. A closed gate ends them, and the file mustn't end before it. Each
-- line up to there is an entry's, and isn't the last, which no line feed ends.
abbrev pub read_from : ℕ → List ℕ → List (List ℕ) → Reading
read_from n before [] = Err n
read_from n before (line ∷ more) =
    if is_closed line then Ok []
    else (if is_entry before line && not (is_empty more) then behind (drop 19 line ∷ []) (read_from (suc n) (digest_of before (drop 19 line)) more) else Err n)

-- What a file stands for. A new file is empty.
abbrev pub recovered : List ℕ → Reading
recovered file = if is_empty file then Ok [] else read_from 1 first_digest (slice_split is_line_feed file)

-- lines of these entries, behind an entry with that digest
abbrev pub open_lines : List ℕ → List (List ℕ) → List ℕ
open_lines before [] = []
open_lines before (text ∷ texts) = line_of before text ++ 10 ∷ open_lines (digest_of before text) texts

-- and then a closed gate
abbrev pub closed_lines : List ℕ → List (List ℕ) → List ℕ
closed_lines before texts = open_lines before texts ++ 45 ∷ []

-- the file at rest
abbrev pub at_rest : List (List ℕ) → List ℕ
at_rest texts = closed_lines first_digest texts

-- the texts of entries that are kept in vectors
abbrev pub texts_of : List (Vec ℕ Global) → List (List ℕ)
texts_of entries = map (λ entry. entry.items) entries

-- the file has these entries at rest, and then this; a new file has nothing
abbrev pub Stands : List ℕ → List (List ℕ) → List ℕ → Type 0
Stands file entries tail = (file ≡ at_rest entries ++ tail) ⊎ ((file ≡ []) × (entries ≡ []) × (tail ≡ []))
