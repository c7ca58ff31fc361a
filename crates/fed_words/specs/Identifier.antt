-- Identifiers of jobs: `sequence.site`, or `sequence` alone, which means the site that reads it.
use Rattle.std.specs.Prelude.{ℕ, Bool, ◌==◌, nat_le, List, length, is_some, position, Ok, Err, if◌then◌else◌}
use Rattle.std.specs.List.{before_first, after_first}
use Rattle.std.specs.Option.{ok_or}
use Rattle.fed_stamp.specs.declared.stamps.TheConstants.{MAX_COUNTER}
use Rattle.fed_stamp.specs.Stamp.{StampValue}
use Rattle.fed_lattice.specs.Results.{◌>>=◌}
use Rattle.fed_words.specs.declared.faults.UsageFault.TheVariants.{BadIdentifier}
use Rattle.fed_words.specs.declared.identifiers.TheConstants.{MAX_SEQUENCE_DIGITS}
use Rattle.fed_words.specs.Fault.{OrFault}
use Rattle.fed_words.specs.Number.{number_in}
use Rattle.fed_words.specs.Site.{site_in}

abbrev pub is_dot : ℕ → Bool
is_dot byte = byte == 46

-- 1 to MAX_SEQUENCE_DIGITS decimal digits, with the value of a counter
abbrev pub sequence_in : List ℕ → OrFault ℕ
sequence_in word =
    if nat_le (length word) MAX_SEQUENCE_DIGITS then ok_or (number_in 1 MAX_COUNTER word) BadIdentifier else Err BadIdentifier

-- what the word says of the site: the name behind the first dot, or, where there is none, the site that reads it
abbrev pub place_in : List (List ℕ × ℕ) → ℕ → List ℕ → OrFault ℕ
place_in roster here word =
    if is_some (position is_dot word) then site_in BadIdentifier roster (after_first is_dot word) else Ok here

-- the job that a word names
abbrev pub job_in : List (List ℕ × ℕ) → ℕ → List ℕ → OrFault StampValue
job_in roster here word = do
  sequence ← sequence_in (before_first is_dot word)
  site ← place_in roster here word
  Ok (record { counter = sequence; site = site })
