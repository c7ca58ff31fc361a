-- What single words say by the roster.
use Rattle.std.specs.Prelude.{ℕ, List}
use Rattle.std.specs.Result.{result_ok}
use Rattle.fed_stamp.specs.Stamp.{StampValue}
use Rattle.fed_model.specs.declared.moments.TheConstants.{MAX_MOMENT}
use Rattle.fed_model.specs.declared.beginnings.TheConstants.{MAX_STATUS}
use Rattle.fed_words.specs.Identifier.{job_in}
use Rattle.fed_words.specs.Number.{decimal_in, number_in}
use Rattle.fed_words.specs.Site.{site_named}
use Rattle.fed_script.specs.Forms.{Reads}

-- a site of the roster, by its name
abbrev pub site : List (List ℕ × ℕ) → Reads ℕ
site roster word = site_named roster word

-- the identifier of a job or of a reservation, as it is read at a site
abbrev pub identifier : List (List ℕ × ℕ) → ℕ → Reads StampValue
identifier roster here word = result_ok (job_in roster here word)

-- a number of 64 bits
abbrev pub number : Reads ℕ
number word = decimal_in word

abbrev pub moment : Reads ℕ
moment word = number_in 0 MAX_MOMENT word

-- the status that a job gave
abbrev pub status : Reads ℕ
status word = number_in 0 MAX_STATUS word

-- the number of a packet, where so many were made
abbrev pub packet : ℕ → Reads ℕ
packet made word = number_in 1 made word
