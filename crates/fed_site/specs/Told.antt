-- What the user is told beside an answer.
use Rattle.std.specs.Prelude.{◌≡◌, ℕ, Bool, true, false, List, Option, Some, None, IsSome, map, option_map, string_bytes, ⊤}
use Rattle.fed_site.specs.SiteAnswer.{complaint_of, kept_of}
use Rattle.fed_site.specs.declared.complaints.Complaint.{Complaint}
use Rattle.fed_site.specs.declared.site.SiteAnswer.{SiteAnswer}
use Rattle.fed_site.specs.declared.tellings.Told.{Told}

-- A line that isn't done as it asks has words that say why. One that is done has none where it changed nothing.
abbrev pub HasWords : Option Complaint → (kept : Bool) → Option (List ℕ) → Type 0
HasWords (Some complaint) kept words = IsSome words
HasWords None false words = words ≡ None
HasWords None true words = ⊤

-- the words beside an answer
abbrev pub AreWordsOf : SiteAnswer → Option (List ℕ) → Type 0
AreWordsOf answer words = HasWords (complaint_of answer) (kept_of answer) words

-- Words are told where they are asked for.
abbrev pub IsTold : (asked : Bool) → Told → Type 0
IsTold false told = told.words ≡ None
IsTold true told = AreWordsOf told.answer (option_map string_bytes told.words)

-- what the site answered
abbrev pub answers_in : List Told → List SiteAnswer
answers_in answers = map (λ told. told.answer) answers
