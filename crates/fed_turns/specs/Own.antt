-- What a line may say at a site by itself.
use Rattle.std.specs.Prelude.{◌≡◌, ℕ, ◌<◌, true, List, [], ◌∷◌, length, All, Some}
use Rattle.fed_stamp.specs.Stamp.{StampValue}
use Rattle.fed_model.specs.declared.askers.Who.{Who}
use Rattle.fed_model.specs.declared.commands.Command.{Command}
use Rattle.fed_model.specs.Ranges.{IsRanged}
use Rattle.fed_model.specs.Retired.{is_within}
use Rattle.fed_script.specs.Line.{Line, skips, acts, lists, misuses, ships, plans}
use Rattle.fed_site.specs.OwnLine.{says, own_line_of}

-- it asks the site, for what is in range, or ships from it to a site of the roster
abbrev pub IsOwnLine : List (List ℕ × ℕ) → ℕ → Line → Type 0
IsOwnLine roster here skips = Unit {0}
IsOwnLine roster here (acts site who commands) = (site ≡ here) × All (IsRanged who) commands
IsOwnLine roster here (lists site full jobs) = site ≡ here
IsOwnLine roster here (misuses site fault) = site ≡ here
IsOwnLine roster here (ships site to) = (site ≡ here) × (to < length roster)
IsOwnLine roster here (plans site moment) = site ≡ here
IsOwnLine roster here _ = ⊥

-- the line asks the site to begin the job
pub record AsksToBegin (roster : List (List ℕ × ℕ)) (here : ℕ) (line : List ℕ) (job : StampValue) : Type 0 where
  pub who : Who
  pub moment : ℕ
  pub said : own_line_of roster here line ≡ says (Some (acts here who (Command.Begin job moment ∷ [])))

-- the line asks the job's site to retire a range that has the job's counter
pub record AsksToRetire (roster : List (List ℕ × ℕ)) (here : ℕ) (line : List ℕ) (job : StampValue) : Type 0 where
  pub who : Who
  pub first : ℕ
  pub last : ℕ
  pub own : job.site ≡ here
  pub within : is_within first last job.counter ≡ true
  pub said : own_line_of roster here line ≡ says (Some (acts here who (Command.Retire first last ∷ [])))
