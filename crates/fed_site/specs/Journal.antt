-- The lines that a site keeps, and their replay.
use Rattle.std.specs.Prelude.{◌≡◌, ℕ, Bool, List, [], ◌∷◌, ◌++◌, if◌then◌else◌}
use Rattle.fed_replica.specs.State.{State, state_of}
use Rattle.fed_site.specs.declared.site.SiteAnswer.{SiteAnswer}
use Rattle.fed_site.specs.SiteAnswer.{begun_of, bytes_of, complaint_of, kept_of}
use Rattle.fed_site.specs.Rosters.{roster_after}
use Rattle.fed_site.specs.Site.{SiteValue}
use Rattle.fed_site.specs.Says.{Said, site_says, IsReply}

-- this was answered, and the site is what is left, with this roster
pub record SaidAs (old new : SiteValue) (answer : SiteAnswer) (left : List (List ℕ × ℕ)) (said : Said) : Type 0 where
  pub roster : new.roster ≡ left
  pub after : state_of new.replica ≡ said.after
  pub reply : IsReply (state_of old.replica) said.reply (bytes_of answer)
  pub keeps : kept_of answer ≡ said.kept
  pub complains : complaint_of answer ≡ said.complaint
  pub begins : begun_of answer ≡ said.begun

-- the state after lines, of a site that knows this roster
abbrev pub after_lines : List (List ℕ × ℕ) → State → List (List ℕ) → State
after_lines roster s [] = s
after_lines roster s (line ∷ lines) = after_lines (roster_after roster line) (site_says roster s line).after lines

-- the line, if it is to be kept
abbrev pub kept_line : Bool → List ℕ → List (List ℕ)
kept_line kept line = if kept then line ∷ [] else []

-- the lines that are kept
abbrev pub kept_lines : List (List ℕ × ℕ) → State → List (List ℕ) → List (List ℕ)
kept_lines roster s [] = []
kept_lines roster s (line ∷ lines) =
    kept_line (site_says roster s line).kept line
    ++ kept_lines (roster_after roster line) (site_says roster s line).after lines
