-- What is said to a line that asks a site for a listing.
use Rattle.std.specs.Prelude.{ℕ, Bool, List, if◌then◌else◌}
use Rattle.fed_stamp.specs.Stamp.{StampValue}
use Rattle.fed_model.specs.JobView.{JobView}
use Rattle.fed_model.specs.View.{View}
use Rattle.fed_qstat.specs.Full.{lines_in_full}
use Rattle.fed_qstat.specs.Listing.{listing}
use Rattle.fed_qstat.specs.Short.{line_in_short}

-- how a listing shows a job
abbrev pub lines_of : Bool → List (List ℕ × ℕ) → StampValue → JobView → List ℕ
lines_of full roster = if full then lines_in_full roster else line_in_short roster

-- the listing of these jobs, or of all where none is named
abbrev pub listed : Bool → List (List ℕ × ℕ) → View → List StampValue → List ℕ
listed full roster v jobs = listing (lines_of full roster) v jobs
