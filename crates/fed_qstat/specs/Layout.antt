-- The two forms of a listing.
use Rattle.std.specs.Prelude.{ℕ, List}
use Rattle.fed_stamp.specs.Stamp.{StampValue}
use Rattle.fed_model.specs.JobView.{JobView}
use Rattle.fed_qstat.specs.Full.{lines_in_full}
use Rattle.fed_qstat.specs.Short.{line_in_short}
use Rattle.fed_qstat.specs.declared.listings.Layout.{Layout}
use Rattle.fed_qstat.specs.declared.listings.Layout.TheVariants.{Short, Full}

-- the lines of a job
abbrev pub lines_in : Layout → List (List ℕ × ℕ) → StampValue → JobView → List ℕ
lines_in Short roster = line_in_short roster
lines_in Full roster = lines_in_full roster
