-- The stages of a job's grants, in their order.
use Rattle.std.specs.Prelude.{ℕ, Option, Some, None}
use Rattle.std.specs.declared.cmp.Ordering.{Ordering}
use Rattle.std.specs.Ordering.{ordering_then, nat_cmp}
use Rattle.fed_stamp.specs.Stamp.{StampValue}
use Rattle.fed_lattice.specs.History.{History}
use Rattle.fed_lattice.specs.Latest.{stamp_cmp}
use Rattle.fed_lattice.specs.Part.{part}
use Rattle.fed_lattice.specs.Stage.{greatest_value}
use Rattle.fed_lattice.specs.Stamped.{stamped}
use Rattle.fed_model.specs.declared.grants.GrantStage.{GrantStage}
use Rattle.fed_model.specs.declared.grants.GrantStage.TheVariants.{Open, Returned}
use Rattle.fed_model.specs.Body.{Body, Body.OfJob, JobBody.Grant, JobBody.HandBack}

abbrev pub term_of : GrantStage → ℕ
term_of (Open term stamp site) = term
term_of (Returned term stamp) = term

-- a grant that is handed back is above the same grant when it was open
abbrev pub rank_of : GrantStage → ℕ
rank_of (Open term stamp site) = 0
rank_of (Returned term stamp) = 1

abbrev pub stamp_of : GrantStage → StampValue
stamp_of (Open term stamp site) = stamp
stamp_of (Returned term stamp) = stamp

-- the site that an open grant is to
abbrev pub holder_of : GrantStage → Option ℕ
holder_of (Open term stamp site) = Some site
holder_of (Returned term stamp) = None

abbrev pub site_or_0 : GrantStage → ℕ
site_or_0 (Open term stamp site) = site
site_or_0 (Returned term stamp) = 0

-- by term, then whether it is handed back, then by stamp and site
abbrev pub grant_cmp : GrantStage → GrantStage → Ordering
grant_cmp g h = ordering_then (nat_cmp (term_of g) (term_of h))
    (ordering_then (nat_cmp (rank_of g) (rank_of h))
    (ordering_then (stamp_cmp (stamp_of g) (stamp_of h)) (nat_cmp (site_or_0 g) (site_or_0 h))))

-- the stage that an operation brings, if any
abbrev pub grant_in : StampValue × Body → Option GrantStage
grant_in (t, OfJob job (Grant site term)) = Some (Open term t site)
grant_in (t, OfJob job (HandBack term)) = Some (Returned term t)
grant_in (t, _) = None

-- the greatest stage that the operations bring
abbrev pub grant_stage : History Body → Option GrantStage
grant_stage ops = greatest_value grant_cmp (part grant_in (stamped ops))
