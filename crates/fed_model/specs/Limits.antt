-- The sets of operations whose values are in range, and of whose jobs and reservations no site has named too many.
use Rattle.std.specs.Prelude.{ℕ, ◌≤◌}
use Rattle.fed_stamp.specs.Stamp.{StampValue}
use Rattle.fed_lattice.specs.Sets.{Has}
use Rattle.fed_lattice.specs.History.{History}
use Rattle.fed_model.specs.declared.capacities.TheConstants.{MAX_JOBS, MAX_RANGES, MAX_RESERVATIONS}
use Rattle.fed_model.specs.Body.{Body}
use Rattle.fed_model.specs.Origin.{jobs_of, ranges_of, reservations_of}
use Rattle.fed_model.specs.Ranges.{IsStamp, IsInRange}
use Rattle.fed_model.specs.View.{view}

pub record IsWithinLimits (ops : History Body) : Type 0 where
  pub stamps : (e : StampValue × Body) → Has ops e → IsStamp e.0
  pub values : (e : StampValue × Body) → Has ops e → IsInRange e.1
  pub jobs : (site : ℕ) → jobs_of (view ops) site ≤ MAX_JOBS
  pub ranges : (site : ℕ) → ranges_of (view ops) site ≤ MAX_RANGES
  pub reservations : (site : ℕ) → reservations_of (view ops) site ≤ MAX_RESERVATIONS
