-- What a plan says: which jobs start now, and when the first of the others is to start.
use Rattle.std.specs.Prelude.{ℕ, List, Option}
use Rattle.fed_stamp.specs.Stamp.{StampValue}
use Rattle.fed_model.specs.declared.plans.Plan.{Plan}

-- the jobs that start now, in the order of the queue, and the head with its shadow, if a job is left
pub record PlanValue : Type 0 where
  pub starts : List StampValue
  pub head : Option (StampValue × ℕ)

-- what a plan of the code reads as
abbrev pub plan_reads : Plan → PlanValue
plan_reads p = record { starts = p.starts.items; head = p.head }
