-- What a chart shows: nodes of a machine for a time, from a moment on.
use Rattle.std.specs.Prelude.{ℕ, ◌+◌, ◌-◌, ◌^◌, ◌≤◌, ◌&&◌, Bool, true, false, IsTrue, List, [], ◌∷◌, ◌++◌, length, max, min, nat_lt, reverse, slice_get, Option, Some, None, if◌then◌else◌}
use Rattle.std.specs.declared.cmp.Ordering.{Ordering}
use Rattle.std.specs.BTreeSet.{insert_key}
use Rattle.std.specs.List.{fold}
use Rattle.std.specs.Ordering.{bool_cmp, nat_cmp, ordering_then}
use Rattle.fed_stamp.specs.Stamp.{StampValue}
use Rattle.fed_lattice.specs.Latest.{stamp_cmp}
use Rattle.fed_model.specs.JobView.{JobView}
use Rattle.fed_model.specs.Letter.{is_submitted}
use Rattle.fed_model.specs.View.{View}
use Rattle.fed_easy.specs.Plan.{PlanValue}
use Rattle.fed_machine.specs.declared.chart_bars.Bar.{Bar}
use Rattle.fed_machine.specs.declared.chart_bars.Kind.{Kind}
use Rattle.fed_machine.specs.declared.chart_bars.Kind.TheVariants.{Running, Start, Head, Reservation}
use Rattle.fed_machine.specs.declared.chart_bars.StandingJob.{StandingJob}
use Rattle.fed_machine.specs.declared.machines.Reserved.{Reserved}
use Rattle.fed_machine.specs.declared.machines.RunningJob.{RunningJob}
use Rattle.fed_machine.specs.Machine.{reserved_in, runs_in}

-- ---- the jobs that have nodes from the moment on
-- by end, then by stamp
abbrev pub standing_cmp : StandingJob → StandingJob → Ordering
standing_cmp s t = ordering_then (nat_cmp s.seconds t.seconds)
    (ordering_then (stamp_cmp s.id t.id) (ordering_then (nat_cmp s.nodes t.nodes) (bool_cmp s.starts t.starts)))

-- a job that runs has its nodes for a second at least
abbrev pub standing_of_run : ℕ → RunningJob → StandingJob
standing_of_run moment r = record { seconds = max (r.end - moment) 1; id = r.id; nodes = r.nodes; starts = false }

-- what a field says; that of a job that is submitted says something
abbrev pub said : Option (StampValue × ℕ) → ℕ
said None = 0
said (Some latest) = latest.1

-- a job that starts has its nodes until its limit
abbrev pub standing_of_start : StampValue → JobView → Option StandingJob
standing_of_start job j = if is_submitted j
    then Some (record { seconds = said j.fields.limit; id = job; nodes = said j.fields.nodes; starts = true }) else None

abbrev pub with_some : List StandingJob → Option StandingJob → List StandingJob
with_some sorted None = sorted
with_some sorted (Some s) = insert_key standing_cmp sorted s

abbrev pub with_run : ℕ → List StandingJob → RunningJob → List StandingJob
with_run moment sorted r = insert_key standing_cmp sorted (standing_of_run moment r)

abbrev pub with_start : View → List StandingJob → StampValue → List StandingJob
with_start v sorted job = with_some sorted (standing_of_start job (v.job job))

-- the jobs that run at the site and those that start, the longest first
abbrev pub standing_in : View → ℕ → ℕ → List StampValue → List StandingJob
standing_in v here moment starts = reverse (fold (with_start v) (fold (with_run moment) [] (runs_in here v)) starts)

-- ---- bars
-- the nodes up to the upper edge, counted up to 2^64 - 1
abbrev pub top_of : Bar → ℕ
top_of b = min (b.bottom + b.nodes) (2 ^ 64 - 1)

-- the second after the moment at which it ends, counted likewise
abbrev pub end_of : Bar → ℕ
end_of b = min (b.from + b.seconds) (2 ^ 64 - 1)

abbrev pub top_if : Option Bar → ℕ
top_if None = 0
top_if (Some b) = top_of b

abbrev pub last_top_in : List Bar → ℕ
last_top_in bars = top_if (slice_get bars (length bars - 1))

abbrev pub bar_of : ℕ → StandingJob → Bar
bar_of bottom s = record {
  kind = if s.starts then Start else Running;
  id = s.id;
  from = 0;
  seconds = s.seconds;
  nodes = s.nodes;
  bottom = bottom;
}

-- on top of the last one
abbrev pub with_standing : List Bar → StandingJob → List Bar
with_standing bars s = bars ++ bar_of (last_top_in bars) s ∷ []

-- the bar is there at one of so many seconds
abbrev pub meets_bar : ℕ → ℕ → Bar → Bool
meets_bar from seconds b = nat_lt b.from (from + seconds) && nat_lt from (b.from + b.seconds)

-- raised to the top of a bar, where it is there at one of so many seconds
abbrev pub raised : ℕ → ℕ → ℕ → Bar → ℕ
raised from seconds level b = if meets_bar from seconds b then max level (top_of b) else level

-- the least level above all that are there at one of so many seconds
abbrev pub level_above : ℕ → ℕ → List Bar → ℕ
level_above from seconds bars = fold (raised from seconds) 0 bars

-- above those that are there at its seconds
abbrev pub with_bar : Kind → StampValue → ℕ → ℕ → ℕ → List Bar → List Bar
with_bar kind id from seconds nodes bars = bars ++ record {
  kind = kind;
  id = id;
  from = from;
  seconds = seconds;
  nodes = nodes;
  bottom = level_above from seconds bars;
} ∷ []

abbrev pub with_job : JobView → StampValue → ℕ → List Bar → List Bar
with_job j job from bars = if is_submitted j then with_bar Head job from (said j.fields.limit) (said j.fields.nodes) bars else bars

-- the head of a plan from its second on
abbrev pub with_head : View → ℕ → Option (StampValue × ℕ) → List Bar → List Bar
with_head v moment None bars = bars
with_head v moment (Some head) bars = with_job (v.job head.0) head.0 (head.1 - moment) bars

-- a reservation, of which the seconds before the moment are left out
abbrev pub with_reserved : ℕ → List Bar → Reserved → List Bar
with_reserved moment bars k =
    with_bar Reservation k.id (k.start - moment) (max (k.end - max k.start moment) 1) k.nodes bars

-- the jobs that run and those that start, of which those that end later lie below, then the head, then the reservations
-- in the order of their starts
abbrev pub bars_in : View → ℕ → ℕ → PlanValue → List Bar
bars_in v here moment plan = fold (with_reserved moment)
    (with_head v moment plan.head (fold with_standing [] (standing_in v here moment plan.starts)))
    (reserved_in here moment v)

-- the first bar lies below the second one, where they share a second
abbrev pub LiesBelow : Bar → Bar → Type 0
LiesBelow b c = IsTrue (meets_bar c.from c.seconds b) → top_of b ≤ c.bottom
