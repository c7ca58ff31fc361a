-- What words ask.
use Rattle.std.specs.Prelude.{ℕ, Bool, true, false, not, List, [], ◌∷◌, length, map, filter, codes, None, unwrap_or, Ok, Err}
use Rattle.std.specs.List.{range_with_len}
use Rattle.std.specs.Option.{ok_or}
use Rattle.fed_stamp.specs.SiteSet.{set_of}
use Rattle.fed_stamp.specs.Stamp.{StampValue, same_stamp}
use Rattle.fed_lattice.specs.Results.{◌>>=◌, mapped, each}
use Rattle.fed_model.specs.declared.commands.Command.{Command}
use Rattle.fed_model.specs.declared.commands.Command.TheVariants.{Submit, Alter, Hold, Release, Delete}
use Rattle.fed_model.specs.declared.holds.HoldKinds.{HoldKinds}
use Rattle.fed_model.specs.declared.values.Changes.{Changes}
use Rattle.fed_model.specs.declared.values.JobValues.{JobValues}
use Rattle.fed_model.specs.Hold.{sum_of_bits}
use Rattle.fed_words.specs.declared.faults.UsageFault.TheVariants.{UnknownUtility, MissingOperand}
use Rattle.fed_words.specs.declared.requests.TheConstants.{DEFAULT_PRIORITY, DEFAULT_NODES, DEFAULT_LIMIT}
use Rattle.fed_words.specs.declared.settings.Settings.{Settings}
use Rattle.fed_words.specs.declared.utilities.Utility.{Utility}
use Rattle.fed_words.specs.declared.utilities.Utility.TheVariants.{Qsub, Qalter, Qhold, Qrls, Qdel, Qstat}
use Rattle.fed_words.specs.Fault.{OrFault}
use Rattle.fed_words.specs.Identifier.{job_in}
use Rattle.fed_words.specs.Setting.{settings_in}
use Rattle.fed_words.specs.Spelling.{spelling}
use Rattle.fed_words.specs.Utility.{utility_named}

-- commands, or a listing, in full or not, of these jobs
pub data Asked : Type 0 where
  acts : List Command → Asked
  list : Bool → List StampValue → Asked

abbrev pub all_sites : List (List ℕ × ℕ) → List Bool
all_sites roster = set_of (range_with_len 0 (length roster))

-- what a job is submitted with, of which this is set
abbrev pub values_of : List (List ℕ × ℕ) → Changes → JobValues
values_of roster set = record {
  name = unwrap_or set.name (codes "STDIN");
  priority = unwrap_or set.priority DEFAULT_PRIORITY;
  nodes = unwrap_or set.nodes DEFAULT_NODES;
  limit = unwrap_or set.limit DEFAULT_LIMIT;
  account = unwrap_or set.account None;
  sites = unwrap_or set.sites (all_sites roster);
}

-- kinds of holds, by default a user hold
abbrev pub kinds_given : Settings → HoldKinds
kinds_given s = unwrap_or s.kinds (record { 0 = sum_of_bits true false false })

-- the request of a utility
abbrev pub request_of : List (List ℕ × ℕ) → Utility → Settings → List StampValue → Asked
request_of roster Qsub s jobs = acts (Submit (values_of roster s.changes) s.held ∷ [])
request_of roster Qalter s jobs = acts (map (λ job. Alter job s.changes) jobs)
request_of roster Qhold s jobs = acts (map (λ job. Hold job (kinds_given s)) jobs)
request_of roster Qrls s jobs = acts (map (λ job. Release job (kinds_given s)) jobs)
request_of roster Qdel s jobs = acts (map Delete jobs)
request_of roster Qstat s jobs = list s.full jobs

-- each job once, at its first place
abbrev pub once : List StampValue → List StampValue
once [] = []
once (job ∷ jobs) = job ∷ filter (λ other. not (same_stamp job other)) (once jobs)

abbrev pub named_jobs : List (List ℕ × ℕ) → ℕ → List (List ℕ) → OrFault (List StampValue)
named_jobs roster here operands = mapped once (each (job_in roster here) operands)

-- the jobs that operands name; those of `qsub` name none, and only `qstat` may have none
abbrev pub jobs_in : List (List ℕ × ℕ) → ℕ → Utility → List (List ℕ) → OrFault (List StampValue)
jobs_in roster here Qsub operands = Ok []
jobs_in roster here Qstat operands = named_jobs roster here operands
jobs_in roster here utility [] = Err MissingOperand
jobs_in roster here utility (operand ∷ operands) = named_jobs roster here (operand ∷ operands)

-- what words ask where they are read, or their first fault: the options that are split off stand before the place where
-- splitting ends, and the operands behind it
abbrev pub request_in : List (List ℕ × ℕ) → ℕ → List (List ℕ) → OrFault Asked
request_in roster here [] = Err UnknownUtility
request_in roster here (name ∷ words) = do
  utility ← ok_or (utility_named name) UnknownUtility
  settings ← settings_in roster (spelling utility None words).items
  operands ← (spelling utility None words).rest
  jobs ← jobs_in roster here utility operands
  Ok (request_of roster utility settings jobs)
