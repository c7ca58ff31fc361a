-- The lines that ask for a look. Jobs and moments are read as in a script.
use Rattle.std.specs.Prelude.{ℕ, Bool, List, [], ◌∷◌, ◌&&◌, codes, is_some, length, nat_le, option_map, Some, None, if◌then◌else◌}
use Rattle.std.specs.List.{filter_map, list_all}
use Rattle.std.specs.Str.{bytes_eq}
use Rattle.fed_stamp.specs.Stamp.{StampValue}
use Rattle.fed_script.specs.Forms.{Form, Reads, ◌>>=◌, one, two}
use Rattle.fed_looks.specs.declared.look_words.LookWord.{LookWord}
use Rattle.fed_looks.specs.declared.look_words.LookWord.TheVariants.{Why, Machine, Reservations, Jobs, Seen, Chart, Plan, PlanJson, MachineJson, Roster, SeenJson, ReservationsJson}
use Rattle.fed_looks.specs.declared.looks.TheConstants.{MAX_LEFT_OUT}
use Rattle.fed_looks.specs.LookWord.{look_named}
use Rattle.fed_script.specs.Values.{identifier, moment}

pub data Look : Type 0 where
  -- why a job stands where it does at a moment
  whys : (job : StampValue) (moment : ℕ) → Look
  -- the machine at a moment
  machines : (moment : ℕ) → Look
  machines_json : (moment : ℕ) → Look
  -- what is reserved
  reserves : Look
  reserves_json : Look
  -- these jobs, or all where none is named
  tells : (jobs : List StampValue) → Look
  -- what is seen
  sees : Look
  sees_json : Look
  -- a picture of the machine from a moment on
  charts : (moment : ℕ) → Look
  -- the plan at a moment where these jobs are left out
  plans : (moment : ℕ) (but : List StampValue) → Look
  plans_json : (moment : ℕ) (but : List StampValue) → Look
  -- the roster
  rosters : Look

-- what the words say where each can be read
abbrev pub each : {A : Type 0} → Reads A → Form (List A)
each f words = if list_all (λ w. is_some (f w)) words then Some (filter_map f words) else None

-- the look, where no word is left
abbrev pub alone_of : Look → Form Look
alone_of look [] = Some look
alone_of look (word ∷ words) = None

-- a plan may be asked to leave out so many jobs
abbrev pub may_be_left_out : ℕ → Bool
may_be_left_out count = nat_le 1 count && nat_le count MAX_LEFT_OUT

-- a moment, and jobs that are left out
abbrev pub PlanAsked : Type 0
PlanAsked = ℕ × List StampValue

-- `MOMENT but JOB ..`
abbrev pub plan_but : List (List ℕ × ℕ) → ℕ → Form PlanAsked
plan_but roster here [] = None
plan_but roster here (time ∷ []) = None
plan_but roster here (time ∷ but ∷ jobs) = if bytes_eq but (codes "but") && may_be_left_out (length jobs)
    then (moment time >>= λ t. option_map (λ left_out. (t, left_out)) (each (identifier roster here) jobs)) else None

-- `MOMENT`, or `MOMENT but JOB ..`
abbrev pub plan_asked : List (List ℕ × ℕ) → ℕ → Form PlanAsked
plan_asked roster here (time ∷ []) = option_map (λ t. (t, [])) (moment time)
plan_asked roster here words = plan_but roster here words

-- what stands behind the first word
abbrev pub look_behind : List (List ℕ × ℕ) → ℕ → LookWord → Form Look
look_behind roster here Why = two (identifier roster here) moment whys
look_behind roster here Machine = one moment machines
look_behind roster here Reservations = alone_of reserves
look_behind roster here Jobs = λ words. option_map tells (each (identifier roster here) words)
look_behind roster here Seen = alone_of sees
look_behind roster here Chart = one moment charts
look_behind roster here Plan = λ words. option_map (λ p. plans p.0 p.1) (plan_but roster here words)
look_behind roster here PlanJson = λ words. option_map (λ p. plans_json p.0 p.1) (plan_asked roster here words)
look_behind roster here MachineJson = one moment machines_json
look_behind roster here Roster = alone_of rosters
look_behind roster here SeenJson = alone_of sees_json
look_behind roster here ReservationsJson = alone_of reserves_json

-- the look that the words of a line ask a site for, if they ask for one
abbrev pub look_in : List (List ℕ × ℕ) → ℕ → Form Look
look_in roster here [] = None
look_in roster here (word ∷ words) = look_named word >>= λ asked. look_behind roster here asked words
