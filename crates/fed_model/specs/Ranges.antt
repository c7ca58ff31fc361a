-- Values in range: of a field, of an operation, and of what is asked.
use Rattle.std.specs.Prelude.{◌≡◌, ℕ, ℤ, ◌-◌, ◌<◌, ◌≤◌, Bool, true, ◌&&◌, int_le, List, Option, Some, None, IfSome}
use Rattle.fed_stamp.specs.Stamp.{StampValue}
use Rattle.fed_stamp.specs.Word.{is_name}
use Rattle.fed_stamp.specs.declared.rosters.TheConstants.{MAX_NODES}
use Rattle.fed_stamp.specs.declared.sites.TheConstants.{SITES}
use Rattle.fed_stamp.specs.declared.stamps.TheConstants.{MAX_COUNTER}
use Rattle.fed_model.specs.declared.askers.Who.{Who}
use Rattle.fed_model.specs.declared.commands.Command.{Command}
use Rattle.fed_model.specs.declared.limits.TheConstants.{MAX_LIMIT}
use Rattle.fed_model.specs.declared.moments.TheConstants.{MAX_END, MAX_MOMENT}
use Rattle.fed_model.specs.declared.priorities.TheConstants.{MIN_PRIORITY, MAX_PRIORITY}
use Rattle.fed_model.specs.declared.beginnings.TheConstants.{MAX_STATUS}
use Rattle.fed_model.specs.declared.beginnings.Beginning.{Beginning}
use Rattle.fed_model.specs.declared.beginnings.Ending.{Ending}
use Rattle.fed_model.specs.declared.terms.TheConstants.{MAX_TERM}
use Rattle.fed_model.specs.declared.values.Changes.{Changes}
use Rattle.fed_model.specs.declared.values.JobValues.{JobValues}
use Rattle.fed_model.specs.declared.windows.Window.{Window}
use Rattle.fed_model.specs.Body.{Body, Body.Submit, Body.OfJob, Body.Reserve, Body.Retire, JobBody.Set, JobBody.Grant, JobBody.HandBack, JobBody.Begin, JobBody.Finish}

abbrev pub IsFrom : ℕ → ℕ → ℕ → Type 0
IsFrom least most n = (least ≤ n) × (n ≤ most)

abbrev pub IsSite : ℕ → Type 0
IsSite n = IsFrom 0 (SITES - 1) n

abbrev pub IsStamp : StampValue → Type 0
IsStamp s = IsFrom 1 MAX_COUNTER s.counter × IsSite s.site

abbrev pub IsName : List ℕ → Type 0
IsName text = is_name text ≡ true

abbrev pub is_priority : ℤ → Bool
is_priority n = int_le MIN_PRIORITY n && int_le n MAX_PRIORITY

abbrev pub IsPriority : ℤ → Type 0
IsPriority n = is_priority n ≡ true

abbrev pub IsAccount : Option (List ℕ) → Type 0
IsAccount None = Unit {0}
IsAccount (Some name) = IsName name

-- it ends after it starts
abbrev pub IsWindow : Window → Type 0
IsWindow w =
    IsSite w.site × IsFrom 0 MAX_MOMENT w.start × IsFrom 0 MAX_MOMENT w.end × IsFrom 1 MAX_NODES w.nodes × (w.start < w.end)

-- the values that a job is submitted with
pub record AreValues (values : JobValues) : Type 0 where
  pub name : IsName values.name
  pub priority : IsPriority values.priority
  pub nodes : IsFrom 1 MAX_NODES values.nodes
  pub limit : IsFrom 1 MAX_LIMIT values.limit
  pub account : IsAccount values.account

-- the values that are set
pub record AreChanges (changes : Changes) : Type 0 where
  pub name : IfSome changes.name IsName
  pub priority : IfSome changes.priority IsPriority
  pub nodes : IfSome changes.nodes (IsFrom 1 MAX_NODES)
  pub limit : IfSome changes.limit (IsFrom 1 MAX_LIMIT)
  pub account : IfSome changes.account IsAccount

abbrev pub IsBeginning : Beginning → Type 0
IsBeginning b = IsFrom 0 MAX_MOMENT b.moment × IsFrom 1 MAX_NODES b.nodes × IsFrom 0 MAX_END b.end × (b.moment < b.end)

abbrev pub IsEnding : Ending → Type 0
IsEnding e = IsFrom 0 MAX_MOMENT e.moment × IsFrom 0 MAX_STATUS e.status

-- the values of an operation are in range
abbrev pub IsInRange : Body → Type 0
IsInRange (Submit owner values held) = IsName owner × AreValues values
IsInRange (OfJob job (Set changes removed)) = AreChanges changes
IsInRange (OfJob job (Grant site term)) = IsSite site × IsFrom 1 MAX_TERM term
IsInRange (OfJob job (HandBack term)) = IsFrom 1 MAX_TERM term
IsInRange (OfJob job (Begin beginning)) = IsBeginning beginning
IsInRange (OfJob job (Finish ending)) = IsEnding ending
IsInRange (Reserve window) = IsWindow window
IsInRange (Retire first last) = IsFrom 1 MAX_COUNTER first × IsFrom first MAX_COUNTER last
IsInRange _ = Unit {0}

-- A window is looked at only where it is asked for: one that is no window is refused. The user's name becomes the
-- owner's.
abbrev pub IsRanged : Who → Command → Type 0
IsRanged who (Command.Submit values held) = IsName who.user × AreValues values
IsRanged who (Command.Alter job changes) = AreChanges changes
IsRanged who (Command.Grant job asker) = IsSite asker
IsRanged who (Command.Begin job moment) = IsFrom 0 MAX_MOMENT moment
IsRanged who (Command.Finish job moment status) = IsFrom 0 MAX_MOMENT moment × IsFrom 0 MAX_STATUS status
IsRanged who (Command.Reserve window) = IsSite window.site
IsRanged who _ = Unit {0}
