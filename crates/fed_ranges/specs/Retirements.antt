-- What one site has retired: the counter of its latest Retire, or 0, and the ranges of counters that are retired.
use Rattle.std.specs.Prelude.{◌≡◌, ◌⊎◌, ◌≤◌, ◌<◌, ℕ, List, [], ◌∷◌, max, nat_lt, if◌then◌else◌}
use Rattle.std.specs.List.{list_any}
use Rattle.fed_stamp.specs.Stamp.{StampValue}
use Rattle.fed_lattice.specs.Sets.{Has}
use Rattle.fed_lattice.specs.History.{History}
use Rattle.fed_ranges.specs.declared.ranges.Range.{Range}
use Rattle.fed_ranges.specs.Ranges.{is_in, has, added, joined, IsCanonical}

pub record RetirementsValue : Type 0 where
  pub latest : ℕ
  pub ranges : List Range

-- of a site that has retired nothing
abbrev pub no_retirements : RetirementsValue
no_retirements = record { latest = 0; ranges = [] }

-- the ranges with one more, which may be empty
abbrev pub with_range : Range → List Range → List Range
with_range c rs = if nat_lt c.last c.first then rs else added c rs

-- with the range of a Retire that has the stamp
abbrev pub applied_retirements : RetirementsValue → StampValue → Range → RetirementsValue
applied_retirements x s c = record { latest = max x.latest s.counter; ranges = with_range c x.ranges }

-- the greater counter, and the ranges of both
abbrev pub joined_retirements : RetirementsValue → List ℕ → RetirementsValue → List ℕ → RetirementsValue
joined_retirements x v y w = record { latest = max x.latest y.latest; ranges = joined x.ranges y.ranges }

abbrev pub AreCanonical : RetirementsValue → Type 0
AreCanonical x = IsCanonical x.ranges

-- the counter is the greatest of the Retires, or 0 where there is none
pub record IsLatest (latest : ℕ) (h : History Range) : Type 0 where
  pub most : (e : StampValue × Range) → Has h e → e.0.counter ≤ latest
  pub made : (latest ≡ 0) ⊎ ((e : StampValue × Range) × Has h e × (e.0.counter ≡ latest))

-- what is retired is what is in the range of one of the Retires
abbrev pub retirements_stand_for : RetirementsValue → History Range → Type 0
retirements_stand_for x h =
    IsLatest x.latest h × ((n : ℕ) → has x.ranges n ≡ list_any (λ (e : StampValue × Range). is_in e.1 n) h)

-- each range ends before the counter
abbrev pub EndBefore : ℕ → List Range → Type 0
EndBefore counter [] = Unit {0}
EndBefore counter (r ∷ rs) = (r.last < counter) × EndBefore counter rs

-- each begins at 1 or later, and ends before the counter
abbrev pub AreBetween : ℕ → List Range → Type 0
AreBetween end [] = Unit {0}
AreBetween end (r ∷ rs) = ((1 ≤ r.first) × (r.last < end)) × AreBetween end rs
