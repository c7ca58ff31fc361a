-- What a site has retired as a JSON value: its number, the counter of its latest Retire, and the ranges of counters.
use Rattle.std.specs.Prelude.{ℕ, ◌+◌, ◌≤◌, Bool, true, ◌&&◌, nat_le, nat_lt, List, [], ◌∷◌, length, map, Err}
use Rattle.serde_json.specs.Data.{Data}
use Rattle.fed_stamp.specs.declared.stamps.TheConstants.{MAX_COUNTER}
use Rattle.fed_lattice.specs.Results.{◌>>=◌, mapped}
use Rattle.fed_ranges.specs.declared.ranges.Range.{Range}
use Rattle.fed_ranges.specs.Ranges.{AreApart}
use Rattle.fed_ranges.specs.Retirements.{RetirementsValue, EndBefore}
use Rattle.fed_model.specs.declared.capacities.TheConstants.{MAX_RANGES}
use Rattle.fed_model.specs.Ranges.{IsFrom, IsSite}
use Rattle.fed_json.specs.declared.flaws.Flaw.TheVariants.{Shape}
use Rattle.fed_json.specs.Reading.{Reading, both, where_true}
use Rattle.fed_json.specs.Numbers.{natural_value, natural_in}
use Rattle.fed_json.specs.Values.{list_value, elements_of, pair_of, array_of}
use Rattle.fed_job_json.specs.Stamps.{site_of}

-- ---- one range

abbrev pub range_value : Range → Data
range_value r = list_value (natural_value r.first ∷ natural_value r.last ∷ [])

abbrev pub range_of : Data → Reading Range
range_of d = mapped (λ p. record { first = p.0; last = p.1 }) (pair_of (natural_in 1 MAX_COUNTER) (natural_in 1 MAX_COUNTER) d)

-- ---- the ranges of a site

-- the ranges ascend from the number on, none is empty, none touches the next, and each ends before the counter
abbrev pub are_apart_before : ℕ → ℕ → List Range → Bool
are_apart_before counter low [] = true
are_apart_before counter low (r ∷ rs) =
    nat_le low r.first && (nat_le r.first r.last && (nat_lt r.last counter && are_apart_before counter (r.last + 2) rs))

-- there are ranges, and not too many
abbrev pub are_some : List Range → Bool
are_some rs = nat_lt 0 (length rs) && nat_le (length rs) MAX_RANGES

-- ---- a site, the counter of its latest Retire, and its ranges

abbrev pub RetiredSite : Type 0
RetiredSite = ℕ × RetirementsValue

abbrev pub retirements_value : RetiredSite → Data
retirements_value r = list_value (natural_value r.0 ∷ natural_value r.1.latest ∷ list_value (map range_value r.1.ranges) ∷ [])

abbrev pub are_told : RetiredSite → Bool
are_told r = are_some r.1.ranges && are_apart_before r.1.latest 1 r.1.ranges

abbrev pub retirements_from : List Data → Reading RetiredSite
retirements_from (site ∷ counter ∷ ranges ∷ []) = mapped (λ p. (p.0, record { latest = p.1.0; ranges = p.1.1 }))
    (both (site_of site) (both (natural_in 1 MAX_COUNTER counter) (array_of range_of ranges))) >>= where_true are_told
retirements_from _ = Err Shape

unfoldable pub retirements_of : Data → Reading RetiredSite
retirements_of d = elements_of d >>= retirements_from

-- the site is one of the 16, the counter is in range, there are ranges and not too many, and they begin at 1 or later,
-- none touches another, and each ends before the counter
pub record AreRetirements (r : RetiredSite) : Type 0 where
  pub site : IsSite r.0
  pub counter : IsFrom 1 MAX_COUNTER r.1.latest
  pub least : 1 ≤ length r.1.ranges
  pub most : length r.1.ranges ≤ MAX_RANGES
  pub apart : AreApart 1 r.1.ranges
  pub before : EndBefore r.1.latest r.1.ranges
