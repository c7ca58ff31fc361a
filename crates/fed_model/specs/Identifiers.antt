-- The identifiers of the jobs and of the reservations of a view, in the order of their stamps. All is computed of the
-- view: the stamps that its version covers are gone through, and those that name something are kept.
use Rattle.std.specs.Prelude.{ℕ, suc, List, filter, flat_map, map, is_some}
use Rattle.std.specs.List.{range_with_len}
use Rattle.fed_stamp.specs.declared.sites.TheConstants.{SITES}
use Rattle.fed_stamp.specs.Stamp.{StampValue}
use Rattle.fed_stamp.specs.Version.{covers, greatest}
use Rattle.fed_model.specs.Letter.{is_submitted}
use Rattle.fed_model.specs.View.{View}

-- the stamps of one counter, site by site
abbrev pub stamps_of : ℕ → List StampValue
stamps_of counter = map (λ site. record { counter = counter; site = site }) (range_with_len 0 SITES)

-- the stamps that the version covers, in their order: counter by counter
abbrev pub covered_stamps : List ℕ → List StampValue
covered_stamps v = filter (covers v) (flat_map stamps_of (range_with_len 0 (suc (greatest v))))

-- the jobs of a view, which are those that are submitted, in the order of the stamps of their Submits
abbrev pub jobs_in : View → List StampValue
jobs_in v = filter (λ job. is_submitted (v.job job)) (covered_stamps v.version)

-- the reservations of a view, which are those that are made, in the order of the stamps of their Reserves
abbrev pub reservations_in : View → List StampValue
reservations_in v = filter (λ id. is_some (v.reservation id)) (covered_stamps v.version)
