use Rattle.std.proofs.Common.{◌≡◌, ℕ, ◌<◌, false}
use Rattle.fed_stamp.specs.Roster.{is_misnamed, sites_of}
use Rattle.fed_stamp.proofs.rosters.first_misnamed.Given as goal

abbrev pub invariant-loop-i : goal.invariant-loop-i
invariant-loop-i l = (k : ℕ) → k < l.i → is_misnamed (sites_of l.sites) k ≡ false
