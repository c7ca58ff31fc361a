use Rattle.std.proofs.Common.{◌≡◌, ℕ, ◌<◌, false}
use Rattle.fed_stamp.specs.Roster.{is_repeated, sites_of}
use Rattle.fed_stamp.proofs.rosters.first_repeated.Given as goal

abbrev pub invariant-loop-i : goal.invariant-loop-i
invariant-loop-i l = (k : ℕ) → k < l.i → is_repeated (sites_of l.sites) k ≡ false
