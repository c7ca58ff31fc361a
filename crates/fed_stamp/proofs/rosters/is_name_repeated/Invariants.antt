use Rattle.std.proofs.Common.{◌≡◌, ℕ, ◌<◌, false}
use Rattle.fed_stamp.specs.Roster.{is_named, name_at, sites_of}
use Rattle.fed_stamp.proofs.rosters.is_name_repeated.Given as goal

abbrev pub invariant-loop-i : goal.invariant-loop-i
invariant-loop-i l = (k : ℕ) → k < l.i → is_named (sites_of l.sites) (name_at (sites_of l.sites) l.index) k ≡ false
