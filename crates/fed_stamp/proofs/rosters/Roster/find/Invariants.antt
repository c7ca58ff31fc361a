use Rattle.std.proofs.Common.{◌≡◌, ℕ, ◌<◌, length, false}
use Rattle.fed_stamp.specs.Roster.{is_named, sites_in}
use Rattle.fed_stamp.proofs.rosters.Roster.find.Given as goal

abbrev pub invariant-loop-i : goal.invariant-loop-i
invariant-loop-i l = (k : ℕ) → k < l.i → k < length (sites_in l.self-inside.sites) → is_named (sites_in l.self-inside.sites) l.name k ≡ false
