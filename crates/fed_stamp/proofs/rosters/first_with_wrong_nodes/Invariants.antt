use Rattle.std.proofs.Common.{◌≡◌, ℕ, ◌<◌, false}
use Rattle.fed_stamp.specs.Roster.{has_wrong_nodes, sites_of}
use Rattle.fed_stamp.proofs.rosters.first_with_wrong_nodes.Given as goal

abbrev pub invariant-loop-i : goal.invariant-loop-i
invariant-loop-i l = (k : ℕ) → k < l.i → has_wrong_nodes (sites_of l.sites) k ≡ false
