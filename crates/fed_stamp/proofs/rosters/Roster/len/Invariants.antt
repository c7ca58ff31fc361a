use Rattle.std.proofs.Common.{◌≡◌, ◌≤◌, length, take}
use Rattle.fed_stamp.specs.Roster.{sites_in}
use Rattle.fed_stamp.proofs.rosters.Roster.len.Given as goal

abbrev pub invariant-loop-site : goal.invariant-loop-site
invariant-loop-site l = record {
  bound : l.len ≤ l.site-index;
  counted : l.len ≡ length (sites_in (take l.site-index l.site-items));
}
