use Rattle.std.proofs.Common.{◌≡◌, drop}
use Rattle.fed_site.specs.Rosters.{begins as begins_with}
use Rattle.fed_site.proofs.rosters.begins.Given as goal

abbrev pub invariant-loop-number : goal.invariant-loop-number
invariant-loop-number l = begins_with (drop l.number l.known) (drop l.number l.new) ≡ begins_with l.known l.new
