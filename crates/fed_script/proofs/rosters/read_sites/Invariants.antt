use Rattle.std.proofs.Common.{◌≡◌, map, take, Some}
use Rattle.fed_stamp.specs.Roster.{sites_of}
use Rattle.fed_script.specs.Rosters.{sites_in}
use Rattle.fed_script.proofs.rosters.read_sites.Given as goal

abbrev pub invariant-loop-word : goal.invariant-loop-word
invariant-loop-word l = sites_in (map (λ word. word.now) (take l.word-index l.words)) ≡ Some (sites_of l.sites.items)
