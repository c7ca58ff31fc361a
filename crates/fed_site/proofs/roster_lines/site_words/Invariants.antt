use Rattle.std.proofs.Common.{◌≡◌, map, string_bytes, take}
use Rattle.fed_site.specs.Rosters.{word_of_site}
use Rattle.fed_site.proofs.roster_lines.site_words.Given as goal

abbrev pub invariant-loop-number : goal.invariant-loop-number
invariant-loop-number l = map string_bytes l.words.items ≡ map word_of_site (take l.number l.roster)
