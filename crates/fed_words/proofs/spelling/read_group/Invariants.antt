use Rattle.std.proofs.Common.{◌≡◌, List, Ok, drop}
use Rattle.fed_words.specs.Reading.{reading}
use Rattle.fed_words.specs.Setting.{settings_in}
use Rattle.fed_words.specs.Spelling.{Item, group}
use Rattle.fed_words.proofs.spelling.read_group.Given as goal

abbrev pub invariant-loop-index : goal.invariant-loop-index
invariant-loop-index l = (items : List Item) → settings_in l.roster items ≡ Ok l.fn.settings →
    (done : List Item) × (settings_in l.roster done ≡ Ok l.settings)
    × (reading l.roster items (group l.utility (drop 1 l.word)) ≡ reading l.roster done (group l.utility (drop l.index l.word)))
