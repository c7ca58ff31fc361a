use Rattle.std.proofs.Common.{◌≡◌, List, [], None, Ok, drop}
use Rattle.fed_words.specs.Item.{words_of}
use Rattle.fed_words.specs.Reading.{reading}
use Rattle.fed_words.specs.Setting.{settings_in}
use Rattle.fed_words.specs.Spelling.{Item, spelling}
use Rattle.fed_words.proofs.spelling.read_options.Given as goal

abbrev pub invariant-loop-index : goal.invariant-loop-index
invariant-loop-index l = (done : List Item) × (settings_in l.roster done ≡ Ok l.settings)
    × (reading l.roster [] (spelling l.utility None (words_of l.words))
    ≡ reading l.roster done (spelling l.utility l.wanted (drop l.index (words_of l.words))))
