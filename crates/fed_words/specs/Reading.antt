-- What words set that are read one after another.
use Rattle.std.specs.Prelude.{ℕ, List, ◌++◌, Ok}
use Rattle.fed_lattice.specs.Results.{◌>>=◌}
use Rattle.fed_words.specs.declared.settings.Settings.{Settings}
use Rattle.fed_words.specs.Fault.{OrFault}
use Rattle.fed_words.specs.Setting.{settings_in}
use Rattle.fed_words.specs.Spelling.{Item, Spelling}

-- what these items and those that are spelled behind them set, and what stands behind the spelling
abbrev pub reading : {Rest : Type 0} → List (List ℕ × ℕ) → List Item → Spelling Rest → OrFault (Settings × Rest)
reading roster items spelled = do
  settings ← settings_in roster (items ++ spelled.items)
  rest ← spelled.rest
  Ok (settings, rest)
