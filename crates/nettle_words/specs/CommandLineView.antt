-- What the code is asked.
use Rattle.std.specs.Prelude.{map, option_map}
use Rattle.nettle_words.specs.CommandLine.{AskedValue, TaskValue, Makes, Answers, Serves, Compacts, Checks, TellsWords}
use Rattle.nettle_words.specs.declared.command_line.Asked.{Asked}
use Rattle.nettle_words.specs.declared.command_line.Task.{Task}
use Rattle.nettle_words.specs.declared.command_line.Task.TheVariants.{Init, At, Serve, Compact, Check, Words}

abbrev pub task_of : Task → TaskValue
task_of (Init site sites) = Makes site.now (map (λ w. w.now) sites.items)
task_of (At words) = Answers (map (λ w. w.now) words.items)
task_of (Serve frames keeps_history) = Serves frames keeps_history
task_of (Compact kept) = Compacts (option_map (λ name. name.now) kept)
task_of Check = Checks
task_of Words = TellsWords

abbrev pub asked_of : Asked → AskedValue
asked_of asked = record { directory = asked.directory.now; task = task_of asked.task }
