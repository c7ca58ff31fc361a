-- What a file in memory shows.
use Rattle.std.specs.Prelude.{ℕ, Bool, List, reverse, Vec}
use Rattle.std.specs.declared.alloc.Global.{Global}
use Rattle.fed_journal.specs.Calls.{AnsweredCall, left_by, seen_by}
use Rattle.fed_journal.specs.declared.memory.Memory.{Memory}
use Rattle.fed_journal.specs.declared.memory.Tear.{Tear}

-- the calls on it, the newest first
abbrev pub calls_of : Memory → List AnsweredCall
calls_of memory = reverse memory.calls.items

-- its members `seen` and `may_leave`
abbrev pub memory_seen : Memory → List ℕ
memory_seen memory = seen_by (calls_of memory)

abbrev pub memory_may_leave : Memory → List ℕ → Type 0
memory_may_leave memory = left_by (calls_of memory)

-- whether it hasn't stopped, how many calls that change it or wait for the disk are done before it does, and what is then left of the last change
abbrev pub is_running : Memory → Bool
is_running memory = memory.is_up

abbrev pub calls_left : Memory → ℕ
calls_left memory = memory.left

abbrev pub tear_of : Memory → Tear
tear_of memory = memory.tear

-- what the disk has
abbrev pub disk_of : Memory → Vec ℕ Global
disk_of memory = memory.disk
