-- What a file on the machine's disk shows.
use Rattle.std.specs.Prelude.{ℕ, List, reverse}
use Rattle.fed_journal.specs.Calls.{AnsweredCall, left_by, seen_by}
use Rattle.fed_journal.specs.declared.files.FileDevice.{FileDevice}

-- the calls on it, the newest first
abbrev pub calls_of : {R : Type 0} → FileDevice R → List AnsweredCall
calls_of device = reverse device.calls.items

-- its members `seen` and `may_leave`
abbrev pub file_seen : {R : Type 0} → FileDevice R → List ℕ
file_seen device = seen_by (calls_of device)

abbrev pub file_may_leave : {R : Type 0} → FileDevice R → List ℕ → Type 0
file_may_leave device = left_by (calls_of device)
