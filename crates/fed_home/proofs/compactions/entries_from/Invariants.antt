use Rattle.std.proofs.Common.{◌≡◌, ◌+◌, length}
use Rattle.fed_journal.specs.Lines.{texts_of}
use Rattle.fed_replica.specs.State.{state_of}
use Rattle.fed_home.specs.Compaction.{AreEntries}
use Rattle.fed_home.specs.Header.{header_text}
use Rattle.fed_home.proofs.compactions.entries_from.Given as goal

abbrev pub invariant-loop-number : goal.invariant-loop-number
invariant-loop-number l = record {
  few : length l.entries.items ≡ 2 + l.number;
  are : AreEntries (header_text l.site.roster (state_of l.site.replica).site) (state_of l.site.replica) l.number (texts_of l.entries.items);
}
