use Rattle.fed_journal.proofs.Tearing.{unreplaced}
use Rattle.fed_journal.proofs.memory.MemoryDevice.replace.Goals as goal

pub invariant_of-self-then-self-eq0 : goal.invariant_of-self-then-self-eq0
invariant_of-self-then-self-eq0 c = record {
  same = λ up. cc (c.stop-then-self-eq0.ensures.down);
  whole = λ up. cc (c.stop-then-self-eq0.ensures.down);
  on_disk = unreplaced c.args.self.now.calls.items c.stop-then-self-eq0.new.calls.items c.args.bytes _ c.args.self.now.disk.items c.tear_disk.new.disk.items c.stop-then-self-eq0.ensures.noted c.args.self.now.on_disk c.tear_disk.ensures;
  cached = λ up. absurd (cc (c.stop-then-self-eq0.ensures.down));
}
