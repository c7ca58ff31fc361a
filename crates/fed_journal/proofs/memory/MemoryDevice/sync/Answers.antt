use Rattle.std.proofs.Common.{refl, rules, ◌≡◌, true}
use Rattle.fed_journal.specs.declared.calls.Call.TheVariants.{Flushed}
use Rattle.fed_journal.proofs.Tearing.{same_after, whole_after, synced_cached, synced_disk, unsynced}
use Rattle.fed_journal.proofs.memory.MemoryDevice.sync.Goals as goal

pub invariant_of-self-then-self-eq0 : goal.invariant_of-self-then-self-eq0
invariant_of-self-then-self-eq0 c = let is_up : c.args.self.now.is_up ≡ true = search rules in record {
  same = λ up. cc (c.stop-then-self-eq0.ensures.down);
  whole = λ up. cc (c.stop-then-self-eq0.ensures.down);
  on_disk = unsynced c.args.self.now.calls.items c.stop-then-self-eq0.new.calls.items _ c.args.self.now.disk.items c.args.self.now.bytes.items c.tear_last.new.disk.items c.args.self.now.change c.stop-then-self-eq0.ensures.noted c.args.self.now.on_disk (c.args.self.now.cached is_up) c.tear_last.ensures;
  cached = λ up. absurd (cc (c.stop-then-self-eq0.ensures.down));
}

pub invariant_of-self-2 : goal.invariant_of-self-2
invariant_of-self-2 c =
    let is_up : c.args.self.now.is_up ≡ true = search rules in
    let calls = c.args.self.now.calls.items in
    let new = c.and-self.result.items in
    let copy : c.in-Ok.disk.items ≡ c.args.self.now.bytes.items = search rules in
    record {
      same = λ up. same_after calls new Flushed c.args.self.now.bytes.items c.args.self.now.bytes.items c.and-self.ensures (c.args.self.now.same up) refl;
      whole = λ up. whole_after calls new Flushed c.and-self.ensures (c.args.self.now.whole up);
      on_disk = synced_disk calls new c.args.self.now.disk.items c.args.self.now.bytes.items c.in-Ok.disk.items c.args.self.now.change c.and-self.ensures (c.args.self.now.same is_up) copy (c.args.self.now.cached is_up);
      cached = λ up. synced_cached calls new c.args.self.now.disk.items c.args.self.now.bytes.items c.in-Ok.disk.items c.args.self.now.change c.and-self.ensures (c.args.self.now.same up) copy (c.args.self.now.cached up);
    }
