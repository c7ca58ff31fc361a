use Rattle.std.proofs.Common.{refl}
use Rattle.fed_journal.specs.declared.calls.Call.TheVariants.{Resized}
use Rattle.fed_journal.proofs.Tearing.{resized_disk, resized_cached, same_after, whole_after, uncut}
use Rattle.fed_journal.proofs.memory.MemoryDevice.cut.Goals as goal

pub invariant_of-self-then-self-eq0 : goal.invariant_of-self-then-self-eq0
invariant_of-self-then-self-eq0 c = record {
  same = λ up. cc (c.stop-then-self-eq0.ensures.down);
  whole = λ up. cc (c.stop-then-self-eq0.ensures.down);
  on_disk = resized_disk c.args.self.now.calls.items c.stop-then-self-eq0.new.calls.items c.args.len _ c.stop-then-self-eq0.ensures.noted c.requires c.args.self.now.disk.items c.tear_disk.new.disk.items c.args.self.now.on_disk c.tear_disk.ensures;
  cached = λ up. absurd (cc (c.stop-then-self-eq0.ensures.down));
}

pub invariant_of-self-2 : goal.invariant_of-self-2
invariant_of-self-2 c =
    let calls = c.args.self.now.calls.items in
    let new = c.and-self.result.items in
    record {
      same = λ up. same_after calls new (Resized c.args.len) c.args.self.now.bytes.items c.truncate.new.self.items c.and-self.ensures (c.args.self.now.same up) c.truncate.ensures.items;
      whole = λ up. whole_after calls new (Resized c.args.len) c.and-self.ensures (c.args.self.now.whole up);
      on_disk = resized_disk calls new c.args.len _ c.and-self.ensures c.requires c.args.self.now.disk.items c.args.self.now.disk.items c.args.self.now.on_disk (uncut calls new c.args.len c.args.self.now.disk.items);
      cached = λ up.
          resized_cached calls new c.args.len _ c.and-self.ensures c.requires c.args.self.now.disk.items c.args.self.now.bytes.items c.truncate.new.self.items _ (c.args.self.now.same up) c.truncate.ensures.items refl c.args.self.now.on_disk;
    }
