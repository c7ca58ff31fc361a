use Rattle.std.proofs.Common.{arith, rules, refl, sym, ap, ◌≡◌, ◌≤◌, ◌∙◌, ℕ, List, length}
use Rattle.fed_journal.specs.Calls.{overlaid}
use Rattle.fed_journal.specs.declared.calls.Call.TheVariants.{Wrote}
use Rattle.fed_journal.proofs.Tearing.{noted_time, same_after, whole_after, wrote_cached, wrote_disk, torn_none}
use Rattle.fed_journal.proofs.memory.MemoryDevice.write_at.Goals as goal

pub invariant_of-self-then-self-eq0 : goal.invariant_of-self-then-self-eq0
invariant_of-self-then-self-eq0 c = record {
  same = λ up. cc (c.stop-then-self-eq0.ensures.down);
  whole = λ up. cc (c.stop-then-self-eq0.ensures.down);
  on_disk = wrote_disk c.args.self.now.calls.items c.stop-then-self-eq0.new.calls.items c.args.at c.in_ok-written.written _ c.stop-then-self-eq0.ensures.noted c.args.self.now.disk.items c.tear_disk.new.disk.items c.args.self.now.on_disk c.tear_disk.ensures;
  cached = λ up. absurd (cc (c.stop-then-self-eq0.ensures.down));
}

pub invariant_of-self-2 : goal.invariant_of-self-2
invariant_of-self-2 c =
    let calls = c.args.self.now.calls.items in
    let new = c.and-self.result.items in
    let text : c.in_ok-written.written.items ≡ c.args.bytes.now = search rules in
    let over : c.in_ok-changed.changed.items ≡ overlaid c.args.at c.in_ok-written.written.items c.args.self.now.bytes.items =
    c.in_ok-changed.ensures ∙ ap (λ (f : List ℕ). overlaid c.args.at c.args.bytes.now f) c.deref.ensures.value ∙ ap (λ (b : List ℕ). overlaid c.args.at b c.args.self.now.bytes.items) (sym text) in
    record {
      same = λ up. same_after calls new (Wrote c.args.at c.in_ok-written.written) c.args.self.now.bytes.items c.in_ok-changed.changed.items c.and-self.ensures (c.args.self.now.same up) over;
      whole = λ up. whole_after calls new (Wrote c.args.at c.in_ok-written.written) c.and-self.ensures (c.args.self.now.whole up);
      on_disk = wrote_disk calls new c.args.at c.in_ok-written.written _ c.and-self.ensures c.args.self.now.disk.items c.args.self.now.disk.items c.args.self.now.on_disk (torn_none _ _ _);
      cached = λ up.
          let room : c.args.at ≤ length c.args.self.now.bytes.items = omega (arith, c.requires, ap length (c.args.self.now.same up)) in
          wrote_cached calls new c.args.at c.in_ok-written.written _ c.and-self.ensures c.args.self.now.disk.items c.args.self.now.bytes.items c.in_ok-changed.changed.items _ room (c.args.self.now.same up) over refl c.args.self.now.on_disk;
    }

pub returns-clause-time : goal.returns-clause-time
returns-clause-time c = noted_time c.args.self.now.calls.items c.and-self.result.items _ c.and-self.ensures
