use Rattle.std.proofs.Common.{rules, ◌++◌, ◌≡◌, List, ℕ, sym, ◌∙◌, ap}
use Rattle.std.proofs.lemmas.Slice.Eq.{bytes_eq-Decides}
use Rattle.std.specs.Slice.Iter.{chunks_rest}
use Rattle.fed_journal.proofs.ReadBack.{front_grows}
use Rattle.fed_journal.proofs.files.has_bytes.Goals as goal

pub loop-part-preserved : goal.loop-part-preserved
loop-part-preserved g c =
    let steps = c.in-Some.ensures.steps in
    let same : c.read_exact.new.buf ≡ c.in-Some.part.now = search (rules, bytes_eq-Decides) in
    record {
      can = search rules;
      ends = tt;
      size = steps.0 ∙ c.loop-part.invariant.size;
      front = front_grows _ _ _ _ _ _ _ c.loop-part.invariant.front c.in_ok-read_exact.ensures.bytes (steps.1.0 ∙ ap (λ (l : List ℕ). l ++ chunks_rest c.next.new.self) (sym same));
    }
