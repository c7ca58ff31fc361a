use Rattle.std.proofs.Common.{◌≡◌, ◌∙◌, ◌+◌, ap, ◌==◌, true, false, length, ℕ, List, ◌++◌, take, rules, Vec}
use Rattle.std.specs.declared.alloc.Global.{Global}
use Rattle.fed_serve.specs.Inputs.{most_bytes_of}
use Rattle.fed_serve.proofs.InputLines.{Takes, takes_none, takes_some}
use Rattle.fed_serve.proofs.inputs.take_lines.Goals as goal
use Rattle.fed_serve.proofs.inputs.take_lines.Goals.{then-not-is_empty+in_ok-extend_from_slice, else-not-is_empty}

-- what is kept of a line that has begun
abbrev front : List ℕ → List ℕ
front bytes = take (most_bytes_of bytes + 2) bytes

takes : (c : goal.After-truncate) → Takes c.args.begun.now.items c.args.chunk.now c.if-not-is_empty.taken.items c.truncate.new.self.items
takes c =
    let cut = c.split_behind_lines in
    let rest = cut.result.1.now in
    let most : c.most_of.result ≡ most_bytes_of c.extend_from_slice-2.new.self.items = search rules in
    let left : c.truncate.new.self.items ≡ take (most_bytes_of (c.if-not-is_empty.begun.items ++ rest) + 2) (c.if-not-is_empty.begun.items ++ rest) =
    c.truncate.ensures.items ∙ ap (λ n. take (n + 2) c.extend_from_slice-2.new.self.items) most ∙ ap front c.in_ok-extend_from_slice-2.ensures.items in
    elim c.if-not-is_empty.branch [
      | then-not-is_empty+in_ok-extend_from_slice w ↦
          let some : (length cut.result.0.now == 0) ≡ false = search rules in
          takes_some c.args.begun.now.items c.args.chunk.now cut.result.0.now rest c.if-not-is_empty.taken.items c.truncate.new.self.items
          cut.ensures.cut cut.ensures.whole cut.ensures.begun some
          (ap (λ (v : Vec ℕ Global). v.items) (w.taken-is ∙ w.replace-taken.ensures.value) ∙ w.in_ok-extend_from_slice.ensures.items)
          (left ∙ ap (λ (v : Vec ℕ Global). front (v.items ++ rest)) (w.begun-is ∙ w.replace-taken.ensures.after) ∙ ap (λ (bs : List ℕ). front (bs ++ rest)) w.new.ensures.items)
      | else-not-is_empty w ↦
          let empty : (length cut.result.0.now == 0) ≡ true = search rules in
          takes_none c.args.begun.now.items c.args.chunk.now cut.result.0.now rest c.if-not-is_empty.taken.items c.truncate.new.self.items
          cut.ensures.cut c.requires cut.ensures.begun empty
          (ap (λ (v : Vec ℕ Global). v.items) w.taken-is ∙ c.new-taken.ensures.items)
          (left ∙ ap (λ (v : Vec ℕ Global). front (v.items ++ rest)) w.begun-is)
    ]

pub returns-clause-lines : goal.returns-clause-lines
returns-clause-lines c = (takes c).lines

pub returns-clause-begun : goal.returns-clause-begun
returns-clause-begun c = (takes c).none

pub returns-clause-whole : goal.returns-clause-whole
returns-clause-whole c = (takes c).whole
