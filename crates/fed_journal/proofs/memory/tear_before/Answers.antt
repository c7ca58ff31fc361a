use Rattle.std.proofs.Common.{arith, rules, sym, ◌≡◌, ◌∙◌, ◌-◌, ◌+◌, ◌<◌, ◌++◌, length, List, ℕ, Vec, ap, replicate, take, drop, vec_len}
use Rattle.std.proofs.lemmas.List.{take_all, take_rest}
use Rattle.std.proofs.lemmas.Result.{IfOk-weaker}
use Rattle.std.specs.declared.alloc.Global.{Global}
use Rattle.fed_journal.specs.Calls.{overlaid}
use Rattle.fed_journal.proofs.Tearing.{some_left, torn_back, torn_beyond}
use Rattle.fed_journal.proofs.memory.tear_before.Goals as goal
use Rattle.fed_journal.proofs.memory.tear_before.Goals.{then-missing-file+in_ok-resize, else-missing-file}

pub returns : goal.returns
returns c =
    let file = c.args.file.now in
    let m = length c.args.bytes.now - c.min.result in
    let some : m < length c.args.bytes.now = some_left c.args.bytes.now m (sym c.if-is_empty.ensures) in
    let copy : c.in_ok-longer.longer.items ≡ file = search rules in
    let size : vec_len c.in_ok-longer.longer ≡ length file = search rules in
    elim c.if-missing-file.branch [
      | then-missing-file+in_ok-resize w ↦
          let past : length file < c.args.at + m = omega (arith, w.if-missing-file.true) in
          let padded : w.resize.new.self.items ≡ file ++ replicate (c.args.at + m - length file) 0 =
          w.in_ok-resize.ensures.items ∙ ap (λ (n : ℕ). take (c.args.at + m) c.in_ok-longer.longer.items ++ replicate (c.args.at + m - n) 0) size ∙ ap (λ (f : List ℕ). take (c.args.at + m) f ++ replicate (c.args.at + m - length file) 0) copy ∙ ap (λ (l : List ℕ). l ++ replicate (c.args.at + m - length file) 0) (take_all (c.args.at + m) file (omega (arith, past))) in
          IfOk-weaker c.overlay.result _ _ (λ x e.
          torn_beyond c.args.at m (c.args.at + m - length file) c.args.bytes.now _ file c.deref.result.now x.items (take_rest c.args.bytes.now m) some c.requires past (omega (arith, past))
          (c.deref.ensures.value ∙ ap (λ (v : Vec ℕ Global). v.items) w.longer-is ∙ padded) e) c.overlay.ensures
      | else-missing-file w ↦ IfOk-weaker c.overlay.result _ _ (λ x e.
          torn_back c.args.at m c.args.bytes.now _ file x.items (take_rest c.args.bytes.now m) some (omega (arith, w.if-missing-file.false, c.requires))
          (e ∙ ap (λ (f : List ℕ). overlaid (c.args.at + m) (take (length c.args.bytes.now - m) (drop m c.args.bytes.now)) f) (c.deref.ensures.value ∙ ap (λ (v : Vec ℕ Global). v.items) w.longer-is ∙ copy))) c.overlay.ensures
    ]
