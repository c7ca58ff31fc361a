use Rattle.std.proofs.Common.{◌≡◌, ◌+◌, ◌-◌, arith, length, take, drop, sym, ◌∙◌}
use Rattle.std.proofs.lemmas.Grind.{common_steps}
use Rattle.fed_script.proofs.LineCuts.{lines-first, lines-last}
use Rattle.fed_script.proofs.lines.split_line.Goals as goal

pub returns-in-Some-clause-some : goal.returns-in-Some-clause-some
returns-in-Some-clause-some c =
    let rest : take (length c.args.script.now - (c.in-Some.end + 1)) (drop (c.in-Some.end + 1) c.args.script.now) ≡ drop (c.in-Some.end + 1) c.args.script.now = grind (arith, common_steps) in
    rw (rest, c.without_carriage_return.ensures) (lines-first c.args.script.now c.in-Some.end (sym c.line_end.ensures ∙ c.in-Some.is))

pub returns-in-None-clause-some : goal.returns-in-None-clause-some
returns-in-None-clause-some c = lines-last c.args.script.now (sym c.line_end.ensures ∙ c.in-None.is) (sym c.is_empty.ensures ∙ c.if-is_empty.false)
