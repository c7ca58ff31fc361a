use Rattle.std.specs.Borrow.{Bor}
use Rattle.std.specs.Str.Lines.{lines}
use Rattle.std.proofs.Common.{◌≡◌, ◌∙◌, ◌++◌, [], List, ℕ, ap, append-nil, map, rules, sym}
use Rattle.fed_serve.specs.Inputs.{given_as}
use Rattle.fed_serve.proofs.InputLines.{whole_lines}
use Rattle.fed_serve.proofs.inputs.given_lines.Goals as goal

pub returns : goal.returns
returns c =
    let given = map (λ (line : Bor (List ℕ)). line.now) c.loop-line.given.items in
    let none : lines c.loop-line.rest.now ≡ [] = search rules in
    sym (append-nil given) ∙ ap (λ (ls : List (List ℕ)). given ++ map given_as ls) (sym none) ∙ c.loop-line.invariant ∙ sym (whole_lines c.args.text.now c.requires)
