use Rattle.std.specs.Borrow.{Bor}
use Rattle.std.specs.Str.Lines.{lines}
use Rattle.std.proofs.Common.{◌≡◌, ◌++◌, List, ℕ, length, map}
use Rattle.fed_serve.specs.Inputs.{given_as}
use Rattle.fed_serve.proofs.inputs.given_lines.Given as goal

abbrev pub invariant-loop-line : goal.invariant-loop-line
invariant-loop-line l = map (λ (line : Bor (List ℕ)). line.now) l.given.items ++ map given_as (lines l.rest) ≡ map given_as (lines l.text)

abbrev pub decreases-loop-line : goal.decreases-loop-line
decreases-loop-line l = length l.rest
