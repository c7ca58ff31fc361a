use Rattle.std.proofs.Common.{map}
use Rattle.fed_script.proofs.WordCuts.{AreCut}
use Rattle.fed_script.proofs.lines.push_words.Given as goal

abbrev pub invariant-loop-index : goal.invariant-loop-index
invariant-loop-index l = AreCut l.line (map (λ word. word.now) l.words.items) l.start l.index
