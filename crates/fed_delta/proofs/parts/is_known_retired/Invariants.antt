use Rattle.fed_board.specs.Board.{AreKnownRetirements}
use Rattle.fed_delta.proofs.PartLaws.{IsLeft}
use Rattle.fed_delta.proofs.parts.is_known_retired.Given as goal

abbrev pub invariant-loop-site : goal.invariant-loop-site
invariant-loop-site l = IsLeft (AreKnownRetirements l.version) l.retired l.site-iterator
