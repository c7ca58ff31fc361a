use Rattle.std.proofs.Common.{◌≡◌, ◌++◌}
use Rattle.fed_delta.specs.Retired.{retired_beyond}
use Rattle.fed_delta.proofs.cuts.changed_retired.Given as goal

abbrev pub invariant-loop-site : goal.invariant-loop-site
invariant-loop-site l = l.changed ++ retired_beyond l.need l.site-iterator ≡ retired_beyond l.need l.board.retired
