use Rattle.std.proofs.Common.{◌≡◌, false}
use Rattle.fed_ranges.specs.Retired.{has_retired}
use Rattle.fed_delta.proofs.PartLaws.{IsLeft}
use Rattle.fed_delta.proofs.parts.are_kept.Given as goal

abbrev pub invariant-loop-id : goal.invariant-loop-id
invariant-loop-id g l = IsLeft (λ id x. has_retired l.retired id ≡ false) l.table l.id-iterator
