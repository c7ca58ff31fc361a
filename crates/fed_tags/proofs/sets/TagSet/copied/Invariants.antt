use Rattle.std.proofs.Common.{◌≡◌, take}
use Rattle.fed_tags.proofs.sets.TagSet.copied.Given as goal

abbrev pub invariant-loop-element : goal.invariant-loop-element
invariant-loop-element g l = l.groups.items ≡ take l.element-index l.element-items
