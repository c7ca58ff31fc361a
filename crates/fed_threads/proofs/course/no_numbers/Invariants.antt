use Rattle.std.proofs.Common.{◌≡◌, [], replicate}
use Rattle.fed_threads.specs.Course.{numbers_of}
use Rattle.fed_threads.proofs.course.no_numbers.Given as goal

abbrev pub invariant-loop-site : goal.invariant-loop-site
invariant-loop-site l = numbers_of l.numbers.items ≡ replicate l._site []
