use Rattle.std.proofs.Common.{sym, ap, ◌∙◌}
use Rattle.std.specs.List.{list_any}
use Rattle.std.proofs.lemmas.List.Sorted.{list_any-IsPermutation}
use Rattle.fed_stamp.specs.Stamp.{same_stamp}
use Rattle.fed_easy.proofs.queues.sorted.Goals as goal

pub returns-clause-same : goal.returns-clause-same
returns-clause-same c = λ job.
    sym (list_any-IsPermutation (same_stamp job) c.in_ok-sorted.sorted.items c.sort.new.self.items c.in_ok-sort.ensures.permutation)
    ∙ ap (list_any (same_stamp job)) (c.in_ok-sorted.ensures.items_if_clones_equal (λ x y e. e))
