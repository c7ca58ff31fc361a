use Rattle.std.proofs.Common.{[], ◌∙◌, ap}
use Rattle.std.proofs.lemmas.List.Sorted.{All-permutation}
use Rattle.fed_easy.specs.Promises.{IsSized}
use Rattle.fed_easy.specs.Queue.{in_order}
use Rattle.fed_easy.proofs.InOrder.{sorted_queue}
use Rattle.fed_easy.proofs.queues.queue_of.Goals as goal

pub returns-clause-queue : goal.returns-clause-queue
returns-clause-queue c =
    sorted_queue c.in_ok-queue.queue.items c.sort.new.self.items c.in_ok-queue.ensures.distinct c.in_ok-sort.ensures.permutation c.in_ok-sort.ensures.sorted
    ∙ ap (in_order []) c.in_ok-queue.ensures.waiting

pub returns-clause-sized : goal.returns-clause-sized
returns-clause-sized c =
    All-permutation (IsSized c.args.capacity) c.in_ok-queue.queue.items c.sort.new.self.items c.in_ok-sort.ensures.permutation c.in_ok-queue.ensures.sized
