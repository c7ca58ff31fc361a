-- The order of a queue.
use Rattle.std.specs.declared.cmp.Ordering.{Ordering}
use Rattle.std.specs.Ordering.{bool_cmp, int_cmp, nat_cmp, ordering_then}
use Rattle.fed_lattice.specs.Latest.{stamp_cmp}
use Rattle.fed_easy.specs.declared.queues.QueuedJob.{QueuedJob}

-- granted first, then the greater priority, then the smaller stamp, and then the parts that tell all jobs apart
abbrev pub queue_cmp : QueuedJob → QueuedJob → Ordering
queue_cmp j k = ordering_then (bool_cmp k.is_granted j.is_granted)
    (ordering_then (int_cmp k.priority j.priority)
    (ordering_then (stamp_cmp j.id k.id)
    (ordering_then (nat_cmp j.nodes k.nodes) (nat_cmp j.limit k.limit))))
