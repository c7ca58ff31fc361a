-- That the order of a queue is total and tells jobs apart.
use Rattle.std.specs.Prelude.{ℕ, ℤ, Bool, true, false}
use Rattle.std.specs.Ordering.{bool_cmp, int_cmp, nat_cmp}
use Rattle.std.specs.Cmp.{IsTotalOrder, nat_cmp_total, bool_cmp_total}
use Rattle.std.proofs.Common.{ap, refl, sym}
use Rattle.std.proofs.lemmas.Cmp.{on_total, then_total, back_total, int_cmp_total}
use Rattle.std.proofs.lemmas.Map.Lookups.{CmpEqualImpliesEq, exact_unsigned, exact_signed, exact_pairs}
use Rattle.fed_stamp.specs.Stamp.{StampValue}
use Rattle.fed_lattice.specs.ExactLaws.{exact_stamp}
use Rattle.fed_lattice.specs.Latest.{stamp_cmp}
use Rattle.fed_lattice.specs.LatestLaws.{stamp_total}
use Rattle.fed_easy.specs.declared.queues.QueuedJob.{QueuedJob}
use Rattle.fed_easy.specs.QueueOrder.{queue_cmp}

pub queue_total : IsTotalOrder queue_cmp
queue_total = then_total (on_total (λ (j : QueuedJob). j.is_granted) (back_total bool_cmp_total))
    (then_total (on_total (λ (j : QueuedJob). j.priority) (back_total int_cmp_total))
    (then_total (on_total (λ (j : QueuedJob). j.id) stamp_total)
    (then_total (on_total (λ (j : QueuedJob). j.nodes) nat_cmp_total) (on_total (λ (j : QueuedJob). j.limit) nat_cmp_total))))

exact_bool_back : CmpEqualImpliesEq (λ (a b : Bool). bool_cmp b a)
exact_bool_back true true e = refl
exact_bool_back false false e = refl
exact_bool_back true false e = absurd cc
exact_bool_back false true e = absurd cc

exact_int_back : CmpEqualImpliesEq (λ (a b : ℤ). int_cmp b a)
exact_int_back a b e = sym (exact_signed b a e)

abbrev Parts : Type 0
Parts = Bool × (ℤ × (StampValue × (ℕ × ℕ)))

abbrev parts_of : QueuedJob → Parts
parts_of j = (j.is_granted, (j.priority, (j.id, (j.nodes, j.limit))))

of_parts : Parts → QueuedJob
of_parts p = record { is_granted = p.0; priority = p.1.0; id = p.1.1.0; nodes = p.1.1.1.0; limit = p.1.1.1.1 }

pub exact_queue : CmpEqualImpliesEq queue_cmp
unfolding of_parts
exact_queue j k e =
    ap of_parts
    (exact_pairs (λ (a b : Bool). bool_cmp b a) _ exact_bool_back
    (exact_pairs (λ (a b : ℤ). int_cmp b a) _ exact_int_back
    (exact_pairs stamp_cmp _ exact_stamp
    (exact_pairs nat_cmp nat_cmp exact_unsigned exact_unsigned))) (parts_of j) (parts_of k) e)
