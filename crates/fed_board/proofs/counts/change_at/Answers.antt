use Rattle.std.proofs.Common.{◌≡◌, ◌<◌, ◌≤◌, arith, length, slice_index_or, slice_set, ◌+◌, sym, ap, subst, ◌∙◌}
use Rattle.std.specs.BTreeMap.{insert_entry}
use Rattle.std.specs.Map.{keys_of}
use Rattle.fed_lattice.specs.Latest.{stamp_cmp}
use Rattle.fed_lattice.specs.Table.{value_at}
use Rattle.fed_board.specs.Counts.{AreCounts}
use Rattle.fed_board.proofs.CountLaws.{counted_new, count_fits, counted_present}
use Rattle.fed_board.proofs.counts.change_at.Goals as goal

pub overflow_add-counts : goal.overflow_add-counts
overflow_add-counts g c =
    let w = g.V.Causal.applied (value_at stamp_cmp g.V.Causal.bottom c.args.table.now c.args.id) c.args.at c.args.operation.now in
    let after : c.len.result ≡ length (insert_entry stamp_cmp c.args.table.now c.args.id w) = c.len.ensures ∙ ap length c.in_ok-apply_to.ensures.applied in
    let longer : length c.args.table.now < length (insert_entry stamp_cmp c.args.table.now c.args.id w) = omega (arith, after, c.len-before.ensures) in
    let fits = count_fits c.args.counts.now c.args.table.now c.args.id w c.get.result c.requires.counts c.told-counts c.get.ensures.in_range (c.get.ensures.same ∙ c.site.ensures)
    c.len.result longer after in
    omega (arith, fits, c.len.type_inv)

pub returns-then-len-before-clause-counted : goal.returns-then-len-before-clause-counted
returns-then-len-before-clause-counted g c =
    let w = g.V.Causal.applied (value_at stamp_cmp g.V.Causal.bottom c.args.table.now c.args.id) c.args.at c.args.operation.now in
    let i = c.get.result in
    let after : c.len.result ≡ length (insert_entry stamp_cmp c.args.table.now c.args.id w) = c.len.ensures ∙ ap length c.in_ok-apply_to.ensures.applied in
    let longer : length c.args.table.now < length (insert_entry stamp_cmp c.args.table.now c.args.id w) = omega (arith, after, c.len-before.ensures) in
    subst (λ t. AreCounts (slice_set c.args.counts.now i (slice_index_or c.args.counts.now i 0 + 1)) (keys_of t)) (sym c.in_ok-apply_to.ensures.applied)
    (counted_new c.args.counts.now c.args.table.now c.args.id w i c.requires.counts c.told-counts c.get.ensures.in_range (c.get.ensures.same ∙ c.site.ensures) longer)

pub returns-else-len-before-clause-counted : goal.returns-else-len-before-clause-counted
returns-else-len-before-clause-counted g c =
    let w = g.V.Causal.applied (value_at stamp_cmp g.V.Causal.bottom c.args.table.now c.args.id) c.args.at c.args.operation.now in
    let after : c.len.result ≡ length (insert_entry stamp_cmp c.args.table.now c.args.id w) = c.len.ensures ∙ ap length c.in_ok-apply_to.ensures.applied in
    let short : length (insert_entry stamp_cmp c.args.table.now c.args.id w) ≤ length c.args.table.now = omega (arith, after, c.len-before.ensures) in
    subst (λ t. AreCounts c.args.counts.now (keys_of t)) (sym c.in_ok-apply_to.ensures.applied)
    (counted_present c.args.counts.now c.args.table.now c.args.id w c.requires.counts short)
