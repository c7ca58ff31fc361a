use Rattle.std.proofs.Common.{arith, length, slice_index_or, ◌+◌, sym, ap, ◌∙◌}
use Rattle.std.proofs.lemmas.Map.Iter.{rest_more}
use Rattle.std.specs.Map.{keys_of}
use Rattle.std.specs.Map.Iter.{deref_pair}
use Rattle.std.proofs.lemmas.List.{length-set}
use Rattle.std.proofs.lemmas.Map.Entries.{length-keys_of}
use Rattle.fed_board.proofs.CountLaws.{counting_more, counting_fits}
use Rattle.fed_board.proofs.counts.count_ids.Goals as goal

pub overflow_add-counts : goal.overflow_add-counts
overflow_add-counts g c =
    let first = ap keys_of (rest_more deref_pair _ _ _ _ c.in-Some.is c.next.ensures.steps) in
    let fits = counting_fits c.loop-id.counts (keys_of c.args.table.now) (keys_of c.loop-id.id-iterator) (keys_of c.next.new.self) c.in-Some.id.now c.get.result c.loop-id.invariant.0 c.get.ensures.in_range (c.get.ensures.same ∙ c.site.ensures) first
    (length c.args.table.now) (sym (length-keys_of c.args.table.now)) c.loop-id.invariant.1 in
    omega (arith, fits, c.table_is_countable.ensures)

pub loop-id-preserved : goal.loop-id-preserved
loop-id-preserved g c = (
  length-set c.loop-id.counts c.get.result (slice_index_or c.loop-id.counts c.get.result 0 + 1) ∙ c.loop-id.invariant.0,
  counting_more c.loop-id.counts (keys_of c.args.table.now) (keys_of c.loop-id.id-iterator) (keys_of c.next.new.self) c.in-Some.id.now c.get.result c.loop-id.invariant.0 c.get.ensures.in_range (c.get.ensures.same ∙ c.site.ensures)
      (ap keys_of (rest_more deref_pair _ _ _ _ c.in-Some.is c.next.ensures.steps)) c.loop-id.invariant.1,
)
