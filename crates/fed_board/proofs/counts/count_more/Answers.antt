use Rattle.std.proofs.Common.{arith, length, slice_index_or, ◌+◌, sym, ◌∙◌}
use Rattle.std.specs.Map.{keys_of}
use Rattle.std.proofs.lemmas.List.{length-set}
use Rattle.std.proofs.lemmas.Map.Entries.{length-keys_of}
use Rattle.fed_lattice.proofs.EntryLoops.{drop_item}
use Rattle.fed_board.proofs.CountLaws.{counting_more, counting_fits}
use Rattle.fed_board.proofs.counts.count_more.Goals as goal

pub overflow_add-more : goal.overflow_add-more
overflow_add-more g c =
    let fits = counting_fits c.loop-id.more (keys_of c.args.table.now) _ _ c.id-item.result c.get.result c.loop-id.invariant.0 c.get.ensures.in_range (c.get.ensures.same ∙ c.site.ensures)
    (drop_item c.args.ids.now _ _ c.loop-id-test.true c.id-item.is)
    (length c.args.table.now) (sym (length-keys_of c.args.table.now)) c.loop-id.invariant.1 in
    omega (arith, fits, c.table_is_countable.ensures)

pub loop-id-preserved : goal.loop-id-preserved
loop-id-preserved g c = (
  length-set c.loop-id.more c.get.result (slice_index_or c.loop-id.more c.get.result 0 + 1) ∙ c.loop-id.invariant.0,
  counting_more c.loop-id.more (keys_of c.args.table.now) _ _ c.id-item.result c.get.result c.loop-id.invariant.0 c.get.ensures.in_range (c.get.ensures.same ∙ c.site.ensures)
      (drop_item c.args.ids.now _ _ c.loop-id-test.true c.id-item.is) c.loop-id.invariant.1,
)
