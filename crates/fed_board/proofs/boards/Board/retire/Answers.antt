use Rattle.std.proofs.Common.{◌≡◌, true, filter, sym, ap, subst, ◌∙◌}
use Rattle.std.specs.List.Sorted.{IsStrictlySortedBy}
use Rattle.std.specs.Map.{keys_of}
use Rattle.std.specs.Ordering.{nat_cmp}
use Rattle.fed_stamp.specs.Version.{covers}
use Rattle.fed_lattice.specs.Latest.{stamp_cmp}
use Rattle.fed_lattice.specs.Table.{applied_table}
use Rattle.fed_model.specs.Body.{Body.Retire}
use Rattle.fed_ranges.specs.Dropped.{dropped}
use Rattle.fed_ranges.specs.Retired.{has_retired}
use Rattle.fed_ranges.specs.Retirements.{no_retirements, applied_retirements}
use Rattle.fed_theory.specs.ViewSteps.{add_to_view}
use Rattle.fed_board.specs.Board.{BoardValue, IsBoard, board_reads}
use Rattle.fed_board.specs.Changes.{AreListed}
use Rattle.fed_board.specs.Retiring.{is_of_range}
use Rattle.fed_board.proofs.BoardKeeps.{changed_ranges_keeps}
use Rattle.fed_board.proofs.BoardReads.{changed_ranges_read}
use Rattle.fed_board.proofs.ListedJobs.{dropped_listed}
use Rattle.fed_board.proofs.RetiredTables.{all_apart, range_added}
use Rattle.fed_board.proofs.Retirings.{range_dropped}
use Rattle.fed_board.proofs.boards.Board.retire.Goals as goal

pub invariant_of-self-2 : goal.invariant_of-self-2
invariant_of-self-2 c =
    let b : BoardValue = record { version = c.self.inside.version; retired = c.self.inside.retired; jobs = c.self.inside.jobs; reservations = c.self.inside.reservations } in
    let at = c.args.at in
    let range = c.args.range in
    let i = c.self.invariant.0 in
    let apart = all_apart b.version b.retired i.retired in
    let ascending = subst (λ (x : BoardValue). IsStrictlySortedBy stamp_cmp (keys_of x.jobs)) (sym c.self.view_is) c.tables_are_well_formed.ensures.jobs.0 in
    let ascend = subst (λ (x : BoardValue). IsStrictlySortedBy stamp_cmp (keys_of x.reservations)) (sym c.self.view_is) c.tables_are_well_formed.ensures.reservations.0 in
    let version = c.raise.ensures.raised in
    let retired : c.apply_at.new.self ≡ range_added b.retired at range = c.in_ok-apply_at.ensures.applied ∙ ap (λ s. applied_table nat_cmp no_retirements applied_retirements b.retired at (s, range)) c.site-3.ensures in
    let jobs : c.drop_ids.new.table ≡ dropped (has_retired (range_added b.retired at range)) b.jobs = range_dropped b.retired at range b.jobs c.drop_ids.new.table c.deref.result.now apart c.requires.some ascending i.kept_jobs
    (c.deref.ensures.value ∙ c.in_ok-jobs.ensures ∙ ap (λ s. filter (is_of_range s range) (keys_of b.jobs)) c.site.ensures) c.drop_ids.ensures.dropped in
    let reservations : c.drop_ids-2.new.table ≡ dropped (has_retired (range_added b.retired at range)) b.reservations = range_dropped b.retired at range b.reservations c.drop_ids-2.new.table c.deref-2.result.now apart c.requires.some ascend i.kept_reservations
    (c.deref-2.ensures.value ∙ c.in_ok-reservations.ensures ∙ ap (λ s. filter (is_of_range s range) (keys_of b.reservations)) c.site-2.ensures) c.drop_ids-2.ensures.dropped in
    let seen = subst (λ v. covers v at ≡ true) c.raise.ensures.raised c.raise.ensures.seen in
    let keeps = changed_ranges_keeps b at range i c.raise.ensures.site seen c.requires.first c.requires.some c.requires.given in
    let v = sym version in
    let r = sym retired in
    let j = sym jobs in
    let w = sym reservations in (
      subst IsBoard (λ n. record { version = v n; retired = r n; jobs = j n; reservations = w n }) keeps,
      c.drop_ids.ensures.counted,
      c.drop_ids-2.ensures.counted,
      subst (AreListed c.self.inside.changes) j (dropped_listed c.self.inside.changes (has_retired (range_added b.retired at range)) b.jobs c.self.invariant.3),
    )

pub returns-clause-added : goal.returns-clause-added
returns-clause-added c =
    let b : BoardValue = record { version = c.self.inside.version; retired = c.self.inside.retired; jobs = c.self.inside.jobs; reservations = c.self.inside.reservations } in
    let at = c.args.at in
    let range = c.args.range in
    let i = c.self.invariant.0 in
    let apart = all_apart b.version b.retired i.retired in
    let ascending = subst (λ (x : BoardValue). IsStrictlySortedBy stamp_cmp (keys_of x.jobs)) (sym c.self.view_is) c.tables_are_well_formed.ensures.jobs.0 in
    let ascend = subst (λ (x : BoardValue). IsStrictlySortedBy stamp_cmp (keys_of x.reservations)) (sym c.self.view_is) c.tables_are_well_formed.ensures.reservations.0 in
    let version = c.raise.ensures.raised in
    let retired : c.apply_at.new.self ≡ range_added b.retired at range = c.in_ok-apply_at.ensures.applied ∙ ap (λ s. applied_table nat_cmp no_retirements applied_retirements b.retired at (s, range)) c.site-3.ensures in
    let jobs : c.drop_ids.new.table ≡ dropped (has_retired (range_added b.retired at range)) b.jobs = range_dropped b.retired at range b.jobs c.drop_ids.new.table c.deref.result.now apart c.requires.some ascending i.kept_jobs
    (c.deref.ensures.value ∙ c.in_ok-jobs.ensures ∙ ap (λ s. filter (is_of_range s range) (keys_of b.jobs)) c.site.ensures) c.drop_ids.ensures.dropped in
    let reservations : c.drop_ids-2.new.table ≡ dropped (has_retired (range_added b.retired at range)) b.reservations = range_dropped b.retired at range b.reservations c.drop_ids-2.new.table c.deref-2.result.now apart c.requires.some ascend i.kept_reservations
    (c.deref-2.ensures.value ∙ c.in_ok-reservations.ensures ∙ ap (λ s. filter (is_of_range s range) (keys_of b.reservations)) c.site-2.ensures) c.drop_ids-2.ensures.dropped in
    (λ n. board_reads (record { version = version n; retired = retired n; jobs = jobs n; reservations = reservations n }))
    ∙ changed_ranges_read b at range apart c.raise.ensures.site c.requires.some
    ∙ ap (λ x. add_to_view (board_reads x) (at, Retire range.first range.last)) c.self.view_is
