use Rattle.std.specs.List.{AllByRecursion, filter_map}
use Rattle.std.proofs.Common.{All, refl, subst}
use Rattle.std.proofs.lemmas.List.Elements.{All-from_recursion}
use Rattle.fed_easy.specs.Promises.{IsSized}
use Rattle.fed_easy.proofs.BoardEntries.{entry_waiting, waiting_done}
use Rattle.fed_easy.proofs.Sized.{sized_more}
use Rattle.fed_easy.proofs.laws.waiting_jobs_are_sized.Goals as goal

pub loop-id-init : goal.loop-id-init
loop-id-init c = λ sized. rw (c.into_iter-id-iterator.ensures.into_iter_gives, c.jobs-id-items.ensures.entries) at sized

pub loop-id-preserved : goal.loop-id-preserved
loop-id-preserved c = λ sized.
    c.loop-id.invariant (sized_more c.args.site c.args.capacity c.loop-id.id-iterator (c.in-Some.id.now, c.in-Some.job.now) c.next.new.self c.queued-waiting.result
    c.in-Some.ensures.steps c.queued-waiting.ensures.job c.queued-waiting.ensures.sized sized)

pub returns : goal.returns
returns c =
    let sized : AllByRecursion (IsSized c.args.capacity) (filter_map (entry_waiting c.args.site c.args.capacity) c.args.board.now.jobs) = c.loop-id.invariant (rw c.in-None.ensures.steps.0 tt) in
    let whole = waiting_done c.args.board.now c.jobs-id-items.ensures.ascending c.jobs-id-items.ensures.ids c.args.site c.args.capacity (filter_map (entry_waiting c.args.site c.args.capacity) c.args.board.now.jobs) refl in
    subst (All (IsSized c.args.capacity)) whole (All-from_recursion (IsSized c.args.capacity) _ sized)
