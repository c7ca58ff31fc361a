use Rattle.std.specs.Map.Iter.{deref_pair}
use Rattle.std.specs.List.{filter_map}
use Rattle.std.proofs.Common.{◌≡◌, sym, ◌∙◌}
use Rattle.std.proofs.lemmas.List.Elements.{All-push}
use Rattle.std.proofs.lemmas.Map.Iter.{rest_all}
use Rattle.fed_easy.specs.Promises.{IsSized}
use Rattle.fed_easy.proofs.BoardEntries.{entry_waiting, none_left, waiting_done, waiting_more}
use Rattle.fed_easy.proofs.InOrder.{distinct_jobs}
use Rattle.fed_easy.proofs.queues.waiting_jobs.Goals as goal

pub loop-id-preserved-in-Continue-1 : goal.loop-id-preserved-in-Continue-1
loop-id-preserved-in-Continue-1 c =
    let items = c.in_ok-push.ensures.items in
    record {
      waiting = waiting_more c.args.site c.args.capacity c.loop-id.waiting.items c.push.new.self.items c.loop-id.id-iterator (c.in-Some.id.now, c.in-Some.job.now) c.next.new.self c.in-Some-queued.entry _
          c.in-Some.ensures.steps (sym c.queued.ensures.job ∙ c.in-Some-queued.is) items c.loop-id.invariant.waiting;
      sized = rw items (All-push (IsSized c.args.capacity) c.loop-id.waiting.items c.in-Some-queued.entry c.loop-id.invariant.sized c.in-Some-queued.ensures.sized);
    }

-- all entries are looked at
whole : (c : goal.In-None) → c.loop-id.waiting.items ≡ filter_map (entry_waiting c.args.site c.args.capacity) c.args.board.now.jobs
whole c = none_left c.args.site c.args.capacity c.loop-id.waiting.items c.loop-id.id-iterator _ c.loop-id.invariant.waiting (rest_all deref_pair _ _ _ c.in-None.is c.next.ensures.steps)

pub returns-clause-waiting : goal.returns-clause-waiting
returns-clause-waiting c = waiting_done c.args.board.now c.jobs-id-items.ensures.ascending c.jobs-id-items.ensures.ids c.args.site c.args.capacity c.loop-id.waiting.items (whole c)

pub returns-clause-distinct : goal.returns-clause-distinct
returns-clause-distinct c = distinct_jobs c.args.site c.args.capacity c.args.board.now.jobs c.loop-id.waiting.items c.jobs-id-items.ensures.ascending (whole c)
