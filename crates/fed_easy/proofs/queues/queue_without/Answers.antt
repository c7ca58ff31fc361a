use Rattle.std.specs.List.{list_any}
use Rattle.std.proofs.Common.{◌≡◌, All, not, filter, sym, ap, subst, ◌∙◌, rules}
use Rattle.std.proofs.lemmas.Fn.{filter_same}
use Rattle.std.proofs.lemmas.List.Elements.{All-filter}
use Rattle.fed_stamp.specs.Stamp.{same_stamp}
use Rattle.fed_easy.specs.declared.queues.QueuedJob.{QueuedJob}
use Rattle.fed_easy.specs.Promises.{IsSized}
use Rattle.fed_easy.specs.Queue.{is_among}
use Rattle.fed_easy.proofs.queues.queue_without.Goals as goal

-- the jobs of the queue that are not left out
kept : (c : goal.After-drop-left_out) → c.retain.new.self.items ≡ filter (λ j. not (is_among c.args.jobs.now j)) c.in_ok-queue.queue.items
kept c = filter_same _ (λ (j : QueuedJob). not (is_among c.args.jobs.now j)) _ (λ x b f h.
    let same : list_any (same_stamp x.id) c.in_ok-left_out.left_out.items ≡ is_among c.args.jobs.now x = c.in_ok-left_out.ensures.same x.id in
    rw (← same) (search rules)) _ _ c.retain.ensures.filtered

pub returns-clause-queue : goal.returns-clause-queue
returns-clause-queue c = kept c ∙ ap (filter (λ (j : QueuedJob). not (is_among c.args.jobs.now j))) c.in_ok-queue.ensures.queue

pub returns-clause-sized : goal.returns-clause-sized
returns-clause-sized c =
    subst (All (IsSized c.args.capacity)) (sym (kept c)) (All-filter (λ (j : QueuedJob). not (is_among c.args.jobs.now j)) (IsSized c.args.capacity) c.in_ok-queue.queue.items c.in_ok-queue.ensures.sized)
