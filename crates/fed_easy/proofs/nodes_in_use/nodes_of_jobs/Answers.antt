use Rattle.std.specs.List.{filter_map}
use Rattle.std.specs.Map.Iter.{deref_pair}
use Rattle.std.proofs.Common.{◌∙◌, ◌-◌, ◌^◌, min, sym, ap}
use Rattle.std.proofs.lemmas.Map.Iter.{rest_all}
use Rattle.fed_easy.specs.Machine.{nodes_of}
use Rattle.fed_easy.proofs.BoardEntries.{entry_running, running_read}
use Rattle.fed_easy.proofs.UsedNodes.{counted_all}
use Rattle.fed_easy.proofs.nodes_in_use.nodes_of_jobs.Goals as goal

pub returns : goal.returns
returns c =
    counted_all (2 ^ 64 - 1) c.loop-job.used _ _ (ap (λ l. nodes_of (filter_map (entry_running c.args.site) l)) (rest_all deref_pair _ _ _ c.in-None.is c.next.ensures.steps)) c.loop-job.invariant.0 c.loop-job.invariant.1
    ∙ ap (λ l. min (nodes_of l) (2 ^ 64 - 1)) (sym (running_read c.args.board.now c.jobs-job-items.ensures.ascending c.jobs-job-items.ensures.ids c.args.site))
