use Rattle.std.proofs.Common.{◌≡◌, ◌++◌, ◌∷◌, [], ◌≤◌, Some, length, sym, ap, ◌∙◌, arith}
use Rattle.std.specs.Map.Iter.{deref_pair}
use Rattle.std.specs.Option.{option_map}
use Rattle.std.proofs.lemmas.List.{length-append}
use Rattle.std.proofs.lemmas.Map.Iter.{rest_all, rest_more}
use Rattle.fed_record.specs.JobRecord.{job_reads}
use Rattle.fed_board.specs.Board.{board_reads}
use Rattle.fed_easy.specs.declared.machines.MachineFault.TheVariants.{Entry}
use Rattle.fed_easy.specs.declared.machines.TheConstants.{MAX_RUNNING}
use Rattle.fed_easy.specs.Machine.{first_fault, running_in, running_of}
use Rattle.fed_easy.proofs.BadEntries.{fault_of_few, is_count, one_is_left, passed_more, too_many}
use Rattle.fed_easy.proofs.BoardEntries.{entry_running, running_done, running_read}
use Rattle.fed_easy.proofs.machines.first_fault_on.Goals as goal

pub returns-then-count-eq-MAX_RUNNING : goal.returns-then-count-eq-MAX_RUNNING
returns-then-count-eq-MAX_RUNNING c =
    let so_far = c.loop-job.invariant in
    let first = rest_more deref_pair _ _ _ _ c.in-Some.is c.next.ensures.steps in
    let entry : running_of c.args.site (job_reads c.in-Some.job.now) ≡ Some c.in-Some-running_job.entry = sym c.running_job.ensures ∙ c.in-Some-running_job.is in
    let more = passed_more (entry_running c.args.site) c.args.board.now.jobs _ _ so_far.0 _ c.in-Some-running_job.entry so_far.1 first entry in
    let whole = more ∙ sym (running_read c.args.board.now c.jobs-job-items.ensures.ascending c.jobs-job-items.ensures.ids c.args.site) in
    let left = one_is_left so_far.0 _ _ c.in-Some-running_job.entry whole in
    too_many c.args.nodes (is_count c.args.nodes (omega (arith, c.if-nodes-lt1.false)) (omega (arith, c.if-nodes-gt-MAX_NODES.false))) (running_in c.args.site (board_reads c.args.board.now)) (omega (arith, so_far.2, c.if-count-eq-MAX_RUNNING.true, left))

pub loop-job-preserved : goal.loop-job-preserved
loop-job-preserved c =
    let so_far = c.loop-job.invariant in
    let first = rest_more deref_pair _ _ _ _ c.in-Some.is c.next.ensures.steps in
    let entry : running_of c.args.site (job_reads c.in-Some.job.now) ≡ Some c.in-Some-running_job.entry = sym c.running_job.ensures ∙ c.in-Some-running_job.is in (
      so_far.0 ++ c.in-Some-running_job.entry ∷ [],
      passed_more (entry_running c.args.site) c.args.board.now.jobs _ _ so_far.0 _ c.in-Some-running_job.entry so_far.1 first entry,
      omega (arith, so_far.2, length-append so_far.0 (c.in-Some-running_job.entry ∷ [])),
      omega (arith, so_far.3, c.if-count-eq-MAX_RUNNING.false),
      c.bad_with-bad.ensures so_far.0 so_far.2 so_far.4,
    )

pub returns-in-Some-bad : goal.returns-in-Some-bad
returns-in-Some-bad c =
    let so_far = c.loop-job.invariant in
    let done = running_done c.args.board.now c.jobs-job-items.ensures.ascending c.jobs-job-items.ensures.ids c.args.site so_far.0 c.loop-job.job-iterator so_far.1 (rest_all deref_pair _ _ _ c.in-None.is c.next.ensures.steps) in
    let few : length so_far.0 ≤ MAX_RUNNING = omega (arith, so_far.2, so_far.3) in
    sym (ap (option_map Entry) (sym so_far.4 ∙ c.in-Some-bad.is))
    ∙ fault_of_few c.args.nodes (is_count c.args.nodes (omega (arith, c.if-nodes-lt1.false)) (omega (arith, c.if-nodes-gt-MAX_NODES.false))) so_far.0 few
    ∙ ap (first_fault c.args.nodes) done

pub returns-in-None-bad : goal.returns-in-None-bad
returns-in-None-bad c =
    let so_far = c.loop-job.invariant in
    let done = running_done c.args.board.now c.jobs-job-items.ensures.ascending c.jobs-job-items.ensures.ids c.args.site so_far.0 c.loop-job.job-iterator so_far.1 (rest_all deref_pair _ _ _ c.in-None.is c.next.ensures.steps) in
    let few : length so_far.0 ≤ MAX_RUNNING = omega (arith, so_far.2, so_far.3) in
    sym (ap (option_map Entry) (sym so_far.4 ∙ c.in-None-bad.is))
    ∙ fault_of_few c.args.nodes (is_count c.args.nodes (omega (arith, c.if-nodes-lt1.false)) (omega (arith, c.if-nodes-gt-MAX_NODES.false))) so_far.0 few
    ∙ ap (first_fault c.args.nodes) done
