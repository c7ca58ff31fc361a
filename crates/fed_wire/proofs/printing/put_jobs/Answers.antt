use Rattle.std.specs.Prelude.{IsTrue}
use Rattle.std.specs.Map.{values_of}
use Rattle.std.specs.Map.Iter.{deref_pair}
use Rattle.std.proofs.Common.{◌≡◌, ◌++◌, false, length, map, All, sym, ap, subst, ◌∙◌}
use Rattle.std.proofs.lemmas.Map.Iter.{rest_more, rest_all}
use Rattle.serde_json.specs.View.{items_of}
use Rattle.serde_json.specs.Written.{items_text}
use Rattle.fed_board.specs.Board.{IsBoard}
use Rattle.fed_record.specs.JobRecord.{JobRecordValue, job_reads}
use Rattle.fed_model.specs.Letter.{is_submitted}
use Rattle.fed_job_json.specs.declared.formats.Format.TheVariants.{Two}
use Rattle.fed_job_json.specs.Job.{job_value}
use Rattle.fed_wire.specs.Printed.{ArePrinted}
use Rattle.fed_wire.proofs.PrintedLaws.{none_printed}
use Rattle.fed_wire.proofs.WriteLaws.{first_holds, rest_holds, pushed_text, rest_printed, have_counters}
use Rattle.fed_wire.proofs.printing.put_jobs.Goals as goal

pub loop-id-init : goal.loop-id-init
loop-id-init c =
    let all = c.into_iter-id-iterator.ensures.into_iter_gives ∙ c.jobs-id-items.ensures.entries in
    record {
      left = ap (λ es. c.args.text.now.items ++ items_text false (items_of (map (job_value Two) es))) all;
      printed = λ h. subst (λ es. ArePrinted (items_of (map (job_value Two) es))) all h;
      submitted = subst (λ l. All (λ (r : JobRecordValue). IsTrue (is_submitted (job_reads r))) (values_of l)) (sym all) c.jobs-id-items.ensures.submitted;
      sites = subst (λ l. All (λ (r : JobRecordValue). length r.touched ≡ 16) (values_of l)) (sym all) (have_counters c.args.delta.now.changes (subst IsBoard c.changes.ensures c.records_are_covered.ensures) c.jobs-id-items.ensures.ascending);
    }

pub put_job-requires-clause-submitted : goal.put_job-requires-clause-submitted
put_job-requires-clause-submitted c =
    let first = rest_more deref_pair _ _ _ _ c.in-Some.is c.next.ensures.steps in
    first_holds _ _ _ _ first (λ (r : JobRecordValue). IsTrue (is_submitted (job_reads r))) c.loop-id.invariant.submitted

pub put_job-requires-clause-sites : goal.put_job-requires-clause-sites
put_job-requires-clause-sites c =
    let first = rest_more deref_pair _ _ _ _ c.in-Some.is c.next.ensures.steps in
    first_holds _ _ _ _ first (λ (r : JobRecordValue). length r.touched ≡ 16) c.loop-id.invariant.sites

pub loop-id-preserved : goal.loop-id-preserved
loop-id-preserved c =
    let first = rest_more deref_pair _ _ _ _ c.in-Some.is c.next.ensures.steps in
    record {
      left = pushed_text _ _ _ _ first (job_value Two) c.loop-id.later c.loop-id.text.items c.put_job.new.text.items _ c.loop-id.invariant.left c.in_ok-put_job.ensures.text;
      printed = λ h. c.loop-id.invariant.printed (rest_printed _ _ _ _ first (job_value Two) c.in_ok-put_job.ensures.printed h);
      submitted = rest_holds _ _ _ _ first (λ (r : JobRecordValue). IsTrue (is_submitted (job_reads r))) c.loop-id.invariant.submitted;
      sites = rest_holds _ _ _ _ first (λ (r : JobRecordValue). length r.touched ≡ 16) c.loop-id.invariant.sites;
    }

pub returns-clause-text : goal.returns-clause-text
returns-clause-text c =
    let none = rest_all deref_pair _ _ _ c.in-None.is c.next.ensures.steps in
    sym (ap (λ es. c.loop-id.text.items ++ items_text c.loop-id.later (items_of (map (job_value Two) es))) none) ∙ c.loop-id.invariant.left

pub returns-clause-printed : goal.returns-clause-printed
returns-clause-printed c =
    let none = rest_all deref_pair _ _ _ c.in-None.is c.next.ensures.steps in
    c.loop-id.invariant.printed (subst (λ es. ArePrinted (items_of (map (job_value Two) es))) (sym none) none_printed)
