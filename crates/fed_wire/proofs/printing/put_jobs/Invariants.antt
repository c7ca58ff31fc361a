use Rattle.std.specs.Prelude.{IsTrue}
use Rattle.std.proofs.Common.{◌≡◌, ◌++◌, false, map, length, All}
use Rattle.std.specs.Map.{values_of}
use Rattle.serde_json.specs.View.{items_of}
use Rattle.serde_json.specs.Written.{items_text}
use Rattle.fed_record.specs.JobRecord.{JobRecordValue, job_reads}
use Rattle.fed_model.specs.Letter.{is_submitted}
use Rattle.fed_job_json.specs.declared.formats.Format.TheVariants.{Two}
use Rattle.fed_job_json.specs.Job.{job_value}
use Rattle.fed_wire.specs.Printed.{ArePrinted}
use Rattle.fed_wire.proofs.printing.put_jobs.Given as goal

abbrev pub invariant-loop-id : goal.invariant-loop-id
invariant-loop-id l = record {
  left : l.text.items ++ items_text l.later (items_of (map (job_value Two) l.id-iterator)) ≡ l.fn.text.items ++ items_text false (items_of (map (job_value Two) l.delta.changes.jobs));
  printed : ArePrinted (items_of (map (job_value Two) l.id-iterator)) → ArePrinted (items_of (map (job_value Two) l.delta.changes.jobs));
  submitted : All (λ (r : JobRecordValue). IsTrue (is_submitted (job_reads r))) (values_of l.id-iterator);
  sites : All (λ (r : JobRecordValue). length r.touched ≡ 16) (values_of l.id-iterator);
}
