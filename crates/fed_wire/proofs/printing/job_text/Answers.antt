use Rattle.serde_json.specs.View.{view}
use Rattle.fed_wire.proofs.PlainLaws.{job_written}
use Rattle.fed_wire.proofs.printing.job_text.Goals as goal

pub returns-clause-text : goal.returns-clause-text
returns-clause-text c = (job_written (view c.in_ok-value.value) (c.args.id, c.args.job.now) c.in_ok-to_vec.field-0.items c.in_ok-value.ensures c.in_ok-to_vec.ensures.text c.in_ok-to_vec.ensures.utf8 c.in_ok-to_vec.ensures.order c.in_ok-to_vec.ensures.reads_back).0

pub returns-clause-printed : goal.returns-clause-printed
returns-clause-printed c = (job_written (view c.in_ok-value.value) (c.args.id, c.args.job.now) c.in_ok-to_vec.field-0.items c.in_ok-value.ensures c.in_ok-to_vec.ensures.text c.in_ok-to_vec.ensures.utf8 c.in_ok-to_vec.ensures.order c.in_ok-to_vec.ensures.reads_back).1
