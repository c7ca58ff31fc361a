use Rattle.std.proofs.Common.{◌&&◌, ap, ◌∙◌}
use Rattle.fed_record.specs.JobRecordLaws.{same_job_stages}
use Rattle.fed_record.proofs.records.JobRecord.has_same_values.Goals as goal

pub returns-then-eq : goal.returns-then-eq
returns-then-eq c = rw (← c.self.view_is, ← c.other.view_is)
    (c.eq-then-eq.ensures ∙ ap (λ b. b && same_job_stages c.self.inside.stages c.other.inside.stages) c.if-eq.ensures)

pub returns-else-eq : goal.returns-else-eq
returns-else-eq c = rw (← c.self.view_is, ← c.other.view_is)
    (c.if-eq.false ∙ ap (λ b. b && same_job_stages c.self.inside.stages c.other.inside.stages) c.if-eq.ensures)
