use Rattle.fed_record.proofs.JobRecordReads.{applied_job_reads}
use Rattle.fed_record.proofs.laws.applied_records_read.Goals as goal

pub returns : goal.returns
returns c = applied_job_reads
