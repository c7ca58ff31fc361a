use Rattle.fed_record.proofs.JobRecordReads.{joined_jobs_read}
use Rattle.fed_record.proofs.laws.joined_records_read.Goals as goal

pub returns : goal.returns
returns c = joined_jobs_read
