use Rattle.std.proofs.Common.{string_bytes}
use Rattle.fed_record.specs.JobRecord.{job_reads}
use Rattle.fed_qstat.proofs.NamesBelow.{AreNamed}
use Rattle.fed_qstat.proofs.attributes.sites_text.Given as goal

abbrev pub invariant-loop-number : goal.invariant-loop-number
invariant-loop-number l = AreNamed l.roster (job_reads l.job) l.number (string_bytes l.text) l.is_first
