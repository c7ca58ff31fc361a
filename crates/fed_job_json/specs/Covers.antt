-- Whether the version of a job's operations covers every stamp in the job.
use Rattle.std.specs.Prelude.{ℕ, Bool, ◌&&◌, List}
use Rattle.std.specs.List.{list_all}
use Rattle.fed_stamp.specs.Stamp.{StampValue}
use Rattle.fed_stamp.specs.Version.{covers}
use Rattle.fed_record.specs.CoveredJob.{covers_stamps}
use Rattle.fed_record.specs.JobRecord.{JobRecordValue, job_reads}

abbrev pub covers_pairs : {E : Type 0} → List ℕ → List (E × StampValue) → Bool
covers_pairs {E} v ps = list_all (λ (p : E × StampValue). covers v p.1) ps

-- its identifier, and the tags of its holds and of its sites
abbrev pub covers_tags : StampValue × JobRecordValue → Bool
covers_tags j = covers j.1.touched j.0 && (covers_pairs j.1.touched j.1.holds && covers_pairs j.1.touched j.1.sites)

abbrev pub covers_job : StampValue × JobRecordValue → Bool
covers_job j = covers_tags j && covers_stamps (job_reads j.1)
