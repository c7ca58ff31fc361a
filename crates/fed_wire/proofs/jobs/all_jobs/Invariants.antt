use Rattle.std.proofs.Common.{◌≡◌, [], length, map, drop}
use Rattle.std.specs.Map.{keys_of}
use Rattle.serde_json.specs.View.{view}
use Rattle.fed_job_json.specs.Job.{job_of}
use Rattle.fed_wire.specs.declared.faults.Part.TheVariants.{Jobs}
use Rattle.fed_wire.specs.Identifiers.{AreKept}
use Rattle.fed_wire.specs.Packet.{job_stands}
use Rattle.fed_wire.specs.Reading.{each_in}
use Rattle.fed_wire.proofs.jobs.all_jobs.Given as goal

abbrev pub invariant-loop-index : goal.invariant-loop-index
invariant-loop-index l = record {
  many : length l.jobs ≡ l.index;
  ids : AreKept l.ids (keys_of l.jobs);
  read : each_in Jobs (job_of l.format) (job_stands l.reached) l.jobs (map view (drop l.index l.values)) ≡ each_in Jobs (job_of l.format) (job_stands l.reached) [] (map view l.values);
}
