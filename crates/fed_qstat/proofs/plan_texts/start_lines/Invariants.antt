use Rattle.std.proofs.Common.{◌≡◌, string_bytes, flat_map, take}
use Rattle.fed_qstat.specs.PlanText.{line_of_start}
use Rattle.fed_qstat.proofs.plan_texts.start_lines.Given as goal

abbrev pub invariant-loop-job : goal.invariant-loop-job
invariant-loop-job l = string_bytes l.text ≡ flat_map (line_of_start l.roster) (take l.job-index l.starts)
