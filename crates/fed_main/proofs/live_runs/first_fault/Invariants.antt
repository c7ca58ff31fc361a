use Rattle.std.proofs.Common.{◌≡◌, drop}
use Rattle.fed_main.specs.Reports.{first_fault}
use Rattle.fed_main.proofs.live_runs.first_fault.Given as goal

abbrev pub invariant-loop-site : goal.invariant-loop-site
invariant-loop-site l = first_fault l.reports ≡ first_fault (drop l.site-index l.reports)
