use Rattle.std.proofs.Common.{◌≡◌, string_bytes, take}
use Rattle.fed_main.specs.Reports.{answers_of}
use Rattle.fed_main.proofs.live_runs.answers.Given as goal

abbrev pub invariant-loop-site : goal.invariant-loop-site
invariant-loop-site l = string_bytes l.text ≡ answers_of (take l.site-index l.reports)
