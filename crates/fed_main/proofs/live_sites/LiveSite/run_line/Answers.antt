use Rattle.std.proofs.Common.{subst}
use Rattle.std.specs.Prelude.{OnOk}
use Rattle.fed_qstat.specs.Listed.{listed}
use Rattle.fed_main.specs.Thread.{reads, Answers, Looked}
use Rattle.fed_main.proofs.live_sites.LiveSite.run_line.Goals as goal

pub returns-in-List : goal.returns-in-List
returns-in-List g c = rw c.in-List.is
    (subst (λ jobs. OnOk c.list.result (Answers (Looked c.args.self.now.here (λ board. listed c.in-List.full c.args.self.now.sites.now.roster.now board jobs)) (reads c.args.log.now) (reads c.list.new.log)))
    c.deref-in-List.ensures.value c.list.ensures)

pub returns-in-Plan : goal.returns-in-Plan
returns-in-Plan g c = rw c.in-Plan.is c.plan.ensures
