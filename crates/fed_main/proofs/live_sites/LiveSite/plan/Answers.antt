use Rattle.std.proofs.Common.{◌∙◌}
use Rattle.fed_board.specs.Board.{board_reads}
use Rattle.fed_machine.specs.Planned.{text_of_plan}
use Rattle.fed_main.specs.Thread.{Looked}
use Rattle.fed_main.proofs.Threads.{Answers-one}
use Rattle.fed_main.proofs.live_sites.LiveSite.plan.Goals as goal

pub returns : goal.returns
returns g c =
    Answers-one (Looked c.args.self.now.here (λ board. text_of_plan c.args.self.now.sites.now.roster.now board c.args.self.now.here c.args.moment)) _ _ _ _ _ _
    (record { board = board_reads c.in_ok-board.board; looks = c.in_ok-board.ensures.looks; told = c.as_str.ensures.value ∙ c.in_ok-text.ensures })
    c.board.ensures.text c.in_ok-add.ensures
