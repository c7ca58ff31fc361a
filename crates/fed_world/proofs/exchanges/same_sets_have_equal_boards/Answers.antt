use Rattle.std.proofs.Common.{sym, ◌∙◌}
use Rattle.fed_theory.proofs.Convergence.{same_views}
use Rattle.fed_world.proofs.exchanges.same_sets_have_equal_boards.Goals as goal

pub returns : goal.returns
returns c = λ n events few a b left right same.
    c.boards_that_read_the_same_are_equal.ensures (left ∙ same_views n events few a b same ∙ sym right)
