use Rattle.std.proofs.Common.{◌++◌}
use Rattle.fed_world.proofs.exchanges.exchanged_boards_are_equal.Goals as goal

pub returns : goal.returns
returns c = λ n early late few exchange a b small there left right.
    c.same_sets_have_equal_boards.ensures n (early ++ late) few a b left right (c.exchanges_converge.ensures n early late few exchange a b small there)
