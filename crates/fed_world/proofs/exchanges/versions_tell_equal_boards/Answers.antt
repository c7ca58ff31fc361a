use Rattle.std.proofs.Common.{ℕ, List, ap, sym, ◌∙◌}
use Rattle.fed_model.specs.View.{View}
use Rattle.fed_theory.proofs.EqualVersions.{same_version_same_set}
use Rattle.fed_world.proofs.exchanges.versions_tell_equal_boards.Goals as goal

pub returns-clause-sets : goal.returns-clause-sets
returns-clause-sets c = same_version_same_set

pub returns-clause-boards : goal.returns-clause-boards
returns-clause-boards c = λ n events few a b left right same.
    let version : View → List ℕ = λ v. v.version in
    c.same_sets_have_equal_boards.ensures n events few a b left right
    (same_version_same_set n events few a b (sym (ap version left) ∙ same ∙ ap version right))
