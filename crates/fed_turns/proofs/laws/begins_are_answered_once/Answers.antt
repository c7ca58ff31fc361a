use Rattle.std.proofs.Common.{◌∷◌, ◌++◌, List, ℕ, subst}
use Rattle.fed_turns.specs.Crash.{answered}
use Rattle.fed_turns.specs.Own.{AsksToBegin}
use Rattle.fed_turns.specs.Turn.{MayTurns, beginning}
use Rattle.fed_turns.proofs.Answered.{answered_once, between_turns}
use Rattle.fed_turns.proofs.Crashes.{all_may}
use Rattle.fed_turns.proofs.laws.begins_are_answered_once.Goals as goal

pub returns-clause-turns : goal.returns-clause-turns
returns-clause-turns c whole rosters early between later t u job lawful may asks again first second =
    answered_once whole lawful.at_most rosters early between later t u job may asks again first second

pub returns-clause-happenings : goal.returns-clause-happenings
returns-clause-happenings c whole rosters early between later t u job lawful may asks again first second =
    let told = between_turns rosters early between later t u in
    answered_once whole lawful.at_most rosters told.first told.middle told.last t u job
    (subst (MayTurns whole (beginning rosters)) told.turns (all_may whole (early ++ answered t ∷ between ++ answered u ∷ later) (beginning rosters) may))
    (subst (λ (r : List (List ℕ × ℕ)). AsksToBegin r t.site t.line job) told.one asks) (subst (λ (r : List (List ℕ × ℕ)). AsksToBegin r u.site u.line job) told.two again) first second

pub returns-clause-left : goal.returns-clause-left
returns-clause-left c whole rosters happenings early between later t u job lawful may is asks again first second =
    answered_once whole lawful.at_most rosters early between later t u job (subst (MayTurns whole (beginning rosters)) is (all_may whole happenings (beginning rosters) may)) asks again first second
