use Rattle.std.proofs.Common.{◌∷◌, ◌++◌, List, ℕ, subst}
use Rattle.fed_turns.specs.Crash.{answered}
use Rattle.fed_turns.specs.Own.{AsksToBegin, AsksToRetire}
use Rattle.fed_turns.specs.Turn.{MayTurns, beginning}
use Rattle.fed_turns.proofs.Answered.{begun_no_more, between_turns}
use Rattle.fed_turns.proofs.Crashes.{all_may}
use Rattle.fed_turns.proofs.laws.retired_jobs_are_begun_no_more.Goals as goal

pub returns-clause-turns : goal.returns-clause-turns
returns-clause-turns c whole rosters early between later t u job lawful may asks again first second =
    begun_no_more whole lawful.at_most rosters early between later t u job may asks again first second

pub returns-clause-happenings : goal.returns-clause-happenings
returns-clause-happenings c whole rosters early between later t u job lawful may asks again first second =
    let told = between_turns rosters early between later t u in
    begun_no_more whole lawful.at_most rosters told.first told.middle told.last t u job
    (subst (MayTurns whole (beginning rosters)) told.turns (all_may whole (early ++ answered t ∷ between ++ answered u ∷ later) (beginning rosters) may))
    (subst (λ (r : List (List ℕ × ℕ)). AsksToRetire r t.site t.line job) told.one asks) (subst (λ (r : List (List ℕ × ℕ)). AsksToBegin r u.site u.line job) told.two again) first second

pub returns-clause-left : goal.returns-clause-left
returns-clause-left c whole rosters happenings early between later t u job lawful may is asks again first second =
    begun_no_more whole lawful.at_most rosters early between later t u job (subst (MayTurns whole (beginning rosters)) is (all_may whole happenings (beginning rosters) may)) asks again first second
