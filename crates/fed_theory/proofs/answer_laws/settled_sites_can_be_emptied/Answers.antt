use Rattle.fed_theory.proofs.Emptying.{emptied, empty_then, unreserved_then}
use Rattle.fed_theory.proofs.answer_laws.settled_sites_can_be_emptied.Goals as goal

pub returns-clause-answered : goal.returns-clause-answered
returns-clause-answered c ops here who t l next some settled = emptied ops l here who t next some settled

pub returns-clause-empty : goal.returns-clause-empty
returns-clause-empty c ops here t l at small counted = empty_then ops l here t at small counted

pub returns-clause-unreserved : goal.returns-clause-unreserved
returns-clause-unreserved c ops here t l at lawful counted = unreserved_then ops l here t at lawful counted
