use Rattle.std.proofs.Common.{◌≡◌, None, refl, sym, ◌∙◌}
use Rattle.fed_stamp.specs.Roster.{IsRoster, first_fault, sites_of}
use Rattle.fed_stamp.proofs.RosterLemmas.{roster_from_no_fault, no_fault_from_roster, sites_in-places}
use Rattle.fed_stamp.proofs.rosters.Roster.new.Goals as goal
use Rattle.fed_stamp.proofs.rosters.Roster.new.Goals.{After-stored}

none : (c : After-stored) → first_fault (sites_of c.args.sites.now) ≡ None
none c = sym c.first_fault.ensures ∙ c.in-None.is

roster : (c : After-stored) → IsRoster (sites_of c.args.sites.now)
roster c = roster_from_no_fault _ (none c)

pub stored-requires : goal.stored-requires
stored-requires c = roster_from_no_fault _ (sym c.first_fault.ensures ∙ c.in-None.is)

pub invariant_of-result : goal.invariant_of-result
invariant_of-result c = rw (c.stored.ensures, sites_in-places) (refl, roster c)

pub returns-in-Some-clause-lawful : goal.returns-in-Some-clause-lawful
returns-in-Some-clause-lawful c = (λ h. absurd (cc), λ r. let e : first_fault (sites_of c.args.sites.now) ≡ None = no_fault_from_roster _ r in absurd (cc))

pub returns-in-None-clause-same : goal.returns-in-None-clause-same
returns-in-None-clause-same c = rw (c.stored.ensures, sites_in-places, none c) refl

pub returns-in-None-clause-lawful : goal.returns-in-None-clause-lawful
returns-in-None-clause-lawful c = (λ _. roster c, λ _. refl)
