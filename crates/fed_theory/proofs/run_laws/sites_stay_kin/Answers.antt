use Rattle.fed_theory.proofs.Promises.{all_lawful, sites_kin, packets_kin}
use Rattle.fed_theory.proofs.run_laws.sites_stay_kin.Goals as goal

pub returns-clause-lawful : goal.returns-clause-lawful
returns-clause-lawful c n events few = all_lawful n events few

pub returns-clause-kin : goal.returns-clause-kin
returns-clause-kin c n events a b few = sites_kin n events few a b

pub returns-clause-packets : goal.returns-clause-packets
returns-clause-packets c n events site k p few at = packets_kin n events few site k p at
