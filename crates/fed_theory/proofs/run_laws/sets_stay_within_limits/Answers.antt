use Rattle.fed_theory.proofs.PacketLimits.{packet_within, site_within}
use Rattle.fed_theory.proofs.run_laws.sets_stay_within_limits.Goals as goal

pub returns-clause-sites : goal.returns-clause-sites
returns-clause-sites c = site_within

pub returns-clause-packets : goal.returns-clause-packets
returns-clause-packets c = packet_within
