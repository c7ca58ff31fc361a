use Rattle.std.specs.Prelude.{◌==◌}
use Rattle.std.proofs.Common.{◌≡◌, ◌∙◌, sym, Some, false, length, rules}
use Rattle.fed_journal.specs.Journal.{device_of}
use Rattle.fed_home.specs.Header.{header_in}
use Rattle.fed_home.proofs.FaultCases.{has_entries}
use Rattle.fed_home.proofs.HeaderLines.{header_site}
use Rattle.fed_home.proofs.homes.begin.Goals as goal

pub new-requires : goal.new-requires
new-requires g c =
    let e : header_in c.args.header.now ≡ Some c.in-Some.named = sym c.in_ok-named.ensures ∙ c.in-Some.is in
    header_site c.args.header.now c.in-Some.named e

pub returns-then-not-is_empty-clause-fault : goal.returns-then-not-is_empty-clause-fault
returns-then-not-is_empty-clause-fault g c =
    let some : (length c.args.entries.now == 0) ≡ false = search rules in
    has_entries (g.D.Device.seen (device_of c.args.journal.now)) c.args.entries.now some c.requires.entries
