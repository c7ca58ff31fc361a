use Rattle.std.proofs.Common.{◌≡◌, ◌∙◌, sym, ap, Some, None, ◌∷◌}
use Rattle.fed_journal.specs.Lines.{texts_of}
use Rattle.fed_home.specs.Header.{header_in}
use Rattle.fed_home.proofs.Beginnings.{header_stops}
use Rattle.fed_home.proofs.HeaderLines.{header_site}
use Rattle.fed_home.proofs.runs.replay.Goals as goal

pub open_site-requires : goal.open_site-requires
open_site-requires c =
    let e : header_in c.deref.result.now ≡ Some c.in-Some-2.header = sym c.in_ok-header.ensures ∙ c.in-Some-2.is in
    header_site c.deref.result.now c.in-Some-2.header e

pub returns-in-None-clause-fault : goal.returns-in-None-clause-fault
returns-in-None-clause-fault c =
    let none : header_in c.deref.result.now ≡ None = sym c.in_ok-header.ensures ∙ c.in-None.is in
    let is : c.args.entries.now ≡ c.in-Some.first.now ∷ c.in-Some.lines.now = c.in-Some.ensures.cases.0 in
    header_stops (texts_of c.args.entries.now) (texts_of c.in-Some.lines.now) c.in-Some.first.now.items (ap texts_of is) (ap header_in (sym c.deref.ensures.value) ∙ none)
