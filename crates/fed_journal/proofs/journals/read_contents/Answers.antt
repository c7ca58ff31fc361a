use Rattle.std.proofs.Common.{◌≡◌, ◌∙◌, subst, List, ℕ, ◌-◌, drop, length, rules}
use Rattle.fed_journal.specs.Lines.{texts_of}
use Rattle.fed_journal.specs.Journal.{Has}
use Rattle.fed_journal.proofs.Contents.{has_read}
use Rattle.fed_journal.proofs.Crash.{recovered_stands}
use Rattle.fed_journal.proofs.journals.read_contents.Goals as goal

pub returns-clause-known : goal.returns-clause-known
returns-clause-known g c =
    let same : c.deref.result.now ≡ g.D.Device.seen c.args.device.now = c.deref.ensures.value ∙ c.in_ok-file.ensures.bytes in
    let read = c.in_ok-read.read in
    let tail : c.in_ok-tail.tail.items ≡ drop 1 read.rest.now = search rules in
    let at : c.len.result - length read.rest.now ≡ length c.deref.result.now - length read.rest.now = search rules in
    let whole : c.len-2.result ≡ length c.deref.result.now = search rules in
    subst (λ (f : List ℕ). Has f (texts_of read.entries.items) c.in_ok-tail.tail.items read.digest (c.len.result - length read.rest.now) c.len-2.result) same
    (has_read c.deref.result.now (texts_of read.entries.items) read.rest.now c.in_ok-tail.tail.items read.digest _ _ c.in_ok-read.ensures.lines c.in_ok-read.ensures.digest c.in_ok-read.ensures.file tail c.in_ok-read.ensures.gate at whole)

pub returns-clause-entries : goal.returns-clause-entries
returns-clause-entries g c =
    let has = returns-clause-known g c in
    recovered_stands (g.D.Device.seen c.args.device.now) (texts_of c.in_ok-read.read.entries.items) c.in_ok-tail.tail.items has.lines has.stands
