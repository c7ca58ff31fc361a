use Rattle.std.proofs.Common.{refl, Bor, List, ℕ, length, map, rules, ◌≡◌}
use Rattle.fed_journal.proofs.Replacing.{is_recovered, is_settled, old_or_new}
use Rattle.fed_journal.proofs.journals.Journal.replace.Goals as goal

pub returns-in_err-replacement-clause-any_moment : goal.returns-in_err-replacement-clause-any_moment
returns-in_err-replacement-clause-any_moment g c =
    old_or_new (map (λ (text : Bor (List ℕ)). text.now) c.args.texts.now) c.requires.lines c.in_ok-group.group.bytes.items c.in_ok-group.ensures.bytes g.D.Device.moment g.D.Device.left_since g.D.Device.seen g.D.Device.may_leave
    (λ device file left. g.met.D.Device.only_now device file left) c.args.self.now.device c.replace.new.self c.requires.settled.read.durable c.replace.ensures.crash c.replace.ensures.time

pub returns-in-Done-clause-any_moment : goal.returns-in-Done-clause-any_moment
returns-in-Done-clause-any_moment g c =
    old_or_new (map (λ (text : Bor (List ℕ)). text.now) c.args.texts.now) c.requires.lines c.in_ok-group.group.bytes.items c.in_ok-group.ensures.bytes g.D.Device.moment g.D.Device.left_since g.D.Device.seen g.D.Device.may_leave
    (λ device file left. g.met.D.Device.only_now device file left) c.args.self.now.device c.replace.new.self c.requires.settled.read.durable c.replace.ensures.crash c.replace.ensures.time

pub returns-in-Done-clause-replaced : goal.returns-in-Done-clause-replaced
returns-in-Done-clause-replaced g c = λ done.
    is_recovered (map (λ (text : Bor (List ℕ)). text.now) c.args.texts.now) c.requires.lines c.in_ok-group.group.bytes.items c.in_ok-group.ensures.bytes (g.D.Device.seen c.replace.new.self) (c.in_ok-replacement.ensures.replaced done)

pub returns-in-Done-clause-settled : goal.returns-in-Done-clause-settled
returns-in-Done-clause-settled g c =
    let len : c.len-len.result ≡ length c.in_ok-group.group.bytes.items = search rules in
    is_settled (map (λ (text : Bor (List ℕ)). text.now) c.args.texts.now) c.requires.lines c.in_ok-group.group.bytes.items c.in_ok-group.ensures.bytes g.D.Device.seen g.D.Device.may_leave _ (c.in_ok-replacement.ensures.replaced c.in-Done.is)
    (c.in_ok-replacement.ensures.durable c.in-Done.is) len refl c.in_ok-group.ensures.digest
