use Rattle.fed_journal.proofs.Repair.{cut_same, cut_settled, cut_step}
use Rattle.fed_journal.proofs.journals.Journal.repair.Goals as goal

pub returns-in_err-shorten-clause-any_moment : goal.returns-in_err-shorten-clause-any_moment
returns-in_err-shorten-clause-any_moment g c =
    cut_step g.D.Device.moment g.D.Device.left_since g.D.Device.seen g.D.Device.may_leave c.args.self.now c.requires.0 c.requires.1 c.if-self.true c.shorten.new.device c.shorten.ensures.any_moment

pub returns-in_ok-shorten-clause-any_moment : goal.returns-in_ok-shorten-clause-any_moment
returns-in_ok-shorten-clause-any_moment g c =
    cut_step g.D.Device.moment g.D.Device.left_since g.D.Device.seen g.D.Device.may_leave c.args.self.now c.requires.0 c.requires.1 c.if-self.true c.shorten.new.device c.shorten.ensures.any_moment

pub returns-in_ok-shorten-clause-settled : goal.returns-in_ok-shorten-clause-settled
returns-in_ok-shorten-clause-settled g c =
    cut_settled g.D.Device.moment g.D.Device.left_since g.D.Device.seen g.D.Device.may_leave c.args.self.now c.requires.0 c.requires.1 c.if-self.true c.shorten.new.device c.in_ok-shorten.ensures.cut c.in_ok-shorten.ensures.durable

pub returns-in_ok-shorten-clause-same : goal.returns-in_ok-shorten-clause-same
returns-in_ok-shorten-clause-same g c =
    cut_same g.D.Device.moment g.D.Device.left_since g.D.Device.seen g.D.Device.may_leave c.args.self.now c.requires.0 c.requires.1 c.if-self.true c.shorten.new.device c.in_ok-shorten.ensures.cut
