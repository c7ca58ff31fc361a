use Rattle.std.proofs.Common.{◌≡◌, ap, subst, ◌∙◌}
use Rattle.fed_replica.specs.State.{state_of}
use Rattle.fed_site.specs.declared.site.SiteAnswer.TheVariants.{Text}
use Rattle.fed_site.specs.Acts.{DoneAs}
use Rattle.fed_site.specs.OwnLineView.{read_as}
use Rattle.fed_site.specs.Says.{after_text}
use Rattle.fed_site.specs.Site.{SiteValue}
use Rattle.fed_site.proofs.Lines.{own_said}
use Rattle.fed_site.proofs.site.Site.do_own.Goals as goal

pub returns-in_ok-answer-in-Packet-clause-said : goal.returns-in_ok-answer-in-Packet-clause-said
returns-in_ok-answer-in-Packet-clause-said c =
    let site = c.args.self.now in
    let answer = c.in_ok-answer-in-Packet.answer in
    let known = ap (λ (v : SiteValue). v.roster) c.self.view_is in
    let roster : c.get.result.now ≡ site.roster = c.get.ensures ∙ known in
    let held : c.self.inside.replica ≡ site.replica = ap (λ (v : SiteValue). v.replica) c.self.view_is in
    let text = c.in-Packet.text.now in
    let done : DoneAs c.take.new.replica answer (after_text site.roster (state_of site.replica) text) =
    subst (DoneAs c.take.new.replica answer) (λ i. after_text (roster i) (state_of (held i)) text) c.in_ok-answer-in-Packet.ensures.done in
    own_said site _ (Text answer) (ap read_as c.in-Packet.is) (record { roster = known; after = done.after; reply = done.said; keeps = done.keeps; complains = done.complains; begins = done.begins })
