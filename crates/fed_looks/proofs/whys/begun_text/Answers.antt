use Rattle.std.proofs.Common.{◌≡◌, ◌∙◌, ap, append_assoc, string_bytes}
use Rattle.std.proofs.lemmas.Result.{IfOk-weaker}
use Rattle.fed_qstat.specs.Identifier.{text_of_site}
use Rattle.fed_looks.proofs.whys.begun_text.Goals as goal

pub returns : goal.returns
returns c =
    let site : string_bytes c.in_ok-site.site ≡ text_of_site c.args.roster.now c.args.stamp.site = c.in_ok-site.ensures ∙ ap (text_of_site c.args.roster.now) c.site.ensures in
    IfOk-weaker c.format.result _ _ (λ s e. rw e (rw (site, c.get-moment.ensures.same, c.get-nodes.ensures.same) (simp append_assoc))) c.format.ensures.ok
