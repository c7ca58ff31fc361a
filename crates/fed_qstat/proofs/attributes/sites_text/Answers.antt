use Rattle.std.proofs.Common.{◌≡◌, ℕ, ◌+◌, suc, cond, List, ◌∷◌, ◌++◌, string_bytes, sym, ap, ◌∙◌, arith}
use Rattle.fed_record.specs.JobRecord.{job_reads}
use Rattle.fed_model.specs.Letter.{has_site}
use Rattle.fed_qstat.specs.Identifier.{text_of_site}
use Rattle.fed_qstat.proofs.NamesBelow.{added, same_site, skipped}
use Rattle.fed_qstat.proofs.attributes.sites_text.Goals as goal
use Rattle.fed_qstat.proofs.attributes.sites_text.Goals.{then-has_site+in_ok-name+in_ok-push_name, else-has_site}

pub loop-number-preserved : goal.loop-number-preserved
loop-number-preserved c =
    let next : c.loop-number.number + 1 ≡ suc c.loop-number.number = omega arith in
    let site : c.unwrap-site.result ≡ c.loop-number.number = same_site c.loop-number.number c.unwrap-site.result (omega (arith, c.loop-number-test.true)) (sym c.new.ensures ∙ c.unwrap-site.ensures) in
    let present : has_site (job_reads c.args.job.now) c.loop-number.number ≡ c.has_site.result = ap (has_site (job_reads c.args.job.now)) (sym site) ∙ sym c.has_site.ensures in
    elim c.if-has_site.branch [
      | then-has_site+in_ok-name+in_ok-push_name w ↦ rw (w.text-is, w.is_first-is) (
          let name : w.as_str.result.now ≡ text_of_site c.args.roster.now c.loop-number.number =
          w.as_str.ensures.value ∙ w.in_ok-name.ensures ∙ ap (text_of_site c.args.roster.now) site in
          added c.args.roster.now (job_reads c.args.job.now) _ c.loop-number.number (string_bytes c.loop-number.text) _ c.loop-number.is_first next (present ∙ w.if-has_site.true) c.loop-number.invariant
          (w.in_ok-push_name.ensures ∙ ap (λ (t : List ℕ). string_bytes c.loop-number.text ++ cond c.loop-number.is_first t (43 ∷ t)) name))
      | else-has_site w ↦ rw (w.text-is, w.is_first-is) (skipped c.args.roster.now (job_reads c.args.job.now) _ c.loop-number.number _ _ next (present ∙ w.if-has_site.false) c.loop-number.invariant)
    ]
