use Rattle.std.proofs.Common.{rules, arith, FitsSigned, ◌∙◌, string_bytes}
use Rattle.std.specs.Int.{w16}
use Rattle.std.proofs.lemmas.Int.{to_z-of_z}
use Rattle.fed_record.specs.JobRecord.{job_reads}
use Rattle.fed_qstat.proofs.Columns.{line-of_parts}
use Rattle.fed_qstat.proofs.ShownFields.{short_line-behind}
use Rattle.fed_qstat.proofs.short_lines.push_short_line.Goals as goal

pub returns : goal.returns
returns c =
    let fits : FitsSigned w16 c.get-priority.result = search rules in
    let written = line-of_parts (string_bytes c.args.text.now) _ _ _ _ _ _ _ _ c.in_ok-push_left_columns.ensures c.in_ok-push_numbers.ensures c.in_ok-push_holder.ensures c.in_ok-push.ensures.bytes (c.in_ok-push.ensures.ascii (omega arith)) in
    written ∙ rw (
      c.letter_sign-sign.ensures,
      to_z-of_z w16 c.get-priority.result fits,
      c.get-priority.ensures.same,
      c.get-nodes.ensures.same,
      c.get-limit.ensures.same,
    )
    (short_line-behind c.args.roster.now c.args.id (job_reads c.args.job.now) (string_bytes c.args.text.now) _ _ c.args.letter _ _ _ c.name-name.ensures c.owner-owner.ensures c.requires.letter c.priority.ensures c.nodes.ensures c.limit.ensures)
