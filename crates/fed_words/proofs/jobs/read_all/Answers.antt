use Rattle.std.proofs.Common.{◌≡◌, ◌++◌, ◌∷◌, [], true, false, sym, ap, ◌∙◌}
use Rattle.std.specs.List.{list_any}
use Rattle.std.proofs.lemmas.Bool.{not-false, not-true}
use Rattle.fed_lattice.specs.Results.{mapped}
use Rattle.fed_words.specs.Identifier.{job_in}
use Rattle.fed_words.specs.Item.{words_of}
use Rattle.fed_words.specs.Request.{once}
use Rattle.fed_stamp.specs.Stamp.{same_stamp}
use Rattle.fed_words.proofs.Each.{each-more, each-fault, gives-fault}
use Rattle.fed_words.proofs.Onces.{is_known, keys-once, once-known, once-new}
use Rattle.fed_words.proofs.Spellings.{word_at}
use Rattle.fed_words.proofs.jobs.read_all.Goals as goal
use Rattle.fed_words.proofs.jobs.read_all.Goals.{then-branch+in_ok-push, else-branch}

pub returns-in_err-job : goal.returns-in_err-job
returns-in_err-job c =
    let here = word_at c.args.operands.now c.loop-operand.operand-index (record { ref_ptr = (0, 0); now = [] }) c.loop-operand-test.true in
    gives-fault (λ jobs. jobs.items) c.from_residual.result _ c.in_err-job.field-0.0 c.from_residual.ensures.1
    (ap (mapped once) (c.loop-operand.invariant.3 ∙ each-fault (job_in c.args.roster.now c.args.here) c.loop-operand.invariant.0 (words_of c.args.operands.now) c.loop-operand.operand-index _ here.0 here.1 c.in_err-job.field-0.0 (sym c.in_err-job.ensures)))

pub loop-operand-preserved : goal.loop-operand-preserved
loop-operand-preserved c =
    let here = word_at c.args.operands.now c.loop-operand.operand-index (record { ref_ptr = (0, 0); now = [] }) c.loop-operand-test.true in
    let done = c.loop-operand.invariant.0 in
    let job = c.in_ok-job.job in
    let site : c.get.result ≡ job.site = c.get.ensures.same ∙ c.site.ensures in
    let known = is_known job done c.counter.result c.get.result c.loop-operand.seen.keys c.counter.ensures.same site c.loop-operand.invariant.2 in
    let jobs : c.if-branch.jobs.items ≡ once (done ++ job ∷ []) = elim c.if-branch.branch [
      | then-branch+in_ok-push w ↦
          let new : list_any (same_stamp job) (once done) ≡ false = sym known ∙ not-true _ (sym c.in_ok-insert.ensures.added ∙ w.if-branch.true) in
          ap (λ v. v.items) w.jobs-is ∙ w.in_ok-push.ensures.ok ∙ rw c.loop-operand.invariant.1 (once-new job done new)
      | else-branch w ↦
          let old : list_any (same_stamp job) (once done) ≡ true = sym known ∙ not-false _ (sym c.in_ok-insert.ensures.added ∙ w.if-branch.false) in
          ap (λ v. v.items) w.jobs-is ∙ c.loop-operand.invariant.1 ∙ once-known job done old
    ] in (
      done ++ job ∷ [],
      jobs,
      keys-once job done c.counter.result c.get.result c.loop-operand.seen.keys c.insert.new.self.keys c.counter.ensures.same site c.loop-operand.invariant.2 c.in_ok-insert.ensures.keys,
      c.loop-operand.invariant.3 ∙ each-more (job_in c.args.roster.now c.args.here) done (words_of c.args.operands.now) c.loop-operand.operand-index _ here.0 here.1 job (sym c.in_ok-job.ensures),
    )
