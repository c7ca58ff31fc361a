use Rattle.std.proofs.Common.{◌≡◌, List, true, false, sym, ap, subst, ◌∙◌}
use Rattle.std.specs.Map.{keys_of}
use Rattle.fed_stamp.specs.Stamp.{StampValue}
use Rattle.fed_stamp.specs.Version.{covers}
use Rattle.fed_record.specs.JobRecord.{JobRecordValue}
use Rattle.fed_record.specs.Operation.{body_of}
use Rattle.fed_record.proofs.JobRecordReads.{applied_job_reads}
use Rattle.fed_record.specs.JobRecordSteps.{changed_record}
use Rattle.fed_theory.specs.ViewSteps.{add_to_view}
use Rattle.fed_board.specs.Board.{BoardValue, IsBoard, HasNamed, board_reads}
use Rattle.fed_board.specs.Changes.{IsListed, AreListed, site_at}
use Rattle.fed_board.specs.Counts.{AreCounts}
use Rattle.fed_board.proofs.BoardKeeps.{applied_touched, changed_job_keeps}
use Rattle.fed_board.proofs.BoardReads.{changed_job_reads}
use Rattle.fed_board.proofs.ListedJobs.{applied_listed, still_listed}
use Rattle.fed_board.proofs.boards.Board.change_job.Goals as goal

pub invariant_of-self-2 : goal.invariant_of-self-2
invariant_of-self-2 c =
    let b : BoardValue = record { version = c.self.inside.version; retired = c.self.inside.retired; jobs = c.self.inside.jobs; reservations = c.self.inside.reservations } in
    let at = c.args.at in
    let op = c.args.operation.now in
    let seen = subst (λ v. covers v at ≡ true) c.raise.ensures.raised c.raise.ensures.seen in
    let fresh = subst (λ (x : BoardValue). covers x.version at ≡ false) (sym c.self.view_is) c.requires.fresh in
    let named = subst (λ x. HasNamed x at (body_of op)) (sym c.self.view_is) c.requires.named in
    let keeps = changed_job_keeps changed_record applied_job_reads b at c.args.job op c.self.invariant.0 c.raise.ensures.site fresh seen c.requires.of named in
    let version = sym c.raise.ensures.raised in
    let jobs = sym c.in_ok-change_at.ensures.applied in (
      subst IsBoard (λ i. record { version = version i; retired = b.retired; jobs = jobs i; reservations = b.reservations }) keeps,
      c.in_ok-change_at.ensures.counted,
      c.self.invariant.2,
      subst (AreListed c.note_at.new.changes) jobs
          (applied_listed c.self.inside.changes c.note_at.new.changes c.note_at.ensures.kept c.self.inside.jobs c.self.invariant.3 changed_record (applied_touched changed_record applied_job_reads)
          at c.args.job op (subst (IsListed (site_at c.note_at.new.changes at.site) c.args.job) c.counter.ensures.same
          (subst (λ s. IsListed (site_at c.note_at.new.changes s) c.args.job c.counter.result) (c.get-site.ensures.same ∙ c.site.ensures) c.in_ok-note_at.ensures.listed))),
    )

pub invariant_of-self-in_err-change_at : goal.invariant_of-self-in_err-change_at
invariant_of-self-in_err-change_at c =
    let jobs = sym c.in_err-change_at.ensures.unchanged in
    let counts = sym c.in_err-change_at.ensures.uncounted in (
      subst IsBoard (λ i. record { version = c.self.inside.version; retired = c.self.inside.retired; jobs = jobs i; reservations = c.self.inside.reservations }) c.self.invariant.0,
      subst (λ ks. AreCounts ks (keys_of c.change_at.new.table)) counts (subst (λ (t : List (StampValue × JobRecordValue)). AreCounts c.self.inside.job_counts (keys_of t)) jobs c.self.invariant.1),
      c.self.invariant.2,
      subst (AreListed c.note_at.new.changes) jobs (still_listed c.self.inside.changes c.note_at.new.changes c.note_at.ensures.kept c.self.inside.jobs c.self.invariant.3),
    )

pub returns-clause-added : goal.returns-clause-added
returns-clause-added c =
    let b : BoardValue = record { version = c.self.inside.version; retired = c.self.inside.retired; jobs = c.self.inside.jobs; reservations = c.self.inside.reservations } in
    let at = c.args.at in
    let op = c.args.operation.now in
    let seen = subst (λ v. covers v at ≡ true) c.raise.ensures.raised c.raise.ensures.seen in
    let fresh = subst (λ (x : BoardValue). covers x.version at ≡ false) (sym c.self.view_is) c.requires.fresh in
    let named = subst (λ x. HasNamed x at (body_of op)) (sym c.self.view_is) c.requires.named in
    let keeps = changed_job_keeps changed_record applied_job_reads b at c.args.job op c.self.invariant.0 c.raise.ensures.site fresh seen c.requires.of named in
    let version = c.raise.ensures.raised in
    let jobs = c.in_ok-change_at.ensures.applied in
    (λ i. board_reads (record { version = version i; retired = b.retired; jobs = jobs i; reservations = b.reservations }))
    ∙ changed_job_reads changed_record applied_job_reads b at op c.args.job c.requires.of keeps.kept_jobs c.self.invariant.0.kept_reservations
    ∙ ap (λ x. add_to_view (board_reads x) (at, body_of op)) c.self.view_is
