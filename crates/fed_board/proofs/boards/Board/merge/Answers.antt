use Rattle.std.proofs.Common.{◌≡◌, [], replicate, refl, ap₂, sym, subst, ◌∙◌}
use Rattle.fed_lattice.proofs.VersionOfLaws.{joined_zeros}
use Rattle.fed_record.proofs.JobRecordReads.{joined_jobs_read}
use Rattle.fed_record.specs.JobRecordSteps.{joined_record}
use Rattle.fed_ranges.specs.Dropped.{dropped}
use Rattle.fed_ranges.specs.Retired.{has_retired}
use Rattle.fed_board.specs.Board.{BoardValue, IsBoard, board_reads, merged, no_operation}
use Rattle.fed_theory.specs.ViewSteps.{join_views}
use Rattle.fed_board.proofs.BoardKeeps.{merged_keeps}
use Rattle.fed_board.proofs.BoardReads.{merged_reads, merged_same}
use Rattle.fed_board.proofs.ListedJobs.{listed_after}
use Rattle.fed_board.proofs.RetiredTables.{all_apart}
use Rattle.fed_board.proofs.StandingBoards.{stands_merged}
use Rattle.fed_board.proofs.boards.Board.merge.Goals as goal

pub invariant_of-self : goal.invariant_of-self
invariant_of-self c =
    let b : BoardValue = record { version = c.self.inside.version; retired = c.self.inside.retired; jobs = c.self.inside.jobs; reservations = c.self.inside.reservations } in
    let d : BoardValue = record { version = c.other.inside.version; retired = c.other.inside.retired; jobs = c.other.inside.jobs; reservations = c.other.inside.reservations } in
    let version = c.join-self-inside.ensures in
    let retired = c.in_ok-retired.ensures.joined in
    let jobs : c.in_ok-jobs-2.jobs ≡ (merged joined_record b d).jobs = c.in_ok-jobs-2.ensures ∙ (λ n. dropped (has_retired (c.in_ok-retired.ensures.joined n)) (c.in_ok-jobs.ensures.joined n)) in
    let reservations : c.in_ok-reservations-2.reservations ≡ (merged joined_record b d).reservations = c.in_ok-reservations-2.ensures ∙ (λ n. dropped (has_retired (c.in_ok-retired.ensures.joined n)) (c.in_ok-reservations.ensures.joined n)) in
    let keeps = merged_keeps joined_record joined_jobs_read b d c.self.invariant.0 c.other.invariant.0 in
    let v = sym version in
    let r = sym retired in
    let j = sym jobs in
    let w = sym reservations in
    let whole = subst IsBoard (λ n. record { version = v n; retired = r n; jobs = j n; reservations = w n }) keeps in (
      whole,
      c.count_ids-self-inside.ensures,
      c.count_ids-self-inside-2.ensures,
      listed_after c.forget_all.new.changes (record { version = c.join-self-inside.result; retired = c.in_ok-retired.retired; jobs = c.in_ok-jobs-2.jobs; reservations = c.in_ok-reservations-2.reservations }) whole c.forget_all.ensures,
    )

pub returns-clause-value : goal.returns-clause-value
returns-clause-value c =
    let b : BoardValue = record { version = c.self.inside.version; retired = c.self.inside.retired; jobs = c.self.inside.jobs; reservations = c.self.inside.reservations } in
    let d : BoardValue = record { version = c.other.inside.version; retired = c.other.inside.retired; jobs = c.other.inside.jobs; reservations = c.other.inside.reservations } in
    let version = c.join-self-inside.ensures in
    let retired = c.in_ok-retired.ensures.joined in
    let jobs : c.in_ok-jobs-2.jobs ≡ (merged joined_record b d).jobs = c.in_ok-jobs-2.ensures ∙ (λ n. dropped (has_retired (c.in_ok-retired.ensures.joined n)) (c.in_ok-jobs.ensures.joined n)) in
    let reservations : c.in_ok-reservations-2.reservations ≡ (merged joined_record b d).reservations = c.in_ok-reservations-2.ensures ∙ (λ n. dropped (has_retired (c.in_ok-retired.ensures.joined n)) (c.in_ok-reservations.ensures.joined n)) in
    (λ n. record { version = version n; retired = retired n; jobs = jobs n; reservations = reservations n })
    ∙ merged_same joined_record joined_jobs_read b d c.args.self.now c.args.other.now c.self.view_is c.other.view_is

pub returns-clause-joined : goal.returns-clause-joined
returns-clause-joined c =
    let b : BoardValue = record { version = c.self.inside.version; retired = c.self.inside.retired; jobs = c.self.inside.jobs; reservations = c.self.inside.reservations } in
    let d : BoardValue = record { version = c.other.inside.version; retired = c.other.inside.retired; jobs = c.other.inside.jobs; reservations = c.other.inside.reservations } in
    let version = c.join-self-inside.ensures in
    let retired = c.in_ok-retired.ensures.joined in
    let jobs : c.in_ok-jobs-2.jobs ≡ (merged joined_record b d).jobs = c.in_ok-jobs-2.ensures ∙ (λ n. dropped (has_retired (c.in_ok-retired.ensures.joined n)) (c.in_ok-jobs.ensures.joined n)) in
    let reservations : c.in_ok-reservations-2.reservations ≡ (merged joined_record b d).reservations = c.in_ok-reservations-2.ensures ∙ (λ n. dropped (has_retired (c.in_ok-retired.ensures.joined n)) (c.in_ok-reservations.ensures.joined n)) in
    (λ n. board_reads (record { version = version n; retired = retired n; jobs = jobs n; reservations = reservations n }))
    ∙ merged_reads joined_record joined_jobs_read (λ v w i. record { fields = no_operation.fields; holds = []; sites = []; stages = no_operation.stages; touched = joined_zeros 16 (replicate 16 0) refl i }) b d
    (all_apart b.version b.retired c.self.invariant.0.retired) (all_apart d.version d.retired c.other.invariant.0.retired)
    ∙ ap₂ (λ x y. join_views (board_reads x) (board_reads y)) c.self.view_is c.other.view_is

pub returns-clause-stands : goal.returns-clause-stands
returns-clause-stands c = stands_merged _ _ _ (returns-clause-joined c)
