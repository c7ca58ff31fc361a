use Rattle.std.proofs.Common.{not, sym, ap, ◌∙◌}
use Rattle.fed_stamp.specs.Version.{is_below}
use Rattle.fed_board.specs.Changes.{is_later}
use Rattle.fed_board.proofs.ChangeLists.{still_found, still_part, found_here}
use Rattle.fed_board.proofs.changed_jobs.add_changed.Goals as goal

pub returns-in_ok-insert-clause-part : goal.returns-in_ok-insert-clause-part
returns-in_ok-insert-clause-part c =
    still_part (is_later c.args.need.now) c.args.jobs.now c.args.changed.now c.insert.new.self c.args.job c.in-Some.record.now _ c.in-Some.ensures.value
    (ap (λ t. not (is_below t c.args.need.now)) (sym c.touched.ensures) ∙ ap not (sym c.le.ensures ∙ c.if-not-le.true))
    c.in_ok-copy.ensures.same c.in_ok-insert.ensures.inserted c.requires

pub returns-in_ok-insert-clause-kept : goal.returns-in_ok-insert-clause-kept
returns-in_ok-insert-clause-kept c =
    still_found (is_later c.args.need.now) c.args.jobs.now c.args.changed.now c.insert.new.self c.args.job c.in-Some.record.now _ c.in-Some.ensures.value
    (ap (λ t. not (is_below t c.args.need.now)) (sym c.touched.ensures) ∙ ap not (sym c.le.ensures ∙ c.if-not-le.true))
    c.in_ok-copy.ensures.same c.in_ok-insert.ensures.inserted

pub returns-in_ok-insert-clause-found : goal.returns-in_ok-insert-clause-found
returns-in_ok-insert-clause-found c =
    found_here (is_later c.args.need.now) c.args.jobs.now c.args.changed.now c.insert.new.self c.args.job c.in-Some.record.now _ c.in-Some.ensures.value
    (ap (λ t. not (is_below t c.args.need.now)) (sym c.touched.ensures) ∙ ap not (sym c.le.ensures ∙ c.if-not-le.true))
    c.in_ok-copy.ensures.same c.in_ok-insert.ensures.inserted
