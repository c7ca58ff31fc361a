use Rattle.std.proofs.Common.{◌≡◌, true, false, sym, ap, subst, ◌∙◌}
use Rattle.fed_stamp.specs.Version.{covers}
use Rattle.fed_record.specs.Operation.{body_of}
use Rattle.fed_theory.specs.ViewSteps.{add_to_view}
use Rattle.fed_board.specs.Board.{BoardValue, IsBoard, HasNamed, board_reads}
use Rattle.fed_board.proofs.BoardKeeps.{changed_reservation_keeps}
use Rattle.fed_board.proofs.BoardReads.{changed_reservation_reads}
use Rattle.fed_board.proofs.boards.Board.change_reservation.Goals as goal

pub invariant_of-self-2 : goal.invariant_of-self-2
invariant_of-self-2 c =
    let b : BoardValue = record { version = c.self.inside.version; retired = c.self.inside.retired; jobs = c.self.inside.jobs; reservations = c.self.inside.reservations } in
    let at = c.args.at in
    let op = c.args.operation.now in
    let seen = subst (λ v. covers v at ≡ true) c.raise.ensures.raised c.raise.ensures.seen in
    let fresh = subst (λ (x : BoardValue). covers x.version at ≡ false) (sym c.self.view_is) c.requires.fresh in
    let named = subst (λ x. HasNamed x at (body_of op)) (sym c.self.view_is) c.requires.named in
    let keeps = changed_reservation_keeps b at c.args.id op c.self.invariant.0 c.raise.ensures.site seen fresh c.requires.of named in
    let version = sym c.raise.ensures.raised in
    let reservations = sym c.in_ok-change_at.ensures.applied in (
      subst IsBoard (λ i. record { version = version i; retired = b.retired; jobs = b.jobs; reservations = reservations i }) keeps,
      c.self.invariant.1,
      c.in_ok-change_at.ensures.counted,
      c.self.invariant.3,
    )

pub returns-clause-added : goal.returns-clause-added
returns-clause-added c =
    let b : BoardValue = record { version = c.self.inside.version; retired = c.self.inside.retired; jobs = c.self.inside.jobs; reservations = c.self.inside.reservations } in
    let at = c.args.at in
    let op = c.args.operation.now in
    let seen = subst (λ v. covers v at ≡ true) c.raise.ensures.raised c.raise.ensures.seen in
    let fresh = subst (λ (x : BoardValue). covers x.version at ≡ false) (sym c.self.view_is) c.requires.fresh in
    let named = subst (λ x. HasNamed x at (body_of op)) (sym c.self.view_is) c.requires.named in
    let keeps = changed_reservation_keeps b at c.args.id op c.self.invariant.0 c.raise.ensures.site seen fresh c.requires.of named in
    let version = c.raise.ensures.raised in
    let reservations = c.in_ok-change_at.ensures.applied in
    (λ i. board_reads (record { version = version i; retired = b.retired; jobs = b.jobs; reservations = reservations i }))
    ∙ changed_reservation_reads b at op c.args.id c.requires.of c.self.invariant.0.kept_jobs keeps.kept_reservations
    ∙ ap (λ x. add_to_view (board_reads x) (at, body_of op)) c.self.view_is
