use Rattle.std.proofs.Common.{◌≡◌, ◌↔◌, true, false, sym, ap₂, subst, ◌∙◌}
use Rattle.fed_board.specs.Board.{BoardValue}
use Rattle.fed_board.specs.BoardLaws.{same_board, tells_boards}
use Rattle.fed_board.proofs.records.RecordsPartialEq.eq.Goals as goal
use Rattle.fed_board.proofs.records.RecordsPartialEq.eq.Goals.{then-eq, else-eq}
use Rattle.fed_board.proofs.ThreeTests.{not_first, not_second, third_alone}

pub returns-then-is_same-clause-by_parts : goal.returns-then-is_same-clause-by_parts
returns-then-is_same-clause-by_parts c =
    let b : BoardValue = record { version = c.self.inside.version; retired = c.self.inside.retired; jobs = c.self.inside.jobs; reservations = c.self.inside.reservations } in
    let d : BoardValue = record { version = c.other.inside.version; retired = c.other.inside.retired; jobs = c.other.inside.jobs; reservations = c.other.inside.reservations } in
    let inner : c.are_same.result ≡ same_board b d = elim c.if-eq.branch [
      | then-eq w ↦ c.are_same.ensures ∙ third_alone _ _ _ (sym c.eq.ensures ∙ w.if-eq.true) (sym w.is_same.ensures.by_parts ∙ sym w.value-is ∙ c.if-is_same.true)
      | else-eq w ↦ absurd (let f : false ≡ true = sym w.if-eq.false ∙ sym w.value-is ∙ c.if-is_same.true in cc)
    ] in
    inner ∙ ap₂ same_board c.self.view_is c.other.view_is

pub returns-then-is_same-clause-same : goal.returns-then-is_same-clause-same
returns-then-is_same-clause-same c =
    subst (λ t. (t ≡ true) ↔ (c.args.self.now ≡ c.args.other.now)) (sym (returns-then-is_same-clause-by_parts c)) (tells_boards c.args.self.now c.args.other.now)

pub returns-else-is_same-clause-by_parts : goal.returns-else-is_same-clause-by_parts
returns-else-is_same-clause-by_parts c =
    let b : BoardValue = record { version = c.self.inside.version; retired = c.self.inside.retired; jobs = c.self.inside.jobs; reservations = c.self.inside.reservations } in
    let d : BoardValue = record { version = c.other.inside.version; retired = c.other.inside.retired; jobs = c.other.inside.jobs; reservations = c.other.inside.reservations } in
    let inner : c.if-eq.value ≡ same_board b d = elim c.if-eq.branch [
      | then-eq w ↦ c.if-is_same.false ∙ not_second _ _ _ (sym w.is_same.ensures.by_parts ∙ sym w.value-is ∙ c.if-is_same.false)
      | else-eq w ↦ c.if-is_same.false ∙ not_first _ _ (sym c.eq.ensures ∙ w.if-eq.false)
    ] in
    inner ∙ ap₂ same_board c.self.view_is c.other.view_is
