use Rattle.std.proofs.Common.{◌≡◌, ◌∙◌, sym, ap, List, [], ◌∷◌, length, ◌==◌, true, refl, arith}
use Rattle.std.proofs.lemmas.Bool.{eqb-true}
use Rattle.fed_stamp.specs.Stamp.{StampValue}
use Rattle.fed_board.specs.Board.{board_reads}
use Rattle.fed_qstat.specs.Layout.{lines_in}
use Rattle.fed_qstat.specs.Listing.{listing}
use Rattle.fed_qstat.proofs.listings.lines_of.Goals as goal

none_named : (ids : List StampValue) → true ≡ (length ids == 0) → ids ≡ []
none_named [] e = refl
none_named (id ∷ ids) e = absurd (omega (arith, eqb-true (length (id ∷ ids)) 0 (sym e)))

pub returns-in_ok-list_all : goal.returns-in_ok-list_all
returns-in_ok-list_all c =
    c.in_ok-list_all.ensures
    ∙ ap (listing (lines_in c.args.layout c.args.roster.now) (board_reads c.args.board.now)) (sym (none_named c.args.ids.now c.if-is_empty.ensures))
