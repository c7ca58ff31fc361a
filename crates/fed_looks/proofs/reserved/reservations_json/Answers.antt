use Rattle.std.proofs.Common.{ap, ◌∙◌}
use Rattle.serde_json.specs.Written.{has_float}
use Rattle.fed_board.specs.Board.{board_reads}
use Rattle.fed_looks.proofs.Entries.{reserved_plain}
use Rattle.fed_looks.proofs.reserved.reservations_json.Goals as goal

pub json_line-requires : goal.json_line-requires
json_line-requires c = ap has_float c.in_ok-value.ensures ∙ reserved_plain c.args.roster.now (board_reads c.args.board.now)
