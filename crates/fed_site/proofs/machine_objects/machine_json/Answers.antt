use Rattle.std.proofs.Common.{ap, ◌∙◌}
use Rattle.serde_json.specs.Written.{has_float}
use Rattle.fed_board.specs.Board.{board_reads}
use Rattle.fed_site.proofs.LookValues.{machine_plain}
use Rattle.fed_site.proofs.machine_objects.machine_json.Goals as goal

pub json_line-requires : goal.json_line-requires
json_line-requires c = ap has_float c.in_ok-value.ensures ∙ machine_plain c.args.roster.now (board_reads c.args.board.now) c.args.here c.args.moment
