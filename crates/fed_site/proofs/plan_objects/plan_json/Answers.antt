use Rattle.std.proofs.Common.{ap, ◌∙◌}
use Rattle.std.specs.Option.{option_map}
use Rattle.serde_json.specs.Written.{has_float}
use Rattle.fed_board.specs.Board.{board_reads}
use Rattle.fed_easy.specs.Plan.{plan_reads}
use Rattle.fed_site.proofs.LookValues.{plan_plain}
use Rattle.fed_site.proofs.plan_objects.plan_json.Goals as goal

pub json_line-requires : goal.json_line-requires
json_line-requires c = ap has_float c.in_ok-value.ensures ∙ plan_plain c.args.roster.now (board_reads c.args.board.now) (option_map plan_reads c.in_ok-plan.plan)
