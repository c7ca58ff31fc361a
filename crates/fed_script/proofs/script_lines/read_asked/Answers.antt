use Rattle.fed_words.specs.RequestView.{asked_by}
use Rattle.fed_script.specs.LineView.{said_by}
use Rattle.fed_script.proofs.AskedLines.{asked_given}
use Rattle.fed_script.proofs.script_lines.read_asked.Goals as goal

pub returns : goal.returns
returns c = asked_given asked_by said_by c.args.site c.args.who c.read_words.result _ c.asked_line.result c.read_words.ensures c.asked_line.ensures.ok c.asked_line.ensures.told
