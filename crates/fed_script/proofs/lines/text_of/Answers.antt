use Rattle.fed_script.proofs.ReadableLines.{readable_text}
use Rattle.fed_script.proofs.lines.text_of.Goals as goal

pub from_utf8_unchecked-requires : goal.from_utf8_unchecked-requires
from_utf8_unchecked-requires c = readable_text c.args.word.now c.requires
