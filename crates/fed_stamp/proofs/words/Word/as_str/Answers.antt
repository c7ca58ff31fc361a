use Rattle.fed_stamp.proofs.WordLemmas.{name_utf8}
use Rattle.fed_stamp.proofs.words.Word.as_str.Goals as goal

pub from_utf8_unchecked-requires : goal.from_utf8_unchecked-requires
from_utf8_unchecked-requires c = name_utf8 _ c.as_bytes.ensures.name
