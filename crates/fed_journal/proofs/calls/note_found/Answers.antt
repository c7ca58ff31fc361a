use Rattle.std.proofs.Common.{refl}
use Rattle.fed_journal.proofs.calls.note_found.Goals as goal

pub into_found-requires : goal.into_found-requires
into_found-requires c = (c.args.bytes, refl)
