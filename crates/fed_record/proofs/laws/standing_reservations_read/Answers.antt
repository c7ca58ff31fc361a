use Rattle.std.proofs.Common.{sym}
use Rattle.fed_model.specs.Field.{window_in}
use Rattle.fed_record.proofs.BodyLaws.{part-bodies}
use Rattle.fed_record.proofs.StandingRecords.{field_is}
use Rattle.fed_record.proofs.laws.standing_reservations_read.Goals as goal

pub returns : goal.returns
returns c = λ r h one p. field_is window_in r h _ one (sym (part-bodies window_in h)) p
