use Rattle.fed_journal.proofs.Changed.{changed}
use Rattle.fed_journal.proofs.laws.changed_texts_are_damage.Goals as goal

pub returns : goal.returns
returns c = λ entries text other more lines line apart. changed entries text other more lines line apart
