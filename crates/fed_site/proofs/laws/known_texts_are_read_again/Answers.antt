use Rattle.fed_site.proofs.KnownTexts.{read_again}
use Rattle.fed_site.proofs.laws.known_texts_are_read_again.Goals as goal

pub returns : goal.returns
returns c = λ roster s ops text lawful within is own few t. read_again roster s ops text lawful within is own few t
