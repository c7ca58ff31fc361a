use Rattle.fed_words.proofs.Grammar.{line_read}
use Rattle.fed_words.proofs.laws.words_are_read_by_the_grammar.Goals as goal

pub returns : goal.returns
returns c = λ utility line lawful. line_read utility line.options line.ending lawful.options lawful.ending
