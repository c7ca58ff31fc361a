use Rattle.fed_words.proofs.Grammar.{line_of}
use Rattle.fed_words.proofs.laws.all_words_are_of_the_grammar.Goals as goal

pub returns : goal.returns
returns c = line_of
