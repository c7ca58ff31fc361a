use Rattle.fed_stamp.proofs.WordLemmas.{written_name}
use Rattle.fed_stamp.proofs.words.Word.new.Goals as goal

pub invariant_of-result : goal.invariant_of-result
invariant_of-result c = written_name c.args.text.now c.copy_from_slice.new.self (cc) (cc)
