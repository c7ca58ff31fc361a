use Rattle.fed_words.proofs.Found.{request_found}
use Rattle.fed_words.proofs.laws.requests_read_can_be_asked.Goals as goal

pub returns : goal.returns
returns c = λ roster here words request inside e. request_found roster here inside words request e
