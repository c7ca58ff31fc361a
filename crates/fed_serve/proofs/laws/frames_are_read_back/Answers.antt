use Rattle.fed_serve.proofs.Frames.{told_apart}
use Rattle.fed_serve.proofs.laws.frames_are_read_back.Goals as goal

pub returns : goal.returns
returns c = told_apart
