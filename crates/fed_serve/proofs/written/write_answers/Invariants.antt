use Rattle.std.specs.Io.KnownBytes.{Appends}
use Rattle.std.proofs.Common.{take}
use Rattle.fed_serve.specs.Written.{told_text}
use Rattle.fed_serve.proofs.written.write_answers.Given as goal

abbrev pub invariant-loop-told : goal.invariant-loop-told
invariant-loop-told g l = Appends (g.W.Write.contents l.fn.writer) (g.W.Write.contents l.writer) (told_text l.frames (take l.told-index l.answers))
