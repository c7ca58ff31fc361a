use Rattle.std.proofs.Common.{arith, rules}
use Rattle.std.proofs.lemmas.Result.{IfOk-weaker}
use Rattle.fed_journal.proofs.Tearing.{torn_front}
use Rattle.fed_journal.proofs.memory.tear_behind.Goals as goal

pub returns : goal.returns
returns c =
    IfOk-weaker c.overlay.result _ _ (λ x e. torn_front c.args.at c.min.result c.args.bytes.now _ c.args.file.now c.requires (search rules) (omega (arith, c.min.ensures)) x.items e) c.overlay.ensures
