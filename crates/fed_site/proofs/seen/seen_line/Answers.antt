use Rattle.std.proofs.Common.{append_assoc}
use Rattle.std.proofs.lemmas.Result.{IfOk-weaker}
use Rattle.fed_site.proofs.seen.seen_line.Goals as goal

pub returns : goal.returns
returns c = IfOk-weaker c.format.result _ _ (λ s e. rw e (rw (c.in_ok-name.ensures, c.get-seen.ensures, c.version.ensures.value, c.board.ensures, c.known_counter-known.ensures) (simp append_assoc))) c.format.ensures.ok
