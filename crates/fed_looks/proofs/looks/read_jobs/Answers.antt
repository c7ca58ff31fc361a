use Rattle.std.proofs.Common.{sym}
use Rattle.fed_script.specs.Values.{identifier}
use Rattle.fed_looks.proofs.EachWord.{each-more, each-none}
use Rattle.fed_looks.proofs.looks.read_jobs.Goals as goal

pub returns-in_default : goal.returns-in_default
returns-in_default c = sym (each-none (identifier c.args.roster.now c.args.here) (λ word. word.now) c.args.words.now c.loop-word.word-index _ c.loop-word-test.true (sym (rw c.in_default.is at c.read_id.ensures)))

pub loop-word-preserved : goal.loop-word-preserved
loop-word-preserved c =
    rw c.in_ok-push.ensures.items (each-more (identifier c.args.roster.now c.args.here) (λ word. word.now) c.args.words.now c.loop-word.word-index _ _ _ c.loop-word-test.true c.loop-word.invariant (sym (rw c.in-Some.is at c.read_id.ensures)))
