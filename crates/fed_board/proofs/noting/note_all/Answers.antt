use Rattle.std.proofs.Common.{◌<◌, List, arith, sym, subst}
use Rattle.fed_board.specs.declared.rises.Rise.{Rise}
use Rattle.fed_board.specs.Changes.{SiteValue, IsListed, site_at}
use Rattle.fed_board.proofs.ChangeLists.{StandsAt, stands_at, noted_more}
use Rattle.fed_board.proofs.noting.note_all.Goals as goal
use Rattle.fed_board.proofs.noting.note_all.Goals.{then-rise-lt-SITES+in_ok-note_at, else-rise-lt-SITES}

pub returns-in_err-note_at-clause-kept : goal.returns-in_err-note_at-clause-kept
returns-in_err-note_at-clause-kept c s job k small h = c.note_at.ensures.kept s job k small (c.loop-rise.invariant.kept s job k small h)

pub loop-rise-preserved : goal.loop-rise-preserved
loop-rise-preserved c = elim c.if-rise-lt-SITES.branch [
  | then-rise-lt-SITES+in_ok-note_at w ↦ record {
    kept = λ s job k small h. subst (λ (cs : List SiteValue). IsListed (site_at cs s) job k) (sym w.changes-is) (w.note_at.ensures.kept s job k small (c.loop-rise.invariant.kept s job k small h));
    listed = noted_more c.loop-rise.changes c.if-rise-lt-SITES.changes c.args.rises.now c.loop-rise.rise-index c.rise-item.result
        (λ s job k small h. subst (λ (cs : List SiteValue). IsListed (site_at cs s) job k) (sym w.changes-is) (w.note_at.ensures.kept s job k small h))
        c.loop-rise.invariant.listed c.loop-rise-test.true c.rise-item.is
        (λ small. subst (λ (cs : List SiteValue). IsListed (site_at cs c.rise-item.result.site) c.rise-item.result.job c.rise-item.result.counter) (sym w.changes-is) w.in_ok-note_at.ensures.listed);
  }
  | else-rise-lt-SITES w ↦ record {
    kept = λ s job k small h. subst (λ (cs : List SiteValue). IsListed (site_at cs s) job k) (sym w.changes-is) (c.loop-rise.invariant.kept s job k small h);
    listed = noted_more c.loop-rise.changes c.if-rise-lt-SITES.changes c.args.rises.now c.loop-rise.rise-index c.rise-item.result
        (λ s job k small h. subst (λ (cs : List SiteValue). IsListed (site_at cs s) job k) (sym w.changes-is) h)
        c.loop-rise.invariant.listed c.loop-rise-test.true c.rise-item.is
        (λ small. let past = w.if-rise-lt-SITES.false in absurd (omega (arith, small, past)));
  }
]

pub returns-clause-listed : goal.returns-clause-listed
returns-clause-listed c x h small =
    let at : StandsAt c.args.rises.now x = stands_at c.args.rises.now x h in
    let below : at.index < c.loop-rise.rise-index = let b = at.below in omega (arith, b, c.loop-rise-test.false) in
    subst (λ (y : Rise). y.site < 16 → IsListed (site_at c.loop-rise.changes y.site) y.job y.counter) (at.is x) (c.loop-rise.invariant.listed at.index x below) small
