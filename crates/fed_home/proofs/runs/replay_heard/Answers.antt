use Rattle.std.proofs.Common.{◌≡◌, ◌∙◌, ◌<◌, ◌+◌, ◌-◌, Ok, IfErr, IfOk, drop, take, length, length-drop, sym, subst, arith}
use Rattle.std.proofs.lemmas.List.{take_all}
use Rattle.fed_site.specs.Site.{SiteValue}
use Rattle.fed_home.specs.Fault.{StopsAt}
use Rattle.fed_home.specs.Replay.{replayed_of}
use Rattle.fed_home.proofs.Beginnings.{goes, hears_on, heard_all, heard_more, heard_none, heard_wrong, texts_now}
use Rattle.fed_home.proofs.runs.replay_heard.Goals as goal

pub returns-then-number-lines-clause-fault : goal.returns-then-number-lines-clause-fault
returns-then-number-lines-clause-fault c =
    sym c.loop-number.invariant.rest ∙ heard_none c.len-count.result c.loop-number.number c.loop-number.site c.args.lines.now c.loop-number-test.true c.if-number-lines.true

pub returns-then-not-branch-clause-fault : goal.returns-then-not-branch-clause-fault
returns-then-not-branch-clause-fault c =
    let within : c.loop-number.number < length c.args.lines.now = omega arith in
    sym c.loop-number.invariant.rest
    ∙ heard_wrong c.len-count.result c.loop-number.number c.loop-number.site c.args.lines.now c.loop-number-test.true c.hears.new.site _ within _ c.in_ok-hears.ensures.after c.in_ok-hears.ensures.same c.if-not-branch.true

pub loop-number-preserved : goal.loop-number-preserved
loop-number-preserved c =
    let within : c.loop-number.number < length c.args.lines.now = omega arith in
    record {
      within = omega arith;
      rest = heard_more c.len-count.result c.loop-number.number c.loop-number.site c.args.lines.now c.loop-number-test.true c.hears.new.site _ within _ c.in_ok-hears.ensures.after c.in_ok-hears.ensures.same c.if-not-branch.false c.in_ok-hears.ensures.roster
          ∙ c.loop-number.invariant.rest;
    }

pub returns-clause-read : goal.returns-clause-read
returns-clause-read c =
    let site = c.loop-number.site in
    let count = c.len-count.result in
    let lines = c.args.lines.now in
    let is : c.loop-number.number ≡ count = omega arith in
    let whole : take (length lines - count) (drop count lines) ≡ drop count lines = take_all (length lines - count) (drop count lines) (omega (arith, length-drop count lines)) in
    let came : hears_on (length c.args.knowing.roster) 0 c.args.knowing (texts_now lines) ≡ goes (3 + count) site (texts_now (take (length lines - count) (drop count lines))) =
    sym c.loop-number.invariant.rest
    ∙ sym (heard_all count c.loop-number.number site (texts_now (drop c.loop-number.number lines)) is)
    ∙ (λ k. goes (3 + count) site (texts_now (drop (is k) lines)))
    ∙ (λ k. goes (3 + count) site (texts_now (sym whole k))) in
    subst (λ r. IfOk c.replay_kept.result (λ (new : SiteValue). r ≡ Ok (replayed_of new))) (sym came) c.replay_kept.ensures.read

pub returns-clause-fault : goal.returns-clause-fault
returns-clause-fault c =
    let site = c.loop-number.site in
    let count = c.len-count.result in
    let lines = c.args.lines.now in
    let is : c.loop-number.number ≡ count = omega arith in
    let whole : take (length lines - count) (drop count lines) ≡ drop count lines = take_all (length lines - count) (drop count lines) (omega (arith, length-drop count lines)) in
    let came : hears_on (length c.args.knowing.roster) 0 c.args.knowing (texts_now lines) ≡ goes (3 + count) site (texts_now (take (length lines - count) (drop count lines))) =
    sym c.loop-number.invariant.rest
    ∙ sym (heard_all count c.loop-number.number site (texts_now (drop c.loop-number.number lines)) is)
    ∙ (λ k. goes (3 + count) site (texts_now (drop (is k) lines)))
    ∙ (λ k. goes (3 + count) site (texts_now (sym whole k))) in
    subst (λ r. IfErr c.replay_kept.result (StopsAt r)) (sym came) c.replay_kept.ensures.fault
