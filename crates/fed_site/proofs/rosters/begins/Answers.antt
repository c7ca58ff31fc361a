use Rattle.std.proofs.Common.{◌≡◌, ◌∙◌, add-one, drop, sym, arith}
use Rattle.fed_site.specs.Rosters.{begins as begins_with}
use Rattle.std.proofs.lemmas.Bool.{not-false, not-true}
use Rattle.std.proofs.lemmas.Option.{cond_some}
use Rattle.fed_site.proofs.RosterLines.{begins_differ, begins_done, begins_past, begins_short, begins_step, named_at}
use Rattle.fed_site.proofs.rosters.begins.Goals as goal

pub returns-then-ne : goal.returns-then-ne
returns-then-ne c =
    let k = c.loop-number.number in
    let at : c.in-Some.site ≡ k = sym (cond_some _ k c.in-Some.site (sym c.new.ensures ∙ c.in-Some.is)).1 in
    sym (begins_differ k c.args.known.now c.args.new.now c.in-Some-Some.name.now c.in-Some-Some.new_name.now (named_at _ k c.args.known.now _ at c.in-Some-Some.ensures) (named_at _ k c.args.new.now _ at c.in-Some-Some.ensures') (not-true _ (sym c.ne.ensures ∙ c.if-ne.true)))
    ∙ c.loop-number.invariant

pub returns-in-Some-None : goal.returns-in-Some-None
returns-in-Some-None c =
    let k = c.loop-number.number in
    let at : c.in-Some.site ≡ k = sym (cond_some _ k c.in-Some.site (sym c.new.ensures ∙ c.in-Some.is)).1 in
    sym (begins_short k c.args.known.now c.args.new.now _ (named_at _ k c.args.known.now _ at c.in-Some-None.ensures) (named_at _ k c.args.new.now _ at c.in-Some-None.ensures')) ∙ c.loop-number.invariant

pub returns-in-None-default : goal.returns-in-None-default
returns-in-None-default c =
    let k = c.loop-number.number in
    let at : c.in-Some.site ≡ k = sym (cond_some _ k c.in-Some.site (sym c.new.ensures ∙ c.in-Some.is)).1 in
    sym (begins_done k c.args.known.now c.args.new.now (named_at _ k c.args.known.now _ at c.in-None-default.ensures)) ∙ c.loop-number.invariant

pub loop-number-preserved : goal.loop-number-preserved
loop-number-preserved c =
    let k = c.loop-number.number in
    let at : c.in-Some.site ≡ k = sym (cond_some _ k c.in-Some.site (sym c.new.ensures ∙ c.in-Some.is)).1 in
    (λ j. begins_with (drop (add-one k j) c.args.known.now) (drop (add-one k j) c.args.new.now)) ∙ sym (begins_step k c.args.known.now c.args.new.now c.in-Some-Some.name.now c.in-Some-Some.new_name.now (named_at _ k c.args.known.now _ at c.in-Some-Some.ensures) (named_at _ k c.args.new.now _ at c.in-Some-Some.ensures') (not-false _ (sym c.ne.ensures ∙ c.if-ne.false)))
    ∙ c.loop-number.invariant

pub returns : goal.returns
returns c =
    let k = c.loop-number.number in
    let count = c.len-count.ensures.roster.at_most in
    let past = c.loop-number-test.false in
    sym (begins_past k c.args.known.now c.args.new.now (omega (arith, count, past))) ∙ c.loop-number.invariant
