use Rattle.std.proofs.Common.{◌≡◌, ◌≤◌, length, ℕ, ◌<◌, ◌+◌, ◌++◌, slice_set, take, Bool, List, ◌∷◌, [], Err, refl, sym, ◌∙◌, arith}
use Rattle.std.proofs.lemmas.List.{take_more_set, take_all, length-set}
use Rattle.serde_json.specs.View.{view}
use Rattle.fed_json.specs.declared.flaws.Flaw.TheVariants.{Shape}
use Rattle.fed_json.specs.Numbers.{natural_in}
use Rattle.fed_json.specs.Reading.{Reading}
use Rattle.fed_json.proofs.ListLaws.{after, after_none, step_good, step_range, step_shape, end_good, end_bad}
use Rattle.fed_stamp.specs.declared.stamps.TheConstants.{MAX_COUNTER}
use Rattle.fed_job_json.proofs.stamps.counters.Goals.{in-Ok, in-Err-Range}
use Rattle.fed_job_json.proofs.stamps.counters.Goals as goal

pub loop-site-init : goal.loop-site-init
loop-site-init c = record {
  sites = refl;
  read = after_none _;
}

pub returns-in-Err-Shape : goal.returns-in-Err-Shape
returns-in-Err-Shape c =
    let shape : Err Shape ≡ natural_in 0 MAX_COUNTER (view c.index-values-site.result) = cc in
    sym (step_shape (natural_in 0 MAX_COUNTER) c.args.values.now c.loop-site.site c.index-values-site.result c.loop-site.in_range (take c.loop-site.site c.loop-site.counters) c.loop-site-test.true c.index-values-site.is shape)
    ∙ c.loop-site.invariant.read

kept : (counters set : List ℕ) (site x : ℕ) (in_range now : Bool) (rest whole : Reading (List ℕ)) → site < length counters → set ≡ slice_set counters site x → now ≡ in_range
    → after in_range (take site counters ++ x ∷ []) rest ≡ whole → after now (take (site + 1) set) rest ≡ whole
kept counters set site x in_range now rest whole h e i r = rw (e, i, take_more_set counters site x h) r

pub loop-site-preserved : goal.loop-site-preserved
loop-site-preserved c =
    let f = natural_in 0 MAX_COUNTER in
    let here : c.loop-site.site < length c.loop-site.counters = omega arith in
    elim c.match-natural.branch [
      | in-Ok w ↦ record {
        sites = rw w.counters-is (length-set _ _ _ ∙ c.loop-site.invariant.sites);
        read = kept c.loop-site.counters c.match-natural.counters c.loop-site.site w.in-Ok.counter c.loop-site.in_range c.match-natural.in_range _ _ here w.counters-is w.in_range-is
            (sym (step_good f c.args.values.now c.loop-site.site c.index-values-site.result c.loop-site.in_range (take c.loop-site.site c.loop-site.counters) w.in-Ok.counter c.loop-site-test.true c.index-values-site.is (cc w.in-Ok.is)) ∙ c.loop-site.invariant.read);
      }
      | in-Err-Range w ↦ record {
        sites = rw w.counters-is c.loop-site.invariant.sites;
        read = rw w.in_range-is (sym (step_range f c.args.values.now c.loop-site.site c.index-values-site.result c.loop-site.in_range (take c.loop-site.site c.loop-site.counters) (take (c.loop-site.site + 1) c.match-natural.counters) c.loop-site-test.true c.index-values-site.is (cc w.in-Err-Range.is)) ∙ c.loop-site.invariant.read);
      }
    ]

pub returns-then-in_range : goal.returns-then-in_range
returns-then-in_range c =
    let f = natural_in 0 MAX_COUNTER in
    let long : length c.loop-site.counters ≤ c.loop-site.site = omega arith in
    end_good f c.args.values.now c.loop-site.site c.loop-site.in_range c.loop-site.counters _ c.loop-site-test.false c.if-in_range.true (rw take_all at c.loop-site.invariant.read)

pub returns-else-in_range : goal.returns-else-in_range
returns-else-in_range c =
    let f = natural_in 0 MAX_COUNTER in
    end_bad f c.args.values.now c.loop-site.site c.loop-site.in_range _ _ c.loop-site-test.false c.if-in_range.false c.loop-site.invariant.read
