use Rattle.std.proofs.Common.{◌≡◌, Some, Ok, sym, ap, ◌∙◌, arith, lit<, length}
use Rattle.std.specs.List.{slice_split}
use Rattle.std.proofs.lemmas.Iterator.Consumers.{YieldsList-turn, YieldsList-end}
use Rattle.std.proofs.lemmas.List.{length_push}
use Rattle.fed_stamp.specs.SiteSet.{set_of}
use Rattle.fed_lattice.specs.Results.{mapped, each}
use Rattle.fed_words.specs.declared.faults.UsageFault.TheVariants.{BadValue}
use Rattle.fed_words.specs.Resource.{is_plus}
use Rattle.fed_words.specs.Site.{site_in}
use Rattle.fed_words.proofs.Each.{each-start, each-more, each-fault, each-end, gives-fault, gives-no_memory}
use Rattle.fed_words.proofs.Pieces.{pieces, named_set, some_from}
use Rattle.fed_words.proofs.resources.read_sites.Goals as goal

pub loop-name-init : goal.loop-name-init
loop-name-init c = rw c.new-sites.ensures.items (each-start (site_in BadValue c.args.roster.now) (slice_split is_plus c.args.value.now))

pub returns-in_err-site : goal.returns-in_err-site
returns-in_err-site c =
    let road = pieces {t = c.into_iter-name-iterator.result} 43 c.args.value.now (lit< tt) c.into_iter-name-iterator.ensures.into_iter_gives c.split-name-items.ensures.text c.split-name-items.ensures.has_more c.split-name-items.ensures.pattern in
    let turn = YieldsList-turn road c.loop-name.yielded _ c.loop-name.yielded_by _ _ c.in-Some.name c.in-Some.is c.next.ensures.steps in
    gives-fault (λ set. set) c.from_residual.result _ c.in_err-site.field-0.0 c.from_residual.ensures.1
    (ap (mapped set_of) (c.loop-name.invariant ∙ each-fault (site_in BadValue c.args.roster.now) c.loop-name.sites.items (slice_split is_plus c.args.value.now) (length c.loop-name.yielded) c.in-Some.name.now turn.0 turn.1 c.in_err-site.field-0.0 (sym c.in_err-site.ensures)))

pub returns-in_err-push : goal.returns-in_err-push
returns-in_err-push c = gives-no_memory (λ set. set) c.from_residual-in_err-push.result _ c.from_residual-in_err-push.ensures.1

pub unwrap-requires : goal.unwrap-requires
unwrap-requires c =
    let road = pieces {t = c.into_iter-name-iterator.result} 43 c.args.value.now (lit< tt) c.into_iter-name-iterator.ensures.into_iter_gives c.split-name-items.ensures.text c.split-name-items.ensures.has_more c.split-name-items.ensures.pattern in
    let past = YieldsList-end road c.loop-name.yielded _ c.loop-name.yielded_by _ _ c.in-None.is c.next.ensures.steps in
    let whole : each (site_in BadValue c.args.roster.now) (slice_split is_plus c.args.value.now) ≡ Ok c.loop-name.sites.items =
    c.loop-name.invariant ∙ each-end (site_in BadValue c.args.roster.now) c.loop-name.sites.items (slice_split is_plus c.args.value.now) (length c.loop-name.yielded) (omega (arith, past.1)) in
    let found : c.new.result ≡ Some (set_of c.loop-name.sites.items) = c.new.ensures.same ∙ rw c.deref.ensures.value (named_set (site_in BadValue c.args.roster.now) is_plus c.args.value.now c.loop-name.sites.items whole) in
    some_from c.new.result _ found

pub loop-name-preserved : goal.loop-name-preserved
loop-name-preserved c =
    let road = pieces {t = c.into_iter-name-iterator.result} 43 c.args.value.now (lit< tt) c.into_iter-name-iterator.ensures.into_iter_gives c.split-name-items.ensures.text c.split-name-items.ensures.has_more c.split-name-items.ensures.pattern in
    let turn = YieldsList-turn road c.loop-name.yielded _ c.loop-name.yielded_by _ _ c.in-Some.name c.in-Some.is c.next.ensures.steps in
    rw (c.in_ok-push.ensures.items, length_push c.loop-name.yielded c.in-Some.name) (c.loop-name.invariant ∙ each-more (site_in BadValue c.args.roster.now) c.loop-name.sites.items (slice_split is_plus c.args.value.now) (length c.loop-name.yielded) c.in-Some.name.now turn.0 turn.1 c.in_ok-site.site (sym c.in_ok-site.ensures))

pub returns : goal.returns
returns c =
    let road = pieces {t = c.into_iter-name-iterator.result} 43 c.args.value.now (lit< tt) c.into_iter-name-iterator.ensures.into_iter_gives c.split-name-items.ensures.text c.split-name-items.ensures.has_more c.split-name-items.ensures.pattern in
    let past = YieldsList-end road c.loop-name.yielded _ c.loop-name.yielded_by _ _ c.in-None.is c.next.ensures.steps in
    let whole : each (site_in BadValue c.args.roster.now) (slice_split is_plus c.args.value.now) ≡ Ok c.loop-name.sites.items =
    c.loop-name.invariant ∙ each-end (site_in BadValue c.args.roster.now) c.loop-name.sites.items (slice_split is_plus c.args.value.now) (length c.loop-name.yielded) (omega (arith, past.1)) in
    let found : c.new.result ≡ Some (set_of c.loop-name.sites.items) = c.new.ensures.same ∙ rw c.deref.ensures.value (named_set (site_in BadValue c.args.roster.now) is_plus c.args.value.now c.loop-name.sites.items whole) in
    let taken : Some (set_of c.loop-name.sites.items) ≡ Some c.unwrap.result = sym found ∙ c.unwrap.ensures in
    let set : set_of c.loop-name.sites.items ≡ c.unwrap.result = cc in
    ap (mapped set_of) whole ∙ ap Ok set
