use Rattle.std.proofs.Common.{◌≡◌, ◌⊎◌, inl, inr, [], ◌∷◌, ◌++◌, Err, Ok, sym, ap, ◌∙◌, arith, lit<, length}
use Rattle.std.specs.List.{slice_split}
use Rattle.std.proofs.lemmas.Iterator.Consumers.{YieldsList-turn, YieldsList-end}
use Rattle.std.proofs.lemmas.List.{length_push}
use Rattle.fed_lattice.specs.Results.{mapped}
use Rattle.fed_words.specs.declared.faults.UsageFault.TheVariants.{NoMemory}
use Rattle.fed_words.specs.Resource.{is_comma, last_resources, resource_in, resources_in}
use Rattle.fed_words.proofs.Each.{each-start, each-more, each-fault, each-end, gives-either}
use Rattle.fed_words.proofs.Pieces.{pieces}
use Rattle.fed_words.proofs.resources.read_resources.Goals as goal

pub loop-pair-init : goal.loop-pair-init
loop-pair-init c = ([], c.none-resources.ensures, each-start (resource_in c.args.roster.now) (slice_split is_comma c.args.text.now))

pub returns-in_err-resource : goal.returns-in_err-resource
returns-in_err-resource c =
    let road = pieces {t = c.into_iter-pair-iterator.result} 44 c.args.text.now (lit< tt) c.into_iter-pair-iterator.ensures.into_iter_gives c.split-pair-items.ensures.text c.split-pair-items.ensures.has_more c.split-pair-items.ensures.pattern in
    let turn = YieldsList-turn road c.loop-pair.yielded _ c.loop-pair.yielded_by _ _ c.in-Some.pair c.in-Some.is c.next.ensures.steps in
    let either : (c.in_err-resource.field-0.0 ≡ NoMemory) ⊎ (resources_in c.args.roster.now c.args.text.now ≡ Err c.in_err-resource.field-0.0) = elim c.in_err-resource.ensures [
      | inl refused ↦ inl refused
      | inr wrong ↦ inr (ap (mapped last_resources) (c.loop-pair.invariant.2 ∙ each-fault (resource_in c.args.roster.now) c.loop-pair.invariant.0 (slice_split is_comma c.args.text.now) (length c.loop-pair.yielded) c.in-Some.pair.now turn.0 turn.1 c.in_err-resource.field-0.0 wrong))
    ] in
    gives-either (λ resources. resources) c.from_residual.result _ c.in_err-resource.field-0.0 c.from_residual.ensures.1 either

pub loop-pair-preserved : goal.loop-pair-preserved
loop-pair-preserved c =
    let road = pieces {t = c.into_iter-pair-iterator.result} 44 c.args.text.now (lit< tt) c.into_iter-pair-iterator.ensures.into_iter_gives c.split-pair-items.ensures.text c.split-pair-items.ensures.has_more c.split-pair-items.ensures.pattern in
    let turn = YieldsList-turn road c.loop-pair.yielded _ c.loop-pair.yielded_by _ _ c.in-Some.pair c.in-Some.is c.next.ensures.steps in (
      c.loop-pair.invariant.0 ++ c.in_ok-resource.resource ∷ [],
      c.with-resources.ensures c.loop-pair.invariant.0 c.loop-pair.invariant.1,
      rw (length_push c.loop-pair.yielded c.in-Some.pair) (c.loop-pair.invariant.2 ∙ each-more (resource_in c.args.roster.now) c.loop-pair.invariant.0 (slice_split is_comma c.args.text.now) (length c.loop-pair.yielded) c.in-Some.pair.now turn.0 turn.1 c.in_ok-resource.resource c.in_ok-resource.ensures),
    )

pub returns : goal.returns
returns c =
    let road = pieces {t = c.into_iter-pair-iterator.result} 44 c.args.text.now (lit< tt) c.into_iter-pair-iterator.ensures.into_iter_gives c.split-pair-items.ensures.text c.split-pair-items.ensures.has_more c.split-pair-items.ensures.pattern in
    let past = YieldsList-end road c.loop-pair.yielded _ c.loop-pair.yielded_by _ _ c.in-None.is c.next.ensures.steps in
    ap (mapped last_resources) (c.loop-pair.invariant.2 ∙ each-end (resource_in c.args.roster.now) c.loop-pair.invariant.0 (slice_split is_comma c.args.text.now) (length c.loop-pair.yielded) (omega (arith, past.1)))
    ∙ ap Ok (sym c.loop-pair.invariant.1)
