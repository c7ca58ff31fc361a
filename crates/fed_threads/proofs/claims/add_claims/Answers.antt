use Rattle.std.proofs.Common.{◌≡◌, ◌+◌, ◌++◌, ◌∷◌, [], List, take, sym, ap, subst, ◌∙◌}
use Rattle.std.proofs.lemmas.List.{take_more, take_all}
use Rattle.fed_threads.specs.declared.journal.Claim.{Claim}
use Rattle.fed_threads.specs.Claimants.{AreClaimantsOf}
use Rattle.fed_threads.proofs.claims.add_claims.Goals as goal

pub loop-claim-preserved : goal.loop-claim-preserved
loop-claim-preserved c seats count len h =
    let more : take (c.loop-claim.claim-index + 1) c.args.claims.now ≡ take c.loop-claim.claim-index c.args.claims.now ++ c.claim-item.result ∷ [] =
    take_more c.args.claims.now c.loop-claim.claim-index c.claim-item.result c.loop-claim-test.true
    ∙ ap (λ (x : Claim). take c.loop-claim.claim-index c.args.claims.now ++ x ∷ []) (sym c.claim-item.is) in
    subst (λ (xs : List Claim). AreClaimantsOf (seats ++ xs ∷ []) c.args.site count c.add_claim.new.row.items) (sym more)
    (c.add_claim.ensures seats (take c.loop-claim.claim-index c.args.claims.now) count len (c.loop-claim.invariant seats count len h))

pub returns : goal.returns
returns c seats count len h =
    subst (λ (xs : List Claim). AreClaimantsOf (seats ++ xs ∷ []) c.args.site count c.loop-claim.row.items)
    (take_all c.loop-claim.claim-index c.args.claims.now c.loop-claim-test.false)
    (c.loop-claim.invariant seats count len h)
