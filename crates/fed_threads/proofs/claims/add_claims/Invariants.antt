use Rattle.std.proofs.Common.{◌≡◌, ℕ, List, ◌++◌, ◌∷◌, [], take, length}
use Rattle.fed_threads.specs.declared.journal.Claim.{Claim}
use Rattle.fed_threads.specs.Claimants.{AreClaimantsOf}
use Rattle.fed_threads.proofs.claims.add_claims.Given as goal

abbrev pub invariant-loop-claim : goal.invariant-loop-claim
invariant-loop-claim l = (seats : List (List Claim)) (count : ℕ) → length seats ≡ l.seat → AreClaimantsOf seats l.site count l.fn.row.items →
    AreClaimantsOf (seats ++ take l.claim-index l.claims ∷ []) l.site count l.row.items
