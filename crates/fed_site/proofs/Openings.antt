-- Sites that have heard nothing.
use Rattle.std.specs.Prelude.{if◌then◌else◌, nat_lt}
use Rattle.std.proofs.Common.{◌≡◌, ℕ, zero, suc, Bool, true, false, List, [], get_or, replicate, refl, ap, ◌∙◌}
use Rattle.fed_board.specs.Board.{board_reads}
use Rattle.fed_model.specs.View.{view}
use Rattle.fed_delta.specs.Packet.{PacketValue}
use Rattle.fed_replica.specs.Replica.{ReplicaValue}
use Rattle.fed_replica.specs.State.{empty_at, state_of}
use Rattle.fed_site.specs.Known.{knowing}

-- ---- nothing was heard
same_each : (n from : ℕ) (z : List ℕ) → get_or (replicate n z) from z ≡ z
same_each zero from z = refl
same_each (suc n) zero z = refl
same_each (suc n) (suc from) z = same_each n from z

either : (b : Bool) (x z : List ℕ) → x ≡ z → (if b then x else z) ≡ z
either true x z e = e
either false x z e = refl

nothing_heard : (r : ReplicaValue) → r.heard ≡ replicate 16 (replicate 16 0) → (from : ℕ) → (if nat_lt from 16 then get_or r.heard from (replicate 16 0) else replicate 16 0) ≡ replicate 16 0
nothing_heard r heard from = either (nat_lt from 16) (get_or r.heard from (replicate 16 0)) (replicate 16 0)
    (ap (λ (hs : List (List ℕ)). get_or hs from (replicate 16 0)) heard ∙ same_each 16 from (replicate 16 0))

pub new_state : (r : ReplicaValue) (here : ℕ) → r.site ≡ here → r.heard ≡ replicate 16 (replicate 16 0) → board_reads r.board ≡ view [] → state_of r ≡ empty_at here
new_state r here site heard stands = λ i. record { site = site i; view = stands i; heard = λ from. nothing_heard r heard from i }

-- ---- a site that knows what a packet tells
pub known_state : (r : ReplicaValue) (here : ℕ) (p : PacketValue) → r.site ≡ here → r.heard ≡ replicate 16 (replicate 16 0) → r.board ≡ p.delta.changes → state_of r ≡ knowing here p
known_state r here p site heard board = λ i. record { site = site i; view = board_reads (board i); heard = λ from. nothing_heard r heard from i }
