-- What a replica has can be read of it: those that read the same are identical.
use Rattle.std.specs.Prelude.{◌↔◌, replicate}
use Rattle.std.proofs.Common.{◌≡◌, ◌<◌, length, ap, sym, ◌∙◌, arith, ext_get_or}
use Rattle.fed_board.specs.Board.{board_reads}
use Rattle.fed_replica.specs.Replica.{ReplicaValue}
use Rattle.fed_replica.specs.State.{State, state_of}
use Rattle.fed_replica.proofs.Lefts.{heard_in}

module _ (r q : ReplicaValue) (all : length r.heard ≡ 16) (others : length q.heard ≡ 16) where
  same_heard : state_of r ≡ state_of q → r.heard ≡ q.heard
  same_heard same = ext_get_or (replicate 16 0) r.heard q.heard (all ∙ sym others) (λ k below.
      let small : k < 16 = omega (arith, below, all) in
      heard_in r k small ∙ ap (λ (s : State). s.heard k) same ∙ sym (heard_in q k small))

  module _ (boards : board_reads r.board ≡ board_reads q.board → r.board ≡ q.board) where
    read_same : state_of r ≡ state_of q → r ≡ q
    read_same same =
        let site = ap (λ (s : State). s.site) same in
        let board = boards (ap (λ (s : State). s.view) same) in
        let heard = same_heard same in
        λ i. record { site = site i; board = board i; heard = heard i }

    -- what tells identical replicas tells those that read the same, also of two that are these
    pub told_as_read : (one other : ReplicaValue) (told : Type 0) → r ≡ one → q ≡ other → told ↔ (one ≡ other) → told ↔ (state_of one ≡ state_of other)
    told_as_read one other told is_one is_other tells = (
      λ is. ap state_of (tells.0 is),
      λ same. tells.1 (sym is_one ∙ read_same (ap state_of is_one ∙ same ∙ sym (ap state_of is_other)) ∙ is_other),
    )
