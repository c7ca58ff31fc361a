-- Replicas that are identical.
use Rattle.std.specs.Prelude.{◌↔◌, nat_eq, not}
use Rattle.std.specs.Cmp.Lexicographic.{pointwise}
use Rattle.std.proofs.Common.{◌≡◌, ℕ, Bool, List, true, false, sym, ap, ◌∙◌}
use Rattle.std.proofs.lemmas.Bool.{eq-eqb, eqb-true, not-false}
use Rattle.fed_lattice.specs.ExactLaws.{tells_lists, tells_numbers}
use Rattle.fed_board.specs.BoardLaws.{same_board, tells_boards}
use Rattle.fed_replica.specs.Replica.{ReplicaValue}

pub same_versions : (one other : List (List ℕ)) → (pointwise (pointwise nat_eq) one other ≡ true) ↔ (one ≡ other)
same_versions one other = tells_lists (pointwise nat_eq) (tells_lists nat_eq tells_numbers) one other

module _ (r q : ReplicaValue) where
  abbrev other_site : Bool
  other_site = not (nat_eq r.site q.site)

  abbrev other_board : Bool
  other_board = not (same_board r.board q.board)

  pub same_replicas : other_site ≡ false → other_board ≡ false → r.heard ≡ q.heard → r ≡ q
  same_replicas sites boards heard =
      let site = eqb-true r.site q.site (not-false (nat_eq r.site q.site) sites) in
      let board = (tells_boards r.board q.board).0 (not-false (same_board r.board q.board) boards) in
      λ i. record { site = site i; board = board i; heard = heard i }

  pub sites_differ : other_site ≡ true → r ≡ q → false ≡ true
  sites_differ told same = sym (ap not (eq-eqb r.site q.site (ap (λ (x : ReplicaValue). x.site) same))) ∙ told

  pub boards_differ : other_board ≡ true → r ≡ q → false ≡ true
  boards_differ told same = sym (ap not ((tells_boards r.board q.board).1 (ap (λ (x : ReplicaValue). x.board) same))) ∙ told
