-- The laws of what two boards merge to, of its jobs and of its reservations.
use Rattle.std.specs.List.Sorted.{IsStrictlySortedBy}
use Rattle.std.specs.Map.{keys_of}
use Rattle.std.proofs.Common.{◌≡◌, ℕ, List, Bool, sym, ap, ◌∙◌}
use Rattle.fed_stamp.specs.Stamp.{StampValue}
use Rattle.fed_stamp.specs.Version.{joined}
use Rattle.fed_lattice.specs.Latest.{stamp_cmp}
use Rattle.fed_lattice.specs.Table.{joined_tables}
use Rattle.fed_ranges.specs.Dropped.{dropped, either, joined_dropping}
use Rattle.fed_ranges.specs.Retired.{RetiredValue, has_retired}
use Rattle.fed_board.specs.Board.{AreKept}
use Rattle.fed_board.proofs.DroppedTables.{none_dropped}
use Rattle.fed_board.proofs.RetiredTables.{AreAllApart, tables_joined, at_tables, has_joined, apart_joined}

module _ {X : Type 0} (bottom : X) (join : X → List ℕ → X → List ℕ → X) where
  -- what two tables merge to, each beside what is retired and a version
  abbrev pub part : RetiredValue → List (StampValue × X) → List ℕ → RetiredValue → List (StampValue × X) → List ℕ → List (StampValue × X)
  part x xs u y ys v = dropped (has_retired (tables_joined x y u v)) (joined_tables stamp_cmp bottom join xs u ys v)

  abbrev dropping : (StampValue → Bool) → List (StampValue × X) → List ℕ → (StampValue → Bool) → List (StampValue × X) → List ℕ → List (StampValue × X)
  dropping = joined_dropping stamp_cmp bottom join

  both : (x y : RetiredValue) (u v : List ℕ) → AreAllApart x → AreAllApart y → has_retired (tables_joined x y u v) ≡ either (has_retired x) (has_retired y)
  both x y u v p q = λ i id. has_joined x y u v (tables_joined x y u v) (at_tables x y u v) p q id i

  apart : (x y : RetiredValue) (u v : List ℕ) → AreAllApart x → AreAllApart y → AreAllApart (tables_joined x y u v)
  apart x y u v p q = apart_joined x y u v (tables_joined x y u v) (at_tables x y u v) p q

  part_is : (x y : RetiredValue) (xs ys : List (StampValue × X)) (u v : List ℕ) → AreAllApart x → AreAllApart y → part x xs u y ys v ≡ dropping (has_retired x) xs u (has_retired y) ys v
  part_is x y xs ys u v p q = ap (λ gone. dropped gone (joined_tables stamp_cmp bottom join xs u ys v)) (both x y u v p q)

  module _ (x y z : RetiredValue) (xs ys zs : List (StampValue × X)) (u v w : List ℕ) (p : AreAllApart x) (q : AreAllApart y) (r : AreAllApart z) where
    left_is : part (tables_joined x y u v) (part x xs u y ys v) (joined u v) z zs w ≡ dropping (either (has_retired x) (has_retired y)) (dropping (has_retired x) xs u (has_retired y) ys v) (joined u v) (has_retired z) zs w
    left_is =
        part_is (tables_joined x y u v) z (part x xs u y ys v) zs (joined u v) w (apart x y u v p q) r
        ∙ (λ i. dropping (both x y u v p q i) (part_is x y xs ys u v p q i) (joined u v) (has_retired z) zs w)

    right_is : part x xs u (tables_joined y z v w) (part y ys v z zs w) (joined v w) ≡ dropping (has_retired x) xs u (either (has_retired y) (has_retired z)) (dropping (has_retired y) ys v (has_retired z) zs w) (joined v w)
    right_is =
        part_is x (tables_joined y z v w) xs (part y ys v z zs w) u (joined v w) p (apart y z v w q r)
        ∙ (λ i. dropping (has_retired x) xs u (both y z v w q r i) (part_is y z ys zs v w q r i) (joined v w))

    pub part_assoc : dropping (either (has_retired x) (has_retired y)) (dropping (has_retired x) xs u (has_retired y) ys v) (joined u v) (has_retired z) zs w
        ≡ dropping (has_retired x) xs u (either (has_retired y) (has_retired z)) (dropping (has_retired y) ys v (has_retired z) zs w) (joined v w)
        → part (tables_joined x y u v) (part x xs u y ys v) (joined u v) z zs w ≡ part x xs u (tables_joined y z v w) (part y ys v z zs w) (joined v w)
    part_assoc law = left_is ∙ law ∙ sym right_is

  pub part_comm : (x y : RetiredValue) (xs ys : List (StampValue × X)) (u v : List ℕ) → AreAllApart x → AreAllApart y
      → dropping (has_retired x) xs u (has_retired y) ys v ≡ dropping (has_retired y) ys v (has_retired x) xs u → part x xs u y ys v ≡ part y ys v x xs u
  part_comm x y xs ys u v p q law = part_is x y xs ys u v p q ∙ law ∙ sym (part_is y x ys xs v u q p)

  pub part_itself : (x : RetiredValue) (xs : List (StampValue × X)) (u : List ℕ) → AreAllApart x → IsStrictlySortedBy stamp_cmp (keys_of xs) → AreKept x xs
      → (dropped (has_retired x) xs ≡ xs → dropping (has_retired x) xs u (has_retired x) xs u ≡ xs) → part x xs u x xs u ≡ xs
  part_itself x xs u p s k law = part_is x x xs xs u u p p ∙ law (none_dropped x xs s k)
