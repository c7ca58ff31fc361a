-- What taking out gathered identifiers leaves of a table.
use Rattle.std.specs.List.Sorted.{IsStrictlySortedBy}
use Rattle.std.specs.Map.{keys_of}
use Rattle.std.proofs.Common.{◌≡◌, ℕ, ◌≤◌, List, [], ◌++◌, true, false, ◌||◌, filter, is_some, IfSome, Option, Some, None, sym, ap, subst, ◌∙◌}
use Rattle.std.specs.BTreeMap.{is_at}
use Rattle.std.specs.Map.{lookup}
use Rattle.fed_stamp.specs.Stamp.{StampValue}
use Rattle.fed_lattice.specs.Latest.{stamp_cmp}
use Rattle.fed_lattice.specs.LatestLaws.{stamp_total}
use Rattle.fed_lattice.specs.TableEntryLaws.{sorted_filled}
use Rattle.fed_lattice.specs.Table.{value_at}
use Rattle.fed_lattice.specs.JoinedEntries.{joined_entries, without}
use Rattle.fed_model.specs.Body.{Body.Retire}
use Rattle.fed_model.specs.Retired.{retires}
use Rattle.fed_ranges.specs.declared.ranges.Range.{Range}
use Rattle.fed_ranges.specs.Dropped.{dropped}
use Rattle.fed_ranges.specs.Retired.{RetiredValue, has_retired}
use Rattle.fed_board.specs.Board.{AreKept}
use Rattle.fed_board.specs.Retiring.{is_of_range}
use Rattle.fed_board.proofs.DroppedTables.{without_passing, without_gone}
use Rattle.fed_board.proofs.RetiredTables.{AreAllApart, range_added, has_added}
use Rattle.fed_board.proofs.RetiringLoops.{all_pass}

module _ {X : Type 0} where
  pub without_none : (es : List (StampValue × X)) → without stamp_cmp es [] ≡ es
  without_none es = all_pass es

  -- a range of one site
  pub range_dropped : (r : RetiredValue) (at : StampValue) (range : Range) (es new : List (StampValue × X)) (ids : List StampValue) → AreAllApart r → range.first ≤ range.last
      → IsStrictlySortedBy stamp_cmp (keys_of es) → AreKept r es → ids ≡ filter (is_of_range at.site range) (keys_of es) → new ≡ without stamp_cmp es ids → new ≡ dropped (has_retired (range_added r at range)) es
  range_dropped r at range es new ids apart some sorted kept taken left =
      left ∙ ap (without stamp_cmp es) taken
      ∙ without_passing (is_of_range at.site range) (has_retired (range_added r at range)) es sorted
      (λ id there. go id (lookup (is_at (stamp_cmp id)) es) (kept id) there ∙ sym (has_added r at range some apart id))
    where
      go : (id : StampValue) (a : Option X) → IfSome a (λ x. has_retired r id ≡ false) → is_some a ≡ true → is_of_range at.site range id ≡ (has_retired r id || retires id (at, Retire range.first range.last))
      go id None p there = cc
      go id (Some x) p there = ap (λ b. b || retires id (at, Retire range.first range.last)) (sym p)

  -- what either side has retired
  pub joined_dropped : (bottom : X) (join : X → List ℕ → X → List ℕ → X) (es fs all new : List (StampValue × X)) (v w : List ℕ) (r s t : RetiredValue) (ids : List StampValue)
      → AreKept r es → AreKept s fs → ((id : StampValue) → has_retired t id ≡ (has_retired r id || has_retired s id)) → IsStrictlySortedBy stamp_cmp (keys_of es)
      → all ≡ joined_entries stamp_cmp bottom join es v fs w → ids ≡ filter (has_retired s) (keys_of es) ++ filter (has_retired r) (keys_of fs) → new ≡ without stamp_cmp all ids
      → new ≡ dropped (has_retired t) (joined_entries stamp_cmp bottom join es v fs w)
  joined_dropped bottom join es fs all new v w r s t ids k l both sorted joined gathered left =
      let ascending : IsStrictlySortedBy stamp_cmp (keys_of (joined_entries stamp_cmp bottom join es v fs w)) =
      sorted_filled stamp_cmp stamp_total (λ q. join (value_at stamp_cmp bottom es q) v (value_at stamp_cmp bottom fs q) w) es (keys_of fs) sorted in
      left ∙ ap (without stamp_cmp all) gathered
      ∙ without_gone bottom join es fs all v w r s (has_retired t) k l both joined (subst (λ (a : List (StampValue × X)). IsStrictlySortedBy stamp_cmp (keys_of a)) (sym joined) ascending)
      ∙ ap (dropped (has_retired t)) joined
