-- What a table of identifiers has once some are dropped, and what taking identifiers out drops.
use Rattle.std.specs.Prelude.{if◌then◌else◌, ◌&&◌}
use Rattle.std.specs.BTreeMap.{is_at}
use Rattle.std.specs.List.{list_any}
use Rattle.std.specs.List.Sorted.{IsStrictlySortedBy}
use Rattle.std.specs.Map.{keys_of, lookup}
use Rattle.std.proofs.Common.{◌≡◌, ℕ, List, ◌++◌, Bool, true, false, not, ◌||◌, cond, filter, Option, Some, None, is_some, IfSome, unwrap_or, refl, sym, ap, ap₂, subst, ◌∙◌, arith}
use Rattle.std.proofs.lemmas.List.Folds.{list_any-append}
use Rattle.std.proofs.lemmas.Map.Views.{tells_apart, any-filter_same}
use Rattle.std.proofs.Math.Bool.{and-true}
use Rattle.fed_stamp.specs.Stamp.{StampValue}
use Rattle.fed_lattice.specs.ExactLaws.{exact_stamp}
use Rattle.fed_lattice.specs.Latest.{stamp_cmp}
use Rattle.fed_lattice.specs.LatestLaws.{stamp_total}
use Rattle.fed_lattice.specs.Table.{IsAtEach, value_at}
use Rattle.fed_lattice.specs.TableEntryLaws.{any_lookup, same_tables}
use Rattle.fed_lattice.specs.JoinedEntries.{joined_entries, without}
use Rattle.fed_lattice.proofs.EntryValues.{lookup-joined_entries}
use Rattle.fed_ranges.specs.Dropped.{dropped}
use Rattle.fed_ranges.specs.Retired.{RetiredValue, has_retired}
use Rattle.fed_ranges.proofs.DropLaws.{lookup-dropped, sorted_dropped}
use Rattle.fed_board.specs.Board.{AreKept}

module _ {X : Type 0} where
  abbrev at : List (StampValue × X) → StampValue → Option X
  at es id = lookup (is_at (stamp_cmp id)) es

  pub at_dropped : (gone : StampValue → Bool) (es : List (StampValue × X)) (id : StampValue) → at (dropped gone es) id ≡ cond (not (gone id)) (at es id) None
  at_dropped gone es id = lookup-dropped stamp_cmp stamp_total exact_stamp gone es id

  -- ---- what holds of the entries that are left
  pub each_dropped : (P : StampValue → X → Type 0) (gone : StampValue → Bool) (es : List (StampValue × X)) → IsAtEach stamp_cmp P es → IsAtEach stamp_cmp P (dropped gone es)
  each_dropped P gone es p id = subst (λ a. IfSome a (P id)) (sym (at_dropped gone es id)) (go (gone id))
    where
      go : (b : Bool) → IfSome (cond (not b) (at es id) None) (P id)
      go true = tt
      go false = p id

  some_where : (P : Type 0) (a : Option X) → P → IfSome a (λ x. P)
  some_where P None p = tt
  some_where P (Some x) p = p

  pub kept_dropped : (r : RetiredValue) (es : List (StampValue × X)) → AreKept r (dropped (has_retired r) es)
  kept_dropped r es id = subst (λ a. IfSome a (λ x. has_retired r id ≡ false)) (sym (at_dropped (has_retired r) es id)) (go (has_retired r id) refl)
    where
      go : (b : Bool) → has_retired r id ≡ b → IfSome (cond (not b) (at es id) None) (λ x. has_retired r id ≡ false)
      go true e = tt
      go false e = some_where (has_retired r id ≡ false) (at es id) e

  -- ---- what is read
  pub value_dropped : (bottom : X) (gone : StampValue → Bool) (es : List (StampValue × X)) (id : StampValue) → value_at stamp_cmp bottom (dropped gone es) id ≡ (if gone id then bottom else value_at stamp_cmp bottom es id)
  value_dropped bottom gone es id = ap (λ a. unwrap_or a bottom) (at_dropped gone es id) ∙ go (gone id)
    where
      go : (b : Bool) → unwrap_or (cond (not b) (at es id) None) bottom ≡ (if b then bottom else value_at stamp_cmp bottom es id)
      go true = refl
      go false = refl

  -- what is retired is not on the table
  pub value_kept : (bottom : X) (r : RetiredValue) (es : List (StampValue × X)) → AreKept r es → (id : StampValue) → value_at stamp_cmp bottom es id ≡ (if has_retired r id then bottom else value_at stamp_cmp bottom es id)
  value_kept bottom r es k id = go (has_retired r id) refl (at es id) (k id)
    where
      go : (b : Bool) → has_retired r id ≡ b → (a : Option X) → IfSome a (λ x. has_retired r id ≡ false) → unwrap_or a bottom ≡ (if b then bottom else unwrap_or a bottom)
      go false e a p = refl
      go true e None p = refl
      go true e (Some x) p = absurd (let f : true ≡ false = sym e ∙ p in cc)

  -- ---- dropping by tests that agree on what is there
  none_either : (b c : Bool) → cond {A = Option X} b None None ≡ cond c None None
  none_either true true = refl
  none_either true false = refl
  none_either false true = refl
  none_either false false = refl

  pub dropped_alike : (g h : StampValue → Bool) (es : List (StampValue × X)) → IsStrictlySortedBy stamp_cmp (keys_of es) → ((id : StampValue) → is_some (at es id) ≡ true → g id ≡ h id) → dropped g es ≡ dropped h es
  dropped_alike g h es s alike = same_tables stamp_cmp stamp_total exact_stamp (dropped g es) (dropped h es) (sorted_dropped stamp_cmp stamp_total exact_stamp g es s) (sorted_dropped stamp_cmp stamp_total exact_stamp h es s)
      (λ id. at_dropped g es id ∙ go id (at es id) refl ∙ sym (at_dropped h es id))
    where
      go : (id : StampValue) (a : Option X) → at es id ≡ a → cond (not (g id)) a None ≡ cond (not (h id)) a None
      go id None e = none_either (not (g id)) (not (h id))
      go id (Some x) e = ap (λ b. cond (not b) (Some x) None) (alike id (ap is_some e))

  pub none_dropped : (r : RetiredValue) (es : List (StampValue × X)) → IsStrictlySortedBy stamp_cmp (keys_of es) → AreKept r es → dropped (has_retired r) es ≡ es
  none_dropped r es s k = same_tables stamp_cmp stamp_total exact_stamp (dropped (has_retired r) es) es (sorted_dropped stamp_cmp stamp_total exact_stamp (has_retired r) es s) s
      (λ id. at_dropped (has_retired r) es id ∙ go id (at es id) (k id))
    where
      go : (id : StampValue) (a : Option X) → IfSome a (λ x. has_retired r id ≡ false) → cond (not (has_retired r id)) a None ≡ a
      go id None p = none_either (not (has_retired r id)) false
      go id (Some x) p = ap (λ b. cond (not b) (Some x) None) p

  -- whether an identifier that is there is among those that pass a test
  pub among_passing : (p : StampValue → Bool) (es : List (StampValue × X)) (id : StampValue) → list_any (is_at (stamp_cmp id)) (filter p (keys_of es)) ≡ (p id && is_some (at es id))
  among_passing p es id =
      any-filter_same (is_at (stamp_cmp id)) p (p id) (λ k t. ap p (sym (tells_apart exact_stamp id k t))) (keys_of es)
      ∙ ap (λ b. p id && b) (any_lookup stamp_cmp stamp_total id es)

  -- ---- identifiers that are taken out
  -- those of the table that pass a test
  pub without_passing : (p gone : StampValue → Bool) (es : List (StampValue × X)) → IsStrictlySortedBy stamp_cmp (keys_of es) → ((id : StampValue) → is_some (at es id) ≡ true → p id ≡ gone id)
      → without stamp_cmp es (filter p (keys_of es)) ≡ dropped gone es
  without_passing p gone es s alike =
      dropped_alike (λ id. list_any (is_at (stamp_cmp id)) (filter p (keys_of es))) gone es s
      (λ id there. among_passing p es id ∙ ap (λ b. p id && b) there ∙ and-true (p id) ∙ alike id there)

  -- those of either table that the other side has retired, once the one is joined into the other
  pub without_gone : (bottom : X) (join : X → List ℕ → X → List ℕ → X) (es fs all : List (StampValue × X)) (v w : List ℕ) (r s : RetiredValue) (gone : StampValue → Bool)
      → AreKept r es → AreKept s fs → ((id : StampValue) → gone id ≡ (has_retired r id || has_retired s id))
      → all ≡ joined_entries stamp_cmp bottom join es v fs w → IsStrictlySortedBy stamp_cmp (keys_of all)
      → without stamp_cmp all (filter (has_retired s) (keys_of es) ++ filter (has_retired r) (keys_of fs)) ≡ dropped gone all
  without_gone bottom join es fs all v w r s gone k l both joined sorted =
      dropped_alike (λ id. list_any (is_at (stamp_cmp id)) (filter (has_retired s) (keys_of es) ++ filter (has_retired r) (keys_of fs))) gone all sorted
      (λ id there.
      list_any-append (is_at (stamp_cmp id)) (filter (has_retired s) (keys_of es)) (filter (has_retired r) (keys_of fs))
      ∙ ap₂ (λ b c. b || c) (among_passing (has_retired s) es id) (among_passing (has_retired r) fs id)
      ∙ go id (at es id) (at fs id) (k id) (l id) (sym (ap is_some (ap (λ t. at t id) joined ∙ lookup-joined_entries stamp_cmp stamp_total exact_stamp bottom join es fs v w id)) ∙ there)
      ∙ sym (both id))
    where
      none : (b c : Bool) → b ≡ false → c ≡ false → ((c && true) || (b && true)) ≡ (b || c)
      none b c e f = grind (arith, e, f)

      left : (b c : Bool) → b ≡ false → ((c && true) || (b && false)) ≡ (b || c)
      left b c e = grind (arith, e)

      right : (b c : Bool) → c ≡ false → ((c && false) || (b && true)) ≡ (b || c)
      right b c e = grind (arith, e)

      go : (id : StampValue) (a b : Option X) → IfSome a (λ x. has_retired r id ≡ false) → IfSome b (λ x. has_retired s id ≡ false) → is_some (cond (is_some b) (Some (join (value_at stamp_cmp bottom es id) v (value_at stamp_cmp bottom fs id) w)) a) ≡ true
          → ((has_retired s id && is_some a) || (has_retired r id && is_some b)) ≡ (has_retired r id || has_retired s id)
      go id None None p q e = cc
      go id None (Some y) p q e = right (has_retired r id) (has_retired s id) q
      go id (Some x) None p q e = left (has_retired r id) (has_retired s id) p
      go id (Some x) (Some y) p q e = none (has_retired r id) (has_retired s id) p q
