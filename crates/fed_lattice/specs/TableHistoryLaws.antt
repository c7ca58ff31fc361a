-- What histories tables stand for.
use Rattle.std.specs.List.{cons_option}
use Rattle.std.specs.Ordering.{is_eq}
use Rattle.std.specs.BTreeMap.{is_at}
use Rattle.std.specs.Map.{lookup}
use Rattle.std.specs.Cmp.{IsTotalOrder}
use Rattle.std.proofs.Common.{◌≡◌, ◌≢◌, ℕ, List, [], ◌∷◌, ◌++◌, Bool, true, false, cond, Option, Some, None, unwrap_or, option_map, MatchOption, Ordering, refl, sym, ap₂, subst}
use Rattle.std.proofs.lemmas.Map.Lookups.{CmpEqualImpliesEq}
use Rattle.std.proofs.lemmas.Map.Views.{tells_apart}
use Rattle.fed_stamp.specs.Stamp.{StampValue}
use Rattle.fed_lattice.specs.Sets.{IsSameSet}
use Rattle.fed_lattice.specs.History.{History}
use Rattle.fed_lattice.specs.Laws.{AddsChange, JoinsHistories, StandsForSets}
use Rattle.fed_lattice.specs.Part.{part}
use Rattle.fed_lattice.specs.Table.{IsTable, value_at, joined_tables, applied_table, change_at, table_stands_for, IsTableHistory}
use Rattle.fed_lattice.specs.SetLaws.{empty_from_same, not_empty_left, not_empty_right, not_empty_same}
use Rattle.fed_lattice.specs.PartLaws.{part-append, fresh_part, same_part}
use Rattle.fed_lattice.specs.BothLaws.{part_joined_stands}
use Rattle.fed_lattice.specs.TableEntryLaws.{lookup-insert_entry}
use Rattle.fed_lattice.specs.TableJoinLaws.{joined_options, lookup-joined_tables, value_at_well_formed}

-- ---- what tables stand for
module _ {X C : Type 0} (stands_for : X → History C → Type 0) where
  -- what a table has at a key stands for the changes at the key
  abbrev pub option_table_stands : Option X → History C → Type 0
  option_table_stands a h = MatchOption a (h ≡ []) (λ (x : X). (h ≢ []) × stands_for x h)

  pub option_stands_same : StandsForSets stands_for → (a : Option X) (g h : History C) → IsSameSet g h → option_table_stands a g → option_table_stands a h
  option_stands_same law None g h e p = empty_from_same g h e p
  option_stands_same law (Some x) g h e p = (not_empty_same g h e p.0, law x g h e p.1)

  value_stands : (bottom : X) → stands_for bottom [] → (a : Option X) (h : History C) → option_table_stands a h → stands_for (unwrap_or a bottom) h
  value_stands bottom law None h p = subst (stands_for bottom) (sym p) law
  value_stands bottom law (Some x) h p = p.1

  joined_option_stands : (bottom : X) (joined : X → List ℕ → X → List ℕ → X) (v w : List ℕ) (a b : Option X) (g h : History C) → option_table_stands a g → option_table_stands b h → stands_for (joined (unwrap_or a bottom) v (unwrap_or b bottom) w) (g ++ h) → option_table_stands (joined_options bottom joined v w a b) (g ++ h)
  joined_option_stands bottom joined v w None None g h p q r = ap₂ (λ l m. l ++ m) p q
  joined_option_stands bottom joined v w None (Some y) g h p q r = (not_empty_right g h q.0, r)
  joined_option_stands bottom joined v w (Some x) b g h p q r = (not_empty_left g h p.0, r)

module _ {K X C : Type 0} (R : K → K → Ordering) (o : IsTotalOrder R) (exact : CmpEqualImpliesEq R) (well_formed : X → Type 0) (is_history : History C → Type 0) (stands_for : X → History C → Type 0) (bottom : X) (well_formed_bottom : well_formed bottom) (bottom_stands : stands_for bottom []) where
  pub joined_tables_stand : (joined : X → List ℕ → X → List ℕ → X) → JoinsHistories well_formed is_history stands_for joined → JoinsHistories (IsTable R well_formed) (IsTableHistory R is_history) (table_stands_for R stands_for) (joined_tables R bottom joined)
  joined_tables_stand joined law xs ys v w g h p q rx ry agree i j k =
      let f : K × C → Option C = change_at R k in
      let a : Option X = lookup (is_at (R k)) xs in
      let b : Option X = lookup (is_at (R k)) ys in
      let x : X = value_at R bottom xs k in
      let y : X = value_at R bottom ys k in
      let m : stands_for (joined x v y w) (part f (g ++ h)) =
      part_joined_stands f stands_for is_history (joined x v y w) v w g h
      (law x y v w (part f g) (part f h) (value_at_well_formed R o well_formed bottom well_formed_bottom xs k p) (value_at_well_formed R o well_formed bottom well_formed_bottom ys k q)
      (value_stands stands_for bottom bottom_stands a (part f g) (rx k)) (value_stands stands_for bottom bottom_stands b (part f h) (ry k)))
      agree (i k) (j k) in
      subst (λ (l : Option X). option_table_stands stands_for l (part f (g ++ h))) (sym (lookup-joined_tables R o exact bottom joined k xs ys v w))
      (subst (option_table_stands stands_for (joined_options bottom joined v w a b)) (sym (part-append f g h))
      (joined_option_stands stands_for bottom joined v w a b (part f g) (part f h) (rx k) (ry k)
      (subst (stands_for (joined x v y w)) (part-append f g h) m)))

  change_stands : (b : Bool) (applied : X → StampValue → C → X) (a : Option X) (h : History C) (s : StampValue) (c : C) (z : X) → option_table_stands stands_for a h → (b ≡ true → is_history ((s, c) ∷ h) → stands_for z ((s, c) ∷ h)) → is_history (cons_option (option_map (λ (d : C). (s, d)) (cond b (Some c) None)) h) → option_table_stands stands_for (cond b (Some z) a) (cons_option (option_map (λ (d : C). (s, d)) (cond b (Some c) None)) h)
  change_stands true applied a h s c z p q i = ((λ e. cc), q refl i)
  change_stands false applied a h s c z p q i = p

  pub applied_table_stands : (applied : X → StampValue → C → X) → AddsChange well_formed is_history stands_for applied → AddsChange (IsTable R well_formed) (IsTableHistory R is_history) (table_stands_for R stands_for) (applied_table R bottom applied)
  applied_table_stands applied law es h s c p r before fresh i k =
      let f : K × C → Option C = change_at R k in
      let x : X = value_at R bottom es c.0 in
      subst (λ (l : Option X). option_table_stands stands_for l (part f ((s, c) ∷ h))) (sym (lookup-insert_entry R o exact k c.0 (applied x s c.1) es))
      (change_stands (is_eq (R k c.0)) applied (lookup (is_at (R k)) es) (part f h) s c.1 (applied x s c.1) (r k)
      (λ e j. let same : k ≡ c.0 = tells_apart exact k c.0 e in
      subst (λ (q : K). stands_for (applied (value_at R bottom es q) s c.1) ((s, c.1) ∷ part f h)) same
      (law (value_at R bottom es k) (part f h) s c.1 (value_at_well_formed R o well_formed bottom well_formed_bottom es k p)
      (value_stands stands_for bottom bottom_stands (lookup (is_at (R k)) es) (part f h) (r k)) (before k) (fresh_part f s h fresh) j))
      (i k))

pub table_stands_same : {K X C : Type 0} (R : K → K → Ordering) (stands_for : X → History C → Type 0) → StandsForSets stands_for → StandsForSets (table_stands_for {C = C} R stands_for)
table_stands_same {K} {X} {C} R stands_for law es g h e p k = option_stands_same stands_for law (lookup (is_at (R k)) es) (part (change_at R k) g) (part (change_at R k) h) (same_part (change_at R k) g h e) (p k)

pub empty_stands : {K X C : Type 0} (R : K → K → Ordering) (stands_for : X → History C → Type 0) → table_stands_for {C = C} R stands_for [] []
empty_stands R stands_for k = refl
