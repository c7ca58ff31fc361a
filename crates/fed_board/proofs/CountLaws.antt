-- How counts of identifiers by site follow tables.
use Rattle.std.specs.List.{AllByRecursion}
use Rattle.std.specs.Ordering.{match_ordering, is_eq, ordering_reverse}
use Rattle.std.specs.BTreeMap.{insert_entry, is_at}
use Rattle.std.specs.Map.{keys_of, lookup}
use Rattle.std.specs.List.Sorted.{IsStrictlySortedBy}
use Rattle.std.proofs.Common.{◌≡◌, ◌==◌, ℕ, ◌+◌, ◌<◌, ◌≤◌, List, [], ◌∷◌, length, Bool, true, false, cond, not, count_by, slice_index, slice_index_or, slice_set, Option, Some, None, is_some, Ordering, Less, Equal, Greater, suc, refl, sym, ap, ap₂, subst, ◌∙◌, arith}
use Rattle.std.proofs.lemmas.List.Sums.{count_by-le-length, sum_by-cons}
use Rattle.std.proofs.lemmas.List.{get_or-set_same, get_or-set_other}
use Rattle.std.proofs.lemmas.Map.{keys-set_value}
use Rattle.std.proofs.lemmas.Map.Entries.{length-keys_of}
use Rattle.fed_stamp.specs.Stamp.{StampValue}
use Rattle.fed_lattice.specs.ExactLaws.{tells_numbers, exact_stamp}
use Rattle.fed_lattice.specs.Latest.{stamp_cmp}
use Rattle.fed_lattice.specs.LatestLaws.{stamp_total}
use Rattle.fed_lattice.specs.Table.{filled}
use Rattle.fed_lattice.specs.JoinedEntries.{missing_from}
use Rattle.fed_lattice.specs.TableEntryLaws.{sorted_insert, lookup-insert_entry}
use Rattle.fed_lattice.proofs.TableWrites.{set_value-insert}
use Rattle.fed_board.specs.Counts.{ids_of, AreCounts, AreCounting}

-- ---- one identifier more
push : (p : StampValue → Bool) (k : StampValue) (ks : List StampValue) → count_by p (k ∷ ks) ≡ cond (p k) 1 0 + count_by p ks
push p k ks = sum_by-cons (λ x. cond (p x) 1 0) k ks

pub ids-push : (site : ℕ) (k : StampValue) (ks : List StampValue) → ids_of site (k ∷ ks) ≡ cond (k.site == site) 1 0 + ids_of site ks
ids-push site k ks = push (λ (id : StampValue). id.site == site) k ks

-- an identifier that is new is counted once
count-insert_new : {X : Type 0} (p : StampValue → Bool) (es : List (StampValue × X)) (k : StampValue) (w : X) → is_some (lookup (is_at (stamp_cmp k)) es) ≡ false
    → count_by p (keys_of (insert_entry stamp_cmp es k w)) ≡ count_by p (k ∷ keys_of es)
count-insert_new p [] k w e = refl
count-insert_new {X} p (x ∷ es) k w e = go (stamp_cmp k x.0) refl (λ f. count-insert_new p es k w f)
  where
    go : (r : Ordering) → stamp_cmp k x.0 ≡ r → (is_some (lookup (is_at (stamp_cmp k)) es) ≡ false → count_by p (keys_of (insert_entry stamp_cmp es k w)) ≡ count_by p (k ∷ keys_of es))
        → count_by p (keys_of (match_ordering r ((k, w) ∷ x ∷ es) ((x.0, w) ∷ es) (x ∷ insert_entry stamp_cmp es k w))) ≡ count_by p (k ∷ x.0 ∷ keys_of es)
    go Less i rest = refl
    go Equal i rest = absurd (let f : true ≡ false = rw i at e in cc)
    go Greater i more =
        let rest : count_by p (keys_of (insert_entry stamp_cmp es k w)) ≡ count_by p (k ∷ keys_of es) = more (rw i at e) in
        omega (arith, rest, push p x.0 (keys_of (insert_entry stamp_cmp es k w)), push p k (x.0 ∷ keys_of es), push p x.0 (keys_of es), push p k (keys_of es))

-- a table that grows by an identifier has it once more
count-insert_longer : {X : Type 0} (p : StampValue → Bool) (es : List (StampValue × X)) (k : StampValue) (w : X) → length es < length (insert_entry stamp_cmp es k w)
    → count_by p (keys_of (insert_entry stamp_cmp es k w)) ≡ count_by p (k ∷ keys_of es)
count-insert_longer p [] k w longer = refl
count-insert_longer {X} p (x ∷ es) k w longer = go (stamp_cmp k x.0) refl (λ f. count-insert_longer p es k w f)
  where
    go : (r : Ordering) → stamp_cmp k x.0 ≡ r → (length es < length (insert_entry stamp_cmp es k w) → count_by p (keys_of (insert_entry stamp_cmp es k w)) ≡ count_by p (k ∷ keys_of es))
        → count_by p (keys_of (match_ordering r ((k, w) ∷ x ∷ es) ((x.0, w) ∷ es) (x ∷ insert_entry stamp_cmp es k w))) ≡ count_by p (k ∷ x.0 ∷ keys_of es)
    go Less i rest = refl
    go Equal i rest = absurd (let f : suc (length es) < suc (length es) = rw i at longer in omega (arith, f))
    go Greater i more =
        let f : suc (length es) < suc (length (insert_entry stamp_cmp es k w)) = rw i at longer in
        let rest : count_by p (keys_of (insert_entry stamp_cmp es k w)) ≡ count_by p (k ∷ keys_of es) = more (omega (arith, f)) in
        omega (arith, rest, push p x.0 (keys_of (insert_entry stamp_cmp es k w)), push p k (x.0 ∷ keys_of es), push p x.0 (keys_of es), push p k (keys_of es))

-- a table that does not grow has the identifiers that it had
keys-insert_as_long : {X : Type 0} (es : List (StampValue × X)) (k : StampValue) (w : X) → length (insert_entry stamp_cmp es k w) ≤ length es
    → keys_of (insert_entry stamp_cmp es k w) ≡ keys_of es
keys-insert_as_long [] k w short = absurd (omega (arith, short))
keys-insert_as_long {X} (x ∷ es) k w short = go (stamp_cmp k x.0) refl (λ f. keys-insert_as_long es k w f)
  where
    go : (r : Ordering) → stamp_cmp k x.0 ≡ r → (length (insert_entry stamp_cmp es k w) ≤ length es → keys_of (insert_entry stamp_cmp es k w) ≡ keys_of es)
        → keys_of (match_ordering r ((k, w) ∷ x ∷ es) ((x.0, w) ∷ es) (x ∷ insert_entry stamp_cmp es k w)) ≡ x.0 ∷ keys_of es
    go Less i rest = absurd (let f : suc (suc (length es)) ≤ suc (length es) = rw i at short in omega (arith, f))
    go Equal i rest = refl
    go Greater i rest =
        let f : suc (length (insert_entry stamp_cmp es k w)) ≤ suc (length es) = rw i at short in
        ap (λ (l : List StampValue). x.0 ∷ l) (rest (omega (arith, f)))

module _ {X : Type 0} (counts : List ℕ) (es : List (StampValue × X)) (k : StampValue) (w : X) (i : ℕ) (are : AreCounts counts (keys_of es)) (sixteen : length counts ≡ 16) (small : i < 16) (at : i ≡ k.site) where
  one_more : slice_index (slice_set counts i (slice_index_or counts i 0 + 1)) i ≡ slice_index_or counts i 0 + 1
  one_more = get_or-set_same counts i (slice_index_or counts i 0 + 1) 0 (rw sixteen small)

  pub counted_new : length es < length (insert_entry stamp_cmp es k w) → AreCounts (slice_set counts i (slice_index_or counts i 0 + 1)) (keys_of (insert_entry stamp_cmp es k w))
  counted_new new site below = go (k.site == site) refl ∙ sym (ids-push site k (keys_of es)) ∙ sym (count-insert_longer (λ (id : StampValue). id.site == site) es k w new)
    where
      go : (b : Bool) → (k.site == site) ≡ b → slice_index (slice_set counts i (slice_index_or counts i 0 + 1)) site ≡ cond b 1 0 + ids_of site (keys_of es)
      go true e = subst (λ t. slice_index (slice_set counts i (slice_index_or counts i 0 + 1)) t ≡ 1 + ids_of t (keys_of es)) (at ∙ (tells_numbers k.site site).0 e) (one_more ∙ (let h = are i small in omega (arith, h)))
      go false e = get_or-set_other counts i site (slice_index_or counts i 0 + 1) 0 (λ h. let f : true ≡ false = sym ((tells_numbers k.site site).1 (sym at ∙ sym h)) ∙ e in cc) ∙ are site below ∙ omega arith

  -- one more than the count of a site fits where the table does
  pub count_fits : (n : ℕ) → length es < length (insert_entry stamp_cmp es k w) → n ≡ length (insert_entry stamp_cmp es k w) → slice_index_or counts i 0 + 1 ≤ n
  count_fits n new e =
      let all = keys_of (insert_entry stamp_cmp es k w) in
      omega (arith, one_more, counted_new new i small, count_by-le-length (λ (id : StampValue). id.site == i) all, length-keys_of (insert_entry stamp_cmp es k w), e)

-- an identifier that is there is counted already
pub counted_present : {X : Type 0} (counts : List ℕ) (es : List (StampValue × X)) (k : StampValue) (w : X) → AreCounts counts (keys_of es) → length (insert_entry stamp_cmp es k w) ≤ length es → AreCounts counts (keys_of (insert_entry stamp_cmp es k w))
counted_present counts es k w are short = subst (AreCounts counts) (sym (keys-insert_as_long es k w short)) are

-- ---- the loop that counts: what was counted and what is left
module _ (counts : List ℕ) (ids ks rest : List StampValue) (k : StampValue) (i : ℕ) (sixteen : length counts ≡ 16) (small : i < 16) (at : i ≡ k.site) (first : ks ≡ k ∷ rest) where
  pub counting_more : AreCounting counts ks ids → AreCounting (slice_set counts i (slice_index_or counts i 0 + 1)) rest ids
  counting_more are site below =
      let before : slice_index counts site + ids_of site (k ∷ rest) ≡ ids_of site ids = subst (λ (l : List StampValue). slice_index counts site + ids_of site l ≡ ids_of site ids) first (are site below) in
      go (k.site == site) refl (ids-push site k rest) before
    where
      go : (b : Bool) → (k.site == site) ≡ b → ids_of site (k ∷ rest) ≡ cond b 1 0 + ids_of site rest → slice_index counts site + ids_of site (k ∷ rest) ≡ ids_of site ids
          → slice_index (slice_set counts i (slice_index_or counts i 0 + 1)) site + ids_of site rest ≡ ids_of site ids
      go true e h before =
          let s : i ≡ site = at ∙ (tells_numbers k.site site).0 e in
          let one : slice_index (slice_set counts i (slice_index_or counts i 0 + 1)) site ≡ slice_index counts site + 1 =
          subst (λ t. slice_index (slice_set counts i (slice_index_or counts i 0 + 1)) t ≡ slice_index counts t + 1) s (get_or-set_same counts i (slice_index_or counts i 0 + 1) 0 (rw sixteen small)) in
          omega (arith, one, h, before)
      go false e h before =
          let same = get_or-set_other counts i site (slice_index_or counts i 0 + 1) 0 (λ j. let f : true ≡ false = sym ((tells_numbers k.site site).1 (sym at ∙ sym j)) ∙ e in cc) in
          omega (arith, same, h, before)

  pub counting_fits : (n : ℕ) → n ≡ length ids → AreCounting counts ks ids → slice_index_or counts i 0 + 1 ≤ n
  counting_fits n e are =
      let after = counting_more are i small in
      let one = get_or-set_same counts i (slice_index_or counts i 0 + 1) 0 (rw sixteen small) in
      omega (arith, after, one, count_by-le-length (λ (id : StampValue). id.site == i) ids, e)

-- ---- the identifiers of a table into which the entries of another are joined
module _ {X : Type 0} where
  -- an identifier above k is found as before
  missing_above : (es : List (StampValue × X)) (k : StampValue) (w : X) (ks : List StampValue) → AllByRecursion (λ y. stamp_cmp k y ≡ Less) ks → missing_from stamp_cmp (insert_entry stamp_cmp es k w) ks ≡ missing_from stamp_cmp es ks
  missing_above es k w [] a = refl
  missing_above es k w (y ∷ ks) a =
      ap₂ (λ b l. cond (not (is_some b)) (y ∷ l) l) (lookup-insert_entry stamp_cmp stamp_total exact_stamp y k w es ∙ ap (λ r. cond (is_eq r) (Some w) (lookup (is_at (stamp_cmp y)) es)) (stamp_total.antisymm y k ∙ ap ordering_reverse a.0)) (missing_above es k w ks a.1)

  keys-insert_present : (es : List (StampValue × X)) (k : StampValue) (v w : X) → IsStrictlySortedBy stamp_cmp (keys_of es) → lookup (is_at (stamp_cmp k)) es ≡ Some v → keys_of (insert_entry stamp_cmp es k w) ≡ keys_of es
  keys-insert_present es k v w s h = ap keys_of (sym (set_value-insert stamp_cmp stamp_total es k v w s (sym h))) ∙ keys-set_value (is_at (stamp_cmp k)) es w

  ids-filled : (site : ℕ) (f : StampValue → X) (es : List (StampValue × X)) (ks : List StampValue) → IsStrictlySortedBy stamp_cmp (keys_of es) → IsStrictlySortedBy stamp_cmp ks
      → ids_of site (keys_of (filled stamp_cmp f es ks)) ≡ ids_of site (keys_of es) + ids_of site (missing_from stamp_cmp es ks)
  unfolding IsStrictlySortedBy
  ids-filled site f es [] s t = omega arith
  ids-filled site f es (k ∷ ks) s t =
      let more : List (StampValue × X) = insert_entry stamp_cmp es k (f k) in
      let rest : ids_of site (keys_of (filled stamp_cmp f more ks)) ≡ ids_of site (keys_of more) + ids_of site (missing_from stamp_cmp more ks) = ids-filled site f more ks (sorted_insert stamp_cmp stamp_total es k (f k) s) t.1 in
      rest ∙ ap (λ l. ids_of site (keys_of more) + ids_of site l) (missing_above es k (f k) ks t.0) ∙ go (lookup (is_at (stamp_cmp k)) es) refl
    where
      go : (a : Option X) → lookup (is_at (stamp_cmp k)) es ≡ a
          → ids_of site (keys_of (insert_entry stamp_cmp es k (f k))) + ids_of site (missing_from stamp_cmp es ks) ≡ ids_of site (keys_of es) + ids_of site (cond (not (is_some (lookup (is_at (stamp_cmp k)) es))) (k ∷ missing_from stamp_cmp es ks) (missing_from stamp_cmp es ks))
      go None h =
          let none : is_some (lookup (is_at (stamp_cmp k)) es) ≡ false = ap is_some h in
          let one = count-insert_new (λ (id : StampValue). id.site == site) es k (f k) none ∙ ids-push site k (keys_of es) in
          let two = ids-push site k (missing_from stamp_cmp es ks) in
          rw none (omega (arith, one, two))
      go (Some v) h =
          let some : is_some (lookup (is_at (stamp_cmp k)) es) ≡ true = ap is_some h in
          rw some (ap (λ l. ids_of site l + ids_of site (missing_from stamp_cmp es ks)) (keys-insert_present es k v (f k) s h))

  counting_missing : (counts : List ℕ) (f : StampValue → X) (es : List (StampValue × X)) (ks : List StampValue) → IsStrictlySortedBy stamp_cmp (keys_of es) → IsStrictlySortedBy stamp_cmp ks
      → AreCounts counts (keys_of es) → AreCounting counts (missing_from stamp_cmp es ks) (keys_of (filled stamp_cmp f es ks))
  counting_missing counts f es ks s t are site below = ap (λ n. n + ids_of site (missing_from stamp_cmp es ks)) (are site below) ∙ sym (ids-filled site f es ks s t)

  pub counting_joined : (counts : List ℕ) (f : StampValue → X) (es all : List (StampValue × X)) (ks ids : List StampValue) → IsStrictlySortedBy stamp_cmp (keys_of es) → IsStrictlySortedBy stamp_cmp ks
      → AreCounts counts (keys_of es) → all ≡ filled stamp_cmp f es ks → ids ≡ missing_from stamp_cmp es ks → AreCounting counts ids (keys_of all)
  counting_joined counts f es all ks ids s t are joined missing =
      subst (λ l. AreCounting counts l (keys_of all)) (sym missing) (subst (λ (l : List (StampValue × X)). AreCounting counts (missing_from stamp_cmp es ks) (keys_of l)) (sym joined) (counting_missing counts f es ks s t are))
