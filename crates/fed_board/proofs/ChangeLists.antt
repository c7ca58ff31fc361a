-- How changes are listed, and how the jobs that passed a test are found by them.
use Rattle.std.specs.Ordering.{is_eq}
use Rattle.std.specs.BTreeMap.{insert_entry, is_at}
use Rattle.std.specs.Cmp.{eq_by_cmp_equiv}
use Rattle.std.specs.List.Sorted.{IsNonDecreasingBy, IsPartitionPoint, IsStrictlySortedBy, IsPermutation}
use Rattle.std.proofs.lemmas.List.Sorted.{Contains-permutation}
use Rattle.std.proofs.lemmas.Option.{IfSome_then}
use Rattle.std.specs.Map.{keys_of, lookup}
use Rattle.std.proofs.Common.{◌≡◌, ◌⊎◌, ℕ, zero, suc, ◌<◌, ◌≤◌, ◌+◌, ◌-◌, List, [], ◌∷◌, ◌++◌, length, filter, All, Bool, true, false, cond, not, nat_le, slice_index, slice_index_or, Option, Some, None, IfSome, refl, sym, ap, subst, ◌∙◌, inl, inr, arith}
use Rattle.std.proofs.lemmas.Bool.{cases_Bool, cases_lt, leb-true}
use Rattle.std.proofs.lemmas.Cmp.{tied_itself}
use Rattle.std.proofs.lemmas.List.{get_or_default, get_or_past, get_or_read}
use Rattle.std.proofs.lemmas.Map.Entries.{lookup-filter-values, option_filter}
use Rattle.std.proofs.lemmas.Map.Keys.{IsDistinct-from_sorted}
use Rattle.std.proofs.lemmas.Map.Views.{tells_apart}
use Rattle.fed_stamp.specs.Stamp.{StampValue}
use Rattle.fed_lattice.specs.ExactLaws.{exact_stamp}
use Rattle.fed_lattice.specs.Latest.{stamp_cmp}
use Rattle.fed_lattice.specs.LatestLaws.{stamp_total}
use Rattle.fed_lattice.specs.Sets.{Has}
use Rattle.fed_lattice.specs.SetLaws.{Has-left, Has-last}
use Rattle.fed_lattice.specs.Table.{IsAtEach, value_at}
use Rattle.fed_lattice.specs.TableEntryLaws.{lookup-insert_entry, same_tables}
use Rattle.fed_lattice.proofs.EntryLoops.{sorted_filtered, Has-item}
use Rattle.fed_record.specs.JobRecord.{JobRecordValue}
use Rattle.fed_stamp.specs.Version.{is_below}
use Rattle.fed_stamp.proofs.VersionLaws.{below_from_each}
use Rattle.fed_board.specs.Board.{no_operation}
use Rattle.fed_board.specs.declared.changes.Change.{Change}
use Rattle.fed_board.specs.declared.rises.Rise.{Rise}
use Rattle.fed_board.specs.Changes.{Keeps, SiteValue, HasChange, AreAmong, IsListed, AreListed, IsRisen, AreRisen, IsFound, IsPart, is_later, site_at}

-- ---- one change more
pub change_left : (xs : List Change) (x : Change) (job : StampValue) (c : ℕ) → HasChange xs job c → HasChange (xs ++ x ∷ []) job c
change_left xs x job c h = record { change = h.change; listed = Has-left xs (x ∷ []) h.change h.listed; of = h.of; late = h.late }

pub change_last : (xs : List Change) (x : Change) (c : ℕ) → c ≤ x.counter → HasChange (xs ++ x ∷ []) x.job c
change_last xs x c late = record { change = x; listed = Has-last xs x; of = refl; late = late }

-- ---- where a member stands
pub record StandsAt {A : Type 0} (xs : List A) (x : A) : Type 0 where
  pub index : ℕ
  pub below : index < length xs
  pub is : (d : A) → slice_index_or xs index d ≡ x

pub stands_at : {A : Type 0} (xs : List A) (x : A) → Has xs x → StandsAt xs x
stands_at [] x h = absurd h
stands_at (y ∷ xs) x (inl e) = record { index = 0; below = omega arith; is = λ d. e }
stands_at (y ∷ xs) x (inr h) = let s = stands_at xs x h in record { index = suc s.index; below = let b : s.index < length xs = s.below in omega arith; is = s.is }

-- a change beyond what was seen stands from the partition on
pub stands_after : (xs : List Change) (start seen : ℕ) (x : Change) → IsPartitionPoint (λ (y : Change). nat_le y.counter seen ≡ true) (λ (y : Change). nat_le y.counter seen ≡ false) xs start → seen < x.counter → (s : StandsAt xs x) → start ≤ s.index
stands_after xs start seen x parted late s = go (nat_le start s.index) refl where
  go : (b : Bool) → nat_le start s.index ≡ b → start ≤ s.index
  go true e = leb-true start s.index e
  go false e =
      let before : s.index < start = grind arith in
      let below : x.counter ≤ seen = leb-true x.counter seen (subst (λ (y : Change). nat_le y.counter seen ≡ true) (s.is x) (parted.0 s.index x (omega arith) before)) in
      absurd (omega (arith, below, late))

-- ---- an entry that passes is added
module _ {X : Type 0} (p : X → Bool) (all part new : List (StampValue × X)) (id : StampValue) (x w : X) (there : Some x ≡ lookup (is_at (stamp_cmp id)) all) (passes : p x ≡ true) (same : w ≡ x) (made : new ≡ insert_entry stamp_cmp part id w) where
  looked : (q : StampValue) → lookup (is_at (stamp_cmp q)) new ≡ cond (is_eq (stamp_cmp q id)) (Some x) (lookup (is_at (stamp_cmp q)) part)
  looked q =
      ap (lookup (is_at (stamp_cmp q))) made ∙ lookup-insert_entry stamp_cmp stamp_total exact_stamp q id w part
      ∙ ap (λ y. cond (is_eq (stamp_cmp q id)) (Some y) (lookup (is_at (stamp_cmp q)) part)) same

  passing_here : Some x ≡ option_filter p (lookup (is_at (stamp_cmp id)) all)
  passing_here = ap (λ b. cond b (Some x) None) (sym passes) ∙ ap (option_filter p) there

  found_by : (q : StampValue) (b : Bool) → is_eq (stamp_cmp q id) ≡ b → (b ≡ false → lookup (is_at (stamp_cmp q)) new ≡ lookup (is_at (stamp_cmp q)) part → IsFound p all new q) → IsFound p all new q
  found_by q true e f = looked q ∙ ap (λ b. cond b (Some x) (lookup (is_at (stamp_cmp q)) part)) e ∙ subst (λ n. Some x ≡ option_filter p (lookup (is_at (stamp_cmp n)) all)) (sym (tells_apart exact_stamp q id e)) passing_here
  found_by q false e f = f refl (looked q ∙ ap (λ b. cond b (Some x) (lookup (is_at (stamp_cmp q)) part)) e)

  pub still_found : (q : StampValue) → IsFound p all part q → IsFound p all new q
  still_found q h = found_by q (is_eq (stamp_cmp q id)) refl (λ n e. e ∙ h)

  pub still_part : IsPart p all part → IsPart p all new
  still_part h q some = found_by q (is_eq (stamp_cmp q id)) refl (λ n e. e ∙ h q (λ none. some (e ∙ none)))

  pub found_here : IsFound p all new id
  found_here = looked id ∙ ap (λ b. cond b (Some x) (lookup (is_at (stamp_cmp id)) part)) (ap is_eq (tied_itself stamp_total id)) ∙ passing_here

-- the last of changes that ascend has the greatest counter
pub last_greatest : (xs : List Change) (n : ℕ) (e : Change) → IsNonDecreasingBy (λ (y : Change). y.counter) xs → n ≡ length xs → e ≡ slice_index_or xs (n - 1) e → All (λ (y : Change). y.counter ≤ e.counter) xs
last_greatest xs n e up len last k d below =
    let le : (slice_index_or xs k e).counter ≤ (slice_index_or xs (n - 1) e).counter = up k (n - 1) e (omega arith) (omega arith) in
    subst (λ (y : Change). y.counter ≤ e.counter) (get_or_default xs k e d below) (subst (λ (y : Change). (slice_index_or xs k e).counter ≤ y.counter) (sym last) le)

-- ---- what holds of each member holds at each key
pub each_member : {X : Type 0} (P : StampValue → X → Type 0) (es : List (StampValue × X)) → ((e : StampValue × X) → Has es e → P e.0 e.1) → IsAtEach stamp_cmp P es
each_member {X} P [] h k = tt
each_member {X} P (e ∷ es) h k = go (is_eq (stamp_cmp k e.0)) refl (each_member P es (λ f g. h f (inr g)) k) where
  go : (b : Bool) → is_eq (stamp_cmp k e.0) ≡ b → IfSome (lookup (is_at (stamp_cmp k)) es) (P k) → IfSome (cond b (Some e.1) (lookup (is_at (stamp_cmp k)) es)) (P k)
  go true q later = subst (λ x. P x e.1) (sym (tells_apart exact_stamp k e.0 q)) (h e (inl refl))
  go false q later = later

-- ---- the changes of one record more are among those that were found
pub among_by : (rises : List Rise) (jobs : List (StampValue × JobRecordValue)) (job : StampValue) (r : JobRecordValue) (mine theirs : List ℕ) → mine ≡ (value_at stamp_cmp no_operation jobs job).touched → theirs ≡ r.touched
    → ((s : ℕ) → s < 16 → slice_index mine s < slice_index theirs s → Has rises (record { counter = slice_index theirs s; site = s; job = job })) → AreAmong rises jobs job r
among_by rises jobs job r mine theirs e f h s small less = subst (λ t. Has rises (record { counter = slice_index t s; site = s; job = job })) f (h s small (subst (λ t. slice_index t s < slice_index theirs s) (sym e) (subst (λ t. slice_index (value_at stamp_cmp no_operation jobs job).touched s < slice_index t s) (sym f) less)))

pub among_more : (xs ys : List Rise) (jobs records it rest : List (StampValue × JobRecordValue)) (job : StampValue) (r : JobRecordValue) → ((x : Rise) → Has xs x → Has ys x)
    → ((e : StampValue × JobRecordValue) → Has records e → Has it e ⊎ AreAmong xs jobs e.0 e.1) → it ≡ (job, r) ∷ rest → AreAmong ys jobs job r
    → (e : StampValue × JobRecordValue) → Has records e → Has rest e ⊎ AreAmong ys jobs e.0 e.1
among_more xs ys jobs records it rest job r kept before first here e h = elim (before e h) [
  | inl there ↦ elim (subst (λ l. Has l e) first there) [
    | inl same ↦ inr (subst (λ (x : StampValue × JobRecordValue). AreAmong ys jobs x.0 x.1) same here)
    | inr more ↦ inl more
  ]
  | inr done ↦ inr (λ s small less. kept _ (done s small less))
]

pub among_end : (xs : List Rise) (jobs records it : List (StampValue × JobRecordValue)) → ((e : StampValue × JobRecordValue) → Has records e → Has it e ⊎ AreAmong xs jobs e.0 e.1) → it ≡ [] → IsAtEach stamp_cmp (AreAmong xs jobs) records
among_end xs jobs records it done none = each_member (AreAmong xs jobs) records (λ e h. elim (done e h) [
  | inl there ↦ absurd (subst (λ l. Has l e) none there)
  | inr here ↦ here
])

-- in another order
pub has_moved : {A : Type 0} (xs ys : List A) (x : A) → IsPermutation xs ys → Has xs x → Has ys x
has_moved xs ys x moved h =
    let at : StandsAt xs x = stands_at xs x h in
    let c = Contains-permutation xs ys x moved (at.index, at.below, at.is x) in
    Has-item ys c.0 x c.1 (sym c.2)

-- all that are among the changes are listed with them
listed_each : (cs : List SiteValue) (rises sorted : List Rise) (jobs : List (StampValue × JobRecordValue)) → IsPermutation rises sorted → ((x : Rise) → Has sorted x → x.site < 16 → IsListed (site_at cs x.site) x.job x.counter)
    → (id : StampValue) (r : JobRecordValue) → AreAmong rises jobs id r → IsRisen cs jobs id r
listed_each cs rises sorted jobs moved noted id r among s small less = noted (record { counter = slice_index r.touched s; site = s; job = id }) (has_moved rises sorted _ moved (among s small less)) small

pub all_listed : (cs : List SiteValue) (rises sorted : List Rise) (jobs records : List (StampValue × JobRecordValue)) → IsPermutation rises sorted → ((x : Rise) → Has sorted x → x.site < 16 → IsListed (site_at cs x.site) x.job x.counter)
    → IsAtEach stamp_cmp (AreAmong rises jobs) records → AreRisen cs jobs records
all_listed cs rises sorted jobs records moved noted among id = IfSome_then _ (among id) (λ r. listed_each cs rises sorted jobs moved noted id r)

-- one change more of those that were found is listed
pub noted_more : (cs ds : List SiteValue) (xs : List Rise) (i : ℕ) (x : Rise) → Keeps cs ds
    → ((k : ℕ) (d : Rise) → k < i → (slice_index_or xs k d).site < 16 → IsListed (site_at cs (slice_index_or xs k d).site) (slice_index_or xs k d).job (slice_index_or xs k d).counter)
    → i < length xs → x ≡ slice_index_or xs i x → (x.site < 16 → IsListed (site_at ds x.site) x.job x.counter)
    → (k : ℕ) (d : Rise) → k < i + 1 → (slice_index_or xs k d).site < 16 → IsListed (site_at ds (slice_index_or xs k d).site) (slice_index_or xs k d).job (slice_index_or xs k d).counter
noted_more cs ds xs i x kept before inside read here k d lt small = elim (cases_lt k i) [
  | inl lower ↦ kept (slice_index_or xs k d).site (slice_index_or xs k d).job (slice_index_or xs k d).counter small (before k d lower small)
  | inr last ↦
      let same : k ≡ i = omega arith in
      let is : x ≡ slice_index_or xs k d = get_or_read xs i x inside read d ∙ ap (λ j. slice_index_or xs j d) (sym same) in
      subst (λ (y : Rise). y.site < 16 → IsListed (site_at ds y.site) y.job y.counter) is here small
]

-- ---- all that pass are found
-- either some counter is greater, or none is
greater : {G : Type 0} (t need : List ℕ) (n : ℕ) → ((s : ℕ) → s < n → slice_index need s < slice_index t s → G) → (((s : ℕ) → s < n → slice_index t s ≤ slice_index need s) → G) → G
greater {G} t need zero some none = none (λ s lt. absurd (omega arith))
greater {G} t need (suc n) some none = elim (cases_lt (slice_index need n) (slice_index t n)) [
  | inl less ↦ some n (omega arith) less
  | inr most ↦ greater t need n (λ s lt. some s (omega arith)) (λ below. none (λ s lt. elim (cases_lt s n) [
    | inl lower ↦ below s lower
    | inr last ↦ (let same : s ≡ n = omega arith in subst (λ i. slice_index t i ≤ slice_index need i) (sym same) most)
  ]))
]

module _ (cs : List SiteValue) (need : List ℕ) (jobs part : List (StampValue × JobRecordValue)) (listed : AreListed cs jobs)
    (after : (s : ℕ) → s < 16 → (site_at cs s).floor ≤ slice_index need s) (counters : IsAtEach stamp_cmp (λ job (r : JobRecordValue). length r.touched ≡ 16) jobs) (only : IsPart (is_later need) jobs part)
    (found : (s : ℕ) (job : StampValue) (c : ℕ) → s < 16 → (site_at cs s).floor < c → slice_index need s < c → IsListed (site_at cs s) job c → IsFound (is_later need) jobs part job) where
  abbrev here : StampValue → Option JobRecordValue
  here q = lookup (is_at (stamp_cmp q)) part

  by_record : (q : StampValue) (a : Option JobRecordValue) → lookup (is_at (stamp_cmp q)) jobs ≡ a → here q ≡ None
      → IfSome a (λ r. (s : ℕ) → s < 16 → IsListed (site_at cs s) q (slice_index r.touched s)) → IfSome a (λ r. length r.touched ≡ 16) → here q ≡ option_filter (is_later need) a
  by_record q None e none l n = none
  by_record q (Some r) e none l n = elim (cases_Bool (is_later need r)) [
    | inr passed ↦ none ∙ ap (λ b. cond b (Some r) None) (sym passed)
    | inl later ↦ greater r.touched need 16
        (λ s small less.
        let floor : (site_at cs s).floor < slice_index r.touched s = let f = after s small in omega arith in
        found s q (slice_index r.touched s) small floor less (l s small) ∙ ap (option_filter (is_later need)) e)
        (λ below.
        let all : is_below r.touched need ≡ true = below_from_each r.touched need (λ s. elim (cases_lt s 16) [
          | inl small ↦ below s small
          | inr past ↦ (let zero : slice_index r.touched s ≡ 0 = get_or_past r.touched s 0 (omega arith) in omega arith)
        ]) in
        absurd (let f : false ≡ true = sym (ap not all) ∙ later in cc))
  ]

  by_part : (q : StampValue) (b : Option JobRecordValue) → here q ≡ b → here q ≡ option_filter (is_later need) (lookup (is_at (stamp_cmp q)) jobs)
  by_part q (Some x) e = only q (λ none. let f : Some x ≡ None = sym e ∙ none in cc)
  by_part q None e = by_record q (lookup (is_at (stamp_cmp q)) jobs) refl e (listed q) (counters q)

  pub all_found : IsStrictlySortedBy stamp_cmp (keys_of jobs) → IsStrictlySortedBy stamp_cmp (keys_of part) → part ≡ filter (λ e. is_later need e.1) jobs
  all_found s t = same_tables stamp_cmp stamp_total exact_stamp part (filter (λ e. is_later need e.1) jobs) t (sorted_filtered stamp_cmp (λ e. is_later need e.1) jobs s)
      (λ q. by_part q (here q) refl ∙ sym (lookup-filter-values (eq_by_cmp_equiv stamp_total) (is_later need) q jobs (IsDistinct-from_sorted stamp_cmp (keys_of jobs) s)))
