-- That the latest changes of all jobs stay listed, or need not be.
use Rattle.std.specs.BTreeMap.{is_at}
use Rattle.std.specs.Map.{lookup}
use Rattle.std.proofs.Common.{◌≡◌, ℕ, ◌<◌, ◌≤◌, max, List, length, Bool, true, Option, Some, None, is_some, IfSome, unwrap_or, slice_index, sym, subst, inl, inr, arith}
use Rattle.std.proofs.lemmas.Bool.{cases_lt}
use Rattle.std.proofs.lemmas.Option.{IfSome_then}
use Rattle.fed_stamp.specs.Stamp.{StampValue}
use Rattle.fed_stamp.specs.Version.{joined, raised}
use Rattle.fed_stamp.proofs.VersionLaws.{each_from_below, counter_of_joined}
use Rattle.fed_lattice.specs.ExactLaws.{exact_stamp}
use Rattle.fed_lattice.specs.Latest.{stamp_cmp}
use Rattle.fed_lattice.specs.LatestLaws.{stamp_total}
use Rattle.fed_lattice.specs.Table.{IsAtEach, value_at, applied_table}
use Rattle.fed_lattice.specs.JoinedEntries.{joined_entries}
use Rattle.fed_lattice.proofs.EntryValues.{each_joined_entries}
use Rattle.fed_lattice.proofs.TableValues.{each_insert_entry}
use Rattle.fed_lattice.proofs.VersionOfLaws.{counter_of_zeros, raised_cases}
use Rattle.fed_record.specs.declared.operations.Operation.{Operation}
use Rattle.fed_record.specs.JobRecord.{JobRecordValue}
use Rattle.fed_ranges.specs.Dropped.{dropped}
use Rattle.fed_board.specs.Board.{BoardValue, IsBoard, IsKnownJob, no_operation}
use Rattle.fed_board.proofs.DroppedTables.{each_dropped}
use Rattle.fed_board.specs.Changes.{SiteValue, IsListed, AreListed, IsRisen, AreRisen, Keeps, site_at}

-- what need not be listed by the floor
pub listed_below : (c : SiteValue) (job : StampValue) (k : ℕ) → k ≤ c.floor → IsListed c job k
listed_below c job k below above = absurd (omega (arith, below, above))

-- of two counters the greater
listed_max : (c : SiteValue) (job : StampValue) (j k n : ℕ) → n ≡ max j k → IsListed c job j → (j < k → IsListed c job k) → IsListed c job n
listed_max c job j k n e left right = elim (cases_lt j k) [
  | inl less ↦ (let same : k ≡ n = omega arith in subst (IsListed c job) same (right less))
  | inr most ↦ (let same : j ≡ n = omega arith in subst (IsListed c job) same left)
]

-- where no change up to a board's version need be listed
below_floor : (cs : List SiteValue) (v : List ℕ) (id : StampValue) (r : JobRecordValue) → ((s : ℕ) → s < 16 → slice_index v s ≤ (site_at cs s).floor) → IsKnownJob v id r → (s : ℕ) → s < 16 → IsListed (site_at cs s) id (slice_index r.touched s)
below_floor cs v id r after k s small =
    let most : slice_index r.touched s ≤ slice_index v s = each_from_below r.touched v k.touched s in
    let low : slice_index v s ≤ (site_at cs s).floor = after s small in
    listed_below (site_at cs s) id (slice_index r.touched s) (omega arith)

pub listed_after : (cs : List SiteValue) (b : BoardValue) → IsBoard b → ((s : ℕ) → s < 16 → slice_index b.version s ≤ (site_at cs s).floor) → AreListed cs b.jobs
listed_after cs b i after id = IfSome_then _ (i.jobs id) (λ r. below_floor cs b.version id r after)

-- where jobs are dropped
pub dropped_listed : (cs : List SiteValue) (gone : StampValue → Bool) (jobs : List (StampValue × JobRecordValue)) → AreListed cs jobs → AreListed cs (dropped gone jobs)
dropped_listed cs gone jobs listed = each_dropped (λ id (r : JobRecordValue). (s : ℕ) → s < 16 → IsListed (site_at cs s) id (slice_index r.touched s)) gone jobs listed

-- each job has a counter for each site
pub counted : (b : BoardValue) → IsBoard b → IsAtEach stamp_cmp (λ job (r : JobRecordValue). length r.touched ≡ 16) b.jobs
counted b i id = IfSome_then _ (i.jobs id) (λ (r : JobRecordValue) (k : IsKnownJob b.version id r). k.stamps.counters)

module _ (cs ds : List SiteValue) (kept : Keeps cs ds) (jobs : List (StampValue × JobRecordValue)) (listed : AreListed cs jobs) where
  kept_each : (id : StampValue) (r : JobRecordValue) → ((s : ℕ) → s < 16 → IsListed (site_at cs s) id (slice_index r.touched s)) → (s : ℕ) → s < 16 → IsListed (site_at ds s) id (slice_index r.touched s)
  kept_each id r h s small = kept s id (slice_index r.touched s) small (h s small)

  pub still_listed : AreListed ds jobs
  still_listed id = IfSome_then _ (listed id) (λ r. kept_each id r)

  -- also where the job is absent
  value_listed : (id : StampValue) (s : ℕ) → s < 16 → IsListed (site_at ds s) id (slice_index (value_at stamp_cmp no_operation jobs id).touched s)
  value_listed id s small = go (lookup (is_at (stamp_cmp id)) jobs) (still_listed id) where
    go : (a : Option JobRecordValue) → IfSome a (λ r. (s : ℕ) → s < 16 → IsListed (site_at ds s) id (slice_index r.touched s)) → IsListed (site_at ds s) id (slice_index (unwrap_or a no_operation).touched s)
    go None h = listed_below (site_at ds s) id _ (omega (arith, counter_of_zeros 16 s))
    go (Some r) h = h s small

  -- after a change that is listed
  pub applied_listed : (applied : JobRecordValue → StampValue → Operation → JobRecordValue) → ((r : JobRecordValue) (s : StampValue) (c : Operation) → (applied r s c).touched ≡ raised r.touched s)
      → (at job : StampValue) (op : Operation) → IsListed (site_at ds at.site) job at.counter → AreListed ds (applied_table stamp_cmp no_operation applied jobs at (job, op))
  applied_listed applied touched at job op here =
      let r : JobRecordValue = value_at stamp_cmp no_operation jobs job in
      each_insert_entry stamp_cmp stamp_total exact_stamp (λ id (q : JobRecordValue). (s : ℕ) → s < 16 → IsListed (site_at ds s) id (slice_index q.touched s)) jobs job (applied r at op) still_listed
      (λ s small. subst (λ t. IsListed (site_at ds s) job (slice_index t s)) (sym (touched r at op)) (elim (raised_cases r.touched at s) [
        | inl same ↦ subst (IsListed (site_at ds s) job) (sym same) (value_listed job s small)
        | inr own ↦ listed_max (site_at ds s) job (slice_index r.touched s) at.counter _ own.1 (value_listed job s small) (λ less. subst (λ i. IsListed (site_at ds i) job at.counter) own.0 here)
      ]))

  -- after the records are joined by whose changes the jobs were behind
  pub joined_listed : (join : JobRecordValue → List ℕ → JobRecordValue → List ℕ → JobRecordValue) → ((r q : JobRecordValue) (v w : List ℕ) → (join r v q w).touched ≡ joined r.touched q.touched)
      → (records : List (StampValue × JobRecordValue)) (v w : List ℕ) → AreRisen ds jobs records → AreListed ds (joined_entries stamp_cmp no_operation join jobs v records w)
  joined_listed join touched records v w risen =
      each_joined_entries stamp_cmp stamp_total exact_stamp no_operation join jobs records v w (λ id (q : JobRecordValue). (s : ℕ) → s < 16 → IsListed (site_at ds s) id (slice_index q.touched s))
      (λ id there s small.
      let r : JobRecordValue = value_at stamp_cmp no_operation jobs id in
      let q : JobRecordValue = value_at stamp_cmp no_operation records id in
      subst (λ t. IsListed (site_at ds s) id (slice_index t s)) (sym (touched r q v w))
      (listed_max (site_at ds s) id (slice_index r.touched s) (slice_index q.touched s) _ (counter_of_joined r.touched q.touched s) (value_listed id s small)
      (theirs id (lookup (is_at (stamp_cmp id)) records) (risen id) there s small)))
      still_listed where
        theirs : (id : StampValue) (a : Option JobRecordValue) → IfSome a (IsRisen ds jobs id) → is_some a ≡ true → IsRisen ds jobs id (unwrap_or a no_operation)
        theirs id None h there = cc
        theirs id (Some r) h there = h
