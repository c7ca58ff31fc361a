-- Nothing is wrong with the machine of a site whose operations are within limits.
use Rattle.std.specs.Prelude.{IfSome, filter_map, is_some, nat_eq, if◌then◌else◌, option_map}
use Rattle.std.specs.List.{AllByRecursion, cons_option}
use Rattle.std.proofs.Common.{◌≡◌, ◌<◌, ◌≤◌, ℕ, zero, suc, Bool, true, false, not, List, [], ◌∷◌, length, Option, Some, None, refl, sym, ap, subst, arith}
use Rattle.std.proofs.lemmas.Bool.{and_from, le-leb}
use Rattle.fed_stamp.specs.Roster.{is_node_count}
use Rattle.fed_stamp.specs.Stamp.{StampValue}
use Rattle.fed_stamp.proofs.LeastIndex.{least_index_none}
use Rattle.fed_lattice.specs.History.{History}
use Rattle.fed_lattice.specs.VersionOf.{HasSites}
use Rattle.fed_lattice.proofs.FilterLaws.{Has-filter}
use Rattle.fed_model.specs.declared.beginnings.Beginning.{Beginning}
use Rattle.fed_model.specs.Body.{Body, Body.OfJob, JobBody.Begin, is_of_job, of_job}
use Rattle.fed_model.specs.Field.{begin_in, field}
use Rattle.fed_model.specs.JobView.{JobView, job_view, unknown}
use Rattle.fed_theory.proofs.FoundLaws.{field_found}
use Rattle.fed_model.specs.Identifiers.{jobs_in}
use Rattle.fed_model.specs.Retired.{is_retired}
use Rattle.fed_model.specs.View.{view}
use Rattle.fed_model.specs.Ranges.{IsBeginning, IsInRange}
use Rattle.fed_model.specs.Limits.{IsWithinLimits}
use Rattle.fed_model.specs.declared.capacities.TheConstants.{MAX_JOBS}
use Rattle.fed_board.specs.Counts.{ids_of}
use Rattle.fed_board.proofs.CountedIdentifiers.{sited_jobs_counted}
use Rattle.fed_easy.specs.declared.machines.MachineFault.TheVariants.{Nodes, TooMany, Entry}
use Rattle.fed_easy.specs.declared.machines.Running.{Running}
use Rattle.fed_easy.specs.Machine.{entry_of, first_fault, is_bad, is_entry, running_in, running_of}
use Rattle.fed_model.specs.declared.events.Event.{Event}
use Rattle.fed_model.specs.RangedEvents.{AreRanged}
use Rattle.fed_model.specs.Run.{run}
use Rattle.fed_theory.proofs.PacketLimits.{site_within}
use Rattle.fed_replay.proofs.FewJobs.{few_jobs}

-- ---- what is kept of a list
module _ {X Y : Type 0} (f : X → Option Y) where
  kept_length : (xs : List X) → length (filter_map f xs) ≤ length xs
  kept_length [] = omega arith
  kept_length (x ∷ xs) = go (f x) (kept_length xs)
    where
      go : (o : Option Y) → length (filter_map f xs) ≤ length xs → length (cons_option o (filter_map f xs)) ≤ length (x ∷ xs)
      go None h = omega (arith, h)
      go (Some y) h = omega (arith, h)

  kept_all : (P : Y → Type 0) (xs : List X) → ((x : X) → IfSome (f x) P) → AllByRecursion P (filter_map f xs)
  kept_all P [] each = tt
  kept_all P (x ∷ xs) each = go (f x) (each x) (kept_all P xs each)
    where
      go : (o : Option Y) → IfSome o P → AllByRecursion P (filter_map f xs) → AllByRecursion P (cons_option o (filter_map f xs))
      go None here rest = rest
      go (Some y) here rest = (here, rest)

-- ---- the entries
abbrev MayRun : Running → Type 0
MayRun r = is_entry r ≡ true

none_bad : (running : List Running) → AllByRecursion MayRun running → (k : ℕ) → k < length running → is_bad running k ≡ false
none_bad [] all k h = absurd (omega arith)
none_bad (r ∷ running) all zero h = ap not all.0
none_bad (r ∷ running) all (suc k) h = none_bad running all.1 k (omega arith)

abbrev HasBeginning : StampValue × Beginning → Type 0
HasBeginning begun = IsBeginning begun.1

entry_runs : (site : ℕ) (o : Option (StampValue × Beginning)) → IfSome o HasBeginning → IfSome (entry_of site o) MayRun
entry_runs site None h = tt
entry_runs site (Some begun) h = go (nat_eq begun.0.site site)
  where
    go : (b : Bool) → IfSome (if b then Some (let r : Running = record { nodes = begun.1.nodes; end = begun.1.end } in r) else None) MayRun
    go true = and_from _ _ (and_from _ _ (le-leb 1 begun.1.nodes h.1.0) (le-leb begun.1.nodes 1_000_000 h.1.1)) (le-leb begun.1.end 1_000_010_000_000 h.2.1)
    go false = tt

job_runs : (site : ℕ) (j : JobView) → IfSome j.stages.begun HasBeginning → IfSome (running_of site j) MayRun
job_runs site j h = go (is_some j.stages.finished)
  where
    go : (b : Bool) → IfSome (if b then None else entry_of site j.stages.begun) MayRun
    go true = tt
    go false = entry_runs site j.stages.begun h

-- ---- a Begin that is read is one of the operations
begin_said : (body : Body) (beginning : Beginning) → IsInRange body → begin_in body ≡ Some beginning → IsBeginning beginning
begin_said (OfJob job (Begin said)) beginning r e = let same : said ≡ beginning = cc in subst IsBeginning same r
begin_said _ beginning r e = cc

module _ (ops : History Body) (within : IsWithinLimits ops) where
  begun_within : (job : StampValue) (o : Option (StampValue × Beginning)) → field begin_in (of_job job ops) ≡ o → IfSome o HasBeginning
  begun_within job None e = tt
  begun_within job (Some begun) e =
      let found = field_found begin_in (of_job job ops) begun e in
      begin_said found.0 begun.1 (within.values (begun.0, found.0) (Has-filter (is_of_job job) ops (begun.0, found.0) found.1).0) found.2

  begun_read : (job : StampValue) → IfSome ((view ops).job job).stages.begun HasBeginning
  begun_read job = go (is_retired ops job)
    where
      go : (retired : Bool) → IfSome (if retired then unknown else job_view (of_job job ops)).stages.begun HasBeginning
      go true = tt
      go false = begun_within job (field begin_in (of_job job ops)) refl

  entries_run : (site : ℕ) → AllByRecursion MayRun (running_in site (view ops))
  entries_run site = kept_all (λ job. running_of site ((view ops).job job)) MayRun (jobs_in (view ops))
      (λ job. job_runs site ((view ops).job job) (begun_read job))

  sited : HasSites ops
  sited e h = let at = (within.stamps e h).1 in omega arith

  few_named : (site : ℕ) → ids_of site (jobs_in (view ops)) ≤ MAX_JOBS
  few_named site = subst (λ (n : ℕ). n ≤ MAX_JOBS) (sym (sited_jobs_counted ops sited site)) (within.jobs site)

  few_entries : (site : ℕ) → length (running_in site (view ops)) ≤ 1_000_000
  few_entries site = omega (arith, kept_length (λ job. running_of site ((view ops).job job)) (jobs_in (view ops)), few_jobs (view ops) few_named)

-- ---- the machine
no_fault : (a b : Bool) (index : Option ℕ) → a ≡ true → b ≡ true → None ≡ index → (if a then (if b then option_map Entry index else Some TooMany) else Some Nodes) ≡ None
no_fault true true None p q r = refl
no_fault true true (Some k) p q r = cc
no_fault true false index p q r = cc
no_fault false b index p q r = cc

pub machine_within : (ops : History Body) → IsWithinLimits ops → (site nodes : ℕ) → is_node_count nodes ≡ true → first_fault nodes (running_in site (view ops)) ≡ None
machine_within ops within site nodes n =
    let entries : List Running = running_in site (view ops) in
    no_fault _ _ _ n (le-leb (length entries) 1_000_000 (few_entries ops within site)) (least_index_none (is_bad entries) (length entries) (none_bad entries (entries_run ops within site)))

pub run_machine : (n : ℕ) (events : List Event) (site nodes : ℕ) → n ≤ 16 → AreRanged events → is_node_count nodes ≡ true → first_fault nodes (running_in site (view ((run n events).site site).set)) ≡ None
run_machine n events site nodes few ranged count = machine_within ((run n events).site site).set (site_within n events few ranged site) site nodes count
