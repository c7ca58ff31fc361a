-- The first fault of a machine, found one entry after another.
use Rattle.std.proofs.Common.{◌≡◌, ℕ, zero, suc, ◌+◌, ◌<◌, ◌≤◌, not, Bool, true, false, List, [], ◌∷◌, ◌++◌, length, Option, Some, None, refl, sym, ap, ◌∙◌, inl, inr, arith, append_assoc}
use Rattle.std.specs.List.{find, range_with_len}
use Rattle.std.proofs.lemmas.Bool.{cases_eq, cases_lt, cases_Bool, le-leb}
use Rattle.std.proofs.lemmas.Bool.Decides.{nat_tests}
use Rattle.std.specs.List.{filter_map}
use Rattle.std.specs.Option.{option_map}
use Rattle.std.specs.Prelude.{nat_le}
use Rattle.std.proofs.lemmas.List.{get_or_append_left, length-append}
use Rattle.std.proofs.Math.Seq.{get_or-append_seam}
use Rattle.fed_stamp.specs.Indexes.{least_index}
use Rattle.fed_stamp.proofs.LeastIndex.{least_index_found, least_index_none, none_below}
use Rattle.fed_stamp.specs.Roster.{is_node_count}
use Rattle.fed_stamp.specs.declared.rosters.TheConstants.{MAX_NODES}
use Rattle.fed_easy.specs.declared.machines.MachineFault.TheVariants.{TooMany, Entry}
use Rattle.fed_easy.specs.declared.machines.Running.{Running}
use Rattle.fed_easy.specs.declared.machines.TheConstants.{MAX_RUNNING}
use Rattle.fed_easy.specs.Machine.{first_fault, is_bad, is_entry}

abbrev nothing : Running
nothing = record { nodes = 0; end = 0 }

-- what is found passes, and nothing before it does
record IsFound (test : ℕ → Bool) (a n i : ℕ) : Type 0 where
  from : a ≤ i
  below : i < a + n
  passes : test i ≡ true
  first : (k : ℕ) → a ≤ k → k < i → test k ≡ false

found : (test : ℕ → Bool) (a n i : ℕ) → find test (range_with_len a n) ≡ Some i → IsFound test a n i
found test a zero i e = absurd cc
found test a (suc n) i e = elim (cases_Bool (test a)) [
  | inl t ↦ let here : a ≡ i = (let s = rw (t) at e in cc) in record {
    from = omega (arith, here);
    below = omega (arith, here);
    passes = rw (← here) t;
    first = λ k p q. absurd (omega (arith, here, p, q));
  }
  | inr f ↦ let later : IsFound test (a + 1) n i = found test (a + 1) n i (rw (f) at e) in record {
    from = omega (arith, later.from);
    below = omega (arith, later.below);
    passes = later.passes;
    first = λ k p q. elim (cases_eq a k) [
      | inl s ↦ rw (← s) f
      | inr d ↦ later.first k (omega arith) q
    ];
  }
]

-- those before are as they were, and the one behind them is the entry
bad_before : (running : List Running) (entry : Running) (k : ℕ) → k < length running → is_bad (running ++ entry ∷ []) k ≡ is_bad running k
bad_before running entry k h = ap (λ (r : Running). not (is_entry r)) (get_or_append_left running (entry ∷ []) nothing k h)

bad_behind : (running : List Running) (entry : Running) → is_bad (running ++ entry ∷ []) (length running) ≡ not (is_entry entry)
bad_behind running entry = ap (λ (r : Running). not (is_entry r)) (get_or-append_seam running entry [] nothing)

module _ (running : List Running) (entry : Running) where
  one_more : length (running ++ entry ∷ []) ≡ length running + 1
  one_more = length-append running (entry ∷ [])

  pub bad_stays : (first : ℕ) → Some first ≡ least_index (is_bad running) (length running) → Some first ≡ least_index (is_bad (running ++ entry ∷ [])) (length (running ++ entry ∷ []))
  bad_stays first e =
      let f : IsFound (is_bad running) 0 (length running) first = found (is_bad running) 0 (length running) first (sym e) in
      least_index_found (is_bad (running ++ entry ∷ [])) (length (running ++ entry ∷ [])) first (let n = one_more in let b = f.below in omega arith)
      (bad_before running entry first (let b = f.below in omega arith) ∙ f.passes)
      (λ k p. bad_before running entry k (let b = f.below in omega arith) ∙ f.first k (omega arith) p)

  module _ (none : None ≡ least_index (is_bad running) (length running)) where
    good : (k : ℕ) → k < length running → is_bad (running ++ entry ∷ []) k ≡ false
    good k p = bad_before running entry k p ∙ none_below (is_bad running) (length running) (sym none) k p

    pub bad_none : is_entry entry ≡ true → None ≡ least_index (is_bad (running ++ entry ∷ [])) (length (running ++ entry ∷ []))
    bad_none e =
        least_index_none (is_bad (running ++ entry ∷ [])) (length (running ++ entry ∷ []))
        (λ k p. elim (cases_lt k (length running)) [
          | inl low ↦ good k low
          | inr high ↦ let n = one_more in let here : length running ≡ k = omega arith in rw (← here) (bad_behind running entry ∙ ap not e)
        ])

    pub bad_now : is_entry entry ≡ false → Some (length running) ≡ least_index (is_bad (running ++ entry ∷ [])) (length (running ++ entry ∷ []))
    bad_now e =
        least_index_found (is_bad (running ++ entry ∷ [])) (length (running ++ entry ∷ [])) (length running) (let n = one_more in omega arith)
        (bad_behind running entry ∙ ap not e) good

-- what is kept of a list, once one more of it was passed
pub passed_more : {A B : Type 0} (keeps : A → Option B) (all rest next : List A) (kept : List B) (x : A) (y : B) → kept ++ filter_map keeps rest ≡ filter_map keeps all → rest ≡ x ∷ next → keeps x ≡ Some y
    → (kept ++ y ∷ []) ++ filter_map keeps next ≡ filter_map keeps all
passed_more keeps all rest next kept x y so_far first is =
    let step : filter_map keeps rest ≡ y ∷ filter_map keeps next = rw (first, is) refl in
    append_assoc kept (y ∷ []) (filter_map keeps next) ∙ ap (λ l. kept ++ l) (sym step) ∙ so_far

pub one_is_left : (running rest whole : List Running) (entry : Running) → (running ++ entry ∷ []) ++ rest ≡ whole → length running < length whole
one_is_left running rest whole entry e =
    let n = ap length e in
    let a = length-append (running ++ entry ∷ []) rest in
    let b = one_more running entry in
    omega arith

pub is_count : (nodes : ℕ) → 1 ≤ nodes → nodes ≤ MAX_NODES → is_node_count nodes ≡ true
is_count nodes least most = rw (le-leb 1 nodes least, le-leb nodes MAX_NODES most) refl

module _ (nodes : ℕ) (counts : is_node_count nodes ≡ true) (running : List Running) where
  pub too_many : MAX_RUNNING < length running → Some TooMany ≡ first_fault nodes running
  too_many many = let over : nat_le (length running) MAX_RUNNING ≡ false = grind (arith, nat_tests) in rw (counts, over) refl

  pub fault_of_few : length running ≤ MAX_RUNNING → option_map Entry (least_index (is_bad running) (length running)) ≡ first_fault nodes running
  fault_of_few few = rw (counts, le-leb (length running) MAX_RUNNING few) refl
