-- The values of looks have no float in them, and how their lists are made one after another.
use Rattle.std.specs.Prelude.{◌||◌, Option, Some, None, option_map, slice_get, slice_index_or, unwrap_or}
use Rattle.std.specs.Fmt.{decimal}
use Rattle.std.specs.List.{join_by, range_with_len}
use Rattle.std.proofs.Common.{◌≡◌, ℕ, zero, ◌+◌, ◌<◌, arith, suc, Bool, false, List, [], ◌∷◌, ◌++◌, flat_map, get_or, length, map, take, refl, sym, ap, ap₂, ◌∙◌}
use Rattle.std.proofs.lemmas.List.{map-append, take_more}
use Rattle.serde_json.specs.Written.{has_float}
use Rattle.fed_stamp.specs.Roster.{nodes_at}
use Rattle.fed_stamp.specs.Stamp.{StampValue}
use Rattle.fed_model.specs.View.{View}
use Rattle.fed_easy.specs.Plan.{PlanValue}
use Rattle.fed_json.specs.Values.{list_value}
use Rattle.fed_machine.specs.declared.machines.RunningJob.{RunningJob}
use Rattle.fed_machine.specs.Machine.{reserved_in, runs_in}
use Rattle.fed_qstat.specs.Identifier.{text_of_site}
use Rattle.fed_qstat.proofs.Ranges.{grown}
use Rattle.fed_replica.specs.State.{State}
use Rattle.fed_looks.specs.JobObject.{objects_of_jobs}
use Rattle.fed_looks.proofs.JobLaws.{objects_plain}
use Rattle.fed_looks.proofs.Plain.{mapped_plain}
use Rattle.fed_site.specs.MachineJson.{machine_data, reserved_data}
use Rattle.fed_site.specs.PlanJson.{head_data, plan_data}
use Rattle.fed_site.specs.Rosters.{word_of_site}
use Rattle.fed_site.specs.Seen.{seen_data}

-- ---- no float
head_plain : (roster : List (List ℕ × ℕ)) (head : Option (StampValue × ℕ)) → has_float (head_data roster head) ≡ false
head_plain roster None = refl
head_plain roster (Some head) = refl

two_plain : (a b : Bool) → a ≡ false → b ≡ false → (a || (b || false)) ≡ false
two_plain a b e f = λ i. e i || (f i || false)

pub plan_plain : (roster : List (List ℕ × ℕ)) (v : View) (plan : Option PlanValue) → has_float (plan_data roster v plan) ≡ false
plan_plain roster v None = refl
plan_plain roster v (Some p) =
    two_plain (has_float (head_data roster p.head)) (has_float (list_value (objects_of_jobs roster v p.starts))) (head_plain roster p.head) (objects_plain roster v p.starts)

pub machine_plain : (roster : List (List ℕ × ℕ)) (v : View) (here moment : ℕ) → has_float (machine_data roster v here moment) ≡ false
machine_plain roster v here moment =
    let running = map (λ (run : RunningJob). run.id) (runs_in here v) in
    two_plain (has_float (list_value (map (reserved_data roster) (reserved_in here moment v)))) (has_float (list_value (objects_of_jobs roster v running)))
    (mapped_plain (reserved_data roster) (λ k. refl) (reserved_in here moment v)) (objects_plain roster v running)

pub seen_plain : (roster : List (List ℕ × ℕ)) (s : State) → has_float (list_value (map (seen_data roster s) (range_with_len 0 (length roster)))) ≡ false
seen_plain roster s = mapped_plain (seen_data roster s) (λ site. refl) (range_with_len 0 (length roster))

-- ---- one more
-- of the sites, by their numbers
pub numbered_more : {D : Type 0} (f : ℕ → D) (n m site : ℕ) (old new : List D) → m ≡ suc n → site ≡ n → old ≡ map f (range_with_len 0 n) → new ≡ old ++ f site ∷ [] → new ≡ map f (range_with_len 0 m)
numbered_more f n m site old new next same before more =
    more ∙ ap₂ (λ l k. l ++ f k ∷ []) before same
    ∙ sym (map-append f (range_with_len 0 n) (n ∷ []))
    ∙ ap (map f) (grown n m next)

-- of a list
pub listed_more : {X D : Type 0} (f : X → D) (all : List X) (i : ℕ) (d : X) (old new : List D) → i < length all → old ≡ map f (take i all) → new ≡ old ++ f (get_or all i d) ∷ [] → new ≡ map f (take (i + 1) all)
listed_more f all i d old new within before more =
    more ∙ ap (λ l. l ++ f (get_or all i d) ∷ []) before
    ∙ sym (map-append f (take i all) (get_or all i d ∷ []))
    ∙ ap (map f) (sym (take_more all i d within))

-- ---- words that are joined
rest_joined : {X Y : Type 0} (f : X → List ℕ) (g : Y → List ℕ) (between : List ℕ) (xs : List X) (ys : List Y) → map f xs ≡ map g ys → flat_map (λ x. between ++ f x) xs ≡ flat_map (λ y. between ++ g y) ys
rest_joined f g between [] [] e = refl
rest_joined f g between [] (y ∷ ys) e = absurd cc
rest_joined f g between (x ∷ xs) [] e = absurd cc
rest_joined f g between (x ∷ xs) (y ∷ ys) e =
    let first : f x ≡ g y = cc in
    let rest : map f xs ≡ map g ys = cc in
    ap₂ (λ s t. (between ++ s) ++ t) first (rest_joined f g between xs ys rest)

pub same_joined : {X Y : Type 0} (f : X → List ℕ) (g : Y → List ℕ) (between : List ℕ) (xs : List X) (ys : List Y) → map f xs ≡ map g ys → join_by f between xs ≡ join_by g between ys
same_joined f g between [] [] e = refl
same_joined f g between [] (y ∷ ys) e = absurd cc
same_joined f g between (x ∷ xs) [] e = absurd cc
same_joined f g between (x ∷ xs) (y ∷ ys) e =
    let first : f x ≡ g y = cc in
    let rest : map f xs ≡ map g ys = cc in
    ap₂ (λ s t. s ++ t) first (rest_joined f g between xs ys rest)

-- ---- a site as it is told
name_found : (roster : List (List ℕ × ℕ)) (site : ℕ) (none : List ℕ) → site < length roster → unwrap_or (option_map (λ s. s.0) (slice_get roster site)) none ≡ (slice_index_or roster site ([], 0)).0
name_found [] site none h = absurd (omega (arith, h))
name_found (s ∷ roster) zero none h = refl
name_found (s ∷ roster) (suc site) none h = name_found roster site none (omega (arith, h))

pub word_found : (roster : List (List ℕ × ℕ)) (site : ℕ) → site < length roster → text_of_site roster site ++ 58 ∷ decimal (nodes_at roster site) ≡ word_of_site (slice_index_or roster site ([], 0))
word_found roster site within = ap (λ name. name ++ 58 ∷ decimal (nodes_at roster site)) (name_found roster site (35 ∷ decimal site) within)

-- ---- one more of a vector
pub pushed : {V D : Type 0} (g : V → D) (values new : List V) (value : V) (d : D) → new ≡ values ++ value ∷ [] → g value ≡ d → map g new ≡ map g values ++ d ∷ []
pushed g values new value d n e = ap (map g) n ∙ map-append g values (value ∷ []) ∙ ap (λ x. map g values ++ x ∷ []) e
