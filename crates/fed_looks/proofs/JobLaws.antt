-- Jobs as JSON objects: the members, put in one after another, are those of the object, and no value is a float.
use Rattle.std.specs.Prelude.{ℤ, pos, negsuc, ◌||◌, flat_map, if◌then◌else◌}
use Rattle.std.specs.List.Sorted.{IsStrictlySortedBy}
use Rattle.std.specs.Map.{keys_of}
use Rattle.std.proofs.Common.{◌≡◌, ℕ, Bool, true, false, List, [], ◌∷◌, ◌++◌, ◌==◌, map, length, Option, Some, None, unwrap_or, refl, sym, ap, ◌∙◌, append-nil, arith}
use Rattle.std.proofs.lemmas.Bool.{eqb-true}
use Rattle.serde_json.specs.Data.{Data, object, no_members}
use Rattle.serde_json.specs.View.{items_of}
use Rattle.serde_json.specs.Written.{has_float, items_have_float}
use Rattle.fed_stamp.specs.Stamp.{StampValue}
use Rattle.fed_lattice.specs.Latest.{stamp_cmp}
use Rattle.fed_model.specs.declared.grants.GrantStage.{GrantStage}
use Rattle.fed_model.specs.declared.grants.GrantStage.TheVariants.{Open, Returned}
use Rattle.fed_model.specs.declared.letters.Letter.{Letter}
use Rattle.fed_model.specs.declared.beginnings.Beginning.{Beginning}
use Rattle.fed_model.specs.declared.beginnings.Ending.{Ending}
use Rattle.fed_record.specs.JobRecord.{JobRecordValue, job_reads}
use Rattle.fed_model.specs.JobView.{JobView}
use Rattle.fed_model.specs.Letter.{is_submitted, letter}
use Rattle.fed_board.specs.Board.{BoardValue, no_operation, board_reads}
use Rattle.fed_model.specs.Identifiers.{jobs_in}
use Rattle.fed_model.specs.View.{View}
use Rattle.fed_board.proofs.FoundEntries.{entry_found}
use Rattle.fed_json.specs.Numbers.{integer_value}
use Rattle.fed_json.specs.Values.{list_value}
use Rattle.fed_qstat.specs.JobText.{sites_of}
use Rattle.fed_looks.specs.JobMembers.{with_names, with_numbers, with_sets, with_stages}
use Rattle.fed_looks.specs.JobObject.{asked_jobs, begun_data, field_data, finished_data, grant_data, job_data, job_members, kinds_data, known_line, known_object, letter_data, lines_of_jobs, objects_of_jobs, site_data}
use Rattle.fed_looks.proofs.Entries.{ids_said}
use Rattle.fed_looks.proofs.Plain.{ArePlain, gathered_plain, members_plain}

pub members_are : (roster : List (List ℕ × ℕ)) (id : StampValue) (j : JobView) → object (with_sets roster j (with_stages roster j (with_numbers j (with_names roster id j no_members)))) ≡ job_data roster id j
unfolding job_members with_names with_numbers with_stages with_sets
members_are roster id j = refl

-- ---- no value is a float
field_plain : {T : Type 0} (value : T → Data) → ((x : T) → has_float (value x) ≡ false) → (o : Option (StampValue × T)) → has_float (field_data value o) ≡ false
field_plain value h None = refl
field_plain value h (Some latest) = h latest.1

integer_plain : (z : ℤ) → has_float (integer_value z) ≡ false
integer_plain (pos n) = refl
integer_plain (negsuc n) = refl

letter_plain : (o : Option Letter) → has_float (letter_data o) ≡ false
letter_plain None = refl
letter_plain (Some sign) = refl

begun_plain : (roster : List (List ℕ × ℕ)) (o : Option (StampValue × Beginning)) → has_float (begun_data roster o) ≡ false
begun_plain roster None = refl
begun_plain roster (Some begun) = refl

finished_plain : (o : Option (StampValue × Ending)) → has_float (finished_data o) ≡ false
finished_plain None = refl
finished_plain (Some finished) = refl

grant_plain : (roster : List (List ℕ × ℕ)) (o : Option GrantStage) → has_float (grant_data roster o) ≡ false
grant_plain roster None = refl
grant_plain roster (Some (Open term stamp site)) = refl
grant_plain roster (Some (Returned term stamp)) = refl

kinds_plain : (user operator system : Bool) → has_float (kinds_data user operator system) ≡ false
kinds_plain false false false = refl
kinds_plain false false true = refl
kinds_plain false true false = refl
kinds_plain false true true = refl
kinds_plain true false false = refl
kinds_plain true false true = refl
kinds_plain true true false = refl
kinds_plain true true true = refl

sites_plain : (roster : List (List ℕ × ℕ)) (sites : List ℕ) → items_have_float (items_of (map (site_data roster) sites)) ≡ false
sites_plain roster [] = refl
sites_plain roster (site ∷ sites) = sites_plain roster sites

pub job_plain : (roster : List (List ℕ × ℕ)) (id : StampValue) (j : JobView) → has_float (job_data roster id j) ≡ false
unfolding job_members
job_plain roster id j = members_plain (job_members roster id j) (
  field_plain _ (λ x. refl) j.fields.account,
  (
    begun_plain roster j.stages.begun,
    (
      refl,
      (
        finished_plain j.stages.finished,
        (
          grant_plain roster j.stages.grant,
          (
            kinds_plain _ _ _,
            (
              refl,
              (
                letter_plain (letter j),
                (
                  field_plain _ (λ x. refl) j.fields.limit,
                  (
                    field_plain _ (λ x. refl) j.fields.name,
                    (
                      field_plain _ (λ x. refl) j.fields.nodes,
                      (
                        field_plain _ (λ x. refl) j.fields.owner,
                        (
                          field_plain _ integer_plain j.fields.priority,
                          (sites_plain roster (sites_of j), tt),
                        ),
                      ),
                    ),
                  ),
                ),
              ),
            ),
          ),
        ),
      ),
    ),
  ),
)

-- the object of a job that is known, or none
known_plain : (roster : List (List ℕ × ℕ)) (id : StampValue) (j : JobView) → ArePlain (known_object roster id j)
known_plain roster id j = go (is_submitted j)
  where
    go : (b : Bool) → ArePlain (if b then job_data roster id j ∷ [] else [])
    go true = ap (λ b. b || false) (job_plain roster id j)
    go false = refl

pub objects_plain : (roster : List (List ℕ × ℕ)) (v : View) (jobs : List StampValue) → has_float (list_value (objects_of_jobs roster v jobs)) ≡ false
objects_plain roster v jobs = gathered_plain (λ job. known_object roster job (v.job job)) (λ job. known_plain roster job (v.job job)) jobs

-- ---- the jobs of a board
abbrev pub known_from : List (List ℕ × ℕ) → List (StampValue × JobRecordValue) → List ℕ
known_from roster es = flat_map (λ e. known_line roster e.0 (job_reads e.1)) es

pub known_done : (roster : List (List ℕ × ℕ)) (b : BoardValue) → IsStrictlySortedBy stamp_cmp (keys_of b.jobs) → keys_of b.jobs ≡ jobs_in (board_reads b)
    → (written : List ℕ) (rest : List (StampValue × JobRecordValue)) → written ++ known_from roster rest ≡ known_from roster b.jobs → rest ≡ [] → written ≡ lines_of_jobs roster (board_reads b) (jobs_in (board_reads b))
known_done roster b sorted ids written rest under none =
    sym (append-nil written) ∙ ap (λ l. written ++ known_from roster l) (sym none) ∙ under
    ∙ sym (ids_said (λ job. known_line roster job ((board_reads b).job job)) (λ e. known_line roster e.0 (job_reads e.1)) b.jobs
    (λ e h. ap (λ (o : Option JobRecordValue). known_line roster e.0 (job_reads (unwrap_or o no_operation))) (entry_found b.jobs e sorted h)))
    ∙ ap (lines_of_jobs roster (board_reads b)) ids

pub asked_all : (v : View) (ids : List StampValue) → true ≡ (length ids == 0) → asked_jobs v ids ≡ jobs_in v
asked_all v [] e = refl
asked_all v (id ∷ ids) e = absurd (omega (arith, eqb-true (length (id ∷ ids)) 0 (sym e)))

pub asked_some : (v : View) (ids : List StampValue) → false ≡ (length ids == 0) → asked_jobs v ids ≡ ids
asked_some v [] e = absurd cc
asked_some v (id ∷ ids) e = refl
