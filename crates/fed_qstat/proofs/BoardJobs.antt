-- The jobs of a board, and the lines of those that a listing shows.
use Rattle.std.specs.Prelude.{filter, flat_map, if◌then◌else◌, is_some, ◌↔◌, ◌&&◌, ◌≢◌}
use Rattle.std.specs.BTreeMap.{is_at}
use Rattle.std.specs.List.Sorted.{IsStrictlySortedBy}
use Rattle.std.specs.Map.{keys_of, lookup}
use Rattle.std.proofs.Common.{◌≡◌, ℕ, List, [], ◌∷◌, ◌++◌, All, Bool, true, false, Option, Some, unwrap_or, refl, sym, ap, ap₂, subst, ◌∙◌, inl, inr, append-nil}
use Rattle.std.proofs.lemmas.List.{flat_map_more}
use Rattle.std.proofs.lemmas.Bool.{and_parts}
use Rattle.std.proofs.lemmas.Cmp.{eq_by_cmp_equiv}
use Rattle.std.proofs.lemmas.List.Elements.{All-head, All-tail, All-weaker, All-contains_itself}
use Rattle.std.proofs.lemmas.List.Kept.{IsStrictlySortedBy-filter}
use Rattle.std.proofs.lemmas.Map.Keys.{IsDistinct-from_sorted}
use Rattle.std.proofs.lemmas.Map.Views.{lookup-from_Contains}
use Rattle.fed_stamp.specs.Stamp.{StampValue, same_stamp}
use Rattle.fed_lattice.specs.ExactLaws.{same_stamp_is, same_stamp_itself}
use Rattle.fed_lattice.specs.Latest.{stamp_cmp}
use Rattle.fed_lattice.specs.LatestLaws.{stamp_total}
use Rattle.fed_lattice.specs.Sets.{Has}
use Rattle.fed_lattice.specs.SetLaws.{found, any_from}
use Rattle.fed_lattice.proofs.FilterLaws.{Has-filter, filter-Has}
use Rattle.fed_record.specs.JobRecord.{JobRecordValue, job_reads}
use Rattle.fed_model.specs.JobView.{JobView}
use Rattle.fed_model.specs.Letter.{is_submitted, letter}
use Rattle.fed_board.specs.Board.{BoardValue, IsBoard, no_operation, board_reads}
use Rattle.fed_model.specs.Identifiers.{covered_stamps, jobs_in}
use Rattle.fed_model.specs.View.{View}
use Rattle.fed_theory.proofs.CoveredStamps.{covered_ascend, covered_has, same_stamps}
use Rattle.fed_board.proofs.ListedIdentifiers.{known_job}
use Rattle.fed_qstat.specs.Listing.{is_asked, is_shown, listing, shown_text}

-- ---- the jobs of a board
-- what `Board::jobs` and `Board::version` ensure of a board
pub record IsListed (b : BoardValue) : Type 0 where
  pub board : IsBoard b
  pub ascending : IsStrictlySortedBy stamp_cmp (keys_of b.jobs)
  pub ids : keys_of b.jobs ≡ jobs_in (board_reads b)

there : (b : BoardValue) → IsListed b → (job : StampValue) → is_submitted ((board_reads b).job job) ≡ true → Has (jobs_in (board_reads b)) job
there b p job s =
    let k = known_job b.version job (lookup (is_at (stamp_cmp job)) b.jobs) (p.board.jobs job) s in
    filter-Has (λ j. is_submitted ((board_reads b).job j)) (covered_stamps b.version) job (covered_has b.version job k.0 k.1) s

pub submitted : (v : View) (job : StampValue) → Has (jobs_in v) job → is_submitted (v.job job) ≡ true
submitted v job h = (Has-filter (λ j. is_submitted (v.job j)) (covered_stamps v.version) job h).1

pub jobs_ascend : (v : View) → IsStrictlySortedBy stamp_cmp (jobs_in v)
jobs_ascend v = IsStrictlySortedBy-filter stamp_cmp (λ j. is_submitted (v.job j)) (covered_stamps v.version) (covered_ascend v.version)

-- ---- lines
head_where : {A B : Type 0} (f : A → List B) (x : A) (kept : List A) (rest : List B) (b c : Bool) → b ≡ c → rest ≡ flat_map f kept
    → (if b then f x else []) ++ rest ≡ flat_map f (if c then x ∷ kept else kept)
head_where f x kept rest true true e h = ap (λ r. f x ++ r) h
head_where f x kept rest false false e h = h
head_where f x kept rest true false e h = cc
head_where f x kept rest false true e h = cc

-- a text for each that passes
flat_map_where : {A B : Type 0} (p q : A → Bool) (f : A → List B) (xs : List A) → ((x : A) → Has xs x → p x ≡ q x)
    → flat_map (λ x. if p x then f x else []) xs ≡ flat_map f (filter q xs)
flat_map_where p q f [] same = refl
flat_map_where p q f (x ∷ xs) same = head_where f x (filter q xs) _ (p x) (q x) (same x (inl refl)) (flat_map_where p q f xs (λ y h. same y (inr h)))

module _ (lines : StampValue → JobView → List ℕ) where
  -- the lines of jobs with their records
  abbrev pub texts : List (StampValue × JobRecordValue) → List ℕ
  texts jobs = flat_map (λ e. shown_text lines e.0 (job_reads e.1)) jobs

  -- the lines of named jobs
  abbrev pub named_texts : View → List StampValue → List ℕ
  named_texts v ids = flat_map (λ job. shown_text lines job (v.job job)) ids

  -- the record of an entry reads as a view has it
  abbrev IsRead : View → StampValue × JobRecordValue → Type 0
  IsRead v e = job_reads e.1 ≡ v.job e.0

  texts-read : (v : View) (jobs : List (StampValue × JobRecordValue)) → All (IsRead v) jobs → texts jobs ≡ named_texts v (keys_of jobs)
  texts-read v [] p = refl
  texts-read v (e ∷ jobs) p =
      let here : job_reads e.1 ≡ v.job e.0 = All-head (IsRead v) e jobs p in
      ap₂ (λ x y. x ++ y) (λ i. shown_text lines e.0 (here i)) (texts-read v jobs (All-tail (IsRead v) e jobs p))

  read_at : (b : BoardValue) (e : StampValue × JobRecordValue) → lookup (is_at (stamp_cmp e.0)) b.jobs ≡ Some e.1 → IsRead (board_reads b) e
  read_at b e h = ap (λ (o : Option JobRecordValue). job_reads (unwrap_or o no_operation)) (sym h)

  pub all_listed : (b : BoardValue) → IsListed b → texts b.jobs ≡ listing lines (board_reads b) []
  all_listed b p =
      let v : View = board_reads b in
      texts-read v b.jobs (All-weaker _ (IsRead v) (λ e h. read_at b e (lookup-from_Contains (eq_by_cmp_equiv stamp_total) e.0 e.1 b.jobs (IsDistinct-from_sorted stamp_cmp (keys_of b.jobs) p.ascending) h)) b.jobs (All-contains_itself b.jobs))
      ∙ ap (named_texts v) p.ids
      ∙ flat_map_where (λ job. is_submitted (v.job job) && is_some (letter (v.job job))) (is_shown v []) (λ job. lines job (v.job job)) (jobs_in v)
      (λ job h. ap (λ t. t && is_some (letter (v.job job))) (submitted v job h))

  asked_member : (asked : List StampValue) (job : StampValue) → asked ≢ [] → Has asked job → is_asked asked job ≡ true
  asked_member [] job some h = absurd h
  asked_member (id ∷ asked) job some h = any_from (same_stamp job) (id ∷ asked) job h (same_stamp_itself job)

  member_asked : (asked : List StampValue) (job : StampValue) → asked ≢ [] → is_asked asked job ≡ true → Has asked job
  member_asked [] job some e = absurd (some refl)
  member_asked (id ∷ asked) job some e =
      let f = found (same_stamp job) (id ∷ asked) e in subst (Has (id ∷ asked)) (sym (same_stamp_is job f.0 f.2)) f.1

  pub some_listed : (b : BoardValue) (ids asked : List StampValue) → IsListed b → IsStrictlySortedBy stamp_cmp ids → asked ≢ []
      → ((job : StampValue) → Has ids job ↔ Has asked job) → named_texts (board_reads b) ids ≡ listing lines (board_reads b) asked
  some_listed b ids asked p ascending some same =
      let v : View = board_reads b in
      let shows : StampValue → Bool = λ job. is_submitted (v.job job) && is_some (letter (v.job job)) in
      flat_map_where shows shows (λ job. lines job (v.job job)) ids (λ job h. refl)
      ∙ ap (flat_map (λ job. lines job (v.job job))) (same_stamps (filter shows ids) (filter (is_shown v asked) (jobs_in v))
      (IsStrictlySortedBy-filter stamp_cmp shows ids ascending) (IsStrictlySortedBy-filter stamp_cmp (is_shown v asked) (jobs_in v) (jobs_ascend v))
      (λ job h.
      let f = Has-filter shows ids job h in
      let parts = and_parts (is_submitted (v.job job)) (is_some (letter (v.job job))) f.1 in
      filter-Has (is_shown v asked) (jobs_in v) job (there b p job parts.0)
      (ap₂ (λ x y. x && y) (asked_member asked job some ((same job).0 f.0)) parts.1))
      (λ job h.
      let f = Has-filter (is_shown v asked) (jobs_in v) job h in
      let parts = and_parts (is_asked asked job) (is_some (letter (v.job job))) f.1 in
      filter-Has shows ids job ((same job).1 (member_asked asked job some parts.0))
      (ap₂ (λ x y. x && y) (submitted v job f.0) parts.1)))

  -- ---- one after another
  -- the text has the lines of the entries before the rest
  abbrev pub IsUnderWay : List (StampValue × JobRecordValue) → List ℕ → List (StampValue × JobRecordValue) → Type 0
  IsUnderWay jobs written rest = written ++ texts rest ≡ texts jobs

  pub all_written : (b : BoardValue) (written : List ℕ) (s : List (StampValue × JobRecordValue)) → IsListed b → IsUnderWay b.jobs written s → s ≡ [] → written ≡ listing lines (board_reads b) []
  all_written b written s p under none =
      sym (append-nil written) ∙ ap (λ l. written ++ texts l) (sym none) ∙ under ∙ all_listed b p

  -- the text has the lines of these identifiers
  abbrev pub AreWritten : View → List ℕ → List StampValue → Type 0
  AreWritten v written ids = written ≡ named_texts v ids

  pub next_id : (v : View) (written more : List ℕ) (ids ids' : List StampValue) (id : StampValue)
      → AreWritten v written ids → ids' ≡ ids ++ id ∷ [] → more ≡ shown_text lines id (v.job id) → AreWritten v (written ++ more) ids'
  next_id v written more ids ids' id before grown same =
      ap₂ (λ x y. x ++ y) before same
      ∙ flat_map_more (λ job. shown_text lines job (v.job job)) [] ids id
      ∙ ap (named_texts v) (sym grown)

  pub named_written : (b : BoardValue) (written : List ℕ) (seen ids asked : List StampValue) → IsListed b → IsStrictlySortedBy stamp_cmp ids → asked ≢ []
      → ((job : StampValue) → Has ids job ↔ Has asked job) → AreWritten (board_reads b) written seen → seen ≡ ids → written ≡ listing lines (board_reads b) asked
  named_written b written seen ids asked p ascending some same before whole =
      before ∙ ap (named_texts (board_reads b)) whole ∙ some_listed b ids asked p ascending some same
