-- Jobs that are read, step by step.
use Rattle.std.proofs.Common.{◌≡◌, ℕ, ◌<◌, Bool, true, false, List, [], ◌∷◌, inl, inr, Ok, Err, refl, subst, arith}
use Rattle.std.specs.List.{AllByRecursion}
use Rattle.std.specs.List.Sorted.{IsStrictlySortedBy}
use Rattle.std.specs.declared.cmp.Ordering.{Ordering}
use Rattle.std.proofs.lemmas.Bool.{and_parts}
use Rattle.serde_json.specs.Data.{Data}
use Rattle.fed_stamp.specs.Stamp.{StampValue}
use Rattle.fed_stamp.specs.Version.{covers}
use Rattle.fed_lattice.specs.Sets.{Has}
use Rattle.fed_tags.specs.Tags.{pair_cmp}
use Rattle.fed_json.specs.declared.flaws.Flaw.{Flaw}
use Rattle.fed_json.specs.declared.flaws.Flaw.TheVariants.{Shape, Range}
use Rattle.fed_json.specs.Reading.{Reading}
use Rattle.fed_json.specs.Values.{elements_of, pair_of, all_of}
use Rattle.fed_json.specs.Objects.{has_names}
use Rattle.fed_job_json.specs.declared.formats.Format.{Format}
use Rattle.fed_model.specs.Ranges.{IsStamp}
use Rattle.fed_job_json.specs.Stamps.{stamp_of}
use Rattle.fed_job_json.specs.Pairs.{ascends, pairs_of}
use Rattle.fed_job_json.specs.Covers.{covers_pairs, covers_tags, covers_job}
use Rattle.fed_job_json.specs.Job.{Job, job_names, parts_of, job_of}
use Rattle.fed_job_json.proofs.PairLaws.{ascending_where_sorted, sorted_where_ascending}

-- ---- pairs

module _ {E : Type 0} (read : Data → Reading E) (cmp : E → E → Ordering) where
  pub pairs_then : (d : Data) (ds : List Data) (ps : List (E × StampValue)) → Ok ds ≡ elements_of d → Ok ps ≡ all_of (pair_of read stamp_of) ds → IsStrictlySortedBy (pair_cmp cmp) ps → Ok ps ≡ pairs_of read cmp d
  pairs_then d ds ps e r sorted = rw (← e, ← r, ascending_where_sorted (pair_cmp cmp) ps sorted) refl

  else_at : (ps : List (E × StampValue)) (b : Bool) → ascends (pair_cmp cmp) ps ≡ b → (IsStrictlySortedBy (pair_cmp cmp) ps → ⊥) → b ≡ false
  else_at ps true e not = absurd (not (sorted_where_ascending (pair_cmp cmp) ps e))
  else_at ps false e not = refl

  pub pairs_else : (d : Data) (ds : List Data) (ps : List (E × StampValue)) → Ok ds ≡ elements_of d → Ok ps ≡ all_of (pair_of read stamp_of) ds → (IsStrictlySortedBy (pair_cmp cmp) ps → ⊥) → Err Range ≡ pairs_of read cmp d
  pairs_else d ds ps e r not = rw (← e, ← r, else_at ps (ascends (pair_cmp cmp) ps) refl not) refl

pub site_placed : (s : StampValue) → IsStamp s → s.site < 16
site_placed s h =
    let small = h.1.1 in
    omega arith

pub pairs_covered : {E : Type 0} (P : E → Type 0) (v : List ℕ) (ps : List (E × StampValue)) → AllByRecursion (λ p. P p.0 × IsStamp p.1) ps → covers_pairs v ps ≡ true
    → (p : E × StampValue) → Has ps p → (p.1.site < 16) × (covers v p.1 ≡ true)
pairs_covered P v [] h e p has = absurd has
pairs_covered P v (q ∷ ps) h e p (inl same) =
    let t = and_parts (covers v q.1) (covers_pairs v ps) e in
    subst (λ p. (p.1.site < 16) × (covers v p.1 ≡ true)) same (site_placed q.1 h.0.1, t.0)
pairs_covered P v (q ∷ ps) h e p (inr has) =
    let t = and_parts (covers v q.1) (covers_pairs v ps) e in
    pairs_covered P v ps h.1 t.1 p has

-- what is covered in a job
pub holds_covered : (j : Job) → covers_tags j ≡ true → covers_pairs j.1.touched j.1.holds ≡ true
holds_covered j e = (and_parts (covers_pairs j.1.touched j.1.holds) _ (and_parts (covers j.1.touched j.0) _ e).1).0

pub sites_covered : (j : Job) → covers_tags j ≡ true → covers_pairs j.1.touched j.1.sites ≡ true
sites_covered j e = (and_parts (covers_pairs j.1.touched j.1.holds) _ (and_parts (covers j.1.touched j.0) _ e).1).1

-- ---- jobs

pub misnamed : (format : Format) (d : Data) → has_names (job_names format) d ≡ false → Err Shape ≡ job_of format d
unfolding job_of
misnamed format d e = rw e refl

pub unread : (format : Format) (d : Data) (flaw : Flaw) → has_names (job_names format) d ≡ true → Err flaw ≡ parts_of format d → Err flaw ≡ job_of format d
unfolding job_of
unread format d flaw e r = rw (e, ← r) refl

pub uncovered : (format : Format) (d : Data) (j : Job) → has_names (job_names format) d ≡ true → Ok j ≡ parts_of format d → covers_job j ≡ false → Err Range ≡ job_of format d
unfolding job_of
uncovered format d j e r c = rw (e, ← r, c) refl

pub covered : (format : Format) (d : Data) (j : Job) → has_names (job_names format) d ≡ true → Ok j ≡ parts_of format d → covers_job j ≡ true → Ok j ≡ job_of format d
unfolding job_of
covered format d j e r c = rw (e, ← r, c) refl
