-- The least second at which there is room, found in one pass over the steps.
use Rattle.std.proofs.Common.{◌≡◌, ℕ, suc, ◌+◌, ◌-◌, ◌≤◌, ◌<◌, Bool, true, false, cond, leb, List, [], ◌∷◌, length, drop, drop-cons, refl, ◌∙◌, arith, inl, inr}
use Rattle.std.specs.Prelude.{slice_index_or}
use Rattle.std.proofs.lemmas.Bool.{leb-true, leb-false, le-leb, lt-leb, cases_lt}
use Rattle.fed_easy.specs.declared.profiles.Step.{Step}
use Rattle.fed_easy.specs.declared.profiles.Profile.{Profile}
use Rattle.fed_easy.specs.Use.{HasRoom, IsLeastRoom}
use Rattle.fed_easy.specs.Profile.{IsAfter, IsProfile, level_at, last_level, nodes_in}
use Rattle.fed_easy.proofs.Levels.{level_from, level_until}

module _ (most limit : ℕ) where
  -- from a candidate on, and whether there has been room since
  abbrev pub search_from : ℕ → Bool → List Step → ℕ
  search_from s has_room [] = s
  search_from s true (x ∷ ss) = cond (leb limit (x.from - s)) s (search_from s (leb x.nodes most) ss)
  search_from s false (x ∷ ss) = search_from x.from (leb x.nodes most) ss

  pub search_stops : (ss : List Step) (k s : ℕ) → k < length ss → limit ≤ (slice_index_or ss k (record { from = 0; nodes = 0 })).from - s → search_from s true (drop k ss) ≡ s
  search_stops ss k s lt le =
      rw (drop-cons ss k (record { from = 0; nodes = 0 }) lt, le-leb limit ((slice_index_or ss k (record { from = 0; nodes = 0 })).from - s) le) refl

  pub search_goes : (ss : List Step) (k s : ℕ) → k < length ss → (slice_index_or ss k (record { from = 0; nodes = 0 })).from - s < limit
      → search_from s true (drop k ss) ≡ search_from s (leb (slice_index_or ss k (record { from = 0; nodes = 0 })).nodes most) (drop (suc k) ss)
  search_goes ss k s lt less =
      rw (drop-cons ss k (record { from = 0; nodes = 0 }) lt, lt-leb limit ((slice_index_or ss k (record { from = 0; nodes = 0 })).from - s) less) refl

  pub search_moves : (ss : List Step) (k s : ℕ) → k < length ss
      → search_from s false (drop k ss) ≡ search_from (slice_index_or ss k (record { from = 0; nodes = 0 })).from (leb (slice_index_or ss k (record { from = 0; nodes = 0 })).nodes most) (drop (suc k) ss)
  search_moves ss k s lt = rw (drop-cons ss k (record { from = 0; nodes = 0 }) lt) refl

module _ (capacity nodes limit now : ℕ) (used : ℕ → ℕ) (narrow : nodes ≤ capacity) (long : 0 < limit) where
  least_from : (ss : List Step) (s t level : ℕ) (has_room : Bool) → leb level (capacity - nodes) ≡ has_room → now ≤ s → s ≤ t → t < s + limit → IsAfter t ss
      → ((u : ℕ) → s ≤ u → u < t → used u + nodes ≤ capacity) → ((u : ℕ) → t ≤ u → used u ≡ level_at level ss u)
      → ((r : ℕ) → now ≤ r → HasRoom capacity used nodes r (r + limit) → s ≤ r) → last_level level ss ≡ 0
      → IsLeastRoom capacity used nodes limit now (search_from (capacity - nodes) limit s has_room ss)
  least_from [] s t level has_room e from le short after before here least ends = record {
    from_now = from;
    room = λ u f b. elim (cases_lt u t) [
      | inl early ↦ before u f early
      | inr late ↦ let level_here = here u late in omega arith
    ];
    least = least;
  }
  least_from (x ∷ ss) s t level true e from le short after before here least ends =
      let room = leb-true level (capacity - nodes) e in
      let until : (u : ℕ) → s ≤ u → u < x.from → used u + nodes ≤ capacity = λ u f b. elim (cases_lt u t) [
        | inl early ↦ before u f early
        | inr late ↦ let level_here : used u ≡ level = here u late ∙ level_until u level x ss b in omega arith
      ] in
      elim (cases_lt (x.from - s) limit) [
        | inl less ↦ rw (lt-leb limit (x.from - s) less)
            (least_from ss s x.from x.nodes (leb x.nodes (capacity - nodes)) refl from (omega (arith, after.0)) (omega (arith, after.0)) after.1
            until (λ u f. here u (omega (arith, after.0)) ∙ level_from u level x ss f) least ends)
        | inr enough ↦ rw (le-leb limit (x.from - s) enough)
            (record { from_now = from; room = λ u f b. until u f (omega (arith, after.0)); least = least })
      ]
  least_from (x ∷ ss) s t level false e from le short after before here least ends =
      let blocked = leb-false level (capacity - nodes) e in
      let no_room : (u : ℕ) → t ≤ u → u < x.from → used u + nodes ≤ capacity → ⊥ = λ u f b room.
      (let level_here : used u ≡ level = here u f ∙ level_until u level x ss b in omega arith) in
      least_from ss x.from x.from x.nodes (leb x.nodes (capacity - nodes)) refl (omega (arith, after.0)) (omega arith) (omega arith) after.1
      (λ u f b. absurd (omega arith)) (λ u f. here u (omega (arith, after.0)) ∙ level_from u level x ss f)
      (λ r f room. elim (cases_lt r x.from) [
        | inr late ↦ late
        | inl early ↦
            let behind = least r f room in
            elim (cases_lt r t) [
              | inl before_t ↦ absurd (no_room t (omega arith) after.0 (room t (omega arith) (omega arith)))
              | inr from_t ↦ absurd (no_room r from_t early (room r (omega arith) (omega arith)))
            ]
      ]) ends

-- what the pass finds
pub least_room : (p : Profile) (nodes limit : ℕ) → IsProfile p → nodes ≤ p.capacity → 0 < limit
    → IsLeastRoom p.capacity (nodes_in p) nodes limit p.start (search_from (p.capacity - nodes) limit p.start (leb p.nodes (p.capacity - nodes)) p.steps.items)
least_room p nodes limit known narrow long =
    least_from p.capacity nodes limit p.start (nodes_in p) narrow long p.steps.items p.start p.start p.nodes (leb p.nodes (p.capacity - nodes)) refl (omega arith) (omega arith) (omega arith) known.ascending
    (λ u f b. absurd (omega arith)) (λ u f. refl) (λ r f room. f) known.ends

pub least_found : (p : Profile) (nodes limit s : ℕ) → IsProfile p → nodes ≤ p.capacity → 0 < limit
    → search_from (p.capacity - nodes) limit p.start (leb p.nodes (p.capacity - nodes)) p.steps.items ≡ s → IsLeastRoom p.capacity (nodes_in p) nodes limit p.start s
least_found p nodes limit s known narrow long e = rw e at (least_room p nodes limit known narrow long)

-- the steps that are left stand after a step that is taken
pub rest_after : (ss : List Step) (k t : ℕ) → k < length ss → IsAfter t (drop k ss) → (t < (slice_index_or ss k (record { from = 0; nodes = 0 })).from) × IsAfter (slice_index_or ss k (record { from = 0; nodes = 0 })).from (drop (suc k) ss)
rest_after ss k t lt after = rw (drop-cons ss k (record { from = 0; nodes = 0 }) lt) at after
