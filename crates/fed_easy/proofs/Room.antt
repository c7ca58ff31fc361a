-- Where there is room in steps that ascend.
use Rattle.std.proofs.Common.{◌≡◌, ◌↔◌, IsTrue, ℕ, suc, ◌+◌, ◌-◌, ◌≤◌, ◌<◌, Bool, true, false, cond, leb, List, [], ◌∷◌, length, drop, drop-cons, refl, sym, ◌∙◌, arith, inl, inr}
use Rattle.std.specs.Prelude.{◌&&◌, slice_index_or}
use Rattle.std.proofs.lemmas.Bool.{and_parts, and_from, leb-true, le-leb, lt-leb, cases_lt}
use Rattle.fed_easy.specs.declared.profiles.Step.{Step}
use Rattle.fed_easy.specs.declared.profiles.Profile.{Profile}
use Rattle.fed_easy.specs.Use.{HasRoom}
use Rattle.fed_easy.specs.Profile.{IsAfter, IsProfile, level_at, nodes_in}
use Rattle.fed_easy.proofs.Levels.{level_before, level_from}

module _ (most until : ℕ) where
  -- no step before `until` has more than `most` nodes
  abbrev pub has_room_in : List Step → Bool
  has_room_in [] = true
  has_room_in (s ∷ ss) = cond (leb until s.from) true (leb s.nodes most && has_room_in ss)

  room_in : (t level : ℕ) (ss : List Step) → IsAfter t ss → level ≤ most → has_room_in ss ≡ true
      → (u : ℕ) → t ≤ u → u < until → level_at level ss u ≤ most
  room_in t level [] after le e u from before = le
  room_in t level (s ∷ ss) after le e u from before =
      elim (cases_lt u s.from) [
        | inl early ↦ rw (lt-leb s.from u early) le
        | inr late ↦
            let both : (leb s.nodes most && has_room_in ss) ≡ true = rw (lt-leb until s.from (omega arith)) at e in
            let parts = and_parts (leb s.nodes most) (has_room_in ss) both in
            rw (le-leb s.from u late) (room_in s.from s.nodes ss after.1 (leb-true s.nodes most parts.0) parts.1 u late before)
      ]

  in_room : (t level : ℕ) (ss : List Step) → IsAfter t ss → ((u : ℕ) → t ≤ u → u < until → level_at level ss u ≤ most)
      → has_room_in ss ≡ true
  in_room t level [] after h = refl
  in_room t level (s ∷ ss) after h =
      elim (cases_lt s.from until) [
        | inl before ↦
            let here : s.nodes ≤ most = rw (level_from s.from level s ss (omega arith), level_before s.from s.nodes ss after.1) at (h s.from (omega (arith, after.0)) before) in
            rw (lt-leb until s.from before) (and_from (leb s.nodes most) (has_room_in ss) (le-leb s.nodes most here)
            (in_room s.from s.nodes ss after.1 (λ u from early. rw (level_from u level s ss from) at (h u (omega (arith, after.0)) early))))
        | inr late ↦ rw (le-leb until s.from late) refl
      ]

  abbrev pub at_place : List Step → ℕ → Step
  at_place ss k = slice_index_or ss k (record { from = 0; nodes = 0 })

  rest_of : (ss : List Step) (k : ℕ) → k < length ss → drop k ss ≡ at_place ss k ∷ drop (suc k) ss
  rest_of ss k lt = drop-cons ss k (record { from = 0; nodes = 0 }) lt

  pub room_stops : (ss : List Step) (k : ℕ) → k < length ss → until ≤ (at_place ss k).from → has_room_in (drop k ss) ≡ true
  room_stops ss k lt le = rw (rest_of ss k lt, le-leb until (at_place ss k).from le) refl

  pub room_blocks : (ss : List Step) (k : ℕ) → k < length ss → (at_place ss k).from < until → most < (at_place ss k).nodes → has_room_in (drop k ss) ≡ false
  room_blocks ss k lt before less = rw (rest_of ss k lt, lt-leb until (at_place ss k).from before, lt-leb (at_place ss k).nodes most less) refl

-- whether there is room, by the level at the start and the steps
pub room_of : (p : Profile) (nodes limit : ℕ) (t : Bool) → IsProfile p → nodes ≤ p.capacity → 0 < limit
    → (t ≡ (leb p.nodes (p.capacity - nodes) && has_room_in (p.capacity - nodes) (p.start + limit) p.steps.items))
    → IsTrue t ↔ HasRoom p.capacity (nodes_in p) nodes p.start (p.start + limit)
room_of p nodes limit t known narrow long e = (
  λ yes.
      let both : (leb p.nodes (p.capacity - nodes) && has_room_in (p.capacity - nodes) (p.start + limit) p.steps.items) ≡ true = sym e ∙ yes in
      let parts = and_parts _ _ both in
      λ u from before.
      let room = room_in (p.capacity - nodes) (p.start + limit) p.start p.nodes p.steps.items known.ascending (leb-true p.nodes (p.capacity - nodes) parts.0) parts.1 u from before in
      omega arith,
  λ room.
      let first = room p.start (omega arith) (omega arith) in
      let here : p.nodes + nodes ≤ p.capacity = rw (level_before p.start p.nodes p.steps.items known.ascending) at first in
      e ∙ and_from _ _ (le-leb p.nodes (p.capacity - nodes) (omega arith))
      (in_room (p.capacity - nodes) (p.start + limit) p.start p.nodes p.steps.items known.ascending
      (λ u from before. let each = room u from before in omega arith)),
)
