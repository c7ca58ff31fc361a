-- The nodes in use between steps that ascend.
use Rattle.std.proofs.Common.{◌≡◌, ℕ, ◌+◌, ◌≤◌, ◌<◌, List, [], ◌∷◌, refl, arith}
use Rattle.std.proofs.lemmas.Bool.{le-leb, lt-leb}
use Rattle.fed_easy.specs.declared.profiles.Step.{Step}
use Rattle.fed_easy.specs.Profile.{IsAfter, level_at, last_level}

-- before the first step
pub level_before : (t n : ℕ) (ss : List Step) → IsAfter t ss → level_at n ss t ≡ n
level_before t n [] after = refl
level_before t n (s ∷ ss) after = rw (lt-leb s.from t after.0) refl

-- from the first step on
pub level_from : (u n : ℕ) (s : Step) (ss : List Step) → s.from ≤ u → level_at n (s ∷ ss) u ≡ level_at s.nodes ss u
level_from u n s ss from = rw (le-leb s.from u from) refl

pub level_until : (u n : ℕ) (s : Step) (ss : List Step) → u < s.from → level_at n (s ∷ ss) u ≡ n
level_until u n s ss until = rw (lt-leb s.from u until) refl

-- far enough there is what is behind the last step
pub level_far : (n : ℕ) (ss : List Step) → (t : ℕ) × ((u : ℕ) → t ≤ u → level_at n ss u ≡ last_level n ss)
level_far n [] = (0, λ u from. refl)
level_far n (s ∷ ss) =
    let rest = level_far s.nodes ss in
    (s.from + rest.0, λ u from. rw (le-leb s.from u (omega arith)) (rest.1 u (omega arith)))

-- what stands after a second stands after an earlier one
pub after_earlier : (t u : ℕ) (ss : List Step) → u ≤ t → IsAfter t ss → IsAfter u ss
after_earlier t u [] le after = tt
after_earlier t u (s ∷ ss) le after = (omega (arith, after.0), after.1)
