-- Arrays of so many values in memory.
use Rattle.std.proofs.Common.{◌≡◌, length, map, List, [], ◌∷◌, slice_index_or, refl, arith}
use Rattle.serde_json.specs.View.{view}
use Rattle.serde_json.specs.declared.value.Value.{Value}

pub five_are : (vs : List Value) (x0 x1 x2 x3 x4 : Value) → length vs ≡ 5 → x0 ≡ slice_index_or vs 0 x0 → x1 ≡ slice_index_or vs 1 x1 → x2 ≡ slice_index_or vs 2 x2 → x3 ≡ slice_index_or vs 3 x3 → x4 ≡ slice_index_or vs 4 x4 → map view vs ≡ view x0 ∷ view x1 ∷ view x2 ∷ view x3 ∷ view x4 ∷ []
five_are [] x0 x1 x2 x3 x4 h e0 e1 e2 e3 e4 = absurd (omega arith)
five_are (y0 ∷ []) x0 x1 x2 x3 x4 h e0 e1 e2 e3 e4 = absurd (omega arith)
five_are (y0 ∷ y1 ∷ []) x0 x1 x2 x3 x4 h e0 e1 e2 e3 e4 = absurd (omega arith)
five_are (y0 ∷ y1 ∷ y2 ∷ []) x0 x1 x2 x3 x4 h e0 e1 e2 e3 e4 = absurd (omega arith)
five_are (y0 ∷ y1 ∷ y2 ∷ y3 ∷ []) x0 x1 x2 x3 x4 h e0 e1 e2 e3 e4 = absurd (omega arith)
five_are (y0 ∷ y1 ∷ y2 ∷ y3 ∷ y4 ∷ []) x0 x1 x2 x3 x4 h e0 e1 e2 e3 e4 = rw (← e0, ← e1, ← e2, ← e3, ← e4) refl
five_are (y0 ∷ y1 ∷ y2 ∷ y3 ∷ y4 ∷ y ∷ ys) x0 x1 x2 x3 x4 h e0 e1 e2 e3 e4 = absurd (omega arith)

pub eight_are : (vs : List Value) (x0 x1 x2 x3 x4 x5 x6 x7 : Value) → length vs ≡ 8 → x0 ≡ slice_index_or vs 0 x0 → x1 ≡ slice_index_or vs 1 x1 → x2 ≡ slice_index_or vs 2 x2 → x3 ≡ slice_index_or vs 3 x3 → x4 ≡ slice_index_or vs 4 x4 → x5 ≡ slice_index_or vs 5 x5 → x6 ≡ slice_index_or vs 6 x6 → x7 ≡ slice_index_or vs 7 x7 → map view vs ≡ view x0 ∷ view x1 ∷ view x2 ∷ view x3 ∷ view x4 ∷ view x5 ∷ view x6 ∷ view x7 ∷ []
eight_are [] x0 x1 x2 x3 x4 x5 x6 x7 h e0 e1 e2 e3 e4 e5 e6 e7 = absurd (omega arith)
eight_are (y0 ∷ []) x0 x1 x2 x3 x4 x5 x6 x7 h e0 e1 e2 e3 e4 e5 e6 e7 = absurd (omega arith)
eight_are (y0 ∷ y1 ∷ []) x0 x1 x2 x3 x4 x5 x6 x7 h e0 e1 e2 e3 e4 e5 e6 e7 = absurd (omega arith)
eight_are (y0 ∷ y1 ∷ y2 ∷ []) x0 x1 x2 x3 x4 x5 x6 x7 h e0 e1 e2 e3 e4 e5 e6 e7 = absurd (omega arith)
eight_are (y0 ∷ y1 ∷ y2 ∷ y3 ∷ []) x0 x1 x2 x3 x4 x5 x6 x7 h e0 e1 e2 e3 e4 e5 e6 e7 = absurd (omega arith)
eight_are (y0 ∷ y1 ∷ y2 ∷ y3 ∷ y4 ∷ []) x0 x1 x2 x3 x4 x5 x6 x7 h e0 e1 e2 e3 e4 e5 e6 e7 = absurd (omega arith)
eight_are (y0 ∷ y1 ∷ y2 ∷ y3 ∷ y4 ∷ y5 ∷ []) x0 x1 x2 x3 x4 x5 x6 x7 h e0 e1 e2 e3 e4 e5 e6 e7 = absurd (omega arith)
eight_are (y0 ∷ y1 ∷ y2 ∷ y3 ∷ y4 ∷ y5 ∷ y6 ∷ []) x0 x1 x2 x3 x4 x5 x6 x7 h e0 e1 e2 e3 e4 e5 e6 e7 = absurd (omega arith)
eight_are (y0 ∷ y1 ∷ y2 ∷ y3 ∷ y4 ∷ y5 ∷ y6 ∷ y7 ∷ []) x0 x1 x2 x3 x4 x5 x6 x7 h e0 e1 e2 e3 e4 e5 e6 e7 = rw (← e0, ← e1, ← e2, ← e3, ← e4, ← e5, ← e6, ← e7) refl
eight_are (y0 ∷ y1 ∷ y2 ∷ y3 ∷ y4 ∷ y5 ∷ y6 ∷ y7 ∷ y ∷ ys) x0 x1 x2 x3 x4 x5 x6 x7 h e0 e1 e2 e3 e4 e5 e6 e7 = absurd (omega arith)
