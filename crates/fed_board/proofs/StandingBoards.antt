-- A board that reads as the view of a set still does so after an operation more and merged.
use Rattle.std.proofs.Common.{◌≡◌, false, [], ◌∷◌, ◌++◌, sym, ap, ap₂, subst, ◌∙◌}
use Rattle.fed_stamp.specs.Stamp.{StampValue}
use Rattle.fed_stamp.specs.Version.{covers}
use Rattle.fed_lattice.specs.History.{History}
use Rattle.fed_model.specs.Body.{Body}
use Rattle.fed_model.specs.Lawful.{IsLawful, AreKin}
use Rattle.fed_model.specs.View.{View, view}
use Rattle.fed_theory.specs.ViewSteps.{add_to_view, join_views}
use Rattle.fed_theory.proofs.ViewLaws.{view_push, view_union}

-- an operation of a stamp that is not covered
pub stands_added : (v w : View) (e : StampValue × Body) → covers v.version e.0 ≡ false → w ≡ add_to_view v e
    → (ops : History Body) → IsLawful ops → v ≡ view ops → w ≡ view (ops ++ e ∷ [])
stands_added v w e fresh added ops lawful is =
    added ∙ ap (λ u. add_to_view u e) is ∙ sym (view_push ops e lawful (subst (λ (u : View). covers u.version e.0 ≡ false) is fresh))

pub stands_merged : (v w u : View) → u ≡ join_views v w → (ops others : History Body) → AreKin ops others → v ≡ view ops → w ≡ view others → u ≡ view (ops ++ others)
stands_merged v w u joined ops others kin left right = joined ∙ ap₂ join_views left right ∙ sym (view_union ops others kin)
