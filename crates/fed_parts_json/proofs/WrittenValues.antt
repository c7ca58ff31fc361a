-- Lists of values that grow by one at a time.
use Rattle.std.proofs.Common.{◌≡◌, List, [], ◌∷◌, ◌++◌, map, refl}
use Rattle.std.proofs.lemmas.List.{map-append}
use Rattle.serde_json.specs.Data.{Data}
use Rattle.serde_json.specs.View.{view}
use Rattle.serde_json.specs.declared.value.Value.{Value}

pub one_more : (before after : List Value) (v : Value) (ds : List Data) (d : Data) → map view before ≡ ds → after ≡ before ++ v ∷ [] → view v ≡ d → map view after ≡ ds ++ d ∷ []
one_more before after v ds d h e i = rw (e, map-append, h, i) refl
