-- Elements that are read one after another, each where it may stand.
use Rattle.std.proofs.Common.{◌≡◌, ℕ, ◌<◌, ◌+◌, length, map, drop, slice_index_or, Bool, true, false, List, [], ◌∷◌, ◌++◌, Result, Ok, Err, refl}
use Rattle.serde_json.specs.Data.{Data}
use Rattle.serde_json.specs.View.{view}
use Rattle.serde_json.specs.declared.value.Value.{Value}
use Rattle.fed_json.specs.Reading.{Reading}
use Rattle.fed_json.proofs.ListLaws.{first_left}
use Rattle.fed_wire.specs.declared.faults.Part.{Part}
use Rattle.fed_wire.specs.declared.faults.WireFault.{WireFault}
use Rattle.fed_wire.specs.declared.faults.WireFault.TheVariants.{Range}
use Rattle.fed_wire.specs.Reading.{place, each_in}

module _ {A : Type 0} (part : Part) (read : Data → Reading A) (stands : List A → A → Bool) (vs : List Value) (i : ℕ) (before : List A) where
  abbrev pub left : Result (List A) WireFault
  left = each_in part read stands before (map view (drop i vs))

  module _ (v : Value) (within : i < length vs) (here : v ≡ slice_index_or vs i v) where
    -- one that stands
    pub each_more : (x : A) → Ok x ≡ read (view v) → stands before x ≡ true → left ≡ each_in part read stands (before ++ x ∷ []) (map view (drop (i + 1) vs))
    each_more x r s = rw (first_left vs i v within here, ← r, s) refl

    -- one that may not stand there
    pub each_out : (x : A) → Ok x ≡ read (view v) → stands before x ≡ false → Err (Range (place part (length before))) ≡ left
    each_out x r s = rw (first_left vs i v within here, ← r, s) refl
