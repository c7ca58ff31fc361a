-- One turn of the loops that read the jobs and the reservations of a packet.
use Rattle.std.specs.Prelude.{◌&&◌}
use Rattle.std.specs.BTreeMap.{insert_entry}
use Rattle.std.specs.List.Sorted.{IsStrictlySortedBy}
use Rattle.std.specs.Map.{keys_of}
use Rattle.std.proofs.Common.{◌≡◌, ℕ, ◌<◌, ◌+◌, length, map, drop, slice_index_or, Bool, true, false, List, [], ◌∷◌, ◌++◌, Result, Ok, Err, refl, sym, ap, subst, ◌∙◌, length-append}
use Rattle.std.proofs.lemmas.List.{map-append}
use Rattle.serde_json.specs.Data.{Data}
use Rattle.serde_json.specs.View.{view}
use Rattle.serde_json.specs.declared.value.Value.{Value}
use Rattle.fed_stamp.specs.Stamp.{StampValue}
use Rattle.fed_lattice.specs.Latest.{stamp_cmp}
use Rattle.fed_lattice.specs.LatestLaws.{stamp_total}
use Rattle.fed_lattice.proofs.TableLoops.{insert_last}
use Rattle.fed_json.specs.Reading.{Reading}
use Rattle.fed_wire.specs.declared.faults.Part.{Part}
use Rattle.fed_wire.specs.declared.faults.WireFault.{WireFault}
use Rattle.fed_wire.specs.declared.faults.WireFault.TheVariants.{Range}
use Rattle.fed_wire.specs.declared.identifiers.Identifiers.{Identifiers}
use Rattle.fed_wire.specs.Identifiers.{AreKept}
use Rattle.fed_wire.specs.Packet.{may_stand}
use Rattle.fed_wire.specs.Reading.{place, each_in}
use Rattle.fed_wire.proofs.EachLaws.{each_more, each_out}

keys-pushed : {X : Type 0} (es : List (StampValue × X)) (k : StampValue) (w : X) → keys_of (es ++ (k, w) ∷ []) ≡ keys_of es ++ k ∷ []
keys-pushed es k w = map-append _ es ((k, w) ∷ [])

-- an entry under an identifier above all others goes to the end
pushed : {X : Type 0} (kept : Identifiers) (es new : List (StampValue × X)) (k : StampValue) (w : X) → AreKept kept (keys_of es ++ k ∷ []) → new ≡ insert_entry stamp_cmp es k w → new ≡ es ++ (k, w) ∷ []
pushed kept es new k w are e = e ∙ insert_last stamp_cmp stamp_total es k w [] (subst (IsStrictlySortedBy stamp_cmp) (sym (keys-pushed es k w)) are.sorted) w

-- what a turn leaves
pub record Leaves {X : Type 0} (kept : Identifiers) (new : List (StampValue × X)) (i : ℕ) (left whole : Result (List (StampValue × X)) WireFault) : Type 0 where
  pub many : length new ≡ i
  pub ids : AreKept kept (keys_of new)
  pub read : left ≡ whole

module _ {X : Type 0} (part : Part) (read : Data → Reading (StampValue × X)) (room : ℕ) (fits : StampValue × X → Bool) where
  abbrev stands : List (StampValue × X) → StampValue × X → Bool
  stands before x = may_stand room (keys_of before) x.0 && fits x

  module _ (vs : List Value) (i : ℕ) (before : List (StampValue × X)) (v : Value) (whole : Result (List (StampValue × X)) WireFault) (within : i < length vs) (here : v ≡ slice_index_or vs i v)
      (left : each_in part read stands before (map view (drop i vs)) ≡ whole) (many : length before ≡ i) (x : StampValue × X) (is : Ok x ≡ read (view v)) where
    out : stands before x ≡ false → Err (Range (place part i)) ≡ whole
    out s = ap (λ n. Err (Range (place part n))) (sym many) ∙ each_out part read stands vs i before v within here x is s ∙ left

    -- its identifier may not stand there
    pub crowded : may_stand room (keys_of before) x.0 ≡ false → Err (Range (place part i)) ≡ whole
    crowded s = out (rw s refl)

    -- its stamps are not covered
    pub unfit : may_stand room (keys_of before) x.0 ≡ true → fits x ≡ false → Err (Range (place part i)) ≡ whole
    unfit s f = out (rw (s, f) refl)

    -- it stands
    pub more : (kept : Identifiers) (new : List (StampValue × X)) → may_stand room (keys_of before) x.0 ≡ true → fits x ≡ true → AreKept kept (keys_of before ++ x.0 ∷ []) → new ≡ insert_entry stamp_cmp before x.0 x.1
        → Leaves kept new (i + 1) (each_in part read stands new (map view (drop (i + 1) vs))) whole
    more kept new s f are e =
        let p : new ≡ before ++ x ∷ [] = pushed kept before new x.0 x.1 are e in
        let holds : stands before x ≡ true = rw (s, f) refl in
        record {
          many = ap length p ∙ length-append before (x ∷ []) ∙ ap (λ n. n + 1) many;
          ids = subst (AreKept kept) (sym (ap keys_of p ∙ keys-pushed before x.0 x.1)) are;
          read = ap (λ es. each_in part read stands es (map view (drop (i + 1) vs))) p ∙ sym (each_more part read stands vs i before v within here x is holds) ∙ left;
        }
