-- One turn of the loop that reads what the sites have retired, and of that which looks for identifiers that a site retired.
use Rattle.std.specs.Prelude.{◌&&◌, nat_le}
use Rattle.std.specs.BTreeMap.{insert_entry}
use Rattle.std.specs.Cmp.{nat_cmp_total, nat_cmp_is}
use Rattle.std.specs.List.{AllByRecursion, list_all}
use Rattle.std.specs.List.Sorted.{IsStrictlySortedBy}
use Rattle.std.specs.Map.{keys_of}
use Rattle.std.specs.Ordering.{nat_cmp}
use Rattle.std.specs.declared.cmp.Ordering.TheVariants.{Less}
use Rattle.std.proofs.Common.{◌≡◌, ℕ, ◌<◌, ◌+◌, length, map, drop, slice_index_or, Bool, true, List, [], ◌∷◌, ◌++◌, Option, Some, Result, Ok, refl, sym, ap, subst, ◌∙◌, length-append}
use Rattle.std.proofs.lemmas.Bool.{ltb-true}
use Rattle.std.proofs.lemmas.List.{map-append}
use Rattle.serde_json.specs.View.{view}
use Rattle.serde_json.specs.declared.value.Value.{Value}
use Rattle.fed_stamp.specs.Stamp.{StampValue}
use Rattle.fed_stamp.specs.Version.{counter_of}
use Rattle.fed_lattice.proofs.TableLoops.{insert_last}
use Rattle.fed_ranges.specs.Retired.{RetiredValue}
use Rattle.fed_parts_json.specs.Retirements.{RetiredSite, retirements_of}
use Rattle.fed_wire.specs.declared.faults.Part.TheVariants.{Retired}
use Rattle.fed_wire.specs.declared.faults.WireFault.{WireFault}
use Rattle.fed_wire.specs.Packet.{last_of, is_above, keeps, site_stands}
use Rattle.fed_wire.specs.Reading.{each_in}
use Rattle.fed_wire.proofs.EachLaws.{each_more}
use Rattle.fed_wire.proofs.IdentifierLaws.{last_pushed}

-- ---- sites that ascend

less : (a b : ℕ) → a < b → nat_cmp a b ≡ Less
less a b h = sym (nat_cmp_is a b Less h)

above_all : (k l : ℕ) (ks : List ℕ) → nat_cmp k l ≡ Less → AllByRecursion (λ y. nat_cmp l y ≡ Less) ks → AllByRecursion (λ y. nat_cmp k y ≡ Less) ks
above_all k l [] e h = tt
above_all k l (y ∷ ks) e h = ((nat_cmp_total).trans k l y e h.0, above_all k l ks e h.1)

-- a site above the last goes to the end
sorted_pushed : (ks : List ℕ) (site : ℕ) → IsStrictlySortedBy nat_cmp ks → is_above (last_of ks) site ≡ true → IsStrictlySortedBy nat_cmp (ks ++ site ∷ [])
unfolding IsStrictlySortedBy
sorted_pushed [] site s e = (tt, tt)
sorted_pushed (k ∷ []) site s e = ((less k site (ltb-true k site e), tt), (tt, tt))
sorted_pushed (k ∷ l ∷ ks) site s e =
    let rest = sorted_pushed (l ∷ ks) site s.1 e in
    ((s.0.0, above_all k l (ks ++ site ∷ []) s.0.0 rest.0), rest)

keys-pushed : (es : RetiredValue) (r : RetiredSite) → keys_of (es ++ r ∷ []) ≡ keys_of es ++ r.0 ∷ []
keys-pushed es r = map-append _ es (r ∷ [])

-- what was read so far: the last site is kept, and they ascend
pub record AreRead (kept : Option ℕ) (es : RetiredValue) (i : ℕ) (left whole : Result RetiredValue WireFault) : Type 0 where
  pub many : length es ≡ i
  pub last : kept ≡ last_of (keys_of es)
  pub sorted : IsStrictlySortedBy nat_cmp (keys_of es)
  pub read : left ≡ whole

module _ (reached : List ℕ) (jobs reservations : List StampValue) where
  abbrev stands : List RetiredSite → RetiredSite → Bool
  stands = site_stands reached jobs reservations

  abbrev fits : RetiredSite → Bool
  fits r = nat_le r.1.latest (counter_of reached r.0) && (list_all (keeps r) jobs && list_all (keeps r) reservations)

  module _ (vs : List Value) (i : ℕ) (last : Option ℕ) (before : RetiredValue) (v : Value) (whole : Result RetiredValue WireFault) (within : i < length vs) (here : v ≡ slice_index_or vs i v)
      (are : AreRead last before i (each_in Retired retirements_of stands before (map view (drop i vs))) whole) (r : RetiredSite) (is : Ok r ≡ retirements_of (view v)) where
    above_so : (b : Bool) → b ≡ is_above last r.0 → is_above (last_of (keys_of before)) r.0 ≡ b
    above_so b e = ap (λ l. is_above l r.0) (sym are.last) ∙ sym e

    -- it stands
    pub one_more : (b : Bool) (new : RetiredValue) → b ≡ is_above last r.0 → b ≡ true → fits r ≡ true → new ≡ insert_entry nat_cmp before r.0 r.1
        → AreRead (Some r.0) new (i + 1) (each_in Retired retirements_of stands new (map view (drop (i + 1) vs))) whole
    one_more b new e t f n =
        let s : is_above (last_of (keys_of before)) r.0 ≡ true = above_so b e ∙ t in
        let sorted = sorted_pushed (keys_of before) r.0 are.sorted s in
        let p : new ≡ before ++ r ∷ [] = n ∙ insert_last nat_cmp nat_cmp_total before r.0 r.1 [] (subst (IsStrictlySortedBy nat_cmp) (sym (keys-pushed before r)) sorted) r.1 in
        let keys : keys_of new ≡ keys_of before ++ r.0 ∷ [] = ap keys_of p ∙ keys-pushed before r in
        let holds : stands before r ≡ true = rw (s, f) refl in
        record {
          many = ap length p ∙ length-append before (r ∷ []) ∙ ap (λ n. n + 1) are.many;
          last = sym (ap last_of keys ∙ last_pushed (keys_of before) r.0);
          sorted = subst (IsStrictlySortedBy nat_cmp) (sym keys) sorted;
          read = ap (λ es. each_in Retired retirements_of stands es (map view (drop (i + 1) vs))) p ∙ sym (each_more Retired retirements_of stands vs i before v within here r is holds) ∙ are.read;
        }
