-- Identifiers that follow one another.
use Rattle.std.specs.List.{AllByRecursion}
use Rattle.std.specs.List.Sorted.{IsStrictlySortedBy}
use Rattle.std.specs.declared.cmp.Ordering.TheVariants.{Less}
use Rattle.std.proofs.Common.{◌≡◌, ◌==◌, ◌+◌, ℕ, length, List, [], ◌∷◌, ◌++◌, Bool, true, false, cond, Some, None, replicate, slice_index, slice_index_or, slice_set, refl, sym, ap, subst, ◌∙◌, ◌<◌, arith}
use Rattle.std.proofs.lemmas.Bool.{and_parts}
use Rattle.std.proofs.lemmas.List.{get_or-set_same, get_or-set_other, get_or-replicate}
use Rattle.std.proofs.lemmas.List.Sums.{sum_by-append}
use Rattle.fed_job_json.proofs.PairLaws.{less}
use Rattle.fed_stamp.specs.Stamp.{StampValue}
use Rattle.fed_lattice.specs.ExactLaws.{tells_numbers}
use Rattle.fed_lattice.specs.Latest.{stamp_cmp}
use Rattle.fed_lattice.specs.LatestLaws.{stamp_total}
use Rattle.fed_board.specs.Counts.{ids_of, AreCounts}
use Rattle.fed_wire.specs.declared.identifiers.Identifiers.{Identifiers}
use Rattle.fed_wire.specs.Identifiers.{AreKept}
use Rattle.fed_wire.specs.Packet.{last_of, follows, may_stand}

above_all : (k l : StampValue) (ks : List StampValue) → stamp_cmp k l ≡ Less → AllByRecursion (λ y. stamp_cmp l y ≡ Less) ks → AllByRecursion (λ y. stamp_cmp k y ≡ Less) ks
above_all k l [] e h = tt
above_all k l (y ∷ ks) e h = ((stamp_total).trans k l y e h.0, above_all k l ks e h.1)

-- an identifier above the last goes to the end
pub sorted_pushed : (ks : List StampValue) (id : StampValue) → IsStrictlySortedBy stamp_cmp ks → follows (last_of ks) id ≡ true → IsStrictlySortedBy stamp_cmp (ks ++ id ∷ [])
unfolding IsStrictlySortedBy
sorted_pushed [] id s e = (tt, tt)
sorted_pushed (k ∷ []) id s e = ((less (stamp_cmp k id) e, tt), (tt, tt))
sorted_pushed (k ∷ l ∷ ks) id s e =
    let rest = sorted_pushed (l ∷ ks) id s.1 e in
    ((s.0.0, above_all k l (ks ++ id ∷ []) s.0.0 rest.0), rest)

pub last_pushed : {A : Type 0} (ks : List A) (id : A) → last_of (ks ++ id ∷ []) ≡ Some id
last_pushed [] id = refl
last_pushed (k ∷ []) id = refl
last_pushed (k ∷ l ∷ ks) id = last_pushed (l ∷ ks) id

ids-pushed : (site : ℕ) (id : StampValue) (ks : List StampValue) → ids_of site (ks ++ id ∷ []) ≡ ids_of site ks + cond (id.site == site) 1 0
ids-pushed site id ks = sum_by-append (λ (id : StampValue). cond (id.site == site) 1 0) ks (id ∷ []) ∙ omega arith

-- it is counted
pub counts_pushed : (counts : List ℕ) (ks : List StampValue) (id : StampValue) (i : ℕ) → AreCounts counts ks → length counts ≡ 16 → i < 16 → i ≡ id.site
    → AreCounts (slice_set counts i (slice_index_or counts i 0 + 1)) (ks ++ id ∷ [])
counts_pushed counts ks id i are sixteen small at site below = go (id.site == site) refl ∙ sym (ids-pushed site id ks)
  where
    go : (b : Bool) → (id.site == site) ≡ b → slice_index (slice_set counts i (slice_index_or counts i 0 + 1)) site ≡ ids_of site ks + cond b 1 0
    go true e = subst (λ t. slice_index (slice_set counts i (slice_index_or counts i 0 + 1)) t ≡ ids_of t ks + 1) (at ∙ (tells_numbers id.site site).0 e)
        (get_or-set_same counts i (slice_index_or counts i 0 + 1) 0 (rw sixteen small) ∙ (let h = are i small in omega (arith, h)))
    go false e = get_or-set_other counts i site (slice_index_or counts i 0 + 1) 0 (λ h. let f : true ≡ false = sym ((tells_numbers id.site site).1 (sym at ∙ sym h)) ∙ e in cc) ∙ are site below ∙ omega arith

zeros : (i : ℕ) → i < 16 → slice_index (replicate 16 0) i ≡ 0
zeros i h = get_or-replicate 16 i 0 0 h

pub none_kept : (counts : List ℕ) → counts ≡ replicate 16 0 → AreKept (record { last = None; counts = counts }) []
unfolding IsStrictlySortedBy
none_kept counts e = record { sorted = tt; last = refl; counts = λ site below. ap (λ l. slice_index l site) e ∙ zeros site below }

pub one_more_kept : (kept : Identifiers) (ids : List StampValue) (room : ℕ) (id : StampValue) (i : ℕ) → AreKept kept ids → may_stand room ids id ≡ true → length kept.counts ≡ 16 → i < 16 → i ≡ id.site
    → AreKept (record { last = Some id; counts = slice_set kept.counts i (slice_index_or kept.counts i 0 + 1) }) (ids ++ id ∷ [])
one_more_kept kept ids room id i are stands sixteen small at = record {
  sorted = sorted_pushed ids id are.sorted (and_parts (follows (last_of ids) id) _ stands).0;
  last = sym (last_pushed ids id);
  counts = counts_pushed kept.counts ids id i are.counts sixteen small at;
}
