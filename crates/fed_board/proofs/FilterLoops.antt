-- How loops copy the entries that pass a test.
use Rattle.std.specs.BTreeMap.{insert_entry}
use Rattle.std.specs.Cmp.{IsTotalOrder}
use Rattle.std.specs.List.Sorted.{IsStrictlySortedBy}
use Rattle.std.specs.Map.{keys_of}
use Rattle.std.proofs.Common.{◌≡◌, List, ◌∷◌, ◌++◌, Bool, true, false, cond, filter, Ordering, sym, ap, ◌∙◌}
use Rattle.fed_lattice.proofs.EntryLoops.{sorted_filtered}
use Rattle.fed_lattice.proofs.TableLoops.{copied_more}

module _ {K X : Type 0} (R : K → K → Ordering) (o : IsTotalOrder R) (p : K × X → Bool) where
  -- one entry more, that passes
  pub filtered_more : (es it rest all new : List (K × X)) (k : K) (v w : X) → es ++ filter p it ≡ filter p all → it ≡ (k, v) ∷ rest → p (k, v) ≡ true → IsStrictlySortedBy R (keys_of all) → w ≡ v → new ≡ insert_entry R es k w → new ++ filter p rest ≡ filter p all
  filtered_more es it rest all new k v w whole first passes s same e =
      copied_more R o es (filter p it) (filter p rest) (filter p all) new k v w whole
      (ap (filter p) first ∙ ap (λ b. cond b ((k, v) ∷ filter p rest) (filter p rest)) passes)
      (sorted_filtered R p all s) same e

  -- one that does not
  pub filtered_skip : (es it rest all : List (K × X)) (k : K) (v : X) → es ++ filter p it ≡ all → it ≡ (k, v) ∷ rest → p (k, v) ≡ false → es ++ filter p rest ≡ all
  filtered_skip es it rest all k v whole first fails =
      ap (λ l. es ++ l) (sym (ap (filter p) first ∙ ap (λ b. cond b ((k, v) ∷ filter p rest) (filter p rest)) fails)) ∙ whole
