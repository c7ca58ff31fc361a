-- On rosters.
use Rattle.std.proofs.Common.{◌≡◌, ◌≢◌, ℕ, zero, suc, ◌+◌, ◌-◌, ◌<◌, ◌≤◌, Bool, true, false, not, ◌&&◌, nat_eq, nat_le, List, [], ◌∷◌, ◌++◌, length, get_or, slice_get, map, replicate, take, set, Option, Some, None, is_some, Bor, if◌then◌else◌, refl, sym, ap, ap₂, inl, inr, ◌∙◌, arith}
use Rattle.std.specs.Option.{option_map, option_or}
use Rattle.std.specs.List.{cons_option}
use Rattle.std.specs.Cmp.Lexicographic.{pointwise, same_text, nat_list_eq_equiv}
use Rattle.std.proofs.lemmas.Bool.{cases_Bool, cases_eq, cases_lt, and_parts, and_from, leb-true, le-leb, false≢true, not-false, not_from_true}
use Rattle.std.proofs.lemmas.List.{length-replicate, length-set, get_or-set_same, get_or-set_other, get_or_default, get_or-map, length-append, take_more, ext_get_or, length-map}
use Rattle.std.proofs.lemmas.Option.{get_or_from_slice_get, slice_get-get_or, slice_get_past, slice_get_within}
use Rattle.std.proofs.lemmas.List.Elements.{filter_map-append}
use Rattle.std.proofs.Math.ListN.{get_or-replicate}
use Rattle.fed_stamp.proofs.LeastIndex.{least_index_none, none_below, none_from_not_some}
use Rattle.fed_stamp.specs.Indexes.{least_index}
use Rattle.fed_stamp.specs.Roster.{IsRoster, is_site_name, is_node_count, name_at, nodes_at, is_named, is_misnamed, is_repeated, has_wrong_nodes, first_fault, places, sites_in, sites_of}
use Rattle.fed_stamp.specs.Word.{is_name}
use Rattle.fed_stamp.specs.declared.rosters.RosterFault.TheVariants.{Count, Name, Twice, Nodes}

-- ---- exactly the lists with no fault are rosters
same_names : (xs ys : List ℕ) → xs ≡ ys → pointwise nat_eq xs ys ≡ true
same_names xs ys e = rw (e) (nat_list_eq_equiv.refl ys)

-- the name of a site
abbrev first : List ℕ × ℕ → List ℕ
first s = s.0

-- where no fault is found, each search found nothing
chain_none : (b : Bool) (x y z : Option ℕ) → (if b then option_or (option_map Name x) (option_or (option_map Twice y) (option_map Nodes z)) else Some Count) ≡ None → (b ≡ true) × (x ≡ None) × (y ≡ None) × (z ≡ None)
chain_none true None None None h = (refl, refl, refl, refl)
chain_none true None None (Some k) h = cc
chain_none true None (Some k) z h = cc
chain_none true (Some k) y z h = cc
chain_none false x y z h = cc

module _ (sites : List (List ℕ × ℕ)) where
  pub roster_from_no_fault : first_fault sites ≡ None → IsRoster sites
  unfolding first_fault
  roster_from_no_fault h =
      let p : ((nat_le 1 (length sites) && nat_le (length sites) 16) ≡ true) × (least_index (is_misnamed sites) (length sites) ≡ None) × (least_index (is_repeated sites) (length sites) ≡ None) × (least_index (has_wrong_nodes sites) (length sites) ≡ None) = chain_none _ _ _ _ h in
      let n : (nat_le 1 (length sites) ≡ true) × (nat_le (length sites) 16 ≡ true) = and_parts _ _ p.0 in
      record {
        at_least = leb-true 1 _ n.0;
        at_most = leb-true _ 16 n.1;
        named = λ k d l. not-false _ (rw (get_or_default sites k d ([], 0) l) (none_below (is_misnamed sites) (length sites) p.1 k l));
        apart = λ i j d l u e.
            let r : is_repeated sites j ≡ false = none_below (is_repeated sites) (length sites) p.2 j u in
            let f : is_named sites (name_at sites j) i ≡ false = none_below (is_named sites (name_at sites j)) j (none_from_not_some _ r) i l in
            let q : name_at sites i ≡ name_at sites j = ap first (get_or_default sites i ([], 0) d (omega arith)) ∙ e ∙ sym (ap first (get_or_default sites j ([], 0) d u)) in
            false≢true (sym f ∙ same_names _ _ q);
        counted = λ k d l. not-false _ (rw (get_or_default sites k d ([], 0) l) (none_below (has_wrong_nodes sites) (length sites) p.3 k l));
      }

  differ : (xs ys : List ℕ) → xs ≢ ys → pointwise nat_eq xs ys ≡ false
  differ xs ys d = elim (cases_Bool (pointwise nat_eq xs ys)) [ inl t ↦ absurd (d (same_text xs ys (sym t))) | inr f ↦ f ]

  pub no_fault_from_roster : IsRoster sites → first_fault sites ≡ None
  unfolding first_fault
  no_fault_from_roster r =
      let b : (nat_le 1 (length sites) && nat_le (length sites) 16) ≡ true = and_from _ _ (le-leb 1 _ r.at_least) (le-leb _ 16 r.at_most) in
      let x : None ≡ least_index (is_misnamed sites) (length sites) = least_index_none (is_misnamed sites) (length sites) (λ k l. not_from_true _ (r.named k ([], 0) l)) in
      let y : None ≡ least_index (is_repeated sites) (length sites) = least_index_none (is_repeated sites) (length sites) (λ k l. ap is_some (sym (least_index_none (is_named sites (name_at sites k)) k (λ j u. differ _ _ (r.apart j k ([], 0) u l))))) in
      let z : None ≡ least_index (has_wrong_nodes sites) (length sites) = least_index_none (has_wrong_nodes sites) (length sites) (λ k l. not_from_true _ (r.counted k ([], 0) l)) in
      rw (b, ← x, ← y, ← z) refl

-- ---- what a slice of pairs lists
pub length_sites : (pairs : List (Bor (List ℕ) × ℕ)) → length (sites_of pairs) ≡ length pairs
length_sites [] = refl
length_sites (s ∷ pairs) = ap suc (length_sites pairs)

module _ (pairs : List (Bor (List ℕ) × ℕ)) (i : ℕ) (d : Bor (List ℕ) × ℕ) (h : i < length pairs) where
  pub name_at-sites_of : name_at (sites_of pairs) i ≡ (get_or pairs i d).0.now
  name_at-sites_of = ap first (get_or-map (λ s. (s.0.now, s.1)) pairs i d ([], 0) h)

  pub nodes_at-sites_of : nodes_at (sites_of pairs) i ≡ (get_or pairs i d).1
  nodes_at-sites_of = ap (λ (s : List ℕ × ℕ). s.1) (get_or-map (λ s. (s.0.now, s.1)) pairs i d ([], 0) h)

  -- the tests, by what the slice has at an index
  pub misnamed_from_test : (b : Bool) → b ≡ is_site_name (get_or pairs i d).0.now → is_misnamed (sites_of pairs) i ≡ not b
  misnamed_from_test b e = ap (λ n. not (is_site_name n)) name_at-sites_of ∙ ap not (sym e)

  pub wrong_nodes_from_test : (b : Bool) → b ≡ is_node_count (get_or pairs i d).1 → has_wrong_nodes (sites_of pairs) i ≡ not b
  wrong_nodes_from_test b e = ap (λ n. not (is_node_count n)) nodes_at-sites_of ∙ ap not (sym e)

pub named_from_test : (pairs : List (Bor (List ℕ) × ℕ)) (i j : ℕ) (d : Bor (List ℕ) × ℕ) (b : Bool) → i < length pairs → j < length pairs → b ≡ pointwise nat_eq (get_or pairs i d).0.now (get_or pairs j d).0.now → is_named (sites_of pairs) (name_at (sites_of pairs) j) i ≡ b
named_from_test pairs i j d b h k e = ap₂ (pointwise nat_eq) (name_at-sites_of pairs i d h) (name_at-sites_of pairs j d k) ∙ sym e

-- ---- how a roster is stored
padded_place : (sites : List (List ℕ × ℕ)) (n k : ℕ) (d : Option (List ℕ × ℕ)) → k < length sites + n → get_or (map Some sites ++ replicate n None) k d ≡ slice_get sites k
padded_place [] n k d h = get_or-replicate n k None d (omega arith)
padded_place (s ∷ sites) n zero d h = refl
padded_place (s ∷ sites) n (suc k) d h = padded_place sites n k d (omega arith)

-- a place has the site of its index
pub place : (sites : List (List ℕ × ℕ)) (k : ℕ) (d : Option (List ℕ × ℕ)) → k < 16 → get_or (places sites) k d ≡ slice_get sites k
place sites k d h = padded_place sites (16 - length sites) k d (omega arith)

sites_in_none : (n : ℕ) → sites_in (replicate n None) ≡ []
sites_in_none zero = refl
sites_in_none (suc n) = sites_in_none n

sites_in_padded : (sites : List (List ℕ × ℕ)) (n : ℕ) → sites_in (map Some sites ++ replicate n None) ≡ sites
sites_in_padded [] n = sites_in_none n
sites_in_padded (s ∷ sites) n = ap (λ t. s ∷ t) (sites_in_padded sites n)

-- the stored list is the list
pub sites_in-places : (sites : List (List ℕ × ℕ)) → sites_in (places sites) ≡ sites
sites_in-places sites = sites_in_padded sites (16 - length sites)

length_places : (sites : List (List ℕ × ℕ)) → length sites ≤ 16 → length (places sites) ≡ 16
length_places sites h = let e : length (map Some sites) ≡ length sites = length-map sites Some in omega (arith, length-append (map Some sites) (replicate (16 - length sites) None), length-replicate {A = Option (List ℕ × ℕ)} (16 - length sites) None)

-- the first i sites are in their places, and the other places are empty
pub record IsFilledTo (sites : List (List ℕ × ℕ)) (stored : List (Option (List ℕ × ℕ))) (i : ℕ) : Type 0 where
  pub len : length stored ≡ 16
  pub front : (k : ℕ) → k < i → get_or stored k None ≡ slice_get sites k
  pub rest : (k : ℕ) → i ≤ k → get_or stored k None ≡ None

-- after the last site the places are filled
pub filled_all : (sites : List (List ℕ × ℕ)) (stored : List (Option (List ℕ × ℕ))) (i : ℕ) → length sites ≤ 16 → length sites ≤ i → i ≤ length sites → IsFilledTo sites stored i → stored ≡ places sites
filled_all sites stored i m l u f = ext_get_or None stored (places sites) (f.len ∙ sym (length_places sites m)) (λ k h.
    let p : get_or (places sites) k None ≡ slice_get sites k = place sites k None (rw (← f.len) h) in
    elim (cases_lt k i) [
      | inl b ↦ f.front k b ∙ sym p
      | inr b ↦ f.rest k b ∙ sym (p ∙ slice_get_past sites k (omega arith))
    ])

cons_len : (xs : List (List ℕ × ℕ)) (o : Option (List ℕ × ℕ)) → length (xs ++ cons_option o []) ≡ length xs + (if is_some o then 1 else 0)
cons_len xs None = length-append xs []
cons_len xs (Some s) = length-append xs (s ∷ [])

-- one more place
pub length-sites_in_more : (stored : List (Option (List ℕ × ℕ))) (i : ℕ) (d : Option (List ℕ × ℕ)) → i < length stored → length (sites_in (take (i + 1) stored)) ≡ length (sites_in (take i stored)) + (if is_some (get_or stored i d) then 1 else 0)
length-sites_in_more stored i d h =
    rw (take_more stored i d h, filter_map-append (λ (s : Option (List ℕ × ℕ)). s) (take i stored) (get_or stored i d ∷ [])) (cons_len (sites_in (take i stored)) (get_or stored i d))

-- ---- what a place tells
module _ (sites : List (List ℕ × ℕ)) (i : ℕ) where
  -- what was read at a place is the site of that index
  pub site_read : (fields : List (Option (List ℕ × ℕ))) (d o : Option (List ℕ × ℕ)) → places sites ≡ fields → i < 16 → get_or fields i d ≡ o → slice_get sites i ≡ o
  site_read fields d o e h r = sym (place sites i d h) ∙ ap (λ (p : List (Option (List ℕ × ℕ))). get_or p i d) e ∙ r

  -- the test of its name
  pub named_site : (s : List ℕ × ℕ) (name : List ℕ) → slice_get sites i ≡ Some s → is_named sites name i ≡ pointwise nat_eq s.0 name
  named_site s name e = ap (λ (t : List ℕ × ℕ). pointwise nat_eq t.0 name) (get_or_from_slice_get sites i s ([], 0) e)

  -- where a site was read the index is within the roster, and else past it
  pub within_from_site : (s : List ℕ × ℕ) → slice_get sites i ≡ Some s → i < length sites
  within_from_site s e = slice_get_within sites i s e

  pub past_from_none : slice_get sites i ≡ None → length sites ≤ i
  past_from_none e = elim (cases_lt i (length sites)) [
    | inl l ↦ absurd (let p : slice_get sites i ≡ Some (get_or sites i ([], 0)) = slice_get-get_or sites i ([], 0) l in cc)
    | inr l ↦ l
  ]

  -- its number of nodes
  pub counted_site : (s : List ℕ × ℕ) → IsRoster sites → slice_get sites i ≡ Some s → (1 ≤ s.1) × (s.1 ≤ 1_000_000)
  counted_site s r e =
      let h : is_node_count (get_or sites i ([], 0)).1 ≡ true = r.counted i ([], 0) (within_from_site s e) in
      let p : is_node_count s.1 ≡ true = ap (λ (t : List ℕ × ℕ). is_node_count t.1) (sym (get_or_from_slice_get sites i s ([], 0) e)) ∙ h in
      let q = and_parts _ _ p in
      (leb-true 1 _ q.0, leb-true _ 1_000_000 q.1)

-- ---- one more site in its place
site_name_is_name : (text : List ℕ) → is_site_name text ≡ true → is_name text ≡ true
unfolding is_site_name
site_name_is_name text h = (and_parts _ _ h).0

module _ (pairs : List (Bor (List ℕ) × ℕ)) (i : ℕ) (d : Bor (List ℕ) × ℕ) (h : i < length pairs) where
  -- the name of a roster's site is made
  pub name_made : IsRoster (sites_of pairs) → (r : Option (List ℕ)) → r ≡ (if is_name (get_or pairs i d).0.now then Some (get_or pairs i d).0.now else None) → r ≡ Some (get_or pairs i d).0.now
  name_made p r e =
      let n : is_site_name (name_at (sites_of pairs) i) ≡ true = p.named i ([], 0) (rw (length_sites) h) in
      let m : is_name (get_or pairs i d).0.now ≡ true = site_name_is_name _ (ap is_site_name (sym (name_at-sites_of pairs i d h)) ∙ n) in
      rw (m) at e

  -- one more place is filled
  pub filled_more : (stored : List (Option (List ℕ × ℕ))) (word : List ℕ) → length pairs ≤ 16 → word ≡ (get_or pairs i d).0.now → IsFilledTo (sites_of pairs) stored i → IsFilledTo (sites_of pairs) (set stored i (Some (word, (get_or pairs i d).1))) (i + 1)
  filled_more stored word m e f =
      let within : i < length stored = rw (f.len) (omega arith) in
      let here : slice_get (sites_of pairs) i ≡ Some (word, (get_or pairs i d).1) =
      slice_get-get_or (sites_of pairs) i ([], 0) (rw (length_sites) h) ∙ ap Some (get_or-map (λ s. (s.0.now, s.1)) pairs i d ([], 0) h) ∙ ap (λ t. Some (t, (get_or pairs i d).1)) (sym e) in
      record {
        len = length-set stored i _ ∙ f.len;
        front = λ k l. elim (cases_eq k i) [
          | inl q ↦ rw (q, get_or-set_same, here) refl
          | inr q ↦ get_or-set_other stored i k _ None q ∙ f.front k (omega arith)
        ];
        rest = λ k l. get_or-set_other stored i k _ None (λ q. absurd (omega arith)) ∙ f.rest k (omega arith);
      }
