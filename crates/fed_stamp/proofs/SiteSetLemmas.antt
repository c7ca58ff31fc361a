-- On sets of sites.
use Rattle.std.proofs.Common.{◌≡◌, ◌↔◌, ℕ, ◌<◌, Bool, true, false, ◌&&◌, List, length, take, slice_index_or, nat_eq, sym, ap, ◌∙◌, arith}
use Rattle.std.specs.List.{Contains}
use Rattle.std.proofs.lemmas.Cmp.{nat_eq_equiv}
use Rattle.std.proofs.lemmas.Bool.{lt-ltb}
use Rattle.std.proofs.lemmas.Bool.Decides.{nat_tests}
use Rattle.std.proofs.lemmas.List.{take_all}
use Rattle.std.proofs.lemmas.List.FromFn.{fill_by_all, get_or-map-range_with_len}
use Rattle.std.proofs.lemmas.Map.Views.{Contains-from_any, list_any-from_Contains}
use Rattle.fed_stamp.specs.SiteSet.{has, is_listed, set_of}

-- the members are what the list contains
abbrev pub AgreesWith : List ℕ → List Bool → Type 0
AgreesWith sites members = (k : ℕ) → k < 16 → slice_index_or members k false ≡ is_listed sites k

-- after the whole list the set is made
pub agrees_all : (sites : List ℕ) (members : List Bool) (i : ℕ) → length members ≡ 16 → length sites ≡ i → AgreesWith (take i sites) members → members ≡ set_of sites
unfolding set_of
agrees_all sites members i l h a =
    let t : take i sites ≡ sites = take_all i sites (omega arith) in
    fill_by_all (is_listed sites) members 16 false l (λ k kb. a k kb ∙ ap (λ (s : List ℕ). is_listed s k) t)

-- the set has the sites that the list contains
pub set_of_members : (sites : List ℕ) (site : ℕ) → site < 16 → (has (set_of sites) site ≡ true) ↔ Contains sites site
unfolding set_of
set_of_members sites site b =
    let e : has (set_of sites) site ≡ is_listed sites site = ap (λ t. t && slice_index_or (set_of sites) site false) (lt-ltb site 16 b) ∙ get_or-map-range_with_len (is_listed sites) 0 16 site site false b (omega arith) in
    (λ h. Contains-from_any {eq = nat_eq} (λ x y t. grind (arith, nat_tests)) site sites (sym e ∙ h), λ h. e ∙ list_any-from_Contains nat_eq_equiv site sites h)
