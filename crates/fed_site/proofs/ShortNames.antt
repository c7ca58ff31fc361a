-- The names of a roster's sites are short.
use Rattle.std.specs.Prelude.{IfSome, slice_get}
use Rattle.std.specs.Borrow.{Bor}
use Rattle.std.specs.Option.{option_copied}
use Rattle.std.proofs.Common.{◌≡◌, ◌≤◌, ℕ, List, [], Option, Some, None, option_map, true, get_or, length, sym, subst}
use Rattle.std.proofs.lemmas.Bool.{and_parts, leb-true}
use Rattle.std.proofs.lemmas.Option.{get_or_from_slice_get, slice_get_within}
use Rattle.fed_stamp.specs.Roster.{IsRoster, is_site_name}
use Rattle.fed_stamp.specs.Word.{is_name}

name_short : (name : List ℕ) → is_name name ≡ true → length name ≤ 15
unfolding is_name
name_short name e = leb-true (length name) 15 (and_parts _ _ (and_parts _ _ (and_parts _ _ e).0).0).1

site_name_short : (name : List ℕ) → is_site_name name ≡ true → length name ≤ 15
unfolding is_site_name
site_name_short name e = name_short name (and_parts (is_name name) _ e).0

pub short : (roster : List (List ℕ × ℕ)) (site : ℕ) (found : Option (List ℕ × ℕ)) (name : Option (Bor (List ℕ))) → IsRoster roster → slice_get roster site ≡ found
    → option_copied name ≡ option_map (λ s. s.0) found → IfSome name (λ n. length n.now ≤ 15)
short roster site found None lawful e is = tt
short roster site None (Some n) lawful e is = cc
short roster site (Some s) (Some n) lawful e is =
    let named : is_site_name (get_or roster site ([], 0)).0 ≡ true = lawful.named site ([], 0) (slice_get_within roster site s e) in
    let of : is_site_name s.0 ≡ true = subst (λ (t : List ℕ × ℕ). is_site_name t.0 ≡ true) (get_or_from_slice_get roster site s ([], 0) e) named in
    let same : n.now ≡ s.0 = cc in
    subst (λ (t : List ℕ). length t ≤ 15) (sym same) (site_name_short s.0 of)
