-- That a name which a roster has is of the form of a site's name.
use Rattle.std.proofs.Common.{◌≡◌, ℕ, zero, suc, ◌+◌, ◌<◌, Bool, true, List, [], length, Some, Ok, refl, subst, sym, inl, inr, arith}
use Rattle.std.proofs.lemmas.Bool.{cases_Bool}
use Rattle.std.specs.Cmp.Lexicographic.{same_text}
use Rattle.std.specs.List.{find, range_with_len}
use Rattle.fed_stamp.specs.Roster.{IsRoster, is_named, is_site_name, name_at}
use Rattle.fed_words.specs.declared.faults.UsageFault.{UsageFault}
use Rattle.fed_words.specs.Site.{site_in, site_named}

-- what is found in a range passes, and lies in it
pub found_in_range : (test : ℕ → Bool) (a n k : ℕ) → find test (range_with_len a n) ≡ Some k → (test k ≡ true) × (k < a + n)
found_in_range test a zero k e = absurd cc
found_in_range test a (suc n) k e = elim (cases_Bool (test a)) [
  | inl here ↦ let same : Some a ≡ Some k = (rw here at e) in let eq : a ≡ k = cc in (subst (λ i. test i ≡ true) eq here, omega arith)
  | inr later ↦ let rest = found_in_range test (a + 1) n k (rw later at e) in (rest.0, let within = rest.1 in omega arith)
]

pub site_in-named : (malformed : UsageFault) (roster : List (List ℕ × ℕ)) → IsRoster roster → (name : List ℕ) (site : ℕ)
    → site_named roster name ≡ Some site
    → site_in malformed roster name ≡ Ok site
site_in-named malformed roster lawful name site e =
    let found = found_in_range (is_named roster name) 0 (length roster) site e in
    let below : site < length roster = let within = found.1 in omega arith in
    let same = same_text (name_at roster site) name (sym found.0) in
    let formed = subst (λ text. is_site_name text ≡ true) same (lawful.named site ([], 0) below) in
    rw (formed, e) refl
