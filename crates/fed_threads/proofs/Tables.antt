-- What the table of who claims each entry says of the claims.
use Rattle.std.proofs.Common.{◌≡◌, ◌<◌, ◌≤◌, ℕ, zero, suc, List, [], ◌∷◌, length, get_or, Option, Some, None, refl, subst, arith}
use Rattle.std.proofs.lemmas.Option.{slice_get_within}
use Rattle.std.specs.List.{slice_get}
use Rattle.fed_threads.specs.declared.claims.Claimant.{Claimant}
use Rattle.fed_threads.specs.declared.claims.Times.{Times}
use Rattle.fed_threads.specs.declared.claims.Times.TheVariants.{Never, Once, Often}
use Rattle.fed_threads.specs.declared.journal.Claim.{Claim}
use Rattle.fed_threads.specs.declared.journal.Entry.{Entry}
use Rattle.fed_threads.specs.Claims.{times_claimed, OnceAtMost, OnceAtLeast, FailsFirst}
use Rattle.fed_threads.specs.Claimants.{IsTimes, IsClaimant, IsClaimantIf, AreClaimants, IsNot, IsNotThere}

-- past the lists there is no item
pub past_empty : {X : Type 0} (rows : List (List X)) (site index : ℕ) → index < length (get_or rows site []) → site < length rows
past_empty [] site index h = absurd (omega arith)
past_empty (j ∷ rows) zero index h = omega arith
past_empty (j ∷ rows) (suc site) index h = omega (arith, past_empty rows site index h)

most : (t : Times) (n : ℕ) → IsTimes t n → (t ≡ Often → ⊥) → n ≤ 1
most Never n h refuses = omega arith
most Once n h refuses = omega arith
most Often n h refuses = absurd (refuses refl)

least : (t : Times) (n : ℕ) → IsTimes t n → (t ≡ Never → ⊥) → 1 ≤ n
least Never n h refuses = absurd (refuses refl)
least Once n h refuses = omega arith
least Often n h refuses = omega arith

most_if : (seats : List (List Claim)) (site index : ℕ) (o : Option Claimant) → IsClaimantIf seats site index o → IsNot Often o
    → times_claimed seats site index ≤ 1
most_if seats site index None h refuses = absurd h
most_if seats site index (Some c) h refuses = most c.times (times_claimed seats site index) h.times refuses

least_if : (seats : List (List Claim)) (site index : ℕ) (o : Option Claimant) → IsClaimantIf seats site index o → IsNot Never o
    → 1 ≤ times_claimed seats site index
least_if seats site index None h refuses = absurd h
least_if seats site index (Some c) h refuses = least c.times (times_claimed seats site index) h.times refuses

not_most : (t : Times) (n : ℕ) → IsTimes t n → ((t ≡ Often → ⊥) → ⊥) → n ≤ 1 → ⊥
not_most Never n h refuses le = refuses (λ e. cc)
not_most Once n h refuses le = refuses (λ e. cc)
not_most Often n h refuses le = omega arith

not_least : (t : Times) (n : ℕ) → IsTimes t n → ((t ≡ Never → ⊥) → ⊥) → 1 ≤ n → ⊥
not_least Never n h refuses le = omega arith
not_least Once n h refuses le = refuses (λ e. cc)
not_least Often n h refuses le = refuses (λ e. cc)

module _ (journals : List (List Entry)) (seats : List (List Claim)) (rows : List (List Claimant)) (table : AreClaimants journals seats rows) where
  there : (site index : ℕ) → index < length (get_or journals site []) → IsClaimantIf seats site index (slice_get (get_or rows site []) index)
  there site index h = (table.of_site site (past_empty journals site index h)).claimants index h

  pub once_at_most : (site index : ℕ) → IsNotThere Often rows site index → OnceAtMost journals seats site index
  once_at_most site index refuses h = most_if seats site index (slice_get (get_or rows site []) index) (there site index h) refuses

  pub once_at_least : (site index : ℕ) → IsNotThere Never rows site index → OnceAtLeast journals seats site index
  once_at_least site index refuses h = least_if seats site index (slice_get (get_or rows site []) index) (there site index h) refuses

  -- an entry of the table is one of the journals
  inside : (site index : ℕ) (c : Claimant) → slice_get (get_or rows site []) index ≡ Some c → index < length (get_or journals site [])
  inside site index c is =
      let h : index < length (get_or rows site []) = slice_get_within (get_or rows site []) index c is in
      let s : site < length journals = subst (λ n. site < n) table.count_is (past_empty rows site index h) in
      subst (λ n. index < n) (table.of_site site s).count_is h

  twice_at : (site index : ℕ) (o : Option Claimant) → slice_get (get_or rows site []) index ≡ o
      → (IsNot Often o → ⊥) → OnceAtMost journals seats site index → ⊥
  twice_at site index None is refuses once = refuses tt
  twice_at site index (Some c) is refuses once =
      let h : index < length (get_or journals site []) = inside site index c is in
      let m : IsClaimant seats site index c = subst (λ (o : Option Claimant). IsClaimantIf seats site index o) is (there site index h) in
      not_most c.times (times_claimed seats site index) m.times refuses (once h)

  unclaimed_at : (site index : ℕ) (o : Option Claimant) → slice_get (get_or rows site []) index ≡ o
      → (IsNot Never o → ⊥) → OnceAtLeast journals seats site index → ⊥
  unclaimed_at site index None is refuses once = refuses tt
  unclaimed_at site index (Some c) is refuses once =
      let h : index < length (get_or journals site []) = inside site index c is in
      let m : IsClaimant seats site index c = subst (λ (o : Option Claimant). IsClaimantIf seats site index o) is (there site index h) in
      not_least c.times (times_claimed seats site index) m.times refuses (once h)

  pub first_twice : (site index : ℕ) → FailsFirst (IsNotThere Often rows) site index → FailsFirst (OnceAtMost journals seats) site index
  first_twice site index f =
      record {
        fails = twice_at site index (slice_get (get_or rows site []) index) refl f.fails;
        before = λ c d e. once_at_most c d (f.before c d e);
      }

  pub first_unclaimed : (site index : ℕ) → FailsFirst (IsNotThere Never rows) site index → FailsFirst (OnceAtLeast journals seats) site index
  first_unclaimed site index f =
      record {
        fails = unclaimed_at site index (slice_get (get_or rows site []) index) refl f.fails;
        before = λ c d e. once_at_least c d (f.before c d e);
      }
