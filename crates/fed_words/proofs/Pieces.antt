-- The pieces of a text that is cut at a character.
use Rattle.std.proofs.Common.{◌≡◌, ℕ, ◌<◌, true, List, length, Option, Some, None, Ok, eqb, refl, ap, ◌∙◌, arith}
use Rattle.std.specs.Prelude.{◌==◌, if◌then◌else◌}
use Rattle.std.specs.Option.{IsSome}
use Rattle.std.proofs.lemmas.Bool.{ne_eqb}
use Rattle.std.specs.List.{slice_split}
use Rattle.std.specs.Str.Iter.{split_steps, split_text, split_has_more, split_pattern}
use Rattle.std.specs.Str.Pattern.{FindsChar}
use Rattle.std.proofs.lemmas.Iterator.{YieldsList}
use Rattle.std.proofs.lemmas.Iterator.Splits.{YieldsList-from_str_split}
use Rattle.std.proofs.lemmas.List.Splits.{length-slice_split}
use Rattle.fed_stamp.specs.SiteSet.{set_of}
use Rattle.fed_lattice.specs.Results.{each}
use Rattle.fed_words.specs.Fault.{OrFault}
use Rattle.fed_words.proofs.Each.{each-length}

pub pieces : {s t : _} (c : ℕ) (text : List ℕ) → c < 128 → t ≡ s → split_text s ≡ text → split_has_more s ≡ true → split_pattern s ≡ c → YieldsList (split_steps FindsChar (λ a b. b ≡ a)) (λ x. x.now) t (slice_split (λ b. eqb b c) text)
pieces c text low same cut more pattern = YieldsList-from_str_split c text low (ap split_text same ∙ cut) (ap split_has_more same ∙ more) (ap split_pattern same ∙ pattern)

set-some : (sites : List ℕ) → 0 < length sites → (if length sites == 0 then None else Some (set_of sites)) ≡ Some (set_of sites)
set-some sites some = rw (ne_eqb (length sites) 0 (λ e. omega arith)) refl

-- the set of the sites that a text names, of which there is one at least
pub named_set : (says : List ℕ → OrFault ℕ) (cut : ℕ → _) (text : List ℕ) (sites : List ℕ) → each says (slice_split cut text) ≡ Ok sites → (if length sites == 0 then None else Some (set_of sites)) ≡ Some (set_of sites)
named_set says cut text sites e = set-some sites (omega (arith, each-length says (slice_split cut text) sites e, length-slice_split cut text))

pub some_from : {A : Type 0} (o : Option A) (x : A) → o ≡ Some x → IsSome o
some_from o x e = rw e refl
