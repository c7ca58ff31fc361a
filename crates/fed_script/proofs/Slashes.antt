-- That no name has a slash, so that a word which is a user's name has no role behind it.
use Rattle.std.proofs.Common.{◌≡◌, ℕ, true, false, List, [], ◌∷◌, length, Some, None, refl, arith, nat_lt}
use Rattle.std.proofs.lemmas.Bool.{and_parts}
use Rattle.std.specs.Prelude.{position}
use Rattle.std.specs.List.{list_all, position_or_len}
use Rattle.std.proofs.lemmas.Bool.Decides.{nat_tests}
use Rattle.fed_stamp.specs.Word.{is_name, is_name_byte}
use Rattle.fed_model.specs.declared.askers.Role.TheVariants.{User}
use Rattle.fed_model.specs.declared.askers.Who.{Who}
use Rattle.fed_words.proofs.Given.{when_some}
use Rattle.fed_script.specs.Asker.{is_slash, user_in, who_in}

no_slash : (b : ℕ) → is_name_byte b ≡ true → is_slash b ≡ false
no_slash b e = grind (arith, nat_tests)

past_the_end : (text : List ℕ) → list_all is_name_byte text ≡ true → position_or_len is_slash text ≡ length text
past_the_end [] e = refl
past_the_end (b ∷ bs) e =
    let parts = and_parts (is_name_byte b) (list_all is_name_byte bs) e in
    rw (no_slash b parts.0) (omega (arith, past_the_end bs parts.1))

not_less : (n : ℕ) → nat_lt n n ≡ false
not_less n = grind (arith, nat_tests)

no_place : (text : List ℕ) → is_name text ≡ true → position is_slash text ≡ None
unfolding is_name
no_place text e =
    let all : list_all is_name_byte text ≡ true = (and_parts _ _ e).1 in
    rw (past_the_end text all, not_less (length text)) refl

-- a user without a role
pub who_in-user : (word : List ℕ) (who : Who) → user_in User word ≡ Some who → who_in word ≡ Some who
who_in-user word who e =
    let named = and_parts (is_name word) _ (when_some _ _ who e).0 in
    rw (no_place word named.0) e
