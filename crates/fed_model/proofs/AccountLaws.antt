-- The text of an account is read as the account again.
use Rattle.std.specs.Prelude.{IsTrue, Some}
use Rattle.std.proofs.Common.{◌≡◌, ℕ, List, [], ◌∷◌, refl}
use Rattle.fed_stamp.specs.Word.{is_name}
use Rattle.fed_model.specs.Account.{account_of}

pub name_again : (name : List ℕ) → IsTrue (is_name name) → account_of name ≡ Some (Some name)
unfolding is_name
name_again [] e = cc
name_again (b ∷ name) e = rw e refl
