-- Who asks: `USER`, or `USER/ROLE`.
use Rattle.std.specs.Prelude.{ℕ, Bool, not, ◌&&◌, ◌==◌, codes, Some, None, is_some, position, if◌then◌else◌}
use Rattle.std.specs.List.{before_first, after_first}
use Rattle.std.specs.Str.{byte, bytes_eq}
use Rattle.fed_stamp.specs.Word.{is_name}
use Rattle.fed_model.specs.declared.askers.Role.{Role}
use Rattle.fed_model.specs.declared.askers.Role.TheVariants.{User, Operator, Administrator}
use Rattle.fed_model.specs.declared.askers.Who.{Who}
use Rattle.fed_script.specs.Forms.{Reads, ◌>>=◌}
use Rattle.fed_script.specs.Verb.{is_verb}

abbrev pub role_in : Reads Role
role_in word = if bytes_eq word (codes "operator") then Some Operator
    else (if bytes_eq word (codes "admin") then Some Administrator else None)

-- a user of a script has no verb for a name
abbrev pub user_in : Role → Reads Who
user_in role word = if is_name word && not (is_verb word) then Some (record { user = word; role = role }) else None

abbrev pub is_slash : ℕ → Bool
is_slash b = b == byte "/"

abbrev pub who_in : Reads Who
who_in word = if is_some (position is_slash word)
    then (role_in (after_first is_slash word) >>= λ role. user_in role (before_first is_slash word))
    else user_in User word

-- the site's own scheduler asks for what concerns grants and runs; who it is isn't looked at
abbrev pub scheduler : Who
scheduler = record { user = codes "scheduler"; role = User }
