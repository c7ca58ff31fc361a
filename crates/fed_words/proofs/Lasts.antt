-- One resource or one setting more.
use Rattle.std.proofs.Common.{◌≡◌, Bool, true, false, ◌||◌, List, [], ◌∷◌, ◌++◌, Option, Some, None, refl}
use Rattle.std.specs.Prelude.{unwrap_or}
use Rattle.std.specs.List.{list_any}
use Rattle.std.specs.Option.{option_or}
use Rattle.fed_words.specs.declared.resources.Resource.{Resource}
use Rattle.fed_words.specs.declared.resources.Resources.{Resources}
use Rattle.fed_words.specs.declared.settings.Setting.{Setting}
use Rattle.fed_words.specs.Last.{last_of}
use Rattle.fed_words.specs.Resource.{last_resources, nodes_in, limit_in, set_in}
use Rattle.fed_words.specs.Setting.{last_list, last_settings, account_in, is_held, kinds_of, resources_of, name_in, priority_of, is_full}
use Rattle.fed_words.proofs.Each.{last_of-push}

pub last_resources-push : (given : List Resource) (r : Resource) → last_resources (given ++ r ∷ []) ≡ record { nodes = option_or (nodes_in r) (last_of nodes_in given); limit = option_or (limit_in r) (last_of limit_in given); sites = option_or (set_in r) (last_of set_in given) }
last_resources-push given r = rw (last_of-push nodes_in given r, last_of-push limit_in given r, last_of-push set_in given r) refl

or-swap : (a b d : Bool) → (a || (b || d)) ≡ (b || (a || d))
or-swap true true d = refl
or-swap true false d = refl
or-swap false b d = refl

list_any-push : (test : Setting → Bool) (given : List Setting) (s : Setting) → list_any test (given ++ s ∷ []) ≡ (test s || list_any test given)
list_any-push test [] s = refl
list_any-push test (r ∷ given) s = rw (list_any-push test given s) (or-swap (test r) (test s) (list_any test given))

or_else : (o p : Option Resources) (d : Resources) → unwrap_or (option_or o p) d ≡ unwrap_or o (unwrap_or p d)
or_else (Some r) p d = refl
or_else None p d = refl

last_list-push : (given : List Setting) (s : Setting) → last_list (given ++ s ∷ []) ≡ unwrap_or (resources_of s) (last_list given)
last_list-push given s = rw (last_of-push resources_of given s) (or_else (resources_of s) (last_of resources_of given) (last_resources []))

pub last_settings-push : (given : List Setting) (s : Setting) → last_settings (given ++ s ∷ []) ≡ record {
  changes = record {
    name = option_or (name_in s) (last_of name_in given);
    priority = option_or (priority_of s) (last_of priority_of given);
    nodes = (unwrap_or (resources_of s) (last_list given)).nodes;
    limit = (unwrap_or (resources_of s) (last_list given)).limit;
    account = option_or (account_in s) (last_of account_in given);
    sites = (unwrap_or (resources_of s) (last_list given)).sites;
  };
  held = is_held s || list_any is_held given;
  kinds = option_or (kinds_of s) (last_of kinds_of given);
  full = is_full s || list_any is_full given;
}
last_settings-push given s = rw (last_of-push account_in given s, list_any-push is_held given s, last_of-push kinds_of given s, last_list-push given s, last_of-push name_in given s, last_of-push priority_of given s, list_any-push is_full given s) refl
