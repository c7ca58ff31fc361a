-- What options set.
use Rattle.std.specs.Prelude.{ℕ, ℤ, Bool, true, false, List, [], Option, Some, None, option_map, unwrap_or, Ok, Err, if◌then◌else◌}
use Rattle.std.specs.List.{list_any}
use Rattle.std.specs.Option.{ok_or}
use Rattle.fed_lattice.specs.Results.{mapped, each}
use Rattle.fed_model.specs.declared.holds.HoldKinds.{HoldKinds}
use Rattle.fed_model.specs.declared.values.Changes.{Changes}
use Rattle.fed_stamp.specs.Word.{is_name}
use Rattle.fed_words.specs.declared.faults.UsageFault.TheVariants.{BadValue}
use Rattle.fed_words.specs.declared.resources.Resources.{Resources}
use Rattle.fed_words.specs.declared.settings.Setting.{Setting}
use Rattle.fed_words.specs.declared.settings.Settings.{Settings}
use Rattle.fed_words.specs.declared.utilities.Choice.{Choice}
use Rattle.fed_words.specs.Fault.{OrFault}
use Rattle.fed_words.specs.Kinds.{kinds_in}
use Rattle.fed_words.specs.Last.{last_of}
use Rattle.fed_words.specs.Priority.{priority_in}
use Rattle.fed_words.specs.Resource.{last_resources, resources_in}

-- what an option with its argument sets
abbrev pub setting_in : List (List ℕ × ℕ) → Choice → List ℕ → OrFault Setting
setting_in roster Choice.Account text = if is_name text then Ok (Setting.Account (Some text)) else Err BadValue
setting_in roster Choice.Held text = Ok Setting.Held
setting_in roster Choice.Kinds text = ok_or (option_map Setting.Kinds (kinds_in text)) BadValue
setting_in roster Choice.Resources text = mapped Setting.Resources (resources_in roster text)
setting_in roster Choice.Name text = if is_name text then Ok (Setting.Name text) else Err BadValue
setting_in roster Choice.Priority text = ok_or (option_map Setting.Priority (priority_in text)) BadValue
setting_in roster Choice.Full text = Ok Setting.Full

abbrev pub account_in : Setting → Option (Option (List ℕ))
account_in (Setting.Account account) = Some account
account_in _ = None

abbrev pub is_held : Setting → Bool
is_held Setting.Held = true
is_held _ = false

abbrev pub kinds_of : Setting → Option HoldKinds
kinds_of (Setting.Kinds kinds) = Some kinds
kinds_of _ = None

abbrev pub resources_of : Setting → Option Resources
resources_of (Setting.Resources resources) = Some resources
resources_of _ = None

abbrev pub name_in : Setting → Option (List ℕ)
name_in (Setting.Name name) = Some name
name_in _ = None

abbrev pub priority_of : Setting → Option ℤ
priority_of (Setting.Priority priority) = Some priority
priority_of _ = None

abbrev pub is_full : Setting → Bool
is_full Setting.Full = true
is_full _ = false

-- the resources of the last list of them, and none without one
abbrev pub last_list : List Setting → Resources
last_list given = unwrap_or (last_of resources_of given) (last_resources [])

-- of an option given twice the last counts
abbrev pub last_settings : List Setting → Settings
last_settings given = record {
  changes = record {
    name = last_of name_in given;
    priority = last_of priority_of given;
    nodes = (last_list given).nodes;
    limit = (last_list given).limit;
    account = last_of account_in given;
    sites = (last_list given).sites;
  };
  held = list_any is_held given;
  kinds = last_of kinds_of given;
  full = list_any is_full given;
}

-- what options with their arguments set
abbrev pub settings_in : List (List ℕ × ℕ) → List (Choice × List ℕ) → OrFault Settings
settings_in roster items = mapped last_settings (each (λ item. setting_in roster item.0 item.1) items)
