-- What words set, found option by option.
use Rattle.std.proofs.Common.{◌≡◌, ℕ, ◌+◌, ◌<◌, Bool, true, false, ◌||◌, List, [], ◌∷◌, ◌++◌, length, get_or, drop, codes, Option, Some, None, Ok, Err, refl, ap, sym, ◌∙◌, append-nil, append_assoc}
use Rattle.std.specs.Prelude.{if◌then◌else◌, option_map, unwrap_or}
use Rattle.std.specs.Option.{ok_or, option_or}
use Rattle.std.specs.Str.{bytes_eq}
use Rattle.fed_lattice.specs.Results.{◌>>=◌, mapped, each}
use Rattle.fed_lattice.proofs.EntryLoops.{drop_item}
use Rattle.fed_words.specs.declared.faults.UsageFault.{UsageFault}
use Rattle.fed_model.specs.declared.values.Changes.{Changes}
use Rattle.fed_words.specs.declared.resources.Resources.{Resources}
use Rattle.fed_words.specs.declared.settings.Setting.{Setting}
use Rattle.fed_words.specs.declared.settings.Settings.{Settings}
use Rattle.fed_words.specs.declared.utilities.Choice.{Choice}
use Rattle.fed_words.specs.declared.utilities.Utility.{Utility}
use Rattle.fed_words.specs.Fault.{OrFault}
use Rattle.fed_words.specs.Reading.{reading}
use Rattle.fed_words.specs.Setting.{account_in, is_full, is_held, kinds_of, last_settings, name_in, priority_of, resources_of, setting_in, settings_in}
use Rattle.fed_words.specs.Spelling.{Item, Spelling, before, group, is_options, spelling, with_item}
use Rattle.fed_words.proofs.Each.{each-append}
use Rattle.fed_words.proofs.Lasts.{last_settings-push}
use Rattle.fed_words.proofs.Spellings.{Words, not_dashes}

-- ---- one option more

abbrev resources_set : Changes → Resources
resources_set set = record { nodes = set.nodes; limit = set.limit; sites = set.sites }

-- what is set, and then this
abbrev pub put : Setting → Settings → Settings
put s old = record {
  changes = record {
    name = option_or (name_in s) old.changes.name;
    priority = option_or (priority_of s) old.changes.priority;
    nodes = (unwrap_or (resources_of s) (resources_set old.changes)).nodes;
    limit = (unwrap_or (resources_of s) (resources_set old.changes)).limit;
    account = option_or (account_in s) old.changes.account;
    sites = (unwrap_or (resources_of s) (resources_set old.changes)).sites;
  };
  held = is_held s || old.held;
  kinds = option_or (kinds_of s) old.kinds;
  full = is_full s || old.full;
}

given_of : (said : OrFault (List Setting)) (old : Settings) → mapped last_settings said ≡ Ok old → (given : List Setting) × (said ≡ Ok given) × (old ≡ last_settings given)
given_of (Ok given) old e = (given, refl, cc)
given_of (Err fault) old e = absurd cc

fault_of : (said : OrFault (List Setting)) (fault : UsageFault) → mapped last_settings said ≡ Err fault → said ≡ Err fault
fault_of (Ok given) fault e = absurd cc
fault_of (Err other) fault e = let same : other ≡ fault = cc in ap Err same

module _ (roster : List (List ℕ × ℕ)) where
  abbrev says : Item → OrFault Setting
  says item = setting_in roster item.0 item.1

  pub set-more : (items : List Item) (old : Settings) → settings_in roster items ≡ Ok old → (option : Choice) (text : List ℕ) (s : Setting) → setting_in roster option text ≡ Ok s → settings_in roster (items ++ (option, text) ∷ []) ≡ Ok (put s old)
  set-more items old e option text s f =
      let g = given_of (each says items) old e in
      rw (each-append says items ((option, text) ∷ []), g.1, f) (ap Ok (last_settings-push g.0 s ∙ ap (put s) (sym g.2)))

  pub set-fault : (items : List Item) (old : Settings) → settings_in roster items ≡ Ok old → (option : Choice) (text : List ℕ) (fault : UsageFault) → setting_in roster option text ≡ Err fault → settings_in roster (items ++ (option, text) ∷ []) ≡ Err fault
  set-fault items old e option text fault f =
      let g = given_of (each says items) old e in
      rw (each-append says items ((option, text) ∷ []), g.1, f) refl

  -- a fault stays whatever stands behind it
  wrong-longer : (items more : List Item) (fault : UsageFault) → settings_in roster items ≡ Err fault → settings_in roster (items ++ more) ≡ Err fault
  wrong-longer items more fault e = rw (each-append says items more, fault_of (each says items) fault e) refl

-- ---- what one option sets, told by its reader

pub made-ok : {A : Type 0} (f : A → Setting) (o : Option A) (fault : UsageFault) (x : A) → Ok x ≡ ok_or o fault → ok_or (option_map f o) fault ≡ Ok (f x)
made-ok f (Some y) fault x e = let same : y ≡ x = cc in ap (λ z. Ok (f z)) same
made-ok f None fault x e = absurd cc

pub made-err : {A : Type 0} (f : A → Setting) (o : Option A) (fault wrong : UsageFault) → Err wrong ≡ ok_or o fault → ok_or (option_map f o) fault ≡ Err wrong
made-err f (Some y) fault wrong e = absurd cc
made-err f None fault wrong e = let same : fault ≡ wrong = cc in ap Err same

pub name-ok : (test : Bool) (text x : List ℕ) (fault : UsageFault) → Ok x ≡ ok_or (if test then Some text else None) fault → (if test then Ok (Setting.Name text) else Err fault) ≡ Ok (Setting.Name x)
name-ok true text x fault e = let same : text ≡ x = cc in ap (λ z. Ok (Setting.Name z)) same
name-ok false text x fault e = absurd cc

pub name-err : (test : Bool) (text : List ℕ) (fault wrong : UsageFault) → Err wrong ≡ ok_or (if test then Some text else None) fault → (if test then Ok (Setting.Name text) else Err fault) ≡ Err wrong
name-err true text fault wrong e = absurd cc
name-err false text fault wrong e = let same : fault ≡ wrong = cc in ap Err same

pub account-ok : (test : Bool) (text : List ℕ) (x : Option (List ℕ)) (fault : UsageFault) → Ok x ≡ (if test then Ok (Some text) else Err fault) → (if test then Ok (Setting.Account (Some text)) else Err fault) ≡ Ok (Setting.Account x)
account-ok true text x fault e = let same : Some text ≡ x = cc in ap (λ z. Ok (Setting.Account z)) same
account-ok false text x fault e = absurd cc

pub account-err : (test : Bool) (text : List ℕ) (fault wrong : UsageFault) → Err wrong ≡ (if test then Ok (Some text) else Err fault) → (if test then Ok (Setting.Account (Some text)) else Err fault) ≡ Err wrong
account-err true text fault wrong e = absurd cc
account-err false text fault wrong e = let same : fault ≡ wrong = cc in ap Err same

-- ---- readings

abbrev both : {R : Type 0} → OrFault Settings → OrFault R → OrFault (Settings × R)
both a r = do
  settings ← a
  rest ← r
  Ok (settings, rest)

pub parts : {R : Type 0} (a : OrFault Settings) (r : OrFault R) (settings : Settings) (rest : R) → both a r ≡ Ok (settings, rest) → (a ≡ Ok settings) × (r ≡ Ok rest)
parts {R = R} (Ok s) (Ok x) settings rest e =
    (ap (mapped (λ (p : Settings × R). p.0)) e, ap (mapped (λ (p : Settings × R). p.1)) e)
parts (Ok s) (Err fault) settings rest e = absurd cc
parts (Err fault) r settings rest e = absurd cc

pub first_fault : {R T : Type 0} (a : OrFault Settings) (r : OrFault R) (next : Settings → R → OrFault T) (fault : UsageFault) → both a r ≡ Err fault → (a >>= λ s. r >>= λ x. next s x) ≡ Err fault
first_fault (Ok s) (Ok x) next fault e = absurd cc
first_fault (Ok s) (Err other) next fault e = let same : other ≡ fault = cc in ap Err same
first_fault (Err other) r next fault e = let same : other ≡ fault = cc in ap Err same

module _ (roster : List (List ℕ × ℕ)) (items : List Item) where
  pub reading-item : {R : Type 0} (item : Item) (s : Spelling R) → reading roster items (with_item item s) ≡ reading roster (items ++ item ∷ []) s
  reading-item item s = rw (append_assoc items (item ∷ []) s.items) refl

  pub reading-end : {R : Type 0} (settings : Settings) (rest : R) → settings_in roster items ≡ Ok settings → reading roster items (record { items = []; rest = Ok rest }) ≡ Ok (settings, rest)
  reading-end settings rest e = rw (append-nil items, e) refl

  pub reading-wrong : {R : Type 0} (fault : UsageFault) (s : Spelling R) → settings_in roster items ≡ Err fault → reading roster items s ≡ Err fault
  reading-wrong fault s e = rw (wrong-longer roster items s.items fault e) refl

  pub reading-before : {R S : Type 0} (g : Spelling R) (next : R → Spelling S) (settings : Settings) (x : R) → reading roster items g ≡ Ok (settings, x) → (settings_in roster (items ++ g.items) ≡ Ok settings) × (reading roster items (before g.items g.rest next) ≡ reading roster (items ++ g.items) (next x))
  reading-before g next settings x e =
      let p = parts (settings_in roster (items ++ g.items)) g.rest settings x e in
      (p.0, rw (p.1, append_assoc items g.items (next x).items) refl)

  wrong-before : {R S : Type 0} (front : List Item) (r : OrFault R) (next : R → Spelling S) (fault : UsageFault) (a : OrFault Settings) → settings_in roster (items ++ front) ≡ a → both a r ≡ Err fault → reading roster items (before front r next) ≡ Err fault
  wrong-before front (Ok x) next fault (Ok s) is e = absurd cc
  wrong-before front (Ok x) next fault (Err other) is e =
      let same : other ≡ fault = cc in
      rw (← append_assoc items front (next x).items, wrong-longer roster (items ++ front) (next x).items fault (is ∙ ap Err same)) refl
  wrong-before front (Err other) next fault (Ok s) is e = let same : other ≡ fault = cc in rw (is, same) refl
  wrong-before front (Err other) next fault (Err first) is e = let same : first ≡ fault = cc in rw (is, same) refl

  pub reading-before-wrong : {R S : Type 0} (g : Spelling R) (next : R → Spelling S) (fault : UsageFault) → reading roster items g ≡ Err fault → reading roster items (before g.items g.rest next) ≡ Err fault
  reading-before-wrong g next fault e = wrong-before g.items g.rest next fault (settings_in roster (items ++ g.items)) refl e

-- ---- words

module _ (roster : List (List ℕ × ℕ)) (utility : Utility) (all : Words) (k : ℕ) (items : List Item) where
  module _ (word : List ℕ) (within : k < length all) (item : word ≡ get_or all k word) where
    pub options-argument : (option : Choice) → reading roster items (spelling utility (Some option) (drop k all)) ≡ reading roster (items ++ (option, word) ∷ []) (spelling utility None (drop (k + 1) all))
    options-argument option = rw (drop_item all k word within item) (reading-item roster items (option, word) (spelling utility None (drop (k + 1) all)))

    pub options-wrong : (option : Choice) (fault : UsageFault) → settings_in roster (items ++ (option, word) ∷ []) ≡ Err fault → reading roster items (spelling utility (Some option) (drop k all)) ≡ Err fault
    options-wrong option fault e = options-argument option ∙ reading-wrong roster (items ++ (option, word) ∷ []) fault (spelling utility None (drop (k + 1) all)) e

    pub options-operand : (settings : Settings) → is_options word ≡ false → settings_in roster items ≡ Ok settings → reading roster items (spelling utility None (drop k all)) ≡ Ok (settings, drop k all)
    options-operand settings e f = rw (drop_item all k word within item, not_dashes word e, e) (reading-end roster items settings (word ∷ drop (k + 1) all) f)

    pub options-end : (settings : Settings) → bytes_eq word (codes "--") ≡ true → settings_in roster items ≡ Ok settings → reading roster items (spelling utility None (drop k all)) ≡ Ok (settings, drop (k + 1) all)
    options-end settings e f = rw (drop_item all k word within item, e) (reading-end roster items settings (drop (k + 1) all) f)

    pub options-group : (settings : Settings) (wanted : Option Choice) → bytes_eq word (codes "--") ≡ false → is_options word ≡ true → reading roster items (group utility (drop 1 word)) ≡ Ok (settings, wanted) → (settings_in roster (items ++ (group utility (drop 1 word)).items) ≡ Ok settings) × (reading roster items (spelling utility None (drop k all)) ≡ reading roster (items ++ (group utility (drop 1 word)).items) (spelling utility wanted (drop (k + 1) all)))
    options-group settings wanted e f h =
        let goes = reading-before roster items (group utility (drop 1 word)) (λ next. spelling utility next (drop (k + 1) all)) settings wanted h in
        (goes.0, rw (drop_item all k word within item, e, f) goes.1)

    pub options-fault : (fault : UsageFault) → bytes_eq word (codes "--") ≡ false → is_options word ≡ true → reading roster items (group utility (drop 1 word)) ≡ Err fault → reading roster items (spelling utility None (drop k all)) ≡ Err fault
    options-fault fault e f h = rw (drop_item all k word within item, e, f) (reading-before-wrong roster items (group utility (drop 1 word)) (λ next. spelling utility next (drop (k + 1) all)) fault h)
