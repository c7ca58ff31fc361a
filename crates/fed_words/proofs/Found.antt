-- What words are read as can be asked.
use Rattle.std.proofs.Common.{◌≡◌, ℕ, ◌<◌, ℤ, Bool, true, false, ◌&&◌, ◌||◌, List, [], ◌∷◌, length, drop, map, Option, Some, None, Ok, Err, refl, ap, sym, ◌∙◌, arith, inl, inr}
use Rattle.std.specs.Prelude.{◌==◌, codes, is_some, nat_le, nat_lt, option_map, position}
use Rattle.std.specs.List.{All, after_first, before_first, find, list_all, range_with_len, slice_split}
use Rattle.std.specs.Option.{ok_or}
use Rattle.std.specs.Str.{bytes_eq}
use Rattle.std.specs.Str.Parse.{digits_value, signed_digits_value, without_leading_sign}
use Rattle.std.proofs.lemmas.Bool.{and_parts, cases_Bool}
use Rattle.std.proofs.lemmas.List.Elements.{All-append, All-cons, All-from_recursion, All-head, All-nil, All-tail, All-weaker}
use Rattle.std.proofs.lemmas.List.Splits.{length-slice_split}
use Rattle.std.proofs.lemmas.List.{map-id, length-map}
use Rattle.fed_stamp.specs.declared.rosters.TheConstants.{MAX_NODES}
use Rattle.fed_stamp.specs.declared.stamps.TheConstants.{MAX_COUNTER}
use Rattle.fed_lattice.specs.Results.{mapped, each}
use Rattle.fed_lattice.proofs.ResultLaws.{bind_ok, mapped_ok, when_ok, each_all}
use Rattle.fed_model.specs.declared.limits.TheConstants.{MAX_LIMIT}
use Rattle.fed_stamp.specs.Roster.{is_named, is_site_name}
use Rattle.fed_stamp.specs.SiteSet.{set_of}
use Rattle.fed_stamp.specs.Stamp.{StampValue}
use Rattle.fed_stamp.specs.Word.{is_name}
use Rattle.fed_model.specs.declared.holds.HoldKinds.{HoldKinds}
use Rattle.fed_model.specs.Hold.{sum_of_bits}
use Rattle.fed_words.specs.declared.faults.UsageFault.{UsageFault}
use Rattle.fed_words.specs.declared.faults.UsageFault.TheVariants.{BadIdentifier, BadValue, UnknownSite, UnknownUtility}
use Rattle.fed_words.specs.declared.identifiers.TheConstants.{MAX_SEQUENCE_DIGITS}
use Rattle.fed_words.specs.declared.resources.Resource.{Resource}
use Rattle.fed_words.specs.declared.resources.Resources.{Resources}
use Rattle.fed_words.specs.declared.settings.Setting.{Setting}
use Rattle.fed_words.specs.declared.settings.Settings.{Settings}
use Rattle.fed_words.specs.declared.utilities.Choice.{Choice}
use Rattle.fed_words.specs.declared.utilities.Utility.{Utility}
use Rattle.fed_words.specs.declared.utilities.Utility.TheVariants.{Qsub, Qalter, Qhold, Qrls, Qdel, Qstat}
use Rattle.fed_words.specs.Fault.{OrFault}
use Rattle.fed_words.specs.Identifier.{is_dot, job_in, place_in, sequence_in}
use Rattle.fed_words.specs.Kinds.{has_letter, is_kind_letter, kinds_in}
use Rattle.fed_words.specs.Number.{is_numeral, is_within, number_in}
use Rattle.fed_words.specs.Priority.{is_priority, priority_in}
use Rattle.fed_words.specs.Resource.{is_comma, is_equals, is_plus, last_resources, resource_in, resources_in, sites_in, value_in}
use Rattle.fed_words.specs.Site.{site_in}
use Rattle.fed_words.specs.Setting.{last_settings, setting_in, settings_in}
use Rattle.fed_words.specs.Spelling.{Item, Spelling, before, group, is_options, spelling}
use Rattle.fed_words.specs.Utility.{choice_of, choices, letter_of, takes_argument, utility_named}
use Rattle.fed_words.specs.Request.{Asked, jobs_in, named_jobs, once, request_in, request_of}
use Rattle.fed_words.specs.Askable.{CanBeAsked, HasJobs, IsJob, IsOption, IsResourceInRange, IsInRange, ResourceArgument, OptionArgument, account, full, held, item_of, kinds, name, nodes, priority, resource_of, resources, setting_of, sites, walltime}
use Rattle.fed_words.proofs.Each.{each-length}
use Rattle.fed_words.proofs.Given.{option_map_some, when_some}
use Rattle.fed_words.proofs.SiteNames.{found_in_range}

ok_or_ok : {A : Type 0} (o : Option A) (fault : UsageFault) (y : A) → ok_or o fault ≡ Ok y → o ≡ Some y
ok_or_ok (Some x) fault y e = let same : x ≡ y = cc in ap Some same
ok_or_ok None fault y e = absurd cc

-- each value found is of a argument
pub each_found : {W A B : Type 0} (says : A → OrFault B) (means : W → B) (Q : W → Type 0) → ((x : A) (y : B) → says x ≡ Ok y → (w : W) × Q w × (means w ≡ y)) → (xs : List A) (ys : List B) → each says xs ≡ Ok ys → (ws : List W) × All Q ws × (map means ws ≡ ys)
each_found says means Q h [] ys e = ([], All-nil Q, cc)
each_found says means Q h (x ∷ xs) ys e =
    let first = bind_ok (says x) _ ys e in
    let others = bind_ok (each says xs) _ ys first.2 in
    let argument = h x first.0 first.1 in
    let arguments = each_found says means Q h xs others.0 others.1 in
    let whole : first.0 ∷ others.0 ≡ ys = cc (others.2) in
    (argument.0 ∷ arguments.0, All-cons Q argument.0 arguments.0 argument.1 arguments.1, rw (argument.2, arguments.2) whole)

number_found : (least most n : ℕ) (word : List ℕ) → number_in least most word ≡ Some n → is_within least most n ≡ true
number_found least most n word e =
    let found = when_some (is_numeral word && is_within least most (digits_value 10 word)) (digits_value 10 word) n e in
    rw (← found.1) (and_parts (is_numeral word) (is_within least most (digits_value 10 word)) found.0).1

priority_found : (z : ℤ) (word : List ℕ) → priority_in word ≡ Some z → is_priority z ≡ true
priority_found z word e =
    let found = when_some (is_numeral (without_leading_sign word) && is_priority (signed_digits_value 10 word)) (signed_digits_value 10 word) z e in
    rw (← found.1) (and_parts (is_numeral (without_leading_sign word)) (is_priority (signed_digits_value 10 word)) found.0).1

abbrev answer : ℕ → OrFault ℕ
answer n = Ok n

module _ (roster : List (List ℕ × ℕ)) where
  site_found : (malformed : UsageFault) (text : List ℕ) (site : ℕ) → site_in malformed roster text ≡ Ok site → site < length roster
  site_found malformed text site e =
      let formed = when_ok (is_site_name text) malformed (ok_or (find (is_named roster text) (range_with_len 0 (length roster))) UnknownSite) site e in
      let found = found_in_range (is_named roster text) 0 (length roster) site (ok_or_ok (find (is_named roster text) (range_with_len 0 (length roster))) UnknownSite site formed.1) in
      let below = found.1 in omega arith

  sites_found : (text : List ℕ) (set : List Bool) → sites_in roster text ≡ Ok set → (argument : ResourceArgument) × IsResourceInRange roster argument × (resource_of argument ≡ Resource.Sites set)
  sites_found text set e =
      let found = mapped_ok (each (site_in BadValue roster) (slice_split is_plus text)) set_of set e in
      let ids = each_found (site_in BadValue roster) (λ site. site) (λ site. site < length roster) (λ part site f. (site, site_found BadValue part site f, refl)) (slice_split is_plus text) found.0 found.1 in
      let same : ids.0 ≡ found.0 = sym (map-id ids.0) ∙ ids.2 in
      let count = each-length (site_in BadValue roster) (slice_split is_plus text) found.0 found.1 in
      (sites ids.0, (rw same (omega (arith, count, length-slice_split is_plus text)), ids.1), ap Resource.Sites (ap set_of same ∙ found.2))

  value_found : (front value : List ℕ) (resource : Resource) → value_in roster front value ≡ Ok resource → (argument : ResourceArgument) × IsResourceInRange roster argument × (resource_of argument ≡ resource)
  value_found front value resource e = elim (cases_Bool (bytes_eq front (codes "nodes"))) [
    | inl is_nodes ↦
        let read = option_map_some Resource.Nodes (number_in 1 MAX_NODES value) resource (ok_or_ok (option_map Resource.Nodes (number_in 1 MAX_NODES value)) BadValue resource (rw is_nodes at e)) in
        (nodes read.0, number_found 1 MAX_NODES read.0 value read.1, read.2)
    | inr no_nodes ↦ elim (cases_Bool (bytes_eq front (codes "walltime"))) [
      | inl is_limit ↦
          let read = option_map_some Resource.Limit (number_in 1 MAX_LIMIT value) resource (ok_or_ok (option_map Resource.Limit (number_in 1 MAX_LIMIT value)) BadValue resource (rw (no_nodes, is_limit) at e)) in
          (walltime read.0, number_found 1 MAX_LIMIT read.0 value read.1, read.2)
      | inr no_limit ↦
          let read = when_ok (bytes_eq front (codes "sites")) BadValue (mapped Resource.Sites (sites_in roster value)) resource (rw (no_nodes, no_limit) at e) in
          let set = mapped_ok (sites_in roster value) Resource.Sites resource read.1 in
          let argument = sites_found value set.0 set.1 in
          (argument.0, argument.1, argument.2 ∙ set.2)
    ]
  ]

  resource_found : (pair : List ℕ) (resource : Resource) → resource_in roster pair ≡ Ok resource → (argument : ResourceArgument) × IsResourceInRange roster argument × (resource_of argument ≡ resource)
  resource_found pair resource e =
      let read = when_ok (is_some (position is_equals pair)) BadValue (value_in roster (before_first is_equals pair) (after_first is_equals pair)) resource e in
      value_found (before_first is_equals pair) (after_first is_equals pair) resource read.1

  resources_found : (text : List ℕ) (given : Resources) → resources_in roster text ≡ Ok given → (arguments : List ResourceArgument) × (0 < length arguments) × All (IsResourceInRange roster) arguments × (last_resources (map resource_of arguments) ≡ given)
  resources_found text given e =
      let found = mapped_ok (each (resource_in roster) (slice_split is_comma text)) last_resources given e in
      let arguments = each_found (resource_in roster) resource_of (IsResourceInRange roster) resource_found (slice_split is_comma text) found.0 found.1 in
      let count = each-length (resource_in roster) (slice_split is_comma text) found.0 found.1 in
      let same = length-map arguments.0 resource_of in
      (arguments.0, omega (arith, count, length-slice_split is_comma text, ap length arguments.2, same), arguments.1, ap last_resources arguments.2 ∙ found.2)

  local : (here site : ℕ) → answer here ≡ answer site → here < length roster → site < length roster
  local here site e inside = let same : here ≡ site = cc in omega arith

  place_found : (here : ℕ) → here < length roster → (word : List ℕ) (site : ℕ) → place_in roster here word ≡ Ok site → site < length roster
  place_found here inside word site e = elim (cases_Bool (is_some (position is_dot word))) [
    | inl named ↦ site_found BadIdentifier (after_first is_dot word) site (rw named at e)
    | inr bare ↦ local here site (rw bare at e) inside
  ]

  of_parts : (sequence site : ℕ) (job : StampValue) → record { counter = sequence; site = site } ≡ job → is_within 1 MAX_COUNTER sequence ≡ true → site < length roster → IsJob roster job
  of_parts sequence site job e counted placed = rw (← e) (counted, placed)

  job_found : (here : ℕ) → here < length roster → (word : List ℕ) (job : StampValue) → job_in roster here word ≡ Ok job → IsJob roster job
  job_found here inside word job e =
      let sequence = bind_ok (sequence_in (before_first is_dot word)) _ job e in
      let place = bind_ok (place_in roster here word) _ job sequence.2 in
      let parts : record { counter = sequence.0; site = place.0 } ≡ job = cc (place.2) in
      let read = when_ok (nat_le (length (before_first is_dot word)) MAX_SEQUENCE_DIGITS) BadIdentifier (ok_or (number_in 1 MAX_COUNTER (before_first is_dot word)) BadIdentifier) sequence.0 sequence.1 in
      let counted = number_found 1 MAX_COUNTER sequence.0 (before_first is_dot word) (ok_or_ok (number_in 1 MAX_COUNTER (before_first is_dot word)) BadIdentifier sequence.0 read.1) in
      let placed = place_found here inside word place.0 place.1 in
      of_parts sequence.0 place.0 job parts counted placed

  any_kind : (p q r x y z : Bool) → (p || q || r) ≡ true → ((p || x) || (q || y) || (r || z)) ≡ true
  any_kind true q r x y z e = refl
  any_kind false true r true y z e = refl
  any_kind false true r false y z e = refl
  any_kind false false true true y z e = refl
  any_kind false false true false true z e = refl
  any_kind false false true false false z e = refl
  any_kind false false false x y z e = absurd cc

  kinds_found : (text : List ℕ) (found : HoldKinds) → kinds_in text ≡ Some found → (argument : OptionArgument) × IsInRange roster argument × (setting_of argument ≡ Setting.Kinds found) × ((item_of roster argument).0 ≡ Choice.Kinds)
  kinds_found [] found e = absurd cc
  kinds_found (b ∷ text) found e =
      let read = when_some (nat_lt 0 (length (b ∷ text)) && list_all is_kind_letter (b ∷ text)) (record { 0 = sum_of_bits (has_letter 117 (b ∷ text)) (has_letter 111 (b ∷ text)) (has_letter 115 (b ∷ text)) }) found e in
      let letters = and_parts (is_kind_letter b) (list_all is_kind_letter text) (and_parts (nat_lt 0 (length (b ∷ text))) (list_all is_kind_letter (b ∷ text)) read.0).1 in (
        kinds (has_letter 117 (b ∷ text)) (has_letter 111 (b ∷ text)) (has_letter 115 (b ∷ text)),
        any_kind (b == 117) (b == 111) (b == 115) (has_letter 117 text) (has_letter 111 text) (has_letter 115 text) letters.0,
        ap Setting.Kinds read.1,
        refl,
      )

  setting_found : (option : Choice) (text : List ℕ) (setting : Setting) → setting_in roster option text ≡ Ok setting → (argument : OptionArgument) × IsInRange roster argument × (setting_of argument ≡ setting) × ((item_of roster argument).0 ≡ option)
  setting_found Choice.Account text setting e = let read = when_ok (is_name text) BadValue (Ok (Setting.Account (Some text))) setting e in let same : Setting.Account (Some text) ≡ setting = cc (read.1) in (account text, read.0, same, refl)
  setting_found Choice.Held text setting e = let same : Setting.Held ≡ setting = cc in (held, tt, same, refl)
  setting_found Choice.Kinds text setting e =
      let read = option_map_some Setting.Kinds (kinds_in text) setting (ok_or_ok (option_map Setting.Kinds (kinds_in text)) BadValue setting e) in
      let argument = kinds_found text read.0 read.1 in
      (argument.0, argument.1, argument.2 ∙ read.2, argument.3)
  setting_found Choice.Resources text setting e =
      let read = mapped_ok (resources_in roster text) Setting.Resources setting e in
      let arguments = resources_found text read.0 read.1 in
      (resources arguments.0, (arguments.1, arguments.2), ap Setting.Resources arguments.3 ∙ read.2, refl)
  setting_found Choice.Name text setting e = let read = when_ok (is_name text) BadValue (Ok (Setting.Name text)) setting e in let same : Setting.Name text ≡ setting = cc (read.1) in (name text, read.0, same, refl)
  setting_found Choice.Priority text setting e =
      let read = option_map_some Setting.Priority (priority_in text) setting (ok_or_ok (option_map Setting.Priority (priority_in text)) BadValue setting e) in
      (priority read.0, priority_found read.0 text read.1, read.2, refl)
  setting_found Choice.Full text setting e = let same : Setting.Full ≡ setting = cc in (full, tt, same, refl)

-- ---- options of the utility

Known : Utility → Choice → Type 0
Known utility option = choice_of utility (letter_of option) ≡ Some option

known_table : (utility : Utility) → All (λ t. Known utility t.1) (choices utility)
unfolding Known
known_table Qsub = All-from_recursion (λ t. Known Qsub t.1) (choices Qsub) (refl, (refl, (refl, (refl, (refl, tt)))))
known_table Qalter = All-from_recursion (λ t. Known Qalter t.1) (choices Qalter) (refl, (refl, (refl, (refl, tt))))
known_table Qhold = All-from_recursion (λ t. Known Qhold t.1) (choices Qhold) (refl, tt)
known_table Qrls = All-from_recursion (λ t. Known Qrls t.1) (choices Qrls) (refl, tt)
known_table Qdel = All-from_recursion (λ t. Known Qdel t.1) (choices Qdel) tt
known_table Qstat = All-from_recursion (λ t. Known Qstat t.1) (choices Qstat) (refl, tt)

find_all : {A : Type 0} (P : A → Type 0) (test : A → Bool) (xs : List A) (x : A) → find test xs ≡ Some x → All P xs → P x
find_all P test [] x e all = absurd cc
find_all P test (y ∷ xs) x e all = elim (cases_Bool (test y)) [
  | inl here ↦ let some : Some y ≡ Some x = (rw here at e) in let same : y ≡ x = cc in rw (← same) (All-head P y xs all)
  | inr later ↦ find_all P test xs x (rw later at e) (All-tail P y xs all)
]

known_from : (utility : Utility) (letter : ℕ) (option : Choice) → choice_of utility letter ≡ Some option → Known utility option
known_from utility letter option e =
    let found = option_map_some (λ c. c.1) (find (λ c. letter == c.0) (choices utility)) option e in
    rw (← found.2) (find_all (λ t. Known utility t.1) (λ c. letter == c.0) (choices utility) found.0 found.1 (known_table utility))

KnownItem : Utility → Item → Type 0
KnownItem utility item = Known utility item.0

group_known : (utility : Utility) (letters : List ℕ) → All (KnownItem utility) (group utility letters).items × ((option : Choice) → (group utility letters).rest ≡ Ok (Some option) → Known utility option)
unfolding KnownItem
group_known utility [] = (All-nil (KnownItem utility), λ option e. absurd cc)
group_known utility (letter ∷ letters) = at (choice_of utility letter) refl (group_known utility letters)
  where
    at : (o : Option Choice) → choice_of utility letter ≡ o → (All (KnownItem utility) (group utility letters).items × ((option : Choice) → (group utility letters).rest ≡ Ok (Some option) → Known utility option)) → All (KnownItem utility) (group utility (letter ∷ letters)).items × ((option : Choice) → (group utility (letter ∷ letters)).rest ≡ Ok (Some option) → Known utility option)
    at None e h = rw e (All-nil (KnownItem utility), λ option f. absurd cc)
    at (Some o) e h = elim (cases_Bool (takes_argument o)) [
      | inl takes ↦ elim (cases_Bool (nat_lt 0 (length letters))) [
        | inl more ↦ rw (e, takes, more) (All-cons (KnownItem utility) (o, letters) [] (known_from utility letter o e) (All-nil (KnownItem utility)), λ option f. absurd cc)
        | inr last ↦ rw (e, takes, last) (All-nil (KnownItem utility), λ option f. (let same : o ≡ option = cc in rw (← same) (known_from utility letter o e)))
      ]
      | inr switch ↦ rw (e, switch) (All-cons (KnownItem utility) (o, []) (group utility letters).items (known_from utility letter o e) h.0, h.1)
    ]

spelling_known : (utility : Utility) (wanted : Option Choice) (words : List (List ℕ)) → ((option : Choice) → wanted ≡ Some option → Known utility option) → All (KnownItem utility) (spelling utility wanted words).items
unfolding KnownItem
spelling_known utility None [] h = All-nil (KnownItem utility)
spelling_known utility None (word ∷ words) h = elim (cases_Bool (bytes_eq word (codes "--"))) [
  | inl ended ↦ rw ended (All-nil (KnownItem utility))
  | inr goes ↦ elim (cases_Bool (is_options word)) [
    | inl options ↦ let inside = group_known utility (drop 1 word) in rw (goes, options) (before_known utility (group utility (drop 1 word)).items (group utility (drop 1 word)).rest (λ wanted. spelling utility wanted words) inside.0 (λ next e. spelling_known utility next words (λ option f. inside.1 option (e ∙ ap Ok f))))
    | inr operand ↦ rw (goes, operand) (All-nil (KnownItem utility))
  ]
]
  where
    before_known : (utility : Utility) (items : List Item) (r : OrFault (Option Choice)) (next : Option Choice → Spelling (List (List ℕ))) → All (KnownItem utility) items → ((x : Option Choice) → r ≡ Ok x → All (KnownItem utility) (next x).items) → All (KnownItem utility) (before items r next).items
    before_known utility items (Ok x) next front back = All-append (KnownItem utility) items (next x).items front (back x refl)
    before_known utility items (Err fault) next front back = front
spelling_known utility (Some option) [] h = All-nil (KnownItem utility)
spelling_known utility (Some option) (word ∷ words) h = All-cons (KnownItem utility) (option, word) (spelling utility None words).items (h option refl) (spelling_known utility None words (λ o e. absurd cc))

each_found_of : {W A B : Type 0} (says : A → OrFault B) (means : W → B) (P : A → Type 0) (Q : W → Type 0) → ((x : A) (y : B) → P x → says x ≡ Ok y → (w : W) × Q w × (means w ≡ y)) → (xs : List A) (ys : List B) → All P xs → each says xs ≡ Ok ys → (ws : List W) × All Q ws × (map means ws ≡ ys)
each_found_of says means P Q h [] ys all e = ([], All-nil Q, cc)
each_found_of says means P Q h (x ∷ xs) ys all e =
    let first = bind_ok (says x) _ ys e in
    let others = bind_ok (each says xs) _ ys first.2 in
    let argument = h x first.0 (All-head P x xs all) first.1 in
    let arguments = each_found_of says means P Q h xs others.0 (All-tail P x xs all) others.1 in
    let whole : first.0 ∷ others.0 ≡ ys = cc (others.2) in
    (argument.0 ∷ arguments.0, All-cons Q argument.0 arguments.0 argument.1 arguments.1, rw (argument.2, arguments.2) whole)

module _ (roster : List (List ℕ × ℕ)) (here : ℕ) (inside : here < length roster) where
  named_found : (operands : List (List ℕ)) (jobs : List StampValue) → named_jobs roster here operands ≡ Ok jobs → (found : List StampValue) × All (IsJob roster) found × (length found ≡ length operands) × (once found ≡ jobs)
  named_found operands jobs e =
      let found = mapped_ok (each (job_in roster here) operands) once jobs e in
      (found.0, each_all (job_in roster here) (IsJob roster) (job_found roster here inside) operands found.0 found.1, each-length (job_in roster here) operands found.0 found.1, found.2)

  jobs_found : (utility : Utility) (settings : Settings) (operands : List (List ℕ)) (jobs : List StampValue) → jobs_in roster here utility operands ≡ Ok jobs → (found : List StampValue) × All (IsJob roster) found × HasJobs utility found × (request_of roster utility settings jobs ≡ request_of roster utility settings (once found))
  jobs_found Qsub settings operands jobs e = ([], All-nil (IsJob roster), tt, refl)
  jobs_found Qstat settings operands jobs e = let f = named_found operands jobs e in (f.0, f.1, tt, ap (request_of roster Qstat settings) (sym f.3))
  jobs_found Qalter settings [] jobs e = absurd cc
  jobs_found Qalter settings (operand ∷ operands) jobs e = let f = named_found (operand ∷ operands) jobs e in (f.0, f.1, omega (arith, f.2), ap (request_of roster Qalter settings) (sym f.3))
  jobs_found Qhold settings [] jobs e = absurd cc
  jobs_found Qhold settings (operand ∷ operands) jobs e = let f = named_found (operand ∷ operands) jobs e in (f.0, f.1, omega (arith, f.2), ap (request_of roster Qhold settings) (sym f.3))
  jobs_found Qrls settings [] jobs e = absurd cc
  jobs_found Qrls settings (operand ∷ operands) jobs e = let f = named_found (operand ∷ operands) jobs e in (f.0, f.1, omega (arith, f.2), ap (request_of roster Qrls settings) (sym f.3))
  jobs_found Qdel settings [] jobs e = absurd cc
  jobs_found Qdel settings (operand ∷ operands) jobs e = let f = named_found (operand ∷ operands) jobs e in (f.0, f.1, omega (arith, f.2), ap (request_of roster Qdel settings) (sym f.3))

  argument_found : (utility : Utility) (item : Item) (setting : Setting) → KnownItem utility item → setting_in roster item.0 item.1 ≡ Ok setting → (argument : OptionArgument) × (IsOption roster utility argument × IsInRange roster argument) × (setting_of argument ≡ setting)
  unfolding Known KnownItem
  argument_found utility item setting known e =
      let argument = setting_found roster item.0 item.1 setting e in
      (argument.0, (rw argument.3 known, argument.1), argument.2)

  pub request_found : (words : List (List ℕ)) (request : Asked) → request_in roster here words ≡ Ok request → CanBeAsked roster request
  request_found [] request e = absurd cc
  request_found (word ∷ words) request e =
      let utility = bind_ok (ok_or (utility_named word) UnknownUtility) _ request e in
      let settings = bind_ok (settings_in roster (spelling utility.0 None words).items) _ request utility.2 in
      let operands = bind_ok (spelling utility.0 None words).rest _ request settings.2 in
      let jobs = bind_ok (jobs_in roster here utility.0 operands.0) _ request operands.2 in
      let given = mapped_ok (each (λ item. setting_in roster item.0 item.1) (spelling utility.0 None words).items) last_settings settings.0 settings.1 in
      let arguments = each_found_of (λ item. setting_in roster item.0 item.1) setting_of (KnownItem utility.0) (λ argument. IsOption roster utility.0 argument × IsInRange roster argument) (argument_found utility.0) (spelling utility.0 None words).items given.0 (spelling_known utility.0 None words (λ option f. absurd cc)) given.1 in
      let found = jobs_found utility.0 settings.0 operands.0 jobs.0 jobs.1 in
      let whole : request_of roster utility.0 settings.0 jobs.0 ≡ request = cc (jobs.2) in
      let last : settings.0 ≡ last_settings (map setting_of arguments.0) = sym (ap last_settings arguments.2 ∙ given.2) in
      record {
        utility = utility.0;
        arguments = arguments.0;
        jobs = found.0;
        asked = record {
          options = All-weaker (λ argument. IsOption roster utility.0 argument × IsInRange roster argument) (IsOption roster utility.0) (λ argument h. h.0) arguments.0 arguments.1;
          in_range = All-weaker (λ argument. IsOption roster utility.0 argument × IsInRange roster argument) (IsInRange roster) (λ argument h. h.1) arguments.0 arguments.1;
          known = found.1;
          some = found.2;
        };
        same = sym whole ∙ found.3 ∙ ap (λ s. request_of roster utility.0 s (once found.0)) last;
      }
