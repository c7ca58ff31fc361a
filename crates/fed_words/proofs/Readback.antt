-- What a user asks is read back from the words that say it.
use Rattle.std.proofs.Common.{◌≡◌, ℕ, zero, suc, ◌+◌, ◌<◌, ◌≤◌, ◌^◌, Bool, true, false, List, [], ◌∷◌, ◌++◌, length, map, Some, None, Ok, refl, ap, sym, ◌∙◌, arith, inl, inr}
use Rattle.std.specs.Prelude.{◌==◌, codes, nat_eq, nat_le}
use Rattle.std.specs.Cmp.Lexicographic.{pointwise, same_text, nat_list_eq_equiv}
use Rattle.std.specs.Fmt.{decimal}
use Rattle.std.specs.List.{All, find, join_with_byte, range_with_len}
use Rattle.std.proofs.lemmas.Bool.{cases_Bool, cases_lt}
use Rattle.std.proofs.lemmas.Bool.Decides.{nat_tests}
use Rattle.std.proofs.lemmas.Fmt.{length-decimal-le}
use Rattle.std.proofs.lemmas.List.{map-id}
use Rattle.fed_stamp.specs.declared.rosters.TheConstants.{MAX_NODES}
use Rattle.fed_stamp.specs.declared.stamps.TheConstants.{MAX_COUNTER}
use Rattle.fed_lattice.specs.Results.{mapped, each}
use Rattle.fed_model.specs.declared.limits.TheConstants.{MAX_LIMIT}
use Rattle.fed_stamp.specs.Roster.{IsRoster, is_named, is_site_name, name_at}
use Rattle.fed_stamp.specs.SiteSet.{set_of}
use Rattle.fed_stamp.specs.Stamp.{StampValue}
use Rattle.fed_words.specs.declared.faults.UsageFault.{UsageFault}
use Rattle.fed_words.specs.declared.faults.UsageFault.TheVariants.{BadIdentifier, BadValue}
use Rattle.fed_words.specs.declared.identifiers.TheConstants.{MAX_SEQUENCE_DIGITS}
use Rattle.fed_words.specs.Identifier.{is_dot, job_in, sequence_in}
use Rattle.fed_words.specs.Number.{is_within}
use Rattle.fed_words.specs.Resource.{is_equals, last_resources, resource_in, resources_in, sites_in, value_in}
use Rattle.fed_words.specs.Site.{site_in}
use Rattle.fed_words.specs.declared.settings.Settings.{Settings}
use Rattle.fed_words.specs.declared.utilities.Utility.{Utility}
use Rattle.fed_words.specs.declared.utilities.Utility.TheVariants.{Qsub, Qalter, Qhold, Qrls, Qdel, Qstat}
use Rattle.fed_words.specs.Request.{jobs_in, named_jobs, once, request_in, request_of}
use Rattle.fed_words.specs.Setting.{last_settings, setting_in, settings_in}
use Rattle.fed_words.specs.Spelling.{spelling}
use Rattle.fed_words.specs.Syntax.{words_of_line}
use Rattle.fed_words.specs.Utility.{takes_argument, utility_named}
use Rattle.fed_words.specs.Askable.{HasJobs, IsAsked, IsJob, IsOption, IsResourceInRange, IsInRange, ResourceArgument, OptionArgument, account, asking, full, held, identifier_text, item_of, kinds, line_of, name, name_of, nodes, priority, resource_of, resource_text, resources, setting_of, sites, walltime}
use Rattle.fed_words.proofs.Answering.{asked-answer}
use Rattle.fed_words.proofs.Lines.{IsItem, line_is_read}
use Rattle.fed_words.proofs.Cuts.{Free, all-map, cut-after, cut-before, cut-found, each-said, free-append, free-join, split-join}
use Rattle.fed_words.proofs.Texts.{free-decimal, free-site_name, no_comma, no_plus_sign, number_in-decimal, priority_in-signed, in_64}

-- the least place that passes
find-least : (test : ℕ → Bool) (a n k : ℕ) → a ≤ k → k < a + n → test k ≡ true → ((j : ℕ) → j < k → test j ≡ false) → find test (range_with_len a n) ≡ Some k
find-least test a zero k low high here before = absurd (omega arith)
find-least test a (suc n) k low high here before = elim (cases_lt a k) [
  | inl less ↦ rw (before a less) (find-least test (a + 1) n k (omega arith) (omega arith) here before)
  | inr more ↦ let same : a ≡ k = omega arith in rw (same, here) refl
]

module _ (roster : List (List ℕ × ℕ)) (lawful : IsRoster roster) where
  name_differs : (j k : ℕ) → j < k → k < length roster → pointwise nat_eq (name_at roster j) (name_at roster k) ≡ false
  name_differs j k less within = elim (cases_Bool (pointwise nat_eq (name_at roster j) (name_at roster k))) [
    | inl same ↦ absurd (lawful.apart j k ([], 0) less within (same_text (name_at roster j) (name_at roster k) (sym same)))
    | inr other ↦ other
  ]

  pub site_in-name : (malformed : UsageFault) (site : ℕ) → site < length roster → site_in malformed roster (name_at roster site) ≡ Ok site
  site_in-name malformed site within =
      let formed : is_site_name (name_at roster site) ≡ true = lawful.named site ([], 0) within in
      let found = find-least (is_named roster (name_at roster site)) 0 (length roster) site (omega arith) (omega arith) (nat_list_eq_equiv.refl (name_at roster site)) (λ j less. name_differs j site less within) in
      rw (formed, found) refl

  no_dot_digit : (c : ℕ) → (48 ≤ c) × (c ≤ 57) → (c == 46) ≡ false
  no_dot_digit c h = grind (arith, nat_tests)

  in_10_digits : (n : ℕ) → is_within 1 MAX_COUNTER n ≡ true → n < 10 ^ 10
  in_10_digits n e = grind (arith, nat_tests)

  sequence_in-decimal : (n : ℕ) → is_within 1 MAX_COUNTER n ≡ true → sequence_in (decimal n) ≡ Ok n
  sequence_in-decimal n e =
      let low = in_64 1 MAX_COUNTER n (omega arith) e in
      let short : nat_le (length (decimal n)) MAX_SEQUENCE_DIGITS ≡ true = (let fact = length-decimal-le 10 n (omega arith) (in_10_digits n e) low in grind (arith, nat_tests)) in
      rw (short, number_in-decimal 1 MAX_COUNTER n (omega arith) e) refl

  pub job_in-identifier : (here : ℕ) (job : StampValue) → IsJob roster job → job_in roster here (identifier_text roster job) ≡ Ok job
  job_in-identifier here job known =
      let free = free-decimal is_dot job.counter (in_64 1 MAX_COUNTER job.counter (omega arith) known.0) no_dot_digit in
      rw (
        cut-before is_dot 46 (name_at roster job.site) refl (decimal job.counter) free,
        cut-found is_dot 46 (name_at roster job.site) refl (decimal job.counter) free,
        cut-after is_dot 46 (name_at roster job.site) refl (decimal job.counter) free,
        sequence_in-decimal job.counter known.0,
        site_in-name BadIdentifier job.site known.1,
      ) refl

  value_read : (front value : List ℕ) → Free is_equals front → resource_in roster (front ++ 61 ∷ value) ≡ value_in roster front value
  value_read front value free = rw (cut-found is_equals 61 value refl front free, cut-before is_equals 61 value refl front free, cut-after is_equals 61 value refl front free) refl

  name_formed : (site : ℕ) → site < length roster → is_site_name (name_at roster site) ≡ true
  name_formed site within = lawful.named site ([], 0) within

  some_names : (ids : List ℕ) → 0 < length ids → 0 < length (map (name_at roster) ids)
  some_names [] some = absurd (omega arith)
  some_names (site ∷ ids) some = omega arith

  names_read : (ids : List ℕ) → 0 < length ids → All (λ site. site < length roster) ids → sites_in roster (join_with_byte 43 (map (name_at roster) ids)) ≡ Ok (set_of ids)
  names_read ids some all =
      let free = all-map (Free (λ b. b == 43)) (name_at roster) (λ site. site < length roster) (λ site within. free-site_name (λ b. b == 43) (name_at roster site) no_plus_sign (name_formed site within)) ids all in
      let parts = split-join 43 (map (name_at roster) ids) (some_names ids some) free in
      ap (λ names. mapped set_of (each (site_in BadValue roster) names)) parts
      ∙ ap (mapped set_of) (each-said (site_in BadValue roster) (name_at roster) (λ site. site) (λ site. site < length roster) (site_in-name BadValue) ids all)
      ∙ ap (λ found. Ok (set_of found)) (map-id ids)

  pub resource_in-text : (argument : ResourceArgument) → IsResourceInRange roster argument → resource_in roster (resource_text roster argument) ≡ Ok (resource_of argument)
  resource_in-text (nodes n) h = value_read (codes "nodes") (decimal n) (refl, (refl, (refl, (refl, (refl, tt))))) ∙ rw (number_in-decimal 1 MAX_NODES n (omega arith) h) refl
  resource_in-text (walltime n) h = value_read (codes "walltime") (decimal n) (refl, (refl, (refl, (refl, (refl, (refl, (refl, (refl, tt)))))))) ∙ rw (number_in-decimal 1 MAX_LIMIT n (omega arith) h) refl
  resource_in-text (sites ids) h = value_read (codes "sites") (join_with_byte 43 (map (name_at roster) ids)) (refl, (refl, (refl, (refl, (refl, tt))))) ∙ rw (names_read ids h.0 h.1) refl

  digit_no_comma : (c : ℕ) → (48 ≤ c) × (c ≤ 57) → (c == 44) ≡ false
  digit_no_comma c h = grind (arith, nat_tests)

  text_free : (argument : ResourceArgument) → IsResourceInRange roster argument → Free (λ b. b == 44) (resource_text roster argument)
  text_free (nodes n) h = free-append (λ b. b == 44) (codes "nodes=") (decimal n) (refl, (refl, (refl, (refl, (refl, (refl, tt)))))) (free-decimal (λ b. b == 44) n (in_64 1 MAX_NODES n (omega arith) h) digit_no_comma)
  text_free (walltime n) h = free-append (λ b. b == 44) (codes "walltime=") (decimal n) (refl, (refl, (refl, (refl, (refl, (refl, (refl, (refl, (refl, tt))))))))) (free-decimal (λ b. b == 44) n (in_64 1 MAX_LIMIT n (omega arith) h) digit_no_comma)
  text_free (sites ids) h = free-append (λ b. b == 44) (codes "sites=") (join_with_byte 43 (map (name_at roster) ids)) (refl, (refl, (refl, (refl, (refl, (refl, tt))))))
      (free-join (λ b. b == 44) 43 (map (name_at roster) ids) refl (all-map (Free (λ b. b == 44)) (name_at roster) (λ site. site < length roster) (λ site within. free-site_name (λ b. b == 44) (name_at roster site) no_comma (name_formed site within)) ids h.1))

  some_texts : (arguments : List ResourceArgument) → 0 < length arguments → 0 < length (map (resource_text roster) arguments)
  some_texts [] some = absurd (omega arith)
  some_texts (argument ∷ arguments) some = omega arith

  pub resources_in-texts : (arguments : List ResourceArgument) → 0 < length arguments → All (IsResourceInRange roster) arguments → resources_in roster (join_with_byte 44 (map (resource_text roster) arguments)) ≡ Ok (last_resources (map resource_of arguments))
  resources_in-texts arguments some all =
      let parts = split-join 44 (map (resource_text roster) arguments) (some_texts arguments some) (all-map (Free (λ b. b == 44)) (resource_text roster) (IsResourceInRange roster) text_free arguments all) in
      ap (λ texts. mapped last_resources (each (resource_in roster) texts)) parts
      ∙ ap (mapped last_resources) (each-said (resource_in roster) (resource_text roster) resource_of (IsResourceInRange roster) resource_in-text arguments all)

  setting_read : (argument : OptionArgument) → IsInRange roster argument → setting_in roster (item_of roster argument).0 (item_of roster argument).1 ≡ Ok (setting_of argument)
  setting_read (account text) h = rw h refl
  setting_read held h = refl
  setting_read (kinds true true true) h = refl
  setting_read (kinds true true false) h = refl
  setting_read (kinds true false true) h = refl
  setting_read (kinds true false false) h = refl
  setting_read (kinds false true true) h = refl
  setting_read (kinds false true false) h = refl
  setting_read (kinds false false true) h = refl
  setting_read (kinds false false false) h = absurd cc
  setting_read (resources arguments) h = rw (resources_in-texts arguments h.0 h.1) refl
  setting_read (name text) h = rw h refl
  setting_read (priority number) h = rw (priority_in-signed number h) refl
  setting_read full h = refl

  takes : (argument : OptionArgument) → takes_argument (item_of roster argument).0 ≡ false → (item_of roster argument).1 ≡ []
  takes (account text) e = absurd cc
  takes held e = refl
  takes (kinds user operator system) e = absurd cc
  takes (resources arguments) e = absurd cc
  takes (name text) e = absurd cc
  takes (priority number) e = absurd cc
  takes full e = refl

  line_read : (utility : Utility) (arguments : List OptionArgument) (operands : List (List ℕ)) → All (IsOption roster utility) arguments → spelling utility None (words_of_line (line_of (map (item_of roster) arguments) operands)) ≡ record { items = map (item_of roster) arguments; rest = Ok operands }
  line_read utility arguments operands options = line_is_read utility (map (item_of roster) arguments) operands
      (all-map (IsItem utility) (item_of roster) (IsOption roster utility) (λ argument known. record { choice = known; none = takes argument }) arguments options)

  settings_read : (arguments : List OptionArgument) → All (IsInRange roster) arguments → settings_in roster (map (item_of roster) arguments) ≡ Ok (last_settings (map setting_of arguments))
  settings_read arguments in_range = ap (mapped last_settings) (each-said (λ item. setting_in roster item.0 item.1) (item_of roster) setting_of (IsInRange roster) setting_read arguments in_range)

  jobs_named : (here : ℕ) (jobs : List StampValue) → All (IsJob roster) jobs → named_jobs roster here (map (identifier_text roster) jobs) ≡ Ok (once jobs)
  jobs_named here jobs known =
      ap (mapped once) (each-said (job_in roster here) (identifier_text roster) (λ job. job) (IsJob roster) (job_in-identifier here) jobs known)
      ∙ ap (λ found. Ok (once found)) (map-id jobs)

  named : (utility : Utility) → utility_named (name_of utility) ≡ Some utility
  named Qsub = refl
  named Qalter = refl
  named Qhold = refl
  named Qrls = refl
  named Qdel = refl
  named Qstat = refl

  -- the jobs of a request, those of `qsub` being none
  answered : (here : ℕ) (utility : Utility) (settings : Settings) (jobs : List StampValue) → HasJobs utility jobs → All (IsJob roster) jobs → mapped (request_of roster utility settings) (jobs_in roster here utility (map (identifier_text roster) jobs)) ≡ Ok (request_of roster utility settings (once jobs))
  answered here Qsub settings jobs some known = refl
  answered here Qstat settings jobs some known = ap (mapped (request_of roster Qstat settings)) (jobs_named here jobs known)
  answered here Qalter settings [] some known = absurd (omega arith)
  answered here Qalter settings (job ∷ jobs) some known = ap (mapped (request_of roster Qalter settings)) (jobs_named here (job ∷ jobs) known)
  answered here Qhold settings [] some known = absurd (omega arith)
  answered here Qhold settings (job ∷ jobs) some known = ap (mapped (request_of roster Qhold settings)) (jobs_named here (job ∷ jobs) known)
  answered here Qrls settings [] some known = absurd (omega arith)
  answered here Qrls settings (job ∷ jobs) some known = ap (mapped (request_of roster Qrls settings)) (jobs_named here (job ∷ jobs) known)
  answered here Qdel settings [] some known = absurd (omega arith)
  answered here Qdel settings (job ∷ jobs) some known = ap (mapped (request_of roster Qdel settings)) (jobs_named here (job ∷ jobs) known)

  pub asking_is_read : (here : ℕ) (utility : Utility) (arguments : List OptionArgument) (jobs : List StampValue) → IsAsked roster utility arguments jobs → request_in roster here (asking roster utility arguments jobs) ≡ Ok (request_of roster utility (last_settings (map setting_of arguments)) (once jobs))
  asking_is_read here utility arguments jobs asked =
      asked-answer roster here (name_of utility) (words_of_line (line_of (map (item_of roster) arguments) (map (identifier_text roster) jobs))) utility (named utility)
      (record { items = map (item_of roster) arguments; rest = Ok (map (identifier_text roster) jobs) })
      (sym (line_read utility arguments (map (identifier_text roster) jobs) asked.options))
      (last_settings (map setting_of arguments)) (map (identifier_text roster) jobs) (settings_read arguments asked.in_range) refl
      ∙ answered here utility (last_settings (map setting_of arguments)) jobs asked.some asked.known
