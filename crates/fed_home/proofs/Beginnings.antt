-- What a header and the entries behind it stand for.
use Rattle.std.specs.Prelude.{map, Option, Some, None, Result, Ok, Err, zero, suc, if◌then◌else◌}
use Rattle.std.specs.Borrow.{Bor}
use Rattle.std.specs.Result.{result_ok, IfErr, IfOk}
use Rattle.std.specs.Str.{bytes_eq}
use Rattle.std.proofs.Common.{◌≡◌, ℕ, ◌+◌, ◌-◌, ◌<◌, ◌≤◌, Bool, true, false, List, [], ◌∷◌, drop, drop-cons, add-one, get_or, length, refl, ap, sym, subst, ◌∙◌, arith}
use Rattle.std.proofs.lemmas.List.{drop_all}
use Rattle.fed_replica.specs.State.{State, empty_at, state_of}
use Rattle.fed_site.specs.SiteAnswer.{kept_of}
use Rattle.fed_site.specs.Journal.{SaidAs}
use Rattle.fed_site.specs.Known.{known_in}
use Rattle.fed_site.specs.Rosters.{roster_after}
use Rattle.fed_site.specs.Says.{site_says}
use Rattle.fed_site.specs.Site.{SiteValue}
use Rattle.fed_site.specs.declared.site.SiteAnswer.{SiteAnswer}
use Rattle.fed_home.specs.declared.faults.HomeFault.{HomeFault}
use Rattle.fed_home.specs.declared.faults.HomeFault.TheVariants.{UnreadHeader, UnreadKnown, UnreadHeard, UnkeptEntry}
use Rattle.fed_home.specs.declared.headers.JournalFormat.{JournalFormat}
use Rattle.fed_home.specs.declared.headers.JournalFormat.TheVariants.{One, Two, Three, Four}
use Rattle.fed_home.specs.declared.headers.Header.{Header}
use Rattle.fed_home.specs.Fault.{StopsAt, StopsReplay}
use Rattle.fed_home.specs.Header.{header_in, is_compacted}
use Rattle.fed_home.specs.Replay.{Replayed, after_heard, after_known, after_kept, begun, begun_by, heard_text, replay, replayed_by, replayed_of}

-- ---- the lines that are kept
abbrev pub texts_now : List (Bor (List ℕ)) → List (List ℕ)
texts_now lines = map (λ (line : Bor (List ℕ)). line.now) lines

-- what comes of these lines at a site as it is now
abbrev pub goes : ℕ → SiteValue → List (List ℕ) → Result Replayed HomeFault
goes number site lines = after_kept number site.roster (state_of site.replica) lines

-- the line at an index, and those behind it
next_line : (lines : List (Bor (List ℕ))) (i : ℕ) (d : Bor (List ℕ)) → i < length lines → texts_now (drop i lines) ≡ (get_or lines i d).now ∷ texts_now (drop (i + 1) lines)
next_line lines i d within = ap texts_now (drop-cons lines i d within ∙ (λ j. get_or lines i d ∷ drop (sym (add-one i) j) lines))

module _ (number : ℕ) (mid new : SiteValue) (lines : List (Bor (List ℕ))) (i : ℕ) (d : Bor (List ℕ)) (answer : SiteAnswer) (within : i < length lines)
    (said : SaidAs mid new answer (roster_after mid.roster (get_or lines i d).now) (site_says mid.roster (state_of mid.replica) (get_or lines i d).now)) where
  -- what comes of the line at an index, by whether it is kept
  came : Bool → Result Replayed HomeFault
  came kept = if kept then after_kept (number + 1) (roster_after mid.roster (get_or lines i d).now) (site_says mid.roster (state_of mid.replica) (get_or lines i d).now).after (texts_now (drop (i + 1) lines)) else Err (UnkeptEntry number)

  first_came : (kept : Bool) → kept_of answer ≡ kept → goes number mid (texts_now (drop i lines)) ≡ came kept
  unfolding came
  first_came kept is = ap (goes number mid) (next_line lines i d within) ∙ ap came (sym said.keeps ∙ is)

  pub keeps_on : kept_of answer ≡ true → goes (number + 1) new (texts_now (drop (i + 1) lines)) ≡ goes number mid (texts_now (drop i lines))
  unfolding came
  keeps_on is = (λ k. after_kept (number + 1) (said.roster k) (said.after k) (texts_now (drop (i + 1) lines))) ∙ sym (first_came true is)

  pub keeps_not : kept_of answer ≡ false → goes number mid (texts_now (drop i lines)) ≡ Err (UnkeptEntry number)
  unfolding came
  keeps_not is = first_came false is

pub keeps_all : (number : ℕ) (site : SiteValue) (lines : List (Bor (List ℕ))) (i : ℕ) → length lines ≤ i → goes number site (texts_now (drop i lines)) ≡ Ok (replayed_of site)
keeps_all number site lines i past = ap (λ (ls : List (Bor (List ℕ))). goes number site (texts_now ls)) (drop_all i lines past)

-- ---- what was heard
-- what comes of the lines at a site that is to hear of so many others still, the first of which has this number
abbrev pub hears_on : ℕ → ℕ → SiteValue → List (List ℕ) → Result Replayed HomeFault
hears_on count number site lines = after_heard count number site.roster (state_of site.replica) lines

module _ (count number : ℕ) (mid : SiteValue) (lines : List (Bor (List ℕ))) (below : number < count) where
  one_more : count - number ≡ suc (count - (number + 1))
  one_more = omega arith

  pub heard_none : length lines ≤ number → hears_on (count - number) number mid (texts_now (drop number lines)) ≡ Err (UnreadHeard (3 + number))
  heard_none past = (λ k. hears_on (one_more k) number mid (texts_now (drop_all number lines past k)))

  module _ (new : SiteValue) (d : Bor (List ℕ)) (within : number < length lines) (same : Bool)
      (after : state_of new.replica ≡ (site_says mid.roster (state_of mid.replica) (get_or lines number d).now).after)
      (found : same ≡ bytes_eq (heard_text (state_of new.replica) number) (get_or lines number d).now) where
    -- what comes of the line, by whether it is what the site writes
    heard_by : Bool → Result Replayed HomeFault
    heard_by right = if right
        then after_heard (count - (number + 1)) (number + 1) (roster_after mid.roster (get_or lines number d).now) (site_says mid.roster (state_of mid.replica) (get_or lines number d).now).after (texts_now (drop (number + 1) lines))
        else Err (UnreadHeard (3 + number))

    heard_came : (right : Bool) → same ≡ right → hears_on (count - number) number mid (texts_now (drop number lines)) ≡ heard_by right
    unfolding heard_by
    heard_came right is =
        (λ k. hears_on (one_more k) number mid (next_line lines number d within k))
        ∙ ap heard_by (ap (λ (s : State). bytes_eq (heard_text s number) (get_or lines number d).now) (sym after) ∙ sym found ∙ is)

    pub heard_more : same ≡ true → new.roster ≡ roster_after mid.roster (get_or lines number d).now
        → hears_on (count - (number + 1)) (number + 1) new (texts_now (drop (number + 1) lines)) ≡ hears_on (count - number) number mid (texts_now (drop number lines))
    unfolding heard_by
    heard_more right roster =
        (λ k. after_heard (count - (number + 1)) (number + 1) (roster k) (after k) (texts_now (drop (number + 1) lines))) ∙ sym (heard_came true right)

    pub heard_wrong : same ≡ false → hears_on (count - number) number mid (texts_now (drop number lines)) ≡ Err (UnreadHeard (3 + number))
    unfolding heard_by
    heard_wrong wrong = heard_came false wrong

pub heard_all : (count number : ℕ) (site : SiteValue) (lines : List (List ℕ)) → number ≡ count → goes (3 + count) site lines ≡ hears_on (count - number) number site lines
heard_all count number site lines is =
    let none : zero ≡ count - number = omega arith in
    (λ k. goes (3 + sym is k) site lines) ∙ (λ k. hears_on (none k) number site lines)

-- ---- the entries behind a header
module _ (header : Header) (all rest : List (Bor (List ℕ))) (text : Bor (List ℕ)) (is : all ≡ text ∷ rest) where
  known_format : (format : JournalFormat) → is_compacted format ≡ true → known_in header.roster header.site text.now ≡ None → begun format header.roster header.site (texts_now all) ≡ Err UnreadKnown
  known_format One k n = cc
  known_format Two k n = (λ i. begun Two header.roster header.site (texts_now (is i))) ∙ (λ i. after_known (n i) (λ s. after_kept 3 header.roster s (texts_now rest)))
  known_format Three k n = cc
  known_format Four k n = (λ i. begun Four header.roster header.site (texts_now (is i))) ∙ (λ i. after_known (n i) (λ s. after_heard (length header.roster) 0 header.roster s (texts_now rest)))

  pub known_not : is_compacted header.format ≡ true → None ≡ known_in header.roster header.site text.now → begun_by (texts_now all) (Some header) ≡ Err UnreadKnown
  known_not k n = known_format header.format k (sym n)

  module _ (site : SiteValue) (known : Some (state_of site.replica) ≡ known_in header.roster header.site text.now) (roster : site.roster ≡ header.roster) where
    pub known_four : header.format ≡ Four → begun_by (texts_now all) (Some header) ≡ hears_on (length site.roster) 0 site (texts_now rest)
    known_four f =
        (λ i. begun (f i) header.roster header.site (texts_now (is i)))
        ∙ (λ i. after_known (sym known i) (λ s. after_heard (length header.roster) 0 header.roster s (texts_now rest)))
        ∙ (λ i. after_heard (length (sym roster i)) 0 (sym roster i) (state_of site.replica) (texts_now rest))

    two : (format : JournalFormat) → is_compacted format ≡ true → (format ≡ Four → ⊥) → begun format header.roster header.site (texts_now all) ≡ goes 3 site (texts_now rest)
    two One k not = cc
    two Two k not =
        (λ i. begun Two header.roster header.site (texts_now (is i)))
        ∙ (λ i. after_known (sym known i) (λ s. after_kept 3 header.roster s (texts_now rest)))
        ∙ (λ i. after_kept 3 (sym roster i) (state_of site.replica) (texts_now rest))
    two Three k not = cc
    two Four k not = absurd (not refl)

    pub known_two : is_compacted header.format ≡ true → (header.format ≡ Four → ⊥) → begun_by (texts_now all) (Some header) ≡ goes 3 site (texts_now rest)
    known_two k not = two header.format k not

pub known_nowhere : (header : Header) (all : List (Bor (List ℕ))) → all ≡ [] → is_compacted header.format ≡ true → begun_by (texts_now all) (Some header) ≡ Err UnreadKnown
known_nowhere header all is k = (λ i. begun header.format header.roster header.site (texts_now (is i))) ∙ go header.format k
  where
    go : (format : JournalFormat) → is_compacted format ≡ true → begun format header.roster header.site [] ≡ Err UnreadKnown
    go One k = cc
    go Two k = refl
    go Three k = cc
    go Four k = refl

pub from_nothing : (header : Header) (all : List (List ℕ)) (site : SiteValue) → is_compacted header.format ≡ false → site.roster ≡ header.roster → state_of site.replica ≡ empty_at header.site
    → begun_by all (Some header) ≡ goes 2 site all
from_nothing header all site k roster state = go header.format k ∙ (λ i. after_kept 2 (sym roster i) (sym state i) all)
  where
    go : (format : JournalFormat) → is_compacted format ≡ false → begun format header.roster header.site all ≡ after_kept 2 header.roster (empty_at header.site) all
    go One k = refl
    go Two k = cc
    go Three k = refl
    go Four k = cc

-- ---- entries
first_read : (entries lines : List (List ℕ)) (first : List ℕ) (found : Option Header) → entries ≡ first ∷ lines → header_in first ≡ found → replayed_by entries ≡ begun_by lines found
first_read entries lines first found is head = ap replayed_by is ∙ ap (begun_by lines) head

module _ (entries lines : List (List ℕ)) (first : List ℕ) (is : entries ≡ first ∷ lines) where
  pub header_stops : header_in first ≡ None → replayed_by entries ≡ Err UnreadHeader
  header_stops head = first_read entries lines first None is head

  module _ (header : Header) (head : header_in first ≡ Some header) where
    pub begins_replay : (site : SiteValue) → begun_by lines (Some header) ≡ Ok (replayed_of site) → replay entries ≡ Some (replayed_of site)
    begins_replay site begins = ap result_ok (first_read entries lines first (Some header) is head ∙ begins)

    pub stops_replay : (fault : HomeFault) → StopsAt (begun_by lines (Some header)) fault → StopsReplay entries fault
    stops_replay fault stops = subst (λ (came : Result Replayed HomeFault). StopsAt came fault) (sym (first_read entries lines first (Some header) is head)) stops

-- ---- what comes of entries, by what comes of the lines among them
module _ (came other : Result Replayed HomeFault) (same : came ≡ other) where
  pub so_read : (result : Result SiteValue HomeFault) → IfOk result (λ (site : SiteValue). other ≡ Ok (replayed_of site)) → IfOk result (λ (site : SiteValue). came ≡ Ok (replayed_of site))
  so_read result read = subst (λ (r : Result Replayed HomeFault). IfOk result (λ (site : SiteValue). r ≡ Ok (replayed_of site))) (sym same) read

  pub so_stops : (result : Result SiteValue HomeFault) → IfErr result (StopsAt other) → IfErr result (StopsAt came)
  so_stops result stops = subst (λ (r : Result Replayed HomeFault). IfErr result (StopsAt r)) (sym same) stops
