-- What is left of lines after crashes are turns, and a site that is opened again holds what its turns left.
use Rattle.std.specs.Prelude.{map, IfSome, Option, Some, None}
use Rattle.std.proofs.Common.{◌≡◌, ◌<◌, ◌==◌, ◌⊎◌, ℕ, List, [], ◌∷◌, ◌++◌, All, Bool, true, false, length, append-nil, append_assoc, refl, sym, subst, ap, ◌∙◌, inl, inr, arith}
use Rattle.std.proofs.lemmas.Bool.{eq-eqb, eqb-false, eqb-true}
use Rattle.std.proofs.lemmas.List.Elements.{All-cons, All-head, All-nil, All-tail, All-weaker}
use Rattle.fed_stamp.specs.Indexes.{put}
use Rattle.fed_lattice.specs.SetLaws.{Has-left}
use Rattle.fed_replica.specs.State.{State, empty_at}
use Rattle.fed_script.specs.Line.{skips, begins, acts, lists, misuses, ships, takes, plans, compares}
use Rattle.fed_theory.proofs.RunSteps.{put_other}
use Rattle.fed_theory.proofs.Runs.{put_same}
use Rattle.fed_qstat.specs.Outcome.{answer_line}
use Rattle.fed_site.specs.Journal.{after_lines, kept_line, kept_lines}
use Rattle.fed_site.specs.Line.{packet_text}
use Rattle.fed_site.specs.OwnLine.{OwnLine, tells, carries, asks, says, own_line_of, told_by}
use Rattle.fed_site.specs.Rosters.{roster_after, roster_after_lines, roster_told}
use Rattle.fed_site.proofs.ReadLines.{told_is}
use Rattle.fed_site.proofs.Replays.{replayed, replayed_roster}
use Rattle.fed_site.proofs.RosterLines.{after_begins, begins_length}
use Rattle.fed_home.proofs.Replays.{after_both, kept_both, roster_after_both}
use Rattle.fed_machine.specs.Planned.{plan_if_any}
use Rattle.fed_site.specs.Says.{IsReply, Reply, Said, Text, PacketFor, after_own, after_plan, site_says}
use Rattle.fed_turns.specs.Crash.{Happening, answered, cut, MayAllHappen, MayHappen, journal_of, lines_all, lines_at, lines_if, turn_unseen, turns_from, turns_of, turns_unseen, unseen}
use Rattle.fed_turns.specs.Home.{course_of}
use Rattle.fed_turns.specs.Turn.{AreBeginnings, AreCarried, Course, IsCarried, MayTurns, Turn, WasShipped, after_turn, after_turns, beginning, shipped_by}

-- ---- one list of turns behind another
pub after_append : (ts us : List Turn) (c : Course) → after_turns c (ts ++ us) ≡ after_turns (after_turns c ts) us
after_append [] us c = refl
after_append (t ∷ ts) us c = after_append ts us (after_turn c t)

pub turns_more : (hs ks : List Happening) (c : Course) → turns_from c (hs ++ ks) ≡ turns_from c hs ++ turns_from (after_turns c (turns_from c hs)) ks
turns_more [] ks c = refl
turns_more (h ∷ hs) ks c =
    let ts = turns_of c h in
    let d = after_turns c ts in
    ap (λ l. ts ++ l) (turns_more hs ks d)
    ∙ sym (append_assoc ts (turns_from d hs) (turns_from (after_turns d (turns_from d hs)) ks))
    ∙ ap (λ (x : Course). (ts ++ turns_from d hs) ++ turns_from x ks) (sym (after_append ts (turns_from d hs) c))

-- ---- lines whose answers nobody saw
module _ (roster : List (List ℕ × ℕ)) where
  plan_stays : (s : State) (plan : Option (List ℕ)) → (after_plan s plan).after ≡ s
  plan_stays s (Some text) = refl
  plan_stays s None = refl

  -- a ship changes nothing
  ship_stays : (s : State) (line : List ℕ) (to : ℕ) → (site_says roster s line).reply ≡ PacketFor to → (site_says roster s line).after ≡ s
  ship_stays s line to e = own (own_line_of roster s.site line) e
    where
      own : (o : OwnLine) → (after_own roster s o).reply ≡ PacketFor to → (after_own roster s o).after ≡ s
      own (tells told) f = cc
      own (carries text) f = cc
      own (asks look) f = refl
      own (says None) f = refl
      own (says (Some skips)) f = refl
      own (says (Some (begins sites))) f = refl
      own (says (Some (acts site who commands))) f = cc
      own (says (Some (lists site full jobs))) f = refl
      own (says (Some (misuses site fault))) f = refl
      own (says (Some (ships site other))) f = refl
      own (says (Some (takes site number))) f = refl
      own (says (Some (plans site moment))) f = plan_stays s (plan_if_any roster s.view s.site moment)
      own (says (Some (compares site other))) f = refl

  -- and tells no roster
  ship_tells_none : (s : State) (line : List ℕ) (to : ℕ) → (site_says roster s line).reply ≡ PacketFor to → roster_after roster line ≡ roster
  ship_tells_none s line to e = ap (roster_told roster) (told_is roster s.site line) ∙ own (own_line_of roster s.site line) e
    where
      own : (o : OwnLine) → (after_own roster s o).reply ≡ PacketFor to → roster_told roster (told_by o) ≡ roster
      own (tells told) f = cc
      own (carries text) f = refl
      own (asks look) f = refl
      own (says line) f = refl

-- once more was shipped
pub still : (first more : List (List ℕ)) (line : List ℕ) → IsCarried first line → IsCarried (first ++ more) line
still first more line h = go (packet_text line) h
  where
    go : (o : Option (List ℕ)) → IfSome o (WasShipped first) → IfSome o (WasShipped (first ++ more))
    go None k = tt
    go (Some text) k = (k.0, Has-left first more (answer_line k.0) k.1, k.2)

-- a line and those behind it
pub parted : (answers : List (List ℕ)) (line : List ℕ) (kept : Bool) (rest : List (List ℕ)) → All (IsCarried answers) (kept_line kept line ++ rest)
    → All (IsCarried answers) (kept_line kept line ++ []) × All (IsCarried answers) rest
parted answers line true rest all =
    (All-cons (IsCarried answers) line [] (All-head (IsCarried answers) line rest all) (All-nil (IsCarried answers)), All-tail (IsCarried answers) line rest all)
parted answers line false rest all = (All-nil (IsCarried answers), all)

-- a site is one of the roster that it knows once it has answered a line
pub still_own : (roster : List (List ℕ × ℕ)) (line : List ℕ) (i : ℕ) → i < length roster → i < length (roster_after roster line)
still_own roster line i small =
    let longer = begins_length roster (roster_after roster line) (after_begins roster line) in omega (arith, small, longer)

module _ (whole : List (List ℕ × ℕ)) where
  pub may_append : (ts us : List Turn) (c : Course) → MayTurns whole c ts → MayTurns whole (after_turns c ts) us → MayTurns whole c (ts ++ us)
  may_append [] us c first later = later
  may_append (t ∷ ts) us c first later = (first.0, may_append ts us (after_turn c t) first.1 later)

  unseen_may : (site : ℕ) (lines : List (List ℕ)) (c : Course) → site < length (c.roster site) → AreBeginnings whole (c.roster site) lines → AreCarried (c.roster site) c.shipped (c.site site) lines → MayTurns whole c (turns_unseen c site lines)
  unseen_may site [] c small parts carried = tt
  unseen_may site (line ∷ lines) c small parts carried =
      let roster = c.roster site in
      let first : Said = site_says roster (c.site site) line in
      let apart = parted c.shipped line first.kept (kept_lines (roster_after roster line) first.after lines) carried in
      go (λ d. unseen_may site lines d) first.reply refl apart.0 apart.1
    where
      go : ((d : Course) → site < length (d.roster site) → AreBeginnings whole (d.roster site) lines → AreCarried (d.roster site) d.shipped (d.site site) lines → MayTurns whole d (turns_unseen d site lines))
          → (reply : Reply) → (site_says (c.roster site) (c.site site) line).reply ≡ reply
          → AreCarried (c.roster site) c.shipped (c.site site) (line ∷ []) → AreCarried (roster_after (c.roster site) line) c.shipped (site_says (c.roster site) (c.site site) line).after lines
          → MayTurns whole c (unseen site line reply ++ turns_unseen (after_turns c (unseen site line reply)) site lines)
      go rest (PacketFor to) is one more =
          let same = ship_tells_none (c.roster site) (c.site site) line to is in
          rest c small (subst (λ (r : List (List ℕ × ℕ)). AreBeginnings whole r lines) same parts.1)
          (subst (λ (r : List (List ℕ × ℕ)). AreCarried r c.shipped (c.site site) lines) same
          (subst (λ (s : State). AreCarried (roster_after (c.roster site) line) c.shipped s lines) (ship_stays (c.roster site) (c.site site) line to is) more))
      go rest (Text text) is one more =
          let roster = c.roster site in
          let next = roster_after roster line in
          let said : Said = site_says roster (c.site site) line in
          let t : Turn = record { site = site; line = line; answer = text } in
          let new : List (List ℕ) = shipped_by said.reply text in
          let later : AreCarried next (c.shipped ++ new) said.after lines =
          All-weaker (IsCarried c.shipped) (IsCarried (c.shipped ++ new)) (still c.shipped new) (kept_lines next said.after lines) more in
          let knows = sym (put_same c.roster site next) in (
            record { site = small; part = parts.0; said = subst (λ r. IsReply (c.site site) r text) (sym is) refl; carried = one },
            rest (after_turn c t)
                (subst (λ (r : List (List ℕ × ℕ)). site < length r) knows (still_own roster line site small))
                (subst (λ (r : List (List ℕ × ℕ)). AreBeginnings whole r lines) knows parts.1)
                (subst (λ (r : List (List ℕ × ℕ)). AreCarried r (c.shipped ++ new) ((after_turn c t).site site) lines) knows
                (subst (λ (s : State). AreCarried next (c.shipped ++ new) s lines) (sym (put_same c.site site said.after)) later)),
          )

  happening_may : (c : Course) (h : Happening) → MayHappen whole c h → MayTurns whole c (turns_of c h)
  happening_may c (answered turn) may = (may, tt)
  happening_may c (cut site lines true) may = unseen_may site lines c may.site may.parts may.carried
  happening_may c (cut site lines false) may = tt

  pub all_may : (hs : List Happening) (c : Course) → MayAllHappen whole c hs → MayTurns whole c (turns_from c hs)
  all_may [] c may = tt
  all_may (h ∷ hs) c may =
      let d = after_turns c (turns_of c h) in
      may_append (turns_of c h) (turns_from d hs) c (happening_may c h may.0) (all_may hs d may.1)

-- ---- what a site knows and holds
module _ (i : ℕ) where
  -- between two moments it has answered these lines
  pub record Goes (c d : Course) (lines : List (List ℕ)) : Type 0 where
    pub roster : d.roster i ≡ roster_after_lines (c.roster i) lines
    pub site : d.site i ≡ after_lines (c.roster i) (c.site i) lines

  goes_both : (c d e : Course) (xs ys : List (List ℕ)) → Goes c d xs → Goes d e ys → Goes c e (xs ++ ys)
  goes_both c d e xs ys one two = record {
    roster = two.roster ∙ (λ k. roster_after_lines (one.roster k) ys) ∙ sym (roster_after_both (c.roster i) xs ys);
    site = two.site ∙ (λ k. after_lines (one.roster k) (one.site k) ys) ∙ sym (after_both (c.roster i) (c.site i) xs ys);
  }

  -- a turn is one of its site's lines
  turn_goes : (c : Course) (t : Turn) (b : Bool) → (t.site == i) ≡ b → Goes c (after_turn c t) (lines_if b (t.line ∷ []))
  turn_goes c t true e =
      let at : t.site ≡ i = eqb-true t.site i e in
      let said = (site_says (c.roster t.site) (c.site t.site) t.line).after in
      let next = roster_after (c.roster t.site) t.line in
      record {
        roster = subst (λ (k : ℕ). put c.roster t.site next k ≡ roster_after (c.roster k) t.line) at (put_same c.roster t.site next);
        site = subst (λ (k : ℕ). put c.site t.site said k ≡ (site_says (c.roster k) (c.site k) t.line).after) at (put_same c.site t.site said);
      }
  turn_goes c t false e =
      let apart = λ (same : i ≡ t.site). eqb-false t.site i e (sym same) in
      record {
        roster = put_other c.roster t.site (roster_after (c.roster t.site) t.line) i apart;
        site = put_other c.site t.site (site_says (c.roster t.site) (c.site t.site) t.line).after i apart;
      }

  unseen_goes : (site : ℕ) (c : Course) (line : List ℕ) → Goes c (after_turns c (turn_unseen c site line)) (lines_if (site == i) (line ∷ []))
  unseen_goes site c line = go (site_says (c.roster site) (c.site site) line).reply refl
    where
      stays : (to : ℕ) → (site_says (c.roster site) (c.site site) line).reply ≡ PacketFor to → (b : Bool) → (site == i) ≡ b → Goes c c (lines_if b (line ∷ []))
      stays to is false e = record { roster = refl; site = refl }
      stays to is true e =
          let here = subst (λ (k : ℕ). (site_says (c.roster k) (c.site k) line).reply ≡ PacketFor to) (eqb-true site i e) is in
          record { roster = sym (ship_tells_none (c.roster i) (c.site i) line to here); site = sym (ship_stays (c.roster i) (c.site i) line to here) }

      go : (reply : Reply) → (site_says (c.roster site) (c.site site) line).reply ≡ reply → Goes c (after_turns c (unseen site line reply)) (lines_if (site == i) (line ∷ []))
      go (Text text) is = turn_goes c (record { site = site; line = line; answer = text }) (site == i) refl
      go (PacketFor to) is = stays to is (site == i) refl

  -- lines of a site one by one
  lines_split : (b : Bool) (line : List ℕ) (lines : List (List ℕ)) → lines_if b (line ∷ []) ++ lines_if b lines ≡ lines_if b (line ∷ lines)
  lines_split true line lines = refl
  lines_split false line lines = refl

  none_goes : (c : Course) (b : Bool) → Goes c c (lines_if b [])
  none_goes c true = record { roster = refl; site = refl }
  none_goes c false = record { roster = refl; site = refl }

  unseen_all : (site : ℕ) (lines : List (List ℕ)) (c : Course) → Goes c (after_turns c (turns_unseen c site lines)) (lines_if (site == i) lines)
  unseen_all site [] c = none_goes c (site == i)
  unseen_all site (line ∷ lines) c =
      let ts = turn_unseen c site line in
      let d = after_turns c ts in
      subst (λ (ls : List (List ℕ)). Goes c (after_turns c (turns_unseen c site (line ∷ lines))) ls) (lines_split (site == i) line lines)
      (subst (λ (x : Course). Goes c x (lines_if (site == i) (line ∷ []) ++ lines_if (site == i) lines)) (sym (after_append ts (turns_unseen d site lines) c))
      (goes_both c d (after_turns d (turns_unseen d site lines)) (lines_if (site == i) (line ∷ [])) (lines_if (site == i) lines) (unseen_goes site c line) (unseen_all site lines d)))

  happening_goes : (c : Course) (h : Happening) → Goes c (after_turns c (turns_of c h)) (lines_at i h)
  happening_goes c (answered turn) = turn_goes c turn (turn.site == i) refl
  happening_goes c (cut site lines true) = unseen_all site lines c
  happening_goes c (cut site lines false) = record { roster = refl; site = refl }

  pub all_go : (hs : List Happening) (c : Course) → Goes c (after_turns c (turns_from c hs)) (lines_all i hs)
  all_go [] c = record { roster = refl; site = refl }
  all_go (h ∷ hs) c =
      let ts = turns_of c h in
      let d = after_turns c ts in
      subst (λ (x : Course). Goes c x (lines_at i h ++ lines_all i hs)) (sym (after_append ts (turns_from d hs) c))
      (goes_both c d (after_turns d (turns_from d hs)) (lines_at i h) (lines_all i hs) (happening_goes c h) (all_go hs d))

  -- ---- what happenings add to the site's journal
  lines_more : (hs ks : List Happening) → lines_all i (hs ++ ks) ≡ lines_all i hs ++ lines_all i ks
  lines_more [] ks = refl
  lines_more (h ∷ hs) ks = ap (λ l. lines_at i h ++ l) (lines_more hs ks) ∙ sym (append_assoc (lines_at i h) (lines_all i hs) (lines_all i ks))

  pub lines_stand : (lines : List (List ℕ)) → lines_all i (cut i lines true ∷ []) ≡ lines
  lines_stand lines = ap (λ b. lines_if b lines ++ []) (eq-eqb i i refl) ∙ append-nil lines

  module _ (rosters : ℕ → List (List ℕ × ℕ)) where
    pub journal_more : (hs ks : List Happening) → journal_of (rosters i) i (hs ++ ks) ≡ journal_of (rosters i) i hs ++ kept_lines ((course_of rosters hs).roster i) ((course_of rosters hs).site i) (lines_all i ks)
    journal_more hs ks =
        let went = all_go hs (beginning rosters) in
        ap (kept_lines (rosters i) (empty_at i)) (lines_more hs ks)
        ∙ kept_both (rosters i) (empty_at i) (lines_all i hs) (lines_all i ks)
        ∙ (λ k. journal_of (rosters i) i hs ++ kept_lines (sym went.roster k) (sym went.site k) (lines_all i ks))

    -- once more has happened
    pub course_more : (hs ks : List Happening) → Goes (course_of rosters hs) (course_of rosters (hs ++ ks)) (lines_all i ks)
    course_more hs ks =
        let c = course_of rosters hs in
        let all : course_of rosters (hs ++ ks) ≡ after_turns c (turns_from c ks) =
        ap (after_turns (beginning rosters)) (turns_more hs ks (beginning rosters)) ∙ after_append (turns_from (beginning rosters) hs) (turns_from c ks) (beginning rosters) in
        subst (λ (x : Course). Goes c x (lines_all i ks)) (sym all) (all_go ks c)

    -- the replay of what was kept is what its lines have left
    pub opened_holds : (hs : List Happening) → after_lines (rosters i) (empty_at i) (journal_of (rosters i) i hs) ≡ (course_of rosters hs).site i
    opened_holds hs = replayed (rosters i) (empty_at i) (lines_all i hs) ∙ sym (all_go hs (beginning rosters)).site

    pub opened_knows : (hs : List Happening) → roster_after_lines (rosters i) (journal_of (rosters i) i hs) ≡ (course_of rosters hs).roster i
    opened_knows hs = replayed_roster (rosters i) (empty_at i) (lines_all i hs) ∙ sym (all_go hs (beginning rosters)).roster

    -- a crash leaves it as it was, or with all lines
    pub journal_cut : (hs : List Happening) (lines entries : List (List ℕ))
        → (entries ≡ journal_of (rosters i) i hs) ⊎ (entries ≡ journal_of (rosters i) i hs ++ kept_lines ((course_of rosters hs).roster i) ((course_of rosters hs).site i) lines)
        → (stand : Bool) × (entries ≡ journal_of (rosters i) i (hs ++ cut i lines stand ∷ []))
    journal_cut hs lines entries (inl e) = (false, e ∙ sym (append-nil (journal_of (rosters i) i hs)) ∙ sym (journal_more hs (cut i lines false ∷ [])))
    journal_cut hs lines entries (inr e) =
        let c = course_of rosters hs in
        (true, e ∙ ap (λ l. journal_of (rosters i) i hs ++ kept_lines (c.roster i) (c.site i) l) (sym (lines_stand lines)) ∙ sym (journal_more hs (cut i lines true ∷ [])))

-- ---- answered lines of a site
pub lines_answered : (i : ℕ) (ts : List Turn) → All (λ t. t.site ≡ i) ts → lines_all i (map answered ts) ≡ map (λ t. t.line) ts
lines_answered i [] all = refl
lines_answered i (t ∷ ts) all =
    let here = eq-eqb t.site i (All-head (λ (u : Turn). u.site ≡ i) t ts all) in
    let rest = lines_answered i ts (All-tail (λ (u : Turn). u.site ≡ i) t ts all) in (λ k. lines_if (here k) (t.line ∷ []) ++ rest k)
