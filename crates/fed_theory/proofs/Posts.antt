-- Packets stay under their numbers.
use Rattle.std.specs.Prelude.{if◌then◌else◌, nat_lt, Option, Some, None, slice_get}
use Rattle.std.proofs.Common.{◌≡◌, ℕ, zero, suc, ◌+◌, ◌<◌, List, [], ◌∷◌, ◌++◌, Bool, true, false, ◌&&◌, length, refl, sym, ap, subst, ◌∙◌, add-one}
use Rattle.std.proofs.lemmas.Bool.{and_parts, le-ltb, lt-ltb}
use Rattle.fed_stamp.specs.Version.{counter_of, is_below, IsFirstAbove}
use Rattle.fed_stamp.proofs.LeastIndex.{least_index_found, least_index_none}
use Rattle.fed_stamp.proofs.VersionLaws.{each_from_below}
use Rattle.fed_lattice.specs.VersionOf.{version_of}
use Rattle.fed_model.specs.declared.taken.Taken.{Taken}
use Rattle.fed_model.specs.Answer.{Answer, Answer.Refuses, Answer.Replies, answer}
use Rattle.fed_model.specs.Packet.{Packet, shipped, missing, grows, taken, takes_unless}
use Rattle.fed_model.specs.declared.events.Event.{Event}
use Rattle.fed_model.specs.declared.events.Event.TheVariants.{Do, Ship, Take}
use Rattle.fed_model.specs.declared.outcomes.Outcome.{Outcome}
use Rattle.fed_model.specs.Run.{World, start, packet, stays, does, ships, receives, takes, step, run_from, run}
use Rattle.fed_theory.proofs.Runs.{either, put_same, run-append}

-- the packet is the one with the number
abbrev pub Posts : ℕ → Packet → World → Type 0
Posts k p w = packet w k ≡ Some p

slice_more : (zs ys : List Packet) (i : ℕ) (p : Packet) → slice_get zs i ≡ Some p → slice_get (zs ++ ys) i ≡ Some p
slice_more [] ys i p f = cc
slice_more (z ∷ zs) ys zero p f = f
slice_more (z ∷ zs) ys (suc i) p f = slice_more zs ys i p f

slice_last : (xs : List Packet) (p : Packet) → slice_get (xs ++ p ∷ []) (length xs) ≡ Some p
slice_last [] p = refl
slice_last (x ∷ xs) p = slice_last xs p

shipped_posts : (k : ℕ) (p : Packet) (w : World) (here to : ℕ) → Posts k p w → Posts k p (ships w here to).after
shipped_posts zero p w here to h = h
shipped_posts (suc k) p w here to h = slice_more w.packets (shipped here (w.site here) to ∷ []) k p h

does_posts : (k : ℕ) (p : Packet) (w : World) (here : ℕ) (said : Answer) → Posts k p w → Posts k p (does w here said).after
does_posts zero p w here said h = cc
does_posts (suc k) p w here (Refuses refusal) h = h
does_posts (suc k) p w here (Replies reply None) h = h
does_posts (suc k) p w here (Replies reply (Some new)) h = h

receives_posts : (k : ℕ) (p : Packet) (w : World) (here : ℕ) (q : Packet) (lacks : Option ℕ) → Posts k p w → Posts k p (receives w here (takes_unless lacks (w.site here) q)).after
receives_posts zero p w here q lacks h = cc
receives_posts (suc k) p w here q (Some from) h = h
receives_posts (suc k) p w here q None h = h

takes_posts : (k : ℕ) (p : Packet) (w : World) (here : ℕ) (o : Option Packet) → Posts k p w → Posts k p (takes w here o).after
takes_posts k p w here None h = h
takes_posts k p w here (Some q) h = receives_posts k p w here q (missing q.need (version_of (w.site here).set)) h

step_posts : (k : ℕ) (p : Packet) (n : ℕ) (w : World) (event : Event) → Posts k p w → Posts k p (step n w event).after
step_posts k p n w (Do site who command) h =
    either (Posts k p) (nat_lt site n) _ (stays w Outcome.NoSite) (does_posts k p w site (answer (w.site site).set site who command) h) h
step_posts k p n w (Ship site to) h =
    either (Posts k p) (nat_lt site n && nat_lt to n) (ships w site to) (stays w Outcome.NoSite) (shipped_posts k p w site to h) h
step_posts k p n w (Take site j) h =
    either (Posts k p) (nat_lt site n) (takes w site (packet w j)) (stays w Outcome.NoSite) (takes_posts k p w site (packet w j) h) h

run_from_posts : (k : ℕ) (p : Packet) (n : ℕ) (w : World) (events : List Event) → Posts k p w → Posts k p (run_from n w events)
run_from_posts k p n w [] h = h
run_from_posts k p n w (event ∷ events) h = run_from_posts k p n (step n w event).after events (step_posts k p n w event h)

last_posts : (w : World) (here to : ℕ) → Posts (suc (length w.packets)) (shipped here (w.site here) to) (ships w here to).after
last_posts w here to = slice_last w.packets (shipped here (w.site here) to)

-- a shipment that made the k-th packet, between two sites of the federation
pub record IsMade (n : ℕ) (w : World) (here to k : ℕ) : Type 0 where
  pub to_site : nat_lt to n ≡ true
  pub posts : Posts k (shipped here (w.site here) to) (step n w (Ship here to)).after

pub made : (n : ℕ) (w : World) (here to k : ℕ) → (step n w (Ship here to)).outcome ≡ Outcome.Packet k → IsMade n w here to k
made n w here to k e = record { to_site = (go (nat_lt here n && nat_lt to n) refl e).0; posts = (go (nat_lt here n && nat_lt to n) refl e).1 }
  where
    go : (b : Bool) → (nat_lt here n && nat_lt to n) ≡ b → (if b then ships w here to else stays w Outcome.NoSite).outcome ≡ Outcome.Packet k → (nat_lt to n ≡ true) × Posts k (shipped here (w.site here) to) (if b then ships w here to else stays w Outcome.NoSite).after
    go true is f =
        let p : length w.packets + 1 ≡ k = cc in
        let q : suc (length w.packets) ≡ k = sym (add-one (length w.packets)) ∙ p in
        ((and_parts (nat_lt here n) (nat_lt to n) is).1, subst (λ j. Posts j (shipped here (w.site here) to) (ships w here to).after) q (last_posts w here to))
    go false is f = cc

-- the packet of a shipment is there ever after
pub posted : (n : ℕ) (early late : List Event) (here to k : ℕ) → (step n (run n early) (Ship here to)).outcome ≡ Outcome.Packet k → Posts k (shipped here ((run n early).site here) to) (run n (early ++ Ship here to ∷ late))
posted n early late here to k e =
    let w = run n early in
    let p = (made n w here to k e).posts in
    let q = run_from_posts k (shipped here (w.site here) to) n (step n w (Ship here to)).after late p in
    subst (Posts k (shipped here (w.site here) to)) (sym (run-append n start early (Ship here to ∷ late))) q

-- a taken packet adds all that it gives
received : (w : World) (here : ℕ) (p : Packet) (lacks : Option ℕ) (t : Taken) → (receives w here (takes_unless lacks (w.site here) p)).outcome ≡ Outcome.Taken t
    → ((receives w here (takes_unless lacks (w.site here) p)).after.site here).set ≡ (w.site here).set ++ p.gives
received w here p (Some from) t e = cc
received w here p None t e = ap (λ s. s.set) (put_same w.site here (taken (w.site here) p))

pub take_adds : (n : ℕ) (w : World) (taker k : ℕ) (p : Packet) (t : Taken) → Posts k p w → (step n w (Take taker k)).outcome ≡ Outcome.Taken t → ((step n w (Take taker k)).after.site taker).set ≡ (w.site taker).set ++ p.gives
take_adds n w taker k p t at e = go (nat_lt taker n) (packet w k) at e
  where
    go : (b : Bool) (o : Option Packet) → o ≡ Some p → (if b then takes w taker o else stays w Outcome.NoSite).outcome ≡ Outcome.Taken t → ((if b then takes w taker o else stays w Outcome.NoSite).after.site taker).set ≡ (w.site taker).set ++ p.gives
    go false o is f = cc
    go true None is f = cc
    go true (Some q) is f =
        let same : q ≡ p = cc in
        received w taker q (missing q.need (version_of (w.site taker).set)) t f ∙ ap (λ (r : Packet). (w.site taker).set ++ r.gives) same

-- a packet is taken where nothing is missing
pub none_missing : (need version : List ℕ) → is_below need version ≡ true → missing need version ≡ None
none_missing need version below = sym (least_index_none _ 16 (λ i h. le-ltb (counter_of version i) (counter_of need i) (each_from_below need version below i)))

-- the least site of which more is needed
pub first_missing : (need version : List ℕ) (site : ℕ) → site < 16 → IsFirstAbove need version site → missing need version ≡ Some site
first_missing need version site small first =
    sym (least_index_found _ 16 site small (lt-ltb _ _ first.above) (λ k h. le-ltb (counter_of version k) (counter_of need k) (first.least k h)))

pub take_taken : (n : ℕ) (w : World) (to k : ℕ) (p : Packet) → Posts k p w → nat_lt to n ≡ true → is_below p.need (version_of (w.site to).set) ≡ true → (t : Taken) × ((step n w (Take to k)).outcome ≡ Outcome.Taken t)
take_taken n w to k p at small below = go (nat_lt to n) small (packet w k) at
  where
    went : (q : Packet) (lacks : Option ℕ) → lacks ≡ None → (t : Taken) × ((receives w to (takes_unless lacks (w.site to) q)).outcome ≡ Outcome.Taken t)
    went q None is = (record { grew = grows (w.site to) q }, refl)
    went q (Some s) is = cc

    go : (b : Bool) → b ≡ true → (o : Option Packet) → o ≡ Some p → (t : Taken) × ((if b then takes w to o else stays w Outcome.NoSite).outcome ≡ Outcome.Taken t)
    go false e o is = cc
    go true e None is = cc
    go true e (Some q) is =
        let same : p ≡ q = cc in
        went q (missing q.need (version_of (w.site to).set)) (none_missing q.need (version_of (w.site to).set) (subst (λ (r : Packet). is_below r.need (version_of (w.site to).set) ≡ true) same below))
