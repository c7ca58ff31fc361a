-- What the code of a world does is what happens in the run.
use Rattle.std.specs.Prelude.{cond, nat_lt, replicate, Option, Some, None, Result}
use Rattle.std.proofs.Common.{◌≡◌, ◌≢◌, ℕ, true, ◌+◌, ◌<◌, ◌≤◌, List, [], ◌∷◌, ◌++◌, length, get_or, set, refl, sym, ap, subst, ◌∙◌, inl, inr, arith}
use Rattle.std.proofs.lemmas.Bool.{cases_eq, cond-true, lt-ltb}
use Rattle.std.proofs.lemmas.List.{get_or-set_same, get_or-set_other, get_or_push, get_or_append_left, get_or-replicate, length-set, length_push, take_more}
use Rattle.std.proofs.Math.ListN.{take}
use Rattle.fed_stamp.specs.Stamp.{StampValue}
use Rattle.fed_lattice.specs.History.{History}
use Rattle.fed_lattice.specs.VersionOf.{version_of}
use Rattle.fed_model.specs.declared.askers.Who.{Who}
use Rattle.fed_model.specs.declared.commands.Command.{Command}
use Rattle.fed_model.specs.declared.refusals.Refusal.{Refusal}
use Rattle.fed_model.specs.declared.replies.Reply.{Reply}
use Rattle.fed_model.specs.Body.{Body}
use Rattle.fed_board.specs.Board.{board_reads}
use Rattle.fed_model.specs.Lawful.{IsLawful}
use Rattle.fed_model.specs.View.{view}
use Rattle.fed_theory.proofs.ViewLaws.{view_push}
use Rattle.fed_model.specs.Answer.{Answer, Answer.Refuses, Answer.Replies, answer, answer_to}
use Rattle.fed_stamp.specs.Indexes.{put}
use Rattle.fed_model.specs.Outcome.{outcome_of}
use Rattle.fed_theory.specs.ViewSteps.{add_to_view}
use Rattle.fed_replica.specs.Outcome.{adds, said_by}
use Rattle.fed_replica.specs.Replica.{ReplicaValue, heard_from}
use Rattle.fed_replica.specs.State.{State, after_answer, state_of}
use Rattle.fed_theory.proofs.Allowed.{answer_allowed}
use Rattle.fed_theory.proofs.NextStamps.{next_uncovered}
use Rattle.fed_model.specs.declared.events.Event.{Event}
use Rattle.fed_model.specs.declared.events.Event.TheVariants.{Do}
use Rattle.fed_model.specs.declared.outcomes.Outcome.{Outcome}
use Rattle.fed_world.specs.Kept.{WorldValue, IsReplica, AreReplicas}
use Rattle.fed_model.specs.Run.{World, Step, start, does, step, run, outcomes, with_operation}
use Rattle.fed_theory.proofs.RunSteps.{does_others, site_lawful, do_here}
use Rattle.fed_theory.proofs.Runs.{outcomes-push, put_same}

-- ---- tables of sites and lists of replicas
-- one replica takes the place of another, where the other sites stay as they are
pub replica_set : (n : ℕ) (w v : World) (rs : List ReplicaValue) (i : ℕ) (r : ReplicaValue) → i < n → AreReplicas n w rs
    → ((j : ℕ) → j ≢ i → v.site j ≡ w.site j) → IsReplica i (v.site i) r → AreReplicas n v (set rs i r)
replica_set n w v rs i r small old same new = record {
  count = length-set rs i r ∙ old.count;
  each = λ j d h. elim (cases_eq j i) [
    | inl e ↦ (
        let within : i < length rs = let c = old.count in omega arith in
        subst (λ (k : ℕ). IsReplica k (v.site k) (get_or (set rs i r) k d)) (sym e) (subst (IsReplica i (v.site i)) (sym (get_or-set_same rs i r d within)) new))
    | inr apart ↦ (
        let kept : IsReplica j (v.site j) (get_or rs j d) = subst (λ s. IsReplica j s (get_or rs j d)) (sym (same j apart)) (old.each j d h) in
        subst (IsReplica j (v.site j)) (sym (get_or-set_other rs i j r d apart)) kept)
  ];
}

-- ---- a command
-- where a replica does what an answer says, it is the replica of the site then
module _ (w : World) (i : ℕ) (who : Who) (command : Command) (lawful : IsLawful (w.site i).set) (old new : ReplicaValue) (held : IsReplica i (w.site i) old)
    (site : new.site ≡ old.site) (heard : new.heard ≡ old.heard) where
  abbrev ops : History Body
  ops = (w.site i).set

  heard_still : (from : ℕ) → from < 16 → heard_from new from ≡ (w.site i).heard from
  heard_still from h = ap (λ hs. get_or hs from (replicate 16 0)) heard ∙ held.heard from h

  stood : board_reads new.board ≡ view ops → IsReplica i (w.site i) new
  stood e = record { site = site ∙ held.site; board = e; heard = heard_still }

  grown : (new_op : StampValue × Body) → board_reads new.board ≡ view (ops ++ new_op ∷ []) → IsReplica i (put w.site i (with_operation (w.site i) new_op) i) new
  grown e p = subst (λ s. IsReplica i s new) (sym (put_same w.site i (with_operation (w.site i) e)))
      (record { site = site ∙ held.site; board = p; heard = heard_still })

  -- what is said, and the replica then
  abbrev Went : Answer → Outcome → Type 0
  Went a o = (o ≡ (does w i a).outcome) × IsReplica i ((does w i a).after.site i) new

  went : (a : Answer) → answer ops i who command ≡ a → state_of new ≡ after_answer (state_of old) a → Went a (outcome_of (said_by a))
  went (Refuses refusal) is left = (refl, stood (ap (λ (s : State). s.view) left ∙ held.board))
  went (Replies reply None) is left = (refl, stood (ap (λ (s : State). s.view) left ∙ held.board))
  went (Replies reply (Some e)) is left =
      let allowed = answer_allowed ops lawful i who command reply e is in
      (refl, grown e (ap (λ (s : State). s.view) left ∙ ap (λ v. add_to_view v e) held.board ∙ sym (view_push ops e lawful (next_uncovered (version_of ops) i e.0 allowed.0))))

  -- the answer by what the replica reads as is that of the run
  same_answer : answer_to (board_reads old.board) old.site who command ≡ answer ops i who command
  same_answer = λ j. answer_to (held.board j) (held.site j) who command

  pub command_went : (said : Result Reply Refusal) → said ≡ said_by (answer_to (board_reads old.board) old.site who command)
      → state_of new ≡ after_answer (state_of old) (answer_to (board_reads old.board) old.site who command) → Went (answer ops i who command) (outcome_of said)
  command_went said told left =
      subst (λ r. Went (answer ops i who command) (outcome_of r)) (sym (told ∙ ap said_by same_answer))
      (went (answer ops i who command) refl (left ∙ ap (after_answer (state_of old)) same_answer))

  -- where an operation is to be added, no refusal is due
  due : (a : Answer) → adds a ≡ true → (refusal : Refusal) → (does w i a).outcome ≡ Outcome.Refused refusal → refusal ≡ Refusal.NoMemory
  due (Refuses refused) h refusal e = cc
  due (Replies reply None) h refusal e = cc
  due (Replies reply (Some op)) h refusal e = cc

  pub memory_went : adds (answer_to (board_reads old.board) old.site who command) ≡ true
      → (refusal : Refusal) → (does w i (answer ops i who command)).outcome ≡ Outcome.Refused refusal → refusal ≡ Refusal.NoMemory
  memory_went h = due (answer ops i who command) (sym (ap adds same_answer) ∙ h)

-- ---- in the run
-- what an outcome and the replicas are of a step
abbrev pub IsStep : ℕ → Step → Outcome → List ReplicaValue → Type 0
IsStep n s o rs = (o ≡ s.outcome) × AreReplicas n s.after rs

module _ (n : ℕ) (events : List Event) (few : n ≤ 16) (rs : List ReplicaValue) (held : AreReplicas n (run n events) rs) where
  abbrev w : World
  w = run n events

  -- the replica that changed stands at k, the number of the site that was asked
  module _ (i k : ℕ) (at : k ≡ i) (who : Who) (command : Command) (small : k < n) (old new : ReplicaValue) (before : IsReplica k (w.site k) old)
      (site : new.site ≡ old.site) (heard : new.heard ≡ old.heard) where
    abbrev lawful : IsLawful (w.site k).set
    lawful = site_lawful n events few k

    -- the answer by what the replica reads as
    abbrev said_here : Answer
    said_here = answer_to (board_reads old.board) old.site who command

    in_place : (o : Outcome) → Went w k who command lawful old new before site heard (answer (w.site k).set k who command) o → IsStep n (step n w (Do i who command)) o (set rs k new)
    in_place o p =
        let a : Answer = answer (w.site k).set k who command in
        let here : IsStep n (step n w (Do k who command)) o (set rs k new) =
        subst (λ s. IsStep n s o (set rs k new)) (sym (do_here n w k who command small)) (p.0, replica_set n w (does w k a).after rs k new small held (does_others w k a) p.1) in
        subst (λ (j : ℕ). IsStep n (step n w (Do j who command)) o (set rs k new)) at here

    pub command_done : (said : Result Reply Refusal) → said ≡ said_by said_here → state_of new ≡ after_answer (state_of old) said_here → (o : Outcome) → o ≡ outcome_of said → IsStep n (step n w (Do i who command)) o (set rs k new)
    command_done said told left o is =
        in_place o (subst (Went w k who command lawful old new before site heard (answer (w.site k).set k who command)) (sym is) (command_went w k who command lawful old new before site heard said told left))

    abbrev OnlyMemory : Step → Type 0
    OnlyMemory s = (refusal : Refusal) → s.outcome ≡ Outcome.Refused refusal → refusal ≡ Refusal.NoMemory

    pub memory_done : adds said_here ≡ true → OnlyMemory (step n w (Do i who command))
    memory_done h =
        let here : OnlyMemory (step n w (Do k who command)) =
        subst OnlyMemory (sym (do_here n w k who command small)) (memory_went w k who command lawful old new before site heard h) in
        subst (λ (j : ℕ). OnlyMemory (step n w (Do j who command))) at here

-- ---- the first replicas
site_is : (k s : ℕ) (o : Option ℕ) → k < 16 → o ≡ Some s → o ≡ cond (nat_lt k 16) (Some k) None → s ≡ k
site_is k s o small e f =
    let p : o ≡ Some k = f ∙ cond-true (nat_lt k 16) (Some k) None (lt-ltb k 16 small) in cc

-- one more, of the next site, that has no operation and heard nothing
pub replica_more : (k s : ℕ) (o : Option ℕ) (rs all : List ReplicaValue) (r : ReplicaValue) → AreReplicas k start rs → k < 16 → o ≡ Some s → o ≡ cond (nat_lt k 16) (Some k) None
    → r.site ≡ s → board_reads r.board ≡ view [] → r.heard ≡ replicate 16 (replicate 16 0) → all ≡ rs ++ r ∷ [] → AreReplicas (k + 1) start all
replica_more k s o rs all r old small e f site board heard pushed =
    subst (AreReplicas (k + 1) start) (sym pushed) (record {
      count = let c = old.count in let l = length_push rs r in omega arith;
      each = λ j d h. elim (cases_eq j k) [
        | inl at ↦ (
            let here : IsReplica k (start.site k) r = record {
              site = site ∙ site_is k s o small e f;
              board = board;
              heard = λ from h. ap (λ hs. get_or hs from (replicate 16 0)) heard ∙ get_or-replicate 16 from (replicate 16 0) (replicate 16 0) h;
            } in
            subst (λ (i : ℕ). IsReplica i (start.site i) (get_or (rs ++ r ∷ []) i d)) (sym at) (subst (IsReplica k (start.site k)) (sym (get_or_push rs r d k old.count)) here))
        | inr apart ↦ (
            let within : j < length rs = let c = old.count in omega arith in
            subst (IsReplica j (start.site j)) (sym (get_or_append_left rs (r ∷ []) d j within)) (old.each j d (omega arith)))
      ];
    })

-- ---- event by event
module _ (n : ℕ) (all : List Event) (i : ℕ) (event : Event) (within : i < length all) (at : event ≡ get_or all i event) where
  first_ones : take (i + 1) all ≡ take i all ++ event ∷ []
  first_ones = take_more all i event within ∙ ap (λ e. take i all ++ e ∷ []) (sym at)

  pub world_more : (old new : WorldValue) → old ≡ record { sites = n; events = take i all } → new ≡ record { sites = old.sites; events = old.events ++ event ∷ [] } → new ≡ record { sites = n; events = take (i + 1) all }
  world_more old new e f = f ∙ (λ j. record { sites = (e j).sites; events = (e j).events ++ event ∷ [] }) ∙ (λ j. record { sites = n; events = sym first_ones j })

  pub outcomes_more : (old : WorldValue) (said next : List Outcome) (outcome : Outcome) → old ≡ record { sites = n; events = take i all } → said ≡ outcomes n (take i all)
      → outcome ≡ (step old.sites (run old.sites old.events) event).outcome → next ≡ said ++ outcome ∷ [] → next ≡ outcomes n (take (i + 1) all)
  outcomes_more old said next outcome e f g h =
      let told : outcome ≡ (step n (run n (take i all)) event).outcome = g ∙ ap (λ (w : WorldValue). (step w.sites (run w.sites w.events) event).outcome) e in
      h ∙ (λ j. f j ++ told j ∷ []) ∙ sym (outcomes-push n (take i all) event) ∙ ap (outcomes n) (sym first_ones)
