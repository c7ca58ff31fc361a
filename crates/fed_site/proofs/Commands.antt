-- What a replica does to commands is what a site does.
use Rattle.std.specs.Prelude.{Option, Some, None, Result, Ok, ◌||◌}
use Rattle.std.proofs.Common.{◌≡◌, ℕ, ◌+◌, ◌<◌, Bool, List, [], ◌∷◌, ◌++◌, length, get_or, take, refl, sym, ap, ap₂, subst, ◌∙◌, append_assoc, append-nil, arith}
use Rattle.std.specs.Option.{option_or}
use Rattle.std.proofs.lemmas.List.{length-take-le, take_more}
use mathlib.Core.Bool.{or-false, or_assoc}
use Rattle.fed_model.specs.declared.askers.Who.{Who}
use Rattle.fed_model.specs.declared.commands.Command.{Command}
use Rattle.fed_model.specs.declared.refusals.Refusal.{Refusal}
use Rattle.fed_model.specs.declared.replies.Reply.{Reply}
use Rattle.fed_model.specs.Answer.{Answer, Answer.Refuses, Answer.Replies}
use Rattle.fed_model.specs.Outcome.{outcome_of_answer}
use Rattle.fed_replica.specs.Outcome.{said_by}
use Rattle.fed_replica.specs.Replica.{ReplicaValue}
use Rattle.fed_replica.specs.State.{State, state_of}
use Rattle.fed_qstat.specs.Outcome.{answer_line, text_of_outcome, text_of_reply}
use Rattle.fed_site.specs.Acts.{DoneAs}
use Rattle.fed_site.specs.SiteAnswer.{text_of}
use Rattle.fed_site.specs.declared.answers.Begun.{Begun}
use Rattle.fed_site.specs.declared.answers.TextAnswer.{TextAnswer}
use Rattle.fed_site.specs.declared.complaints.Complaint.{Complaint}
use Rattle.fed_site.specs.Says.{Done, after_command, after_commands, followed, refused_at}

-- ---- where it is answered by a reply, the line is that of the reply, and there is no complaint
abbrev did : Reply → Result Reply Refusal
did reply = Ok reply

pub replied : (roster : List (List ℕ × ℕ)) (who : Who) (index : ℕ) (command : Command) (reply : Reply) (a : Answer) → Ok reply ≡ said_by a
    → (answer_line (text_of_reply roster reply) ≡ answer_line (text_of_outcome roster (outcome_of_answer a))) × (None ≡ refused_at who index command a)
replied roster who index command reply (Refuses r) e = cc
replied roster who index command reply (Replies same new) e =
    let is : reply ≡ same = let h : did reply ≡ did same = e in cc in
    (ap (λ (r : Reply). answer_line (text_of_reply roster r)) is, refl)

-- ---- one command alone
or_none : {T : Type 0} (o : Option T) → option_or o None ≡ o
or_none None = refl
or_none (Some x) = refl

pub one_alone : (roster : List (List ℕ × ℕ)) (s : State) (who : Who) (command : Command) (all : List Command) (new : ReplicaValue) (answer : TextAnswer) → all ≡ command ∷ []
    → DoneAs new answer (after_command roster s who 0 command) → DoneAs new answer (after_commands roster s who 0 all)
one_alone roster s who command all new answer alone d = subst (λ (cs : List Command). DoneAs new answer (after_commands roster s who 0 cs)) (sym alone) (record {
  after = d.after;
  said = d.said ∙ sym (append-nil (after_command roster s who 0 command).text);
  keeps = d.keeps ∙ sym (or-false (after_command roster s who 0 command).kept);
  complains = d.complains ∙ sym (or_none (after_command roster s who 0 command).complaint);
  begins = d.begins ∙ sym (or_none (after_command roster s who 0 command).begun);
})

-- ---- commands, one after another
first_assoc : {T : Type 0} (a b c : Option T) → option_or a (option_or b c) ≡ option_or (option_or a b) c
first_assoc None b c = refl
first_assoc (Some x) b c = refl

module _ (roster : List (List ℕ × ℕ)) (who : Who) where
  commands-push : (s : State) (i k : ℕ) (commands : List Command) (command : Command) → k ≡ i + length commands
      → after_commands roster s who i (commands ++ command ∷ []) ≡ followed (λ next. after_command roster next who k command) (after_commands roster s who i commands)
  commands-push s i k [] command e =
      let same : i ≡ k = omega arith in
      let d = after_command roster s who i command in
      let alone : after_commands roster s who i (command ∷ []) ≡ d = λ j. record { after = d.after; text = append-nil d.text j; kept = or-false d.kept j; complaint = or_none d.complaint j; begun = or_none d.begun j } in
      alone ∙ ap (λ n. after_command roster s who n command) same
  commands-push s i k (first ∷ commands) command e =
      let here = after_command roster s who i first in
      let rest = after_commands roster here.after who (i + 1) commands in
      let last = after_command roster rest.after who k command in
      ap (λ (d : Done). followed (λ next. d) here) (commands-push here.after (i + 1) k commands command (omega arith))
      ∙ (λ j. record { after = last.after; text = sym (append_assoc here.text rest.text last.text) j; kept = sym (or_assoc here.kept rest.kept last.kept) j; complaint = first_assoc here.complaint rest.complaint last.complaint j; begun = first_assoc here.begun rest.begun last.begun j })

  module _ (s : State) (all : List Command) where
    pub one_more : (i : ℕ) (command : Command) (mid new : ReplicaValue) (first last both : TextAnswer) → i < length all → command ≡ get_or all i command
        → text_of both.text ≡ text_of first.text ++ text_of last.text → both.kept ≡ (first.kept || last.kept)
        → both.complaint ≡ option_or first.complaint last.complaint → both.begun ≡ option_or first.begun last.begun
        → DoneAs mid first (after_commands roster s who 0 (take i all)) → DoneAs new last (after_command roster (state_of mid) who i command)
        → DoneAs new both (after_commands roster s who 0 (take (i + 1) all))
    one_more i command mid new first last both within at text kept complaint begun before here =
        let first_ones : take (i + 1) all ≡ take i all ++ command ∷ [] = take_more all i command within ∙ ap (λ c. take i all ++ c ∷ []) (sym at) in
        let d = after_commands roster s who 0 (take i all) in
        let place : i ≡ 0 + length (take i all) = omega (arith, length-take-le i all (omega arith)) in
        let whole : after_commands roster s who 0 (take (i + 1) all) ≡ followed (λ next. after_command roster next who i command) d
        = ap (after_commands roster s who 0) first_ones ∙ commands-push s 0 i (take i all) command place in
        let next : after_command roster (state_of mid) who i command ≡ after_command roster d.after who i command = ap (λ t. after_command roster t who i command) before.after in
        subst (DoneAs new both) (sym whole) (record {
          after = here.after ∙ ap (λ (x : Done). x.after) next;
          said = text ∙ ap₂ (λ (a b : List ℕ). a ++ b) before.said (here.said ∙ ap (λ (x : Done). x.text) next);
          keeps = kept ∙ ap₂ (λ (a b : Bool). a || b) before.keeps (here.keeps ∙ ap (λ (x : Done). x.kept) next);
          complains = complaint ∙ ap₂ (λ (a b : Option Complaint). option_or a b) before.complains (here.complains ∙ ap (λ (x : Done). x.complaint) next);
          begins = begun ∙ ap₂ (λ (a b : Option Begun). option_or a b) before.begins (here.begins ∙ ap (λ (x : Done). x.begun) next);
        })
