-- What a site has done it keeps, and so does each site that it tells.
use Rattle.std.specs.Prelude.{Some}
use Rattle.std.proofs.Common.{◌≡◌, ◌<◌, ℕ, List, [], ◌∷◌, ◌++◌, sym, subst, append_assoc}
use Rattle.fed_stamp.specs.Stamp.{StampValue}
use Rattle.fed_lattice.specs.Sets.{Has}
use Rattle.fed_lattice.specs.SetLaws.{Has-last, Has-right}
use Rattle.fed_model.specs.declared.askers.Who.{Who}
use Rattle.fed_model.specs.declared.commands.Command.{Command}
use Rattle.fed_model.specs.declared.replies.Reply.{Reply}
use Rattle.fed_model.specs.Body.{Body}
use Rattle.fed_model.specs.declared.taken.Taken.{Taken}
use Rattle.fed_model.specs.Answer.{Answer.Replies, answer}
use Rattle.fed_model.specs.declared.events.Event.{Event}
use Rattle.fed_model.specs.declared.events.Event.TheVariants.{Do, Ship, Take}
use Rattle.fed_model.specs.declared.outcomes.Outcome.TheVariants as Outcome
use Rattle.fed_model.specs.Run.{World, does, run, step, with_operation}
use Rattle.fed_theory.proofs.RunSteps.{do_here}
use Rattle.fed_theory.proofs.Promises.{shipped_adds}
use Rattle.fed_theory.proofs.Runs.{put_same, run-push, run_grows}

-- the site has the operation as soon as it is done
done_now : (n : ℕ) (w : World) (site : ℕ) (who : Who) (command : Command) (reply : Reply) (new : StampValue × Body) → site < n → answer (w.site site).set site who command ≡ Replies reply (Some new)
    → Has ((step n w (Do site who command)).after.site site).set new
done_now n w site who command reply new small e =
    subst (λ s. Has (s.after.site site).set new) (sym (do_here n w site who command small))
    (subst (λ a. Has ((does w site a).after.site site).set new) (sym e)
    (subst (λ s. Has s.set new) (sym (put_same w.site site (with_operation (w.site site) new))) (Has-last (w.site site).set new)))

pub done_kept : (n : ℕ) (early late : List Event) (site : ℕ) (who : Who) (command : Command) (reply : Reply) (new : StampValue × Body) → site < n → answer ((run n early).site site).set site who command ≡ Replies reply (Some new)
    → Has ((run n (early ++ Do site who command ∷ late)).site site).set new
done_kept n early late site who command reply new small e =
    let asked : List Event = early ++ Do site who command ∷ [] in
    let now : Has ((run n asked).site site).set new = subst (λ w. Has (w.site site).set new) (sym (run-push n early (Do site who command))) (done_now n (run n early) site who command reply new small e) in
    let whole : asked ++ late ≡ early ++ Do site who command ∷ late = simp append_assoc in
    subst (λ l. Has ((run n l).site site).set new) whole (run_grows n asked late site new now)

pub done_passed : (n : ℕ) (early between late : List Event) (site to taker k : ℕ) (who : Who) (command : Command) (reply : Reply) (new : StampValue × Body) (taken : Taken) → site < n
    → answer ((run n early).site site).set site who command ≡ Replies reply (Some new) → (step n (run n (early ++ Do site who command ∷ between)) (Ship site to)).outcome ≡ Outcome.Packet k
    → (step n (run n ((early ++ Do site who command ∷ between) ++ Ship site to ∷ late)) (Take taker k)).outcome ≡ Outcome.Taken taken
    → Has ((step n (run n ((early ++ Do site who command ∷ between) ++ Ship site to ∷ late)) (Take taker k)).after.site taker).set new
done_passed n early between late site to taker k who command reply new taken small e ships takes =
    let sent : List Event = early ++ Do site who command ∷ between in
    let had : Has ((run n sent).site site).set new = done_kept n early between site who command reply new small e in
    subst (λ xs. Has xs new) (sym (shipped_adds n sent late site to taker k taken ships takes))
    (Has-right ((run n (sent ++ Ship site to ∷ late)).site taker).set ((run n sent).site site).set new had)
