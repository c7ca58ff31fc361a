use Rattle.std.proofs.Common.{◌≡◌, ◌≤◌, length, refl, arith}
use Rattle.std.proofs.lemmas.List.{length-map}
use Rattle.std.specs.Global.{Vec}
use Rattle.fed_threads.specs.declared.journal.Entry.{Entry}
use Rattle.fed_threads.specs.Placing.{entries_of}
use Rattle.fed_threads.specs.Settle.{claims_in}
use Rattle.fed_threads.proofs.Fits.{all_keep, without_memory, not_settled}
use Rattle.fed_threads.proofs.federation.Federation.close.Goals as goal

pub returns-in_err-journals-clause-fault : goal.returns-in_err-journals-clause-fault
returns-in_err-journals-clause-fault g c =
    without_memory c.from_residual.result (length c.args.self.roster) c.args.seats.items c.from_residual.ensures.1

pub returns-in_err-claims-clause-fault : goal.returns-in_err-claims-clause-fault
returns-in_err-claims-clause-fault g c =
    without_memory c.from_residual-in_err-claims.result (length c.args.self.roster) c.args.seats.items c.from_residual-in_err-claims.ensures.1

pub returns-in_err-world-clause-fault : goal.returns-in_err-world-clause-fault
returns-in_err-world-clause-fault g c =
    let journals = entries_of c.in_ok-journals.journals.items in
    let many : length (entries_of c.in_ok-journals.journals.items) ≡ length c.args.self.roster =
    omega (arith, length-map c.in_ok-journals.journals.items (λ (v : Vec Entry). v.items)) in
    let fit = rw (c.deref.ensures.value, c.deref-2.ensures.value) at c.in_default.ensures in
    let has = rw (c.deref-3.ensures.value, c.deref-4.ensures.value, c.in_ok-claims.ensures) at c.in_err-world.ensures.err in
    not_settled c.from_residual-in_err-world.result (length c.args.self.roster) journals c.args.seats.items c.in_err-world.field-0.0 many fit has
    c.from_residual-in_err-world.ensures.1

pub returns-clause-kept : goal.returns-clause-kept
returns-clause-kept g c =
    all_keep (entries_of c.in_ok-journals.journals.items) c.args.seats.items (rw (c.deref.ensures.value, c.deref-2.ensures.value) at c.in_default.ensures)

pub returns-clause-boards : goal.returns-clause-boards
returns-clause-boards g c =
    let journals = entries_of c.in_ok-journals.journals.items in
    let roster : length c.into_parts-roster.result.0 ≡ length c.args.self.roster = rw c.into_parts-roster.ensures.roster refl in
    let few : length (entries_of c.in_ok-journals.journals.items) ≤ 16 =
    omega (arith, c.roster_is_lawful.ensures.at_most, length-map c.in_ok-journals.journals.items (λ (v : Vec Entry). v.items)) in
    let many : c.in_ok-world.world.sites ≡ length (entries_of c.in_ok-journals.journals.items) =
    omega (arith, c.in_ok-world.ensures.sites, length-map c.in_ok-journals.journals.items (λ (v : Vec Entry). v.items)) in
    let settled = rw (c.deref-3.ensures.value, c.deref-4.ensures.value, c.in_ok-claims.ensures) at c.in_ok-world.ensures.ok in
    rw many (c.settled_boards_are_replays.ensures journals (claims_in c.args.seats.items) c.in_ok-world.world.events few settled)
