use Rattle.std.specs.Global.{Vec}
use Rattle.std.proofs.Common.{◌≡◌, ◌<◌, ◌≤◌, ℕ, length, slice_index, true, false, sym, subst, ap, ◌∙◌}
use Rattle.std.proofs.lemmas.List.{length-map}
use Rattle.fed_threads.specs.declared.journal.Entry.{Entry}
use Rattle.fed_threads.specs.Placing.{entries_of}
use Rattle.fed_threads.specs.Settle.{IsWhole}
use Rattle.fed_threads.proofs.settling.settle_in.Goals as goal

pub returns-then-not-has_all-clause-err : goal.returns-then-not-has_all-clause-err
returns-then-not-has_all-clause-err c =
    let o = c.in_ok-order.order in
    let e = c.in_ok-order.ensures in
    let d = c.deref.ensures.value ∙ e.placed in
    let n : c.deref-then-not-has_all.result.now ≡ o.placed.items = c.deref-then-not-has_all.ensures.value in
    let len : length c.deref-then-not-has_all.result.now ≡ length (entries_of c.args.journals.now) =
    ap length n ∙ e.count ∙ sym (length-map c.args.journals.now (λ (v : Vec Entry). v.items)) in (
      c.in_ok-claimants.ensures.claimed,
      record {
        sites = o.sites.items;
        placing = e.placing;
        part = λ whole.
            let all : c.has_all.result ≡ true = c.has_all.ensures.1 (subst (IsWhole (entries_of c.args.journals.now)) (sym d) whole) in
            let none : c.has_all.result ≡ false = c.if-not-has_all.true in cc;
        numbers = λ s h. c.numbers_of_all.ensures.numbers s (subst (λ (k : ℕ). s < k) (sym len) h) ∙ ap (λ xs. slice_index xs s) (n ∙ e.placed);
        others = λ s h. c.numbers_of_all.ensures.others s (subst (λ (k : ℕ). k ≤ s) (sym len) h);
      },
    )
