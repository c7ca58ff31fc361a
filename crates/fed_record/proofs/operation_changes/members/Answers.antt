use Rattle.std.proofs.Common.{◌≡◌, ℕ, ◌<◌, [], ◌∷◌, ◌++◌, Option, Some, None, cond, nat_lt, sym, ap, ◌∙◌}
use Rattle.std.proofs.lemmas.Bool.{lt-ltb}
use Rattle.fed_stamp.specs.SiteSet.{has}
use Rattle.fed_record.proofs.RangeLaws.{filter-range_taken, filter-range_left}
use Rattle.fed_record.proofs.operation_changes.members.Goals as goal
use Rattle.fed_record.proofs.operation_changes.members.Goals.{then-has+in_ok-push, else-has}

-- the site of a number is the number
site_is : (n s : ℕ) (r : Option ℕ) → n < 16 → r ≡ cond (nat_lt n 16) (Some n) None → r ≡ Some s → s ≡ n
site_is n s r h e f = let g : Some s ≡ Some n = sym f ∙ e ∙ ap (λ b. cond b (Some n) None) (lt-ltb n 16 h) in cc

pub loop-number-preserved : goal.loop-number-preserved
loop-number-preserved c =
    let p = has c.args.sites.now in
    let same : c.unwrap-site.result ≡ c.loop-number.number = site_is _ _ _ c.loop-number-test.true c.new.ensures c.unwrap-site.ensures in
    elim c.if-has.branch [
      | then-has+in_ok-push w ↦ filter-range_taken p c.loop-number.number _ _ c.loop-number.invariant (sym (w.if-has.ensures ∙ ap p same))
          (ap (λ v. v.items) w.members-is ∙ w.in_ok-push.ensures.items ∙ ap (λ (s : ℕ). c.loop-number.members.items ++ s ∷ []) same)
      | else-has w ↦ ap (λ v. v.items) w.members-is ∙ filter-range_left p c.loop-number.number _ c.loop-number.invariant (sym (w.if-has.ensures ∙ ap p same))
    ]
