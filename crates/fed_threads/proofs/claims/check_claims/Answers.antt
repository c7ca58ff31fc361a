use Rattle.std.proofs.Common.{sym, subst}
use Rattle.fed_threads.specs.Claims.{OnceAtMost, OnceAtLeast, FailsFirst}
use Rattle.fed_threads.specs.Placing.{entries_of, claims_of}
use Rattle.fed_threads.specs.Claimants.{rows_of}
use Rattle.fed_threads.proofs.Tables.{once_at_most, once_at_least, first_twice, first_unclaimed}
use Rattle.fed_threads.proofs.claims.check_claims.Goals as goal

pub returns-in-Some-first_claimed-clause-err : goal.returns-in-Some-first_claimed-clause-err
returns-in-Some-first_claimed-clause-err c =
    let journals = entries_of c.args.journals.now in
    let seats = claims_of c.args.seats.now in
    let rows = rows_of c.in_ok-rows.rows.items in
    let found = rw c.as_slice.ensures.value at c.in-Some-first_claimed.ensures in (
      c.in_default.ensures,
      subst (λ n. FailsFirst (OnceAtMost (entries_of c.args.journals.now) (claims_of c.args.seats.now)) n c.in-Some-first_claimed.index) (sym c.site_of.ensures)
          (first_twice journals seats rows c.in_ok-rows.ensures c.in-Some-first_claimed.site c.in-Some-first_claimed.index found),
    )

pub returns-in-Some-first_claimed-2-clause-err : goal.returns-in-Some-first_claimed-2-clause-err
returns-in-Some-first_claimed-2-clause-err c =
    let journals = entries_of c.args.journals.now in
    let seats = claims_of c.args.seats.now in
    let rows = rows_of c.in_ok-rows.rows.items in
    let most = rw c.as_slice.ensures.value at c.in_default-first_claimed.ensures in
    let found = rw c.as_slice-2.ensures.value at c.in-Some-first_claimed-2.ensures in (
      c.in_default.ensures,
      λ site index. once_at_most journals seats rows c.in_ok-rows.ensures site index (most site index),
      subst (λ n. FailsFirst (OnceAtLeast (entries_of c.args.journals.now) (claims_of c.args.seats.now)) n c.in-Some-first_claimed-2.index) (sym c.site_of-in-Some-first_claimed-2.ensures)
          (first_unclaimed journals seats rows c.in_ok-rows.ensures c.in-Some-first_claimed-2.site c.in-Some-first_claimed-2.index found),
    )

pub returns-clause-claimed : goal.returns-clause-claimed
returns-clause-claimed c =
    let journals = entries_of c.args.journals.now in
    let seats = claims_of c.args.seats.now in
    let rows = rows_of c.in_ok-rows.rows.items in
    let most = rw c.as_slice.ensures.value at c.in_default-first_claimed.ensures in
    let least = rw c.as_slice-2.ensures.value at c.in_default-first_claimed-2.ensures in
    record {
      hold = c.in_default.ensures;
      once_at_most = λ site index. once_at_most journals seats rows c.in_ok-rows.ensures site index (most site index);
      once_at_least = λ site index. once_at_least journals seats rows c.in_ok-rows.ensures site index (least site index);
    }
