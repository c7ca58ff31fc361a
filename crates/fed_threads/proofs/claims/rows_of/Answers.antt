use Rattle.std.proofs.Common.{◌≡◌, ◌<◌, ◌++◌, ◌∷◌, [], List, length, get_or, sym, ap, subst, ◌∙◌, arith, refl}
use Rattle.std.proofs.lemmas.List.{length-map}
use Rattle.std.specs.Global.{Vec}
use Rattle.fed_threads.specs.declared.claims.Claimant.{Claimant}
use Rattle.fed_threads.specs.declared.journal.Entry.{Entry}
use Rattle.fed_threads.specs.Claimants.{AreClaimantsOf, rows_of}
use Rattle.fed_threads.specs.Placing.{entries_of, claims_of}
use Rattle.fed_threads.proofs.Rows.{items_are}
use Rattle.fed_threads.proofs.Claimants.{with_row}
use Rattle.fed_threads.proofs.claims.rows_of.Goals as goal

map_more : (xs : List (Vec Claimant)) (v : Vec Claimant) → rows_of (xs ++ v ∷ []) ≡ rows_of xs ++ v.items ∷ []
map_more [] v = refl
map_more (x ∷ xs) v = ap (λ (r : List (List Claimant)). x.items ∷ r) (map_more xs v)

pub loop-site-preserved : goal.loop-site-preserved
loop-site-preserved c =
    let journals = entries_of c.args.journals.now in
    let k = c.loop-site.site in
    let within : k < length (entries_of c.args.journals.now) = omega (arith, c.loop-site-test.true, length-map c.args.journals.now (λ (v : Vec Entry). v.items)) in
    let item : get_or (entries_of c.args.journals.now) k [] ≡ c.index-journals-site.result.items =
    items_are c.args.journals.now k c.index-journals-site.result c.loop-site-test.true c.index-journals-site.is in
    let row : AreClaimantsOf (claims_of c.args.seats.now) k c.len.result c.in_ok-row.row.items = c.in_ok-row.ensures in
    let count : c.len.result ≡ length (get_or (entries_of c.args.journals.now) k []) =
    c.len.ensures ∙ (c.index-journals-site.result.ok.0 ∙ ap (λ (x : List Entry). length x) (sym item)) in
    rw (c.in_ok-push.ensures.items, map_more)
    (with_row journals (claims_of c.args.seats.now) (rows_of c.loop-site.rows.items) k c.in_ok-row.row.items within c.loop-site.invariant
    (subst (λ n. AreClaimantsOf (claims_of c.args.seats.now) k n c.in_ok-row.row.items) count row))
