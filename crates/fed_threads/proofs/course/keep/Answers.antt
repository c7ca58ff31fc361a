use Rattle.std.proofs.Common.{◌≡◌, ◌+◌, List, ℕ, length, get_or, ap, sym, ◌∙◌, ◌++◌, ◌∷◌, [], arith}
use Rattle.fed_threads.specs.Course.{numbers_of, placed_in}
use Rattle.fed_threads.proofs.Numbers.{index_is, placed_more, indexed_still, indexed_more, indexed_shipped, row}
use Rattle.fed_threads.proofs.course.keep.Goals as goal

pub returns-in_err-push-clause-indexed : goal.returns-in_err-push-clause-indexed
returns-in_err-push-clause-indexed c = λ old.
    indexed_still c.args.numbers.now c.args.site c.index-numbers-site-in-Ship.result c.push.new.self c.requires
    c.args.ships.now.items c.reserve.new.self.items old c.in_ok-reserve.ensures.items c.in_err-push.ensures.items

pub returns-in_err-push-2-clause-indexed : goal.returns-in_err-push-2-clause-indexed
returns-in_err-push-2-clause-indexed c = λ old.
    indexed_still c.args.numbers.now c.args.site c.index-numbers-site-in_default.result c.push-in_default.new.self c.requires
    c.args.ships.now.items c.reserve.new.self.items old c.in_ok-reserve.ensures.items c.in_err-push-2.ensures.items

pub returns-in_ok-push-clause-placed : goal.returns-in_ok-push-clause-placed
returns-in_ok-push-clause-placed c =
    placed_more c.args.numbers.now c.args.site c.index-numbers-site-in-Ship.result c.push.new.self c.requires (c.len.result + 1) c.in_ok-push.ensures.items

pub returns-in_ok-push-clause-ships : goal.returns-in_ok-push-clause-ships
returns-in_ok-push-clause-ships c =
    let held = get_or c.args.numbers.now c.args.site c.index-numbers-site.result in
    let place : c.len-index.result ≡ get_or (placed_in (numbers_of c.args.numbers.now)) c.args.site 0 =
    c.len-index.ensures ∙ held.ok.0 ∙ sym (index_is c.args.numbers.now c.args.site c.index-numbers-site.result c.push.new.self c.requires) in
    rw (c.in-Ship.is) (c.push_reserved.ensures.items ∙ (λ i. c.in_ok-reserve.ensures.items i ++ (c.args.site, place i) ∷ []))

pub returns-in_ok-push-clause-indexed : goal.returns-in_ok-push-clause-indexed
returns-in_ok-push-clause-indexed c = λ old.
    let held = get_or c.args.numbers.now c.args.site c.index-numbers-site.result in
    let same : length held.items ≡ length (get_or c.args.numbers.now c.args.site c.index-numbers-site-in-Ship.result).items =
    sym (ap length (row c.args.numbers.now c.args.site c.index-numbers-site.result c.requires)) ∙ ap length (row c.args.numbers.now c.args.site c.index-numbers-site-in-Ship.result c.requires) in
    indexed_shipped c.args.numbers.now c.args.site c.index-numbers-site-in-Ship.result c.push.new.self c.requires
    c.args.ships.now.items c.push_reserved.new.self.items old c.len-index.result (c.len.result + 1) (c.len-index.ensures ∙ held.ok.0 ∙ same)
    (omega (arith, c.len.ensures, c.in_ok-reserve.ensures.len, c.args.ships.now.ok.0))
    (c.push_reserved.ensures.items ∙ ap (λ (xs : List (ℕ × ℕ)). xs ++ (c.args.site, c.len-index.result) ∷ []) c.in_ok-reserve.ensures.items) c.in_ok-push.ensures.items

pub returns-in_ok-push-2-clause-placed : goal.returns-in_ok-push-2-clause-placed
returns-in_ok-push-2-clause-placed c =
    placed_more c.args.numbers.now c.args.site c.index-numbers-site-in_default.result c.push-in_default.new.self c.requires 0 c.in_ok-push-2.ensures.items

pub returns-in_ok-push-2-clause-indexed : goal.returns-in_ok-push-2-clause-indexed
returns-in_ok-push-2-clause-indexed c = λ old.
    indexed_more c.args.numbers.now c.args.site c.index-numbers-site-in_default.result c.push-in_default.new.self c.requires
    c.args.ships.now.items c.reserve.new.self.items old c.in_ok-reserve.ensures.items c.in_ok-push-2.ensures.items
