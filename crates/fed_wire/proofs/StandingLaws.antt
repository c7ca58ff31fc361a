-- Identifiers that ascend, of which no site gave too many, may stand one after another.
use Rattle.std.specs.List.{AllByRecursion}
use Rattle.std.specs.List.Sorted.{IsStrictlySortedBy}
use Rattle.std.specs.Map.{keys_of}
use Rattle.std.specs.Ordering.{is_lt}
use Rattle.std.proofs.Common.{◌≡◌, ◌==◌, ◌≤◌, ◌<◌, ◌+◌, ℕ, List, [], ◌∷◌, ◌++◌, Bool, true, cond, refl, sym, ap, subst, arith, append_assoc}
use Rattle.std.proofs.lemmas.Bool.{and_from, lt-ltb, eq-eqb}
use Rattle.fed_stamp.specs.Stamp.{StampValue}
use Rattle.fed_lattice.specs.Latest.{stamp_cmp}
use Rattle.fed_board.specs.Counts.{ids_of}
use Rattle.fed_board.proofs.CountLaws.{ids-push}
use Rattle.fed_wire.specs.Packet.{last_of, follows, may_stand, AllStand}

-- in identifiers that ascend each is above the last before it
above_last : (ks : List StampValue) (id : StampValue) (rest : List StampValue) → IsStrictlySortedBy stamp_cmp (ks ++ id ∷ rest) → follows (last_of ks) id ≡ true
unfolding IsStrictlySortedBy
above_last [] id rest s = refl
above_last (k ∷ []) id rest s = ap is_lt s.0.0
above_last (k ∷ l ∷ ks) id rest s = above_last (l ∷ ks) id rest s.1

own_name : (id : StampValue) → ◌≡◌ {A = ℕ} (cond (id.site == id.site) 1 0) 1
own_name id = ap (λ b. cond b 1 0) (eq-eqb id.site id.site refl)

-- there is one identifier more of its site with it
fewer_before : (ks : List StampValue) (id : StampValue) (rest : List StampValue) → ids_of id.site ks < ids_of id.site (ks ++ id ∷ rest)
fewer_before [] id rest =
    let p : ids_of id.site (id ∷ rest) ≡ cond (id.site == id.site) 1 0 + ids_of id.site rest = ids-push id.site id rest in
    let q : ◌≡◌ {A = ℕ} (cond (id.site == id.site) 1 0) 1 = own_name id in
    omega (arith, p, q)
fewer_before (k ∷ ks) id rest =
    let p : ids_of id.site (k ∷ ks) ≡ cond (k.site == id.site) 1 0 + ids_of id.site ks = ids-push id.site k ks in
    let q : ids_of id.site (k ∷ ks ++ id ∷ rest) ≡ cond (k.site == id.site) 1 0 + ids_of id.site (ks ++ id ∷ rest) = ids-push id.site k (ks ++ id ∷ rest) in
    let r : ids_of id.site ks < ids_of id.site (ks ++ id ∷ rest) = fewer_before ks id rest in
    omega (arith, p, q, r)

admitted : (room : ℕ) (ks : List StampValue) (id : StampValue) (rest : List StampValue) → IsStrictlySortedBy stamp_cmp (ks ++ id ∷ rest)
    → ((site : ℕ) → ids_of site (ks ++ id ∷ rest) ≤ room) → may_stand room ks id ≡ true
admitted room ks id rest s few = and_from _ _ (above_last ks id rest s)
    (lt-ltb (ids_of id.site ks) room (let a : ids_of id.site ks < ids_of id.site (ks ++ id ∷ rest) = fewer_before ks id rest in let b : ids_of id.site (ks ++ id ∷ rest) ≤ room = few id.site in omega arith))

keys-append : {X : Type 0} (xs ys : List (StampValue × X)) → keys_of (xs ++ ys) ≡ keys_of xs ++ keys_of ys
keys-append [] ys = refl
keys-append (x ∷ xs) ys = ap (λ l. x.0 ∷ l) (keys-append xs ys)

-- the test of each entry beside its identifier
pub all_stand : {X : Type 0} (room : ℕ) (test : StampValue × X → Bool) (stands : List (StampValue × X) → StampValue × X → Bool)
    → ((before : List (StampValue × X)) (e : StampValue × X) → may_stand room (keys_of before) e.0 ≡ true → test e ≡ true → stands before e ≡ true)
    → (before es : List (StampValue × X)) → IsStrictlySortedBy stamp_cmp (keys_of (before ++ es)) → ((site : ℕ) → ids_of site (keys_of (before ++ es)) ≤ room)
    → AllByRecursion (λ e. test e ≡ true) es → AllStand stands before es
all_stand room test stands both before [] s few t = tt
all_stand {X} room test stands both before (e ∷ es) s few t =
    let split : keys_of (before ++ e ∷ es) ≡ keys_of before ++ e.0 ∷ keys_of es = keys-append before (e ∷ es) in
    let more : before ++ e ∷ es ≡ (before ++ e ∷ []) ++ es = sym (append_assoc before (e ∷ []) es) in (
      both before e (admitted room (keys_of before) e.0 (keys_of es) (subst (IsStrictlySortedBy stamp_cmp) split s) (λ site. subst (λ l. ids_of site l ≤ room) split (few site))) t.0,
      all_stand room test stands both (before ++ e ∷ []) es (subst (λ (l : List (StampValue × X)). IsStrictlySortedBy stamp_cmp (keys_of l)) more s)
          (λ site. subst (λ (l : List (StampValue × X)). ids_of site (keys_of l) ≤ room) more (few site)) t.1,
    )
