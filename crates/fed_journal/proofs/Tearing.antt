-- What a file in memory has on its disk.
use Rattle.std.proofs.Common.{◌≡◌, ◌⊎◌, ◌∙◌, refl, sym, ap, subst, inl, inr, ⊎_elim, ℕ, suc, zero, ◌+◌, ◌-◌, ◌==◌, ◌≤◌, ◌<◌, false, max, List, [], ◌∷◌, ◌++◌, length, take, drop, reverse, replicate, Option, MatchOption, Some, None, Ok, Err, arith, append_assoc, Vec}
use Rattle.std.proofs.Math.Logic.{∥∥₁_map}
use Rattle.std.proofs.lemmas.List.{length-append, length-take, length-drop, length-replicate, take_all, take-take, take-append-le, take-append-drop, drop_at, drop_all, drop-drop, reverse-append, take_rest}
use Rattle.std.proofs.lemmas.Bool.Decides.{nat_tests}
use Rattle.std.proofs.lemmas.Option.{same_Some}
use Rattle.std.specs.declared.alloc.Global.{Global}
use Rattle.std.specs.declared.io.Error.{Error}
use Rattle.fed_journal.specs.Device.{Holds, Passes, Shortened, Torn}
use Rattle.fed_journal.specs.Calls.{AnsweredCall, CallAnswer, IsCached, IsTornBy, errors_by, left_by, left_since, overlaid, seen_after, seen_by}
use Rattle.fed_journal.specs.declared.calls.Call.{Call}
use Rattle.fed_journal.specs.declared.calls.Call.TheVariants.{Wrote, Resized, Flushed, Replaced}

-- ---- a file with other bytes at an offset

module _ (at : ℕ) (bytes file : List ℕ) (within : at ≤ length file) where
  ends : length (take at file ++ bytes) ≡ at + length bytes
  ends = omega (arith, length-append (take at file) bytes, length-take at file, within)

  split : overlaid at bytes file ≡ (take at file ++ bytes) ++ drop (at + length bytes) file
  split = sym (append_assoc (take at file) bytes (drop (at + length bytes) file))

  pub length-overlaid : length (overlaid at bytes file) ≡ max (length file) (at + length bytes)
  length-overlaid =
      omega (arith, ap length split, length-append (take at file ++ bytes) (drop (at + length bytes) file), ends, length-drop (at + length bytes) file)

  pub front-overlaid : (n : ℕ) → n ≤ at → take n (overlaid at bytes file) ≡ take n file
  front-overlaid n le =
      take-append-le n (take at file) (bytes ++ drop (at + length bytes) file) (omega (arith, length-take at file, within, le)) ∙ take-take n at file le

  pub back-overlaid : drop (at + length bytes) (overlaid at bytes file) ≡ drop (at + length bytes) file
  back-overlaid = ap (λ (l : List ℕ). drop (at + length bytes) l) split ∙ drop_at (take at file ++ bytes) (drop (at + length bytes) file) (at + length bytes) ends

  pub torn_whole : Torn at bytes file (overlaid at bytes file)
  torn_whole = record {
    front = front-overlaid at (omega arith);
    back = back-overlaid;
    at_least = omega (arith, length-overlaid);
    at_most = omega (arith, length-overlaid);
    single = λ one. inr refl;
  }

-- nothing of a write
pub torn_none : (at : ℕ) (bytes file : List ℕ) → Torn at bytes file file
torn_none at bytes file = record {
  front = refl;
  back = refl;
  at_least = omega arith;
  at_most = omega arith;
  single = λ one. inl refl;
}

-- a file with nothing else at an offset
overlaid-nil : (at : ℕ) (file : List ℕ) → overlaid at [] file ≡ file
overlaid-nil at file = ap (λ (n : ℕ). take at file ++ drop n file) (omega arith) ∙ take-append-drop at file

-- so many bytes of a write, from its front
module _ (at k : ℕ) (bytes part file : List ℕ) (within : at ≤ length file) (is : part ≡ take k bytes) (some : k ≤ length bytes) where
  part_len : length part ≡ k
  part_len = omega (arith, ap length is, length-take k bytes, some)

  back : drop (at + length bytes) (overlaid at part file) ≡ drop (at + length bytes) file
  back =
      let m = length bytes - k in
      let sum : at + length part + m ≡ at + length bytes = omega (arith, part_len, some) in
      subst (λ (n : ℕ). drop n (overlaid at part file) ≡ drop n file) sum
      (sym (drop-drop m (at + length part) (overlaid at part file)) ∙ ap (λ (l : List ℕ). drop m l) (back-overlaid at part file within) ∙ drop-drop m (at + length part) file)

  single : (j : ℕ) → j ≡ k → length bytes ≡ 1 → (overlaid at part file ≡ file) ⊎ Holds at bytes file (overlaid at part file)
  single zero j one =
      let none : part ≡ [] = is ∙ ap (λ (n : ℕ). take n bytes) (sym j) in
      inl (ap (λ (l : List ℕ). overlaid at l file) none ∙ overlaid-nil at file)
  single (suc i) j one = inr (ap (λ (l : List ℕ). overlaid at l file) (is ∙ take_all k bytes (omega (arith, j, one))))

  pub torn_front : (new : List ℕ) → new ≡ overlaid at part file → Torn at bytes file new
  torn_front new e = subst (λ (l : List ℕ). Torn at bytes file l) (sym e) record {
    front = front-overlaid at part file within at (omega arith);
    back = back;
    at_least = omega (arith, length-overlaid at part file within);
    at_most = omega (arith, length-overlaid at part file within, part_len, some);
    single = single k refl;
  }

-- so many bytes of a write, from its back, in a file that may have been made longer for them
module _ (at m : ℕ) (bytes part file longer : List ℕ) (is : part ≡ drop m bytes) (some : m < length bytes) (within : at ≤ length file)
    (front : take at longer ≡ take at file) (back : drop (at + length bytes) longer ≡ drop (at + length bytes) file) (size : length longer ≡ max (length file) (at + m)) (same : m ≡ 0 → longer ≡ file) where
  rest_len : length part ≡ length bytes - m
  rest_len = ap length is ∙ length-drop m bytes

  ends_at : (at + m) + length part ≡ at + length bytes
  ends_at = omega (arith, rest_len, some)

  torn_longer : Torn at bytes file (overlaid (at + m) part longer)
  torn_longer =
      let room : at + m ≤ length longer = omega (arith, size) in
      record {
        front = front-overlaid (at + m) part longer room at (omega arith) ∙ front;
        back = subst (λ (n : ℕ). drop n (overlaid (at + m) part longer) ≡ drop n longer) ends_at (back-overlaid (at + m) part longer room) ∙ back;
        at_least = omega (arith, length-overlaid (at + m) part longer room, size);
        at_most = omega (arith, length-overlaid (at + m) part longer room, size, ends_at, some);
        single = λ one.
            let none : m ≡ 0 = omega (arith, one, some) in
            let all : part ≡ bytes = is ∙ ap (λ (n : ℕ). drop n bytes) none in
            inr (ap (λ (n : ℕ). overlaid n part longer) (omega (arith, none)) ∙ ap (λ (l : List ℕ). overlaid at l longer) all ∙ ap (λ (l : List ℕ). overlaid at bytes l) (same none));
      }

pub torn_back : (at m : ℕ) (bytes part file new : List ℕ) → part ≡ drop m bytes → m < length bytes → at + m ≤ length file → new ≡ overlaid (at + m) part file → Torn at bytes file new
torn_back at m bytes part file new is some room e =
    subst (λ (l : List ℕ). Torn at bytes file l) (sym e) (torn_longer at m bytes part file file is some (omega (arith, room)) refl refl (omega (arith, room)) (λ none. refl))

pub torn_beyond : (at m k : ℕ) (bytes part file longer new : List ℕ) → part ≡ drop m bytes → m < length bytes → at ≤ length file → length file < at + m → length file + k ≡ at + m → longer ≡ file ++ replicate k 0
    → new ≡ overlaid (at + m) part longer → Torn at bytes file new
torn_beyond at m k bytes part file longer new is some within past sum padded e =
    let size : length longer ≡ at + m = omega (arith, ap length padded, length-append file (replicate k 0), length-replicate {A = ℕ} k 0, sum) in
    subst (λ (l : List ℕ). Torn at bytes file l) (sym e) (torn_longer at m bytes part file longer is some within
    (ap (λ (l : List ℕ). take at l) padded ∙ take-append-le at file (replicate k 0) within)
    (drop_all (at + length bytes) longer (omega (arith, size, some)) ∙ sym (drop_all (at + length bytes) file (omega (arith, past, some))))
    (omega (arith, size, past)) (λ none. absurd (omega (arith, none, past, within))))

-- some of a write is left behind its front
pub some_left : (bytes : List ℕ) (m : ℕ) → (length (take (length bytes - m) (drop m bytes)) == 0) ≡ false → m < length bytes
some_left bytes m some =
    let size : length (take (length bytes - m) (drop m bytes)) ≡ length bytes - m = ap length (take_rest bytes m) ∙ length-drop m bytes in
    let test : (length bytes - m == 0) ≡ false = subst (λ (n : ℕ). (n == 0) ≡ false) size some in
    grind (arith, nat_tests)

-- ---- one call more

module _ (calls new : List AnsweredCall) where
  noted : (event : AnsweredCall) → new ≡ calls ++ event ∷ [] → reverse new ≡ event ∷ reverse calls
  noted event is = ap reverse is ∙ reverse-append calls (event ∷ [])

  -- the moments go on
  pub noted_time : (event : AnsweredCall) → new ≡ calls ++ event ∷ [] → Passes (length (reverse calls)) (length (reverse new)) (λ t c. left_since (reverse calls) t c) (λ t c. left_since (reverse new) t c) (λ c. left_by (reverse new) c)
  noted_time event is =
      subst (λ (events : List AnsweredCall). Passes (length (reverse calls)) (length events) (λ t c. left_since (reverse calls) t c) (λ t c. left_since events t c) (λ c. left_by events c)) (sym (noted event is)) record {
        later = omega arith;
        no_more = λ t c le since. ⊎_elim (λ left. inr left) (λ before. inl before.1) since;
        no_less = λ t c le before. inr (le, before);
      }

  module _ (at : ℕ) (bytes : Vec ℕ Global) (answer : CallAnswer) (is : new ≡ calls ++ (Wrote at bytes, answer) ∷ []) (disk : List ℕ) where
    wrote : (c : List ℕ) → left_by (reverse calls) disk → Torn at bytes.items disk c → left_by (reverse new) c
    wrote c left torn =
        subst (λ (events : List AnsweredCall). left_by events c) (sym (noted (Wrote at bytes, answer) is))
        (λ just. subst (λ (f : List ℕ). Torn at bytes.items f c) (just disk left) torn)

    pub wrote_disk : (c : List ℕ) → ∥ left_by (reverse calls) disk ∥₁ → Torn at bytes.items disk c → ∥ left_by (reverse new) c ∥₁
    wrote_disk c left torn = ∥∥₁_map left (λ l. wrote c l torn)

    pub wrote_cached : (old now : List ℕ) (change : Option Call) → at ≤ length old → old ≡ seen_by (reverse calls) → now ≡ overlaid at bytes.items old → change ≡ Some (Wrote at bytes) → ∥ left_by (reverse calls) disk ∥₁
        → ∥ IsCached (reverse new) disk now change ∥₁
    wrote_cached old now change room seen over last left = ∥∥₁_map left (λ l. record {
      whole = subst (λ (events : List AnsweredCall). left_by events now) (sym (noted (Wrote at bytes, answer) is))
          (λ just. subst (λ (f : List ℕ). Torn at bytes.items f now) seen (subst (λ (n : List ℕ). Torn at bytes.items old n) (sym over) (torn_whole at bytes.items old room)));
      part = λ call c which torn. wrote c l (subst (λ (k : Call). IsTornBy k disk c) (same_Some _ _ (sym which ∙ last)) torn);
    })

  module _ (len : ℕ) (answer : CallAnswer) (is : new ≡ calls ++ (Resized len, answer) ∷ []) (room : len ≤ length (seen_by (reverse calls))) (disk : List ℕ) where
    resized : (c : List ℕ) → left_by (reverse calls) disk → (len ≤ length disk → Shortened len disk c) → left_by (reverse new) c
    resized c left short =
        subst (λ (events : List AnsweredCall). left_by events c) (sym (noted (Resized len, answer) is))
        (λ just. let same = just disk left in subst (λ (f : List ℕ). Shortened len f c) same (short (omega (arith, room, ap length same))))

    pub resized_disk : (c : List ℕ) → ∥ left_by (reverse calls) disk ∥₁ → (len ≤ length disk → Shortened len disk c) → ∥ left_by (reverse new) c ∥₁
    resized_disk c left short = ∥∥₁_map left (λ l. resized c l short)

    pub resized_cached : (old now : List ℕ) (change : Option Call) → old ≡ seen_by (reverse calls) → now ≡ take len old → change ≡ Some (Resized len) → ∥ left_by (reverse calls) disk ∥₁
        → ∥ IsCached (reverse new) disk now change ∥₁
    resized_cached old now change seen cut last left = ∥∥₁_map left (λ l. record {
      whole = subst (λ (events : List AnsweredCall). left_by events now) (sym (noted (Resized len, answer) is)) (λ just. shortest);
      part = λ call c which torn. resized c l (subst (λ (k : Call). IsTornBy k disk c) (same_Some _ _ (sym which ∙ last)) torn);
    })
      where
        size : length now ≡ len
        size = omega (arith, ap length cut, length-take len old, ap length seen, room)

        shortest : Shortened len (seen_by (reverse calls)) now
        shortest = record {
          at_least = omega (arith, size);
          front = ap (λ (n : ℕ). take n (seen_by (reverse calls))) size ∙ ap (λ (l : List ℕ). take len l) (sym seen) ∙ sym cut;
        }

  -- a cut that isn't done
  pub uncut : (len : ℕ) (disk : List ℕ) → len ≤ length disk → Shortened len disk disk
  uncut len disk le = record { at_least = le; front = take_all (length disk) disk (omega arith) }

  -- a sync that failed, of which the last change may be left torn
  unsynced_disk : (error : Error) (disk bytes c : List ℕ) (change : Option Call) (call : Call) → new ≡ calls ++ (Flushed, Err error) ∷ [] → ∥ IsCached (reverse calls) disk bytes change ∥₁ → change ≡ Some call → IsTornBy call disk c
      → ∥ left_by (reverse new) c ∥₁
  unsynced_disk error disk bytes c change call is cached which torn =
      ∥∥₁_map cached (λ h. subst (λ (events : List AnsweredCall). left_by events c) (sym (noted (Flushed, Err error) is)) (h.part call c which torn))

  still_disk : (error : Error) (disk c : List ℕ) → new ≡ calls ++ (Flushed, Err error) ∷ [] → ∥ left_by (reverse calls) disk ∥₁ → c ≡ disk → ∥ left_by (reverse new) c ∥₁
  still_disk error disk c is left same =
      ∥∥₁_map left (λ l. subst (λ (events : List AnsweredCall). left_by events c) (sym (noted (Flushed, Err error) is)) (subst (λ (f : List ℕ). left_by (reverse calls) f) (sym same) l))

  pub unsynced : (error : Error) (disk bytes c : List ℕ) (change : Option Call) → new ≡ calls ++ (Flushed, Err error) ∷ [] → ∥ left_by (reverse calls) disk ∥₁ → ∥ IsCached (reverse calls) disk bytes change ∥₁
      → MatchOption change (c ≡ disk) (λ call. IsTornBy call disk c) → ∥ left_by (reverse new) c ∥₁
  unsynced error disk bytes c None is left cached same = still_disk error disk c is left same
  unsynced error disk bytes c (Some call) is left cached torn = unsynced_disk error disk bytes c (Some call) call is cached refl torn

  -- a replacement that failed, of which the disk has the old file or the new one
  pub unreplaced : (bytes : Vec ℕ Global) (error : Error) (disk c : List ℕ) → new ≡ calls ++ (Replaced bytes, Err error) ∷ [] → ∥ left_by (reverse calls) disk ∥₁ → (c ≡ disk) ⊎ (c ≡ bytes.items) → ∥ left_by (reverse new) c ∥₁
  unreplaced bytes error disk c is left which =
      ∥∥₁_map left (λ l. subst (λ (events : List AnsweredCall). left_by events c) (sym (noted (Replaced bytes, Err error) is))
      (⊎_elim (λ old. inl (subst (λ (f : List ℕ). left_by (reverse calls) f) (sym old) l)) (λ fresh. inr fresh) which))

  -- what is seen and failed behind a call that succeeded
  pub same_after : (call : Call) (old now : List ℕ) → new ≡ calls ++ (call, Ok tt) ∷ [] → old ≡ seen_by (reverse calls) → now ≡ seen_after call old → now ≡ seen_by (reverse new)
  same_after call old now is seen after = after ∙ ap (λ (f : List ℕ). seen_after call f) seen ∙ sym (ap seen_by (noted (call, Ok tt) is))

  pub whole_after : (call : Call) → new ≡ calls ++ (call, Ok tt) ∷ [] → errors_by (reverse calls) ≡ [] → errors_by (reverse new) ≡ []
  whole_after call is whole = ap errors_by (noted (call, Ok tt) is) ∙ whole

  -- a sync that succeeded
  module _ (disk bytes now : List ℕ) (change : Option Call) (is : new ≡ calls ++ (Flushed, Ok tt) ∷ []) (seen : bytes ≡ seen_by (reverse calls)) (same : now ≡ bytes) (cached : ∥ IsCached (reverse calls) disk bytes change ∥₁) where
    pub synced : (c : List ℕ) → c ≡ bytes → IsCached (reverse calls) disk bytes change → left_by (reverse new) c
    synced c e h =
        subst (λ (events : List AnsweredCall). left_by events c) (sym (noted (Flushed, Ok tt) is))
        (subst (λ (f : List ℕ). left_by (reverse calls) f) (sym e) h.whole, e ∙ seen)

    pub synced_disk : ∥ left_by (reverse new) now ∥₁
    synced_disk = ∥∥₁_map cached (synced now same)

    pub synced_cached : ∥ IsCached (reverse new) now bytes None ∥₁
    synced_cached = ∥∥₁_map cached (λ h. record { whole = synced bytes refl h; part = λ call c which torn. absurd (none_some which) })
      where
        none_some : {x : Call} → None ≡ Some x → ⊥
        none_some e = cc
