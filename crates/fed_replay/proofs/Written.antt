-- What is known to be written, step by step.
use Rattle.std.proofs.Common.{◌≡◌, ℕ, List, Option, Some, None, Result, Ok, Err, subst, refl, sym, ◌∙◌, inl, inr, true}
use Rattle.std.proofs.KnownBytes.{Appends-kept, Appends-nil, Keeps-refl, Keeps-trans}
use Rattle.std.specs.Prelude.{◌⊎◌, is_ok, OnErr, OnOk, IfSome, IsErrOf}
use Rattle.std.specs.Io.KnownBytes.{Keeps}
use Rattle.fed_replay.specs.Ends.{EndsAs, HasSaid}
use Rattle.fed_replay.specs.Said.{Said}
use Rattle.fed_replay.specs.declared.fault.ReplayFault.{ReplayFault}
use Rattle.fed_replay.specs.declared.fault.ReplayFault.TheVariants.{Line, Read, Write, NoMemory}

-- what holds at `Ok`, where it is known to be so
pub OnOk-from_is_ok : {T E P : Type 0} (r : Result T E) → is_ok r ≡ true → OnOk r P → P
OnOk-from_is_ok (Ok x) ok fact = fact
OnOk-from_is_ok (Err e) ok fact = absurd cc

-- where the script can't be read to its end, nothing was written
pub EndsAs-unread : (known : Option (List ℕ)) (script : List ℕ) (fault : ReplayFault) → (fault ≡ Read) ⊎ (fault ≡ NoMemory) → EndsAs known known script (Err fault)
EndsAs-unread known script fault (inl e) = rw e (Keeps-refl known)
EndsAs-unread known script fault (inr e) = rw e (0, record { ended = refl; written = Appends-nil known })

-- a fact of what was read, as one of what the reader had
pub IfSome-read : (o : Option (List ℕ)) (script : List ℕ) (P : List ℕ → Type 0) → IfSome o (λ input. script ≡ input) → P script → IfSome o P
IfSome-read None script P same h = tt
IfSome-read (Some input) script P same h = subst P same h

pub IfSome-all : (o : Option (List ℕ)) (P : List ℕ → Type 0) → ((input : List ℕ) → P input) → IfSome o P
IfSome-all None P h = tt
IfSome-all (Some input) P h = h input

said_kept : (a b c : Option (List ℕ)) (s : Said) (unread : Option ℕ) → HasSaid a b s unread → Keeps b c → HasSaid a c s unread
said_kept a b c s unread h k = record { ended = h.ended; written = Appends-kept a b c s.text h.written k }

pub EndsAs-kept : (a b c : Option (List ℕ)) (script : List ℕ) (ended : Result (Unit {0}) ReplayFault) → EndsAs a b script ended → Keeps b c → EndsAs a c script ended
EndsAs-kept a b c script (Ok done) h k = said_kept a b c _ _ h k
EndsAs-kept a b c script (Err (Line n)) h k = said_kept a b c _ _ h k
EndsAs-kept a b c script (Err Read) h k = Keeps-trans a b c h k
EndsAs-kept a b c script (Err Write) h k = tt
EndsAs-kept a b c script (Err NoMemory) h k = (h.0, said_kept a b c _ _ h.1 k)

-- ---- a writer that is flushed
pub EndsAs-flushed : {E : Type 0} (a b c : Option (List ℕ)) (script : List ℕ) (ran result : Result (Unit {0}) ReplayFault) (flushed : Result (Unit {0}) E) → EndsAs a b script ran → Keeps b c
    → OnOk flushed (result ≡ ran) → OnErr flushed (result ≡ Err Write) → EndsAs a c script result
EndsAs-flushed a b c script ran result (Ok done) h k ok err = subst (EndsAs a c script) (sym ok) (EndsAs-kept a b c script ran h k)
EndsAs-flushed a b c script ran result (Err e) h k ok err = subst (EndsAs a c script) (sym err) tt

-- no fault of a flush is one of reading
pub flushed_read : {E : Type 0} (ran result : Result (Unit {0}) ReplayFault) (flushed : Result (Unit {0}) E) → ¬ IsErrOf ran Read → OnOk flushed (result ≡ ran) → OnErr flushed (result ≡ Err Write) → ¬ IsErrOf result Read
flushed_read ran result (Ok done) not ok err = λ read. not (sym ok ∙ read)
flushed_read ran result (Err e) not ok err = λ read. let bad : ◌≡◌ {A = Result (Unit {0}) ReplayFault} (Err Write) (Err Read) = sym err ∙ read in cc
