-- What is read back of bytes, a part at a time.
use Rattle.std.proofs.Common.{◌≡◌, ℕ, List, [], ◌++◌, length, take, drop, Option, Some, None, refl, sym, ap, ◌∙◌, append_assoc, length-take, take_at, drop_at}
use Rattle.std.proofs.lemmas.Slice.Eq.{bytes_eq-Decides}
use Rattle.std.specs.Io.KnownBytes.{Consumes}

-- what a reader gave so far is the front of the bytes, and this is the rest of them
pub record IsFront (first now : Option (List ℕ)) (bytes rest : List ℕ) : Type 0 where
  pub read : List ℕ
  pub given : Consumes first now read
  pub same : bytes ≡ read ++ rest

both_given : (first now next : Option (List ℕ)) (read part : List ℕ) → Consumes first now read → Consumes now next part → Consumes first next (read ++ part)
both_given None now next read part before more = tt
both_given (Some known) None next read part before more = absurd before
both_given (Some known) (Some mid) None read part before more = absurd more
both_given (Some known) (Some mid) (Some left) read part before more = before ∙ ap (λ (l : List ℕ). read ++ l) more ∙ sym (append_assoc read part left)

pub front_grows : (first now next : Option (List ℕ)) (bytes rest part left : List ℕ) → IsFront first now bytes rest → Consumes now next part → rest ≡ part ++ left → IsFront first next bytes left
front_grows first now next bytes rest part left front more parts = record {
  read = front.read ++ part;
  given = both_given first now next front.read part front.given more;
  same = front.same ∙ ap (λ (l : List ℕ). front.read ++ l) parts ∙ sym (append_assoc front.read part left);
}

-- What stands at the front of a list, and what behind it. The first fact says nothing: it is where `grind` picks these up.
pub front_of : (front rest : List ℕ) → (front ++ rest ≡ front ++ rest) × (take (length front) (front ++ rest) ≡ front)
front_of front rest = (refl, take_at front rest (length front) refl)

pub behind_front : (front rest : List ℕ) → (front ++ rest ≡ front ++ rest) × (drop (length front) (front ++ rest) ≡ rest)
behind_front front rest = (refl, drop_at front rest (length front) refl)

pub ruleset parts = (front_of, behind_front, length-take, bytes_eq-Decides)
