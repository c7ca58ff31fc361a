-- What is known to be written.
use Rattle.std.specs.Prelude.{Some, None, Option}
use Rattle.std.specs.Io.KnownBytes.{Appends, Keeps}
use Rattle.std.proofs.Common.{ℕ, List, [], ◌++◌, append-nil, append_assoc, sym, ◌∙◌}

pub appends_none : (known : Option (List ℕ)) → Appends known known []
appends_none None = tt
appends_none (Some xs) = sym (append-nil xs)

pub appends_more : (first middle last : Option (List ℕ)) (old new : List ℕ) → Appends first middle old → Appends middle last new → Appends first last (old ++ new)
appends_more None middle last old new before more = tt
appends_more (Some xs) None last old new before more = absurd before
appends_more (Some xs) (Some ys) None old new before more = absurd more
appends_more (Some xs) (Some ys) (Some zs) old new before more = rw (more, before) (append_assoc xs old new)

pub appends_kept : (a b c : Option (List ℕ)) (new : List ℕ) → Appends a b new → Keeps b c → Appends a c new
appends_kept None b c new h k = tt
appends_kept (Some xs) None c new h k = absurd h
appends_kept (Some xs) (Some ys) None new h k = absurd k
appends_kept (Some xs) (Some ys) (Some zs) new h k = k ∙ h
