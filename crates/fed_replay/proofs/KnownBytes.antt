-- Reads, one after another, and what is left at the end.
use Rattle.std.proofs.Common.{◌≡◌, ℕ, List, Option, Some, None, sym, append_assoc, append-nil}
use Rattle.std.proofs.KnownBytes.{Consumes-nil}
use Rattle.std.specs.Prelude.{IfSome}
use Rattle.std.specs.Io.KnownBytes.{Consumes, IsAtEnd}
use Rattle.fed_replay.specs.Reading.{AppendsRead}

-- what one read takes, and then the next
pub Consumes-more : (first middle last : Option (List ℕ)) (old new : List ℕ) → Consumes first middle old → AppendsRead middle last old new → Consumes first last new
Consumes-more None middle last old new before read = tt
Consumes-more (Some xs) None last old new before read = absurd before
Consumes-more (Some xs) (Some ys) None old new before read = absurd read.1
Consumes-more (Some xs) (Some ys) (Some zs) old new before read = rw (before, read.1, read.2) (sym (append_assoc old read.0 zs))

pub Consumes-all : (first last : Option (List ℕ)) (bytes : List ℕ) → Consumes first last bytes → IsAtEnd last → IfSome first (λ input. bytes ≡ input)
Consumes-all None last bytes consumed ended = tt
Consumes-all (Some xs) None bytes consumed ended = absurd consumed
Consumes-all (Some xs) (Some ys) bytes consumed ended = rw (consumed, ended) (sym (append-nil bytes))

pub ruleset Consumes_steps = (Consumes-nil, Consumes-more, Consumes-all)
