use Rattle.std.proofs.Common.{refl}
use Rattle.fed_turns.specs.Own.{IsOwnLine}
use Rattle.fed_turns.proofs.OwnLines.{own_line_is}
use Rattle.fed_turns.proofs.laws.own_lines_ask_their_site.Goals as goal

pub returns : goal.returns
returns c roster here words line lawful e =
    own_line_is roster lawful.at_most here (IsOwnLine roster here) tt (λ who commands ranged. (refl, ranged)) (λ full jobs. refl) (λ fault. refl)
    (λ to known. (refl, known)) (λ moment. refl) line words e
