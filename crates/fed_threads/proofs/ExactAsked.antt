-- The derived `==` of what sites are asked tells all values apart.
use Rattle.std.proofs.Common.{◌≡◌, true, subst}
use Rattle.std.specs.Prelude.{nat_eq}
use Rattle.fed_lattice.specs.Exact.{TellsApart}
use Rattle.fed_lattice.specs.ExactLaws.{tells_numbers, tells_pairs}
use Rattle.fed_model.specs.contracts.askers.WhoPartialEq.TheImpl.{ghosts as askers}
use Rattle.fed_model.specs.contracts.commands.CommandPartialEq.TheImpl.{ghosts as commands}
use Rattle.fed_threads.specs.declared.journal.Asked.{Asked}
use Rattle.fed_threads.specs.declared.journal.Asked.TheVariants.{Do, Ship, Take}
use Rattle.fed_threads.specs.contracts.journal.AskedPartialEq.TheImpl.{ghosts as asked}
use Rattle.fed_threads.proofs.ExactCommands.{apart, itself, made, tells_askers, tells_commands}

same : (a b : Asked) → asked.eq a b ≡ true → a ≡ b
same (Do s w c) (Do t v d) e = made _ (tells_pairs nat_eq _ tells_numbers (tells_pairs askers.eq commands.eq tells_askers tells_commands)) (λ p. Do p.0 p.1.0 p.1.1) (s, (w, c)) (t, (v, d)) e
same (Ship s k) (Ship t l) e = made _ (tells_pairs nat_eq nat_eq tells_numbers tells_numbers) (λ p. Ship p.0 p.1) (s, k) (t, l) e
same (Take s k p) (Take t l q) e = made _ (tells_pairs nat_eq _ tells_numbers (tells_pairs nat_eq nat_eq tells_numbers tells_numbers)) (λ p. Take p.0 p.1.0 p.1.1) (s, (k, p)) (t, (l, q)) e
same _ _ e = apart e

own : (a : Asked) → asked.eq a a ≡ true
own (Do s w c) = itself _ (tells_pairs nat_eq _ tells_numbers (tells_pairs askers.eq commands.eq tells_askers tells_commands)) (s, (w, c))
own (Ship s k) = itself _ (tells_pairs nat_eq nat_eq tells_numbers tells_numbers) (s, k)
own (Take s k p) = itself _ (tells_pairs nat_eq _ tells_numbers (tells_pairs nat_eq nat_eq tells_numbers tells_numbers)) (s, (k, p))

pub tells_asked : TellsApart asked.eq
tells_asked a b = (same a b, λ e. subst (λ c. asked.eq a c ≡ true) e (own a))
