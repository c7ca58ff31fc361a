-- The JSON value that bytes are read as.
use Rattle.std.specs.Prelude.{IfOk}
use Rattle.std.specs.Str.{IsUtf8, is_utf8}
use Rattle.std.proofs.Common.{◌≡◌, ℕ, List, Bool, true, false, cond, Option, Some, None, Result, Ok, Err, refl, sym, subst}
use Rattle.std.proofs.lemmas.Str.{IsUtf8-from_is_utf8, is_utf8-from_IsUtf8}
use Rattle.serde_json.specs.Data.{Data}
use Rattle.serde_json.specs.Read.{read}
use Rattle.fed_lattice.specs.Results.{◌>>=◌}
use Rattle.fed_job_json.specs.declared.formats.Format.{Format}
use Rattle.fed_wire.specs.declared.faults.WireFault.{WireFault}
use Rattle.fed_wire.specs.declared.faults.WireFault.TheVariants.{NotJson}
use Rattle.fed_wire.specs.Faults.{Gives}
use Rattle.fed_wire.specs.Packet.{IsPacket, packet_value}
use Rattle.fed_delta.specs.Packet.{PacketValue}
use Rattle.fed_wire.specs.Reading.{or_fault, packet_of, text_value, packet_in}
use Rattle.fed_wire.proofs.PacketLaws.{found, again}

pub text_some : (bytes : List ℕ) (d : Data) → IsUtf8 bytes → read bytes ≡ Some d → text_value bytes ≡ Some d
text_some bytes d utf8 e = rw (is_utf8-from_IsUtf8 bytes utf8) e

none_at : (bytes : List ℕ) (b : Bool) → is_utf8 bytes ≡ b → (IsUtf8 bytes → read bytes ≡ None) → cond b (read bytes) None ≡ None
none_at bytes true e none = none (IsUtf8-from_is_utf8 bytes e)
none_at bytes false e none = refl

pub text_none : (bytes : List ℕ) → (IsUtf8 bytes → read bytes ≡ None) → text_value bytes ≡ None
text_none bytes none = none_at bytes (is_utf8 bytes) refl none

-- ---- what is read of them

pub value_read : (bytes : List ℕ) (d : Data) (r : Result PacketValue WireFault) → text_value bytes ≡ Some d → Gives (packet_of d) r → Gives (packet_in bytes) r
value_read bytes d r e h = subst (λ (o : Option Data). Gives (or_fault NotJson o >>= packet_of) r) (sym e) h

pub not_json : (bytes : List ℕ) → text_value bytes ≡ None → ◌≡◌ {A = Result PacketValue WireFault} (Err NotJson) (packet_in bytes)
not_json bytes e = subst (λ (o : Option Data). ◌≡◌ {A = Result PacketValue WireFault} (Err NotJson) (or_fault NotJson o >>= packet_of)) (sym e) refl

pub gives_found : (bytes : List ℕ) (r : Result PacketValue WireFault) → Gives (packet_in bytes) r → IfOk r (λ p. (format : Format) × IsPacket format p × (text_value bytes ≡ Some (packet_value format p)))
gives_found bytes (Ok p) h = found bytes p (sym h)
gives_found bytes (Err e) h = tt

pub gives_only : (bytes : List ℕ) (r : Result PacketValue WireFault) → Gives (packet_in bytes) r → (format : Format) (p : PacketValue) → IsPacket format p → text_value bytes ≡ Some (packet_value format p) → Gives (Ok p) r
gives_only bytes r h format p within e = subst (λ (said : Result PacketValue WireFault). Gives said r) (again format bytes p within e) h
