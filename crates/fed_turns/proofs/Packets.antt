-- Packets that sites ship and take, and those of a run.
use Rattle.std.specs.Prelude.{not, slice_get, Some, Result, Ok, Err, if◌then◌else◌}
use Rattle.std.specs.List.{position_or_len}
use Rattle.std.proofs.Common.{◌≡◌, ◌≤◌, ◌<◌, ◌+◌, ◌-◌, ℕ, suc, List, [], ◌∷◌, ◌++◌, true, false, length, take, refl, sym, subst, ap, ◌∙◌, inl, inr, arith, length-append}
use Rattle.std.proofs.lemmas.Bool.{cases_Bool}
use Rattle.std.proofs.lemmas.List.{append_cancel_right}
use Rattle.std.proofs.Math.Seq.{take-append_seam}
use Rattle.fed_lattice.specs.Sets.{Has}
use Rattle.fed_lattice.specs.VersionOf.{version_of}
use Rattle.fed_lattice.proofs.VersionOfLaws.{length-version_of}
use Rattle.fed_model.specs.View.{view}
use Rattle.fed_theory.specs.Cut.{cut}
use Rattle.fed_job_json.specs.declared.formats.Format.TheVariants.{Two}
use Rattle.fed_wire.specs.declared.faults.WireFault.{WireFault}
use Rattle.fed_delta.specs.Packet.{PacketValue}
use Rattle.fed_delta.specs.PacketLaws.{tells_packets}
use Rattle.fed_wire.specs.Reading.{packet_in}
use Rattle.fed_wire.proofs.PacketLaws.{again}
use Rattle.fed_model.specs.Packet.{Packet, shipped}
use Rattle.fed_world.specs.Kept.{IsTextOf}
use Rattle.fed_model.specs.Run.{World}
use Rattle.fed_theory.proofs.HeardLaws.{met_below}
use Rattle.fed_qstat.specs.Outcome.{answer_line}
use Rattle.fed_site.specs.Handed.{packet_of}
use Rattle.fed_site.specs.Says.{IsReply, PacketFor}
use Rattle.fed_turns.specs.Run.{AreShipments, IsShipment, is_read_in, is_same_reading, state_at, text_of}
use Rattle.fed_turns.proofs.Reached.{Reached, counters, good, lawful, within}

-- ---- shipments
-- what a site ships is a text of the packet that it ships in the run
pub shipment : (n : ℕ) → n ≤ 16 → (w : World) → Reached n w → (i to : ℕ) → i < n → (bytes : List ℕ) → IsReply (state_at i (w.site i)) (PacketFor to) bytes → IsShipment (shipped i (w.site i) to) bytes
shipment n few w r i to small bytes reply =
    let told = reply.1 in
    let heard = (w.site i).heard to in
    let needed : told.packet.delta.need ≡ heard =
    told.made.need ∙ met_below heard (version_of (w.site i).set) (counters n few w r i to ∙ sym (length-version_of (w.site i).set)) ((good n few w r).1.known i to) in (
      reply.0,
      record {
        sent = told.packet;
        stands = record {
          small = let sender = told.made.sender in omega arith;
          sender = told.made.sender;
          need = needed;
          cut = told.made.cut_is ∙ ap (cut (view (w.site i).set)) needed;
        };
        limits = told.limits (w.site i).set heard (lawful n few w r i) (within n few w r i) told.made.need told.made.cut_is;
        written = told.written;
        again = told.again;
      },
      reply.2,
    )

pub shipments_push : (ps : List Packet) (rest : List (List ℕ)) (p : Packet) (bytes : List ℕ) → AreShipments ps rest → IsShipment p bytes → AreShipments (ps ++ p ∷ []) (rest ++ bytes ∷ [])
shipments_push [] [] p bytes all one = (one, tt)
shipments_push [] (a ∷ rest) p bytes all one = absurd all
shipments_push (q ∷ ps) [] p bytes all one = absurd all
shipments_push (q ∷ ps) (a ∷ rest) p bytes all one = (all.0, shipments_push ps rest p bytes all.1 one)

-- ---- the packet that a text is read as
-- it has this number less one, and was shipped by a text that reads the same
pub record IsFound (packets : List Packet) (text : List ℕ) (place : ℕ) : Type 0 where
  pub packet : Packet
  pub is : slice_get packets place ≡ Some packet
  pub shipped : List ℕ
  pub of : IsTextOf packet shipped
  pub reads : packet_in (packet_of text) ≡ packet_in shipped

text_of_line : (text : List ℕ) → text_of (answer_line text) ≡ text
text_of_line text =
    let whole = length-append text (10 ∷ []) in
    let shorter : length (text ++ 10 ∷ []) - 1 ≡ length text = omega arith in
    ap (λ n. take n (text ++ 10 ∷ [])) shorter ∙ take-append_seam text (10 ∷ [])

same_reading : (r s : Result PacketValue WireFault) (q : PacketValue) → s ≡ Ok q → is_same_reading r s ≡ true → r ≡ s
same_reading (Ok p) (Ok q) x is e = ap (λ (v : PacketValue). Ok v) ((tells_packets p q).0 e)
same_reading (Ok p) (Err fault) x is e = cc
same_reading (Err fault) (Ok q) x is e = cc
same_reading (Err fault) (Err other) x is e = cc

same_itself : (r : Result PacketValue WireFault) (p : PacketValue) → r ≡ Ok p → is_same_reading r r ≡ true
same_itself (Ok q) p e = (tells_packets q q).1 refl
same_itself (Err fault) p e = cc

pub shipped_read : (p : Packet) (text : List ℕ) (t : IsTextOf p text) → packet_in text ≡ Ok t.sent
shipped_read p text t = again Two text t.sent t.limits t.again

-- an answer that is a shipment of it
reads_shipment : (p : Packet) (a text : List ℕ) → IsShipment p a → is_read_in text a ≡ true → (shipped : List ℕ) × IsTextOf p shipped × (packet_in (packet_of text) ≡ packet_in shipped)
reads_shipment p a text one e =
    let is : text_of a ≡ one.0 = ap text_of one.2 ∙ text_of_line one.0 in
    let same : is_same_reading (packet_in (packet_of text)) (packet_in one.0) ≡ true = subst (λ t. is_same_reading (packet_in (packet_of text)) (packet_in t) ≡ true) is e in
    (one.0, one.1, same_reading (packet_in (packet_of text)) (packet_in one.0) one.1.sent (shipped_read p one.0 one.1) same)

module _ (text : List ℕ) where
  abbrev place_in : List (List ℕ) → ℕ
  place_in answers = position_or_len (is_read_in text) answers

  first_of : (packets : List Packet) (p : Packet) (rest : List (List ℕ)) (a : List ℕ) → IsShipment p a → is_read_in text a ≡ true → IsFound (p ∷ packets) text (place_in (a ∷ rest))
  first_of packets p rest a one e =
      let told = reads_shipment p a text one e in
      record {
        packet = p;
        is = ap (λ b. slice_get (p ∷ packets) (if not b then 1 + place_in rest else 0)) e;
        shipped = told.0;
        of = told.1;
        reads = told.2;
      }

  later_of : (packets : List Packet) (p : Packet) (rest : List (List ℕ)) (a : List ℕ) → IsFound packets text (place_in rest) → is_read_in text a ≡ false → IsFound (p ∷ packets) text (place_in (a ∷ rest))
  later_of packets p rest a found e =
      let next : 1 + place_in rest ≡ suc (place_in rest) = omega arith in
      record {
        packet = found.packet;
        is = ap (λ b. slice_get (p ∷ packets) (if not b then 1 + place_in rest else 0)) e ∙ ap (slice_get (p ∷ packets)) next ∙ found.is;
        shipped = found.shipped;
        of = found.of;
        reads = found.reads;
      }

  pub found : (packets : List Packet) (answers : List (List ℕ)) → AreShipments packets answers → place_in answers < length answers → IsFound packets text (place_in answers)
  found [] [] all within = absurd (omega arith)
  found [] (a ∷ rest) all within = absurd all
  found (p ∷ packets) [] all within = absurd all
  found (p ∷ packets) (a ∷ rest) all within = elim (cases_Bool (is_read_in text a)) [
    | inl e ↦ first_of packets p rest a all.0 e
    | inr e ↦ later_of packets p rest a (found packets rest all.1 (below e)) e
  ]
    where
      below : is_read_in text a ≡ false → place_in rest < length rest
      below e =
          let at : place_in (a ∷ rest) ≡ 1 + place_in rest = ap (λ b. if not b then 1 + place_in rest else 0) e in
          omega (arith, at, within)

  -- a text that was shipped has a place
  read_in_line : (p : Packet) (a shipped : List ℕ) → IsShipment p a → a ≡ answer_line shipped → packet_in (packet_of text) ≡ packet_in shipped → is_read_in text a ≡ true
  read_in_line p a shipped one at reads =
      let same : one.0 ≡ shipped = append_cancel_right one.0 shipped (10 ∷ []) (sym one.2 ∙ at) in
      let is : text_of a ≡ shipped = ap text_of at ∙ text_of_line shipped in
      let read : packet_in shipped ≡ Ok one.1.sent = ap packet_in (sym same) ∙ shipped_read p one.0 one.1 in
      ap (λ t. is_same_reading (packet_in (packet_of text)) (packet_in t)) is
      ∙ ap (λ r. is_same_reading r (packet_in shipped)) reads
      ∙ same_itself (packet_in shipped) one.1.sent read

  pub placed : (packets : List Packet) (answers : List (List ℕ)) (shipped : List ℕ) → AreShipments packets answers → Has answers (answer_line shipped) → packet_in (packet_of text) ≡ packet_in shipped → place_in answers < length answers
  placed [] [] shipped all h reads = absurd h
  placed [] (a ∷ rest) shipped all h reads = absurd all
  placed (p ∷ packets) [] shipped all h reads = absurd all
  placed (p ∷ packets) (a ∷ rest) shipped all (inl e) reads =
      let here = read_in_line p a shipped all.0 e reads in
      let at : place_in (a ∷ rest) ≡ 0 = ap (λ b. if not b then 1 + place_in rest else 0) here in
      omega arith
  placed (p ∷ packets) (a ∷ rest) shipped all (inr h) reads =
      let within = placed packets rest shipped all.1 h reads in
      elim (cases_Bool (is_read_in text a)) [
        | inl e ↦ (let at : place_in (a ∷ rest) ≡ 0 = ap (λ b. if not b then 1 + place_in rest else 0) e in omega arith)
        | inr e ↦ (let at : place_in (a ∷ rest) ≡ 1 + place_in rest = ap (λ b. if not b then 1 + place_in rest else 0) e in omega arith)
      ]
