-- What is imported of a recording that was read to its end.
use Rattle.std.proofs.Common.{◌≡◌, ℕ, Bool, List, length, Option, Result, Ok, Err, refl, ap, inl, inr}
use Rattle.packets.specs.Packet.{Recorded}
use Rattle.streams.specs.Passed.{Segment}
use Rattle.bgp_import.specs.Gathers.{HasReadAll, cut_short_by, failures_by}
use Rattle.bgp_import.specs.Imports.{ImportsAs, IsMade, source_failures}
use Rattle.bgp_import.specs.Making.{ImportsTaken, IsCaptured, IsTurnedDown}
use Rattle.bgp_import.specs.declared.cut_short.CutShort.{CutShort}
use Rattle.bgp_import.specs.declared.importing.Import.{Import}
use Rattle.bgp_import.specs.declared.importing.Stopped.{Stopped}
use Rattle.bgp_import.specs.declared.importing.Stopped.TheVariants.{Refused, Unwritten}
use Rattle.bgp_import.specs.declared.note.Notes.{Notes}
use Rattle.bgp_import.specs.declared.refusal.Refusal.{Refusal}

module _ {S T : Type 0} (gives : S → S → List ℕ → Type 0) (has_ended : S → Bool) (takes : T → T → List ℕ → Type 0)
    (wanted : Import) (old new : S) (empty filled : T) (octets : List ℕ) (packets : List Recorded) (segments : List Segment) (cut : Bool)
    (all : HasReadAll gives has_ended wanted.selection old new octets packets segments cut)
    (cut_short : Option CutShort) (is_cut : cut_short ≡ cut_short_by cut (length packets)) where
  made : (notes : Notes) (capture : List ℕ) → IsCaptured takes wanted packets segments empty filled notes capture
      → IsMade gives has_ended takes wanted old new empty filled cut_short notes capture
  made notes capture captured = record {
    octets = octets;
    packets = packets;
    segments = segments;
    cut = cut;
    all = all;
    is_cut = is_cut;
    imported = record { packets = packets; cut = cut; connection = captured.connection; spells = all.spells; is_connection = captured.is_connection; made = captured.made };
  }

  -- what is made of what was gathered is made of the recording
  pub imports_all : (answer : Result Notes Stopped) → ImportsTaken takes wanted packets segments empty filled answer
      → ImportsAs gives has_ended takes wanted old new empty filled cut_short answer
  imports_all (Ok notes) done = record { capture = done.capture; made = made notes done.capture done.captured; written = done.written }
  imports_all (Err (Refused refusal)) down = record {
    nothing = down.nothing;
    why = inr (record {
      octets = octets;
      packets = packets;
      segments = segments;
      cut = cut;
      all = all;
      is_cut = is_cut;
      why = elim down.why [
        | inl chosen ↦ inl (record { packets = packets; segments = segments; cut = cut; fault = chosen.fault; spells = all.spells; taken = all.taken; refused = chosen.refused; is = chosen.is })
        | inr memory ↦ inr memory
      ];
    });
  }
  imports_all (Err Unwritten) stopped = record { notes = stopped.notes; capture = stopped.capture; made = made stopped.notes stopped.capture stopped.captured; begun = stopped.begun }

turned_down_calm : (number : Option ℕ) (packets : List Recorded) (segments : List Segment) (refusal : Refusal) → IsTurnedDown number packets segments refusal → failures_by refusal ≡ 0
turned_down_calm number packets segments refusal (inl chosen) = ap failures_by chosen.is
turned_down_calm number packets segments refusal (inr memory) = ap failures_by memory

-- the source doesn't fail then
pub source_calm : {T : Type 0} (takes : T → T → List ℕ → Type 0) (wanted : Import) (packets : List Recorded) (segments : List Segment) (empty filled : T)
    (answer : Result Notes Stopped) → ImportsTaken takes wanted packets segments empty filled answer → source_failures answer ≡ 0
source_calm takes wanted packets segments empty filled (Ok notes) done = refl
source_calm takes wanted packets segments empty filled (Err (Refused refusal)) down = turned_down_calm wanted.connection packets segments refusal down.why
source_calm takes wanted packets segments empty filled (Err Unwritten) cut = refl
