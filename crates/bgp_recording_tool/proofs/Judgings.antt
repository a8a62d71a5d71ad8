-- What is made of a connection, and the verdict on it.
use Rattle.std.proofs.Common.{ℕ, List, Option, refl}
use Rattle.packets.specs.Packet.{Recorded}
use Rattle.streams.specs.Passed.{Segment}
use Rattle.bgp_recording.specs.declared.making.Recording.{Recording}
use Rattle.bgp_import.specs.Importing.{IsMadeOf}
use Rattle.bgp_import.specs.Making.{TellsOne}
use Rattle.bgp_import.specs.declared.importing.Import.{Import}
use Rattle.bgp_open.specs.declared.config.Config.{Config}
use Rattle.bgp_judge.specs.Verdict.{HasVerdict, VerdictValue}
use Rattle.bgp_recording.specs.Captured.{records_of}
use Rattle.bgp_recording_tool.specs.Connections.{IsMadeVerdict}
use Rattle.bgp_recording_tool.specs.Remarks.{notes_of}

-- these entries are made of the connection
pub is_made : {Z : Type 0} (wanted : Import) (number : Option ℕ) (packets : List Recorded) (segments : List Segment) (made : Recording Z)
    → (tells : TellsOne wanted number packets segments made) → IsMadeOf wanted tells.connection made.entries.items (notes_of made)
is_made wanted number packets segments made tells = record { recorded = tells.recorded; counts = refl }

-- and this is the verdict on their records
pub made_verdict_of : {Z : Type 0} (config : Config) (wanted : Import) (packets : List Recorded) (segments : List Segment) (number : Option ℕ) (made : Recording Z) (verdict : VerdictValue)
    → TellsOne wanted number packets segments made → HasVerdict config (records_of made.entries.items) verdict
    → IsMadeVerdict config wanted packets segments number made.entries.items verdict
made_verdict_of config wanted packets segments number made verdict tells is = record {
  connection = tells.connection;
  notes = notes_of made;
  chosen = tells.answered;
  made = is_made wanted number packets segments made tells;
  is = is;
}
