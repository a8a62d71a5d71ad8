-- What is imported of a recording, and of which sessions it has nothing.
use Rattle.std.specs.Prelude.{◌≡◌, Option, None, Some}
use Rattle.bgp_prefix.specs.Address.{family_of}
use Rattle.bgp_prefix.specs.declared.session.Session.{Session}
use Rattle.bgp_import.specs.declared.importing.Import.{Import}
use Rattle.bgp_import.specs.declared.options.RecordingOptions.{RecordingOptions}
use Rattle.bgp_recording_tool.specs.declared.remark.Remark.{Remark}
use Rattle.bgp_recording_tool.specs.declared.remark.RemarkKind.{RemarkKind}
use Rattle.bgp_recording_tool.specs.declared.remark.RemarkKind.TheVariants as kinds

-- what is imported of a recording that is read so, for this session
abbrev pub import_of : Session → RecordingOptions → Import
import_of session options = record {
  selection = record {
    session = session;
    port = options.port;
    local_port = options.local_port;
  };
  connection = options.connection;
  within = options.within;
}

-- both addresses are of one family: packets go between such alone
abbrev pub IsOneFamily : Session → Type 0
IsOneFamily session = family_of session.peer ≡ family_of session.local

-- both systems have one address, and nothing else tells them apart
abbrev pub IsOneSystem : Import → Type 0
IsOneSystem wanted =
    (wanted.selection.session.peer ≡ wanted.selection.session.local)
    × (wanted.selection.local_port ≡ None)

-- no recording can be meant, for this reason
abbrev pub IsMisfitFor : Import → RemarkKind → Type 0
IsMisfitFor wanted (kinds.Made note) = ⊥
IsMisfitFor wanted kinds.NothingSent = ⊥
IsMisfitFor wanted kinds.Confederation = ⊥
IsMisfitFor wanted (kinds.No before packet within) = ⊥
IsMisfitFor wanted (kinds.OneOrder within) = ⊥
IsMisfitFor wanted (kinds.NoOrder before packet within) = ⊥
IsMisfitFor wanted kinds.AnotherOrder = ⊥
IsMisfitFor wanted kinds.AllOrders = ⊥
IsMisfitFor wanted (kinds.Refused help) = ⊥
IsMisfitFor wanted (kinds.Without offer) = ⊥
IsMisfitFor wanted kinds.TwoFamilies = ¬ IsOneFamily wanted.selection.session
IsMisfitFor wanted kinds.OneAddress =
    IsOneFamily wanted.selection.session × IsOneSystem wanted

-- none can, or one can
abbrev pub IsMisfit : Import → Option Remark → Type 0
IsMisfit wanted None = IsOneFamily wanted.selection.session × (¬ IsOneSystem wanted)
IsMisfit wanted (Some remark) = (remark.connection ≡ None) × IsMisfitFor wanted remark.kind
