-- What the laws of lists in JSON say: what is printed in JSON determines what the text is.
use Rattle.std.specs.Prelude.{◌≡◌, ◌<◌, ◌++◌, ◌^◌, ℕ, List, Option, All, length}
use Rattle.bgp_wire.specs.Octets.{AreOctets}
use Rattle.mrt.specs.declared.fault.CaptureFault.{CaptureFault}
use Rattle.mrt_sessions.specs.File.{Located, NamesSession}
use Rattle.mrt_sessions.specs.declared.addresses.Addresses.{Addresses}
use Rattle.mrt_sessions.specs.declared.holding.Ending.{Ending}
use Rattle.bgp_import.specs.declared.refusal.Refusal.{Refusal}
use Rattle.bgp_list.specs.Capture.{ListsIn}
use Rattle.bgp_list.specs.Forms.{fault_in, line_in, refused_in, session_in, sessions_in_form}
use Rattle.bgp_list.specs.Lines.{LineValue}
use Rattle.bgp_list.specs.Recording.{file_in, lines_in}
use Rattle.bgp_list.specs.declared.form.ListForm.{ListForm}
use Rattle.bgp_list.specs.declared.form.ListForm.TheVariants.{Text, Json}
use Rattle.bgp_list_laws.specs.Ranges.{IsLine, IsRefusal, IsRefusalIfAny}

-- ---- of a recording

-- lines with one line in JSON have one text
abbrev pub LinesAreDetermined : Type 0
LinesAreDetermined =
    (line other : LineValue) → IsLine line → IsLine other
    → line_in Json line ≡ line_in Json other → line_in Text line ≡ line_in Text other

-- and so has why a recording can't be read on
abbrev pub RefusalsAreDetermined : Type 0
RefusalsAreDetermined =
    (refusal other : Refusal) → IsRefusal refusal → IsRefusal other
    → refused_in Json refusal ≡ refused_in Json other
    → refused_in Text refusal ≡ refused_in Text other

-- What is listed of a recording: its lines, each with the packet at which it stands; why the
-- recording can't be read on, and that there was no memory for the lines, if that is so.
pub record Listed : Type 0 where
  pub lines : List (ℕ × LineValue)
  pub stopped : Option Refusal
  pub lacking : Option Refusal

-- all of it in this form, as it is written
abbrev pub listed_in : ListForm → Listed → List ℕ
listed_in form listed =
    lines_in form listed.lines ++ (file_in form listed.stopped ++ file_in form listed.lacking)

pub record IsListed (listed : Listed) : Type 0 where
  pub lines : All (λ (l : ℕ × LineValue). IsLine l.1) listed.lines
  pub stopped : IsRefusalIfAny listed.stopped
  pub lacking : IsRefusalIfAny listed.lacking

-- lists with one text in JSON have one text
abbrev pub ListsAreDetermined : Type 0
ListsAreDetermined =
    (listed other : Listed) → IsListed listed → IsListed other
    → listed_in Json listed ≡ listed_in Json other → listed_in Text listed ≡ listed_in Text other

-- ---- of a capture

-- the records of a session: octets, each a record that names one
pub record AreRecords (named : List Located) : Type 0 where
  pub each : All (λ (l : Located). AreOctets l.octets × NamesSession l.octets) named
  pub count : length named < 2 ^ 64

-- sessions with one line in JSON have one text
abbrev pub SessionsAreDetermined : Type 0
SessionsAreDetermined =
    (addresses others : Addresses) (named also : List Located)
    → AreRecords named → AreRecords also
    → session_in Json addresses named ≡ session_in Json others also
    → session_in Text addresses named ≡ session_in Text others also

-- the sessions of these records and why the file isn't read to its end, as they are written
abbrev pub sessions_and_fault : ListForm → List Located → Option CaptureFault → List ℕ
sessions_and_fault form named fault = sessions_in_form form named ++ fault_in form fault

-- files whose lists have one text in JSON have one text
abbrev pub CapturesAreDetermined : Type 0
CapturesAreDetermined =
    (octets others text texts : List ℕ) (ending also : Ending) (fault other : Option CaptureFault)
    → AreOctets octets → length octets < 2 ^ 64 → AreOctets others → length others < 2 ^ 64
    → (listed : ListsIn Json octets ending text fault)
    → (second : ListsIn Json others also texts other)
    → text ++ fault_in Json fault ≡ texts ++ fault_in Json other
    → sessions_and_fault Text listed.named fault ≡ sessions_and_fault Text second.named other
