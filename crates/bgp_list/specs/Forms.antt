-- The lines of a list in either form.
use Rattle.std.specs.Prelude.{ℕ, List, [], Option, None, Some, IfSome}
use Rattle.std.specs.List.{AllByRecursion, flat_map}
use Rattle.json.specs.Json.{Json}
use Rattle.mrt.specs.declared.fault.CaptureFault.{CaptureFault}
use Rattle.mrt_sessions.specs.File.{Located}
use Rattle.mrt_sessions.specs.Sessions.{records_between, sessions_in}
use Rattle.mrt_sessions.specs.declared.addresses.Addresses.{Addresses}
use Rattle.bgp_import.specs.declared.refusal.Refusal.{Refusal}
use Rattle.bgp_json.specs.Line.{IsOneValue}
use Rattle.bgp_json.specs.Object.{json_line}
use Rattle.bgp_json.specs.Others.{capture_json}
use Rattle.bgp_list.specs.ConnectionJson.{connection_json, refused_between_json}
use Rattle.bgp_list.specs.ConnectionJson.{refused_connection_json, refused_json}
use Rattle.bgp_list.specs.Connections.{refused_text}
use Rattle.bgp_list.specs.Lines.{LineValue, Octets, Refused, AllRefused, line_text}
use Rattle.bgp_list.specs.SessionJson.{session_json}
use Rattle.bgp_list.specs.Sessions as sessions
use Rattle.bgp_list.specs.Sessions.{session_line}
use Rattle.bgp_list.specs.declared.form.ListForm.{ListForm}
use Rattle.bgp_list.specs.declared.form.ListForm.TheVariants as forms

-- a line in JSON is that of one value, which a reader reads back
abbrev pub IsInForm : ListForm → List ℕ → Type 0
IsInForm forms.Text line = Unit {0}
IsInForm forms.Json line = IsOneValue line

-- ---- of a recording

abbrev pub line_json : LineValue → Json
line_json (Octets session opening outline first second) =
    connection_json session opening outline first second
line_json (Refused session opening refusal) = refused_connection_json session opening refusal
line_json (AllRefused addresses refusal) = refused_between_json addresses refusal

-- the line of these values
abbrev pub line_in : ListForm → LineValue → List ℕ
line_in forms.Text line = line_text line
line_in forms.Json line = json_line (line_json line)

-- why the file can't be read on
abbrev pub refused_in : ListForm → Refusal → List ℕ
refused_in forms.Text refusal = refused_text refusal
refused_in forms.Json refusal = json_line (refused_json refusal)

-- ---- of a capture

-- the line of a session with these records
abbrev pub session_in : ListForm → Addresses → List Located → List ℕ
session_in forms.Text addresses named = session_line addresses named
session_in forms.Json addresses named = json_line (session_json addresses named)

-- the sessions of these records, in the order of their first ones
abbrev pub sessions_in_form : ListForm → List Located → List ℕ
sessions_in_form form named =
    flat_map (λ addresses. session_in form addresses (records_between addresses named))
    (sessions_in named)

-- each line of JSON is one value
abbrev pub AreSessionsInForm : ListForm → List Located → Type 0
AreSessionsInForm form named =
    AllByRecursion
    (λ addresses. IsInForm form (session_in form addresses (records_between addresses named)))
    (sessions_in named)

-- why the file isn't read to its end, if it isn't
abbrev pub stopped_in : ListForm → CaptureFault → List ℕ
stopped_in forms.Text fault = sessions.refused_text fault
stopped_in forms.Json fault = json_line (capture_json fault)

abbrev pub fault_in : ListForm → Option CaptureFault → List ℕ
fault_in form None = []
fault_in form (Some fault) = stopped_in form fault

abbrev pub IsFaultInForm : ListForm → Option CaptureFault → Type 0
IsFaultInForm form fault = IfSome fault (λ f. IsInForm form (stopped_in form f))
