-- The values of `import`: the session, what is told of the recording, and two files; and those of
-- `list` and of `check`.
use Rattle.std.specs.Prelude.{◌≡◌, ◌≢◌, ◌⊎◌, ℕ, Bool, true, false, List, Option, Some}
use Rattle.std.specs.Prelude.{is_some, codes}
use Rattle.clap.specs.Words.{Row, Text, first_of}
use Rattle.bgp_prefix.specs.declared.session.Session.{Session}
use Rattle.bgp_words.specs.Values.{IsPortText, IsSecondsText, IsValue, is_given}
use Rattle.bgp_words.specs.Settings.{IsOfOneFamily, IsSession}
use Rattle.bgp_words.specs.Recording.{AreRecordingOptions, refresh_told}
use Rattle.bgp_import.specs.declared.options.RecordingOptions.{RecordingOptions}
use Rattle.bgp_words.specs.declared.check.CheckForm.{CheckForm}
use Rattle.bgp_words.specs.declared.check.CheckForm.TheVariants as forms
use Rattle.bgp_words.specs.declared.check.Checking.{Checking}
use Rattle.bgp_words.specs.declared.words.Command.{Command}
use Rattle.bgp_words.specs.declared.words.Command.TheVariants.{Decode, Capture, Judge}
use Rattle.bgp_words.specs.declared.words.Command.TheVariants.{Check, Import, List as Listing}
use Rattle.bgp_words.specs.declared.words.Command.TheVariants.{Speak, Pair}

-- the ends of a session can be told apart in a recording: their addresses differ, or the local
-- system's port is known
abbrev pub AreApart : Session → Option ℕ → Type 0
AreApart session local_port = (session.peer ≢ session.local) ⊎ (is_some local_port ≡ true)

-- The values of `import`. A TCP connection is of one family; the session has no route refresh, and
-- its messages are passed over with `--skip-refresh`.
abbrev pub IsImport : Session → RecordingOptions → Text → Text → List Row → Type 0
IsImport session recording file out rows =
    IsSession session (refresh_told false rows) rows × IsOfOneFamily session
    × AreRecordingOptions recording rows × AreApart session recording.local_port
    × (first_of (codes "FILE") rows ≡ Some file) × (first_of (codes "OUT") rows ≡ Some out)

-- the values of `list`: the port of the connections, whether JSON is wanted, and a file
abbrev pub IsListing : ℕ → Bool → Text → List Row → Type 0
IsListing port json file rows =
    IsValue IsPortText (codes "port") rows port × (json ≡ is_given (codes "json") rows)
    × (first_of (codes "FILE") rows ≡ Some file)

-- the form of what `check` prints: JSON with `--json`, and a report with `--html`, which aren't both
-- given
abbrev pub IsCheckForm : CheckForm → List Row → Type 0
IsCheckForm forms.Text rows =
    (is_given (codes "json") rows ≡ false) × (is_given (codes "html") rows ≡ false)
IsCheckForm forms.Json rows =
    (is_given (codes "json") rows ≡ true) × (is_given (codes "html") rows ≡ false)
IsCheckForm forms.Html rows =
    (is_given (codes "json") rows ≡ false) × (is_given (codes "html") rows ≡ true)

-- the values of `check`: the port of the connections, the patience, whether routes and settings are
-- wanted, whether what is well is left out, the form, and a file
abbrev pub IsChecking : Checking → Text → List Row → Type 0
IsChecking checking file rows =
    IsValue IsPortText (codes "port") rows checking.port
    × IsValue IsSecondsText (codes "within") rows checking.within
    × (checking.routes ≡ is_given (codes "routes") rows)
    × (checking.settings ≡ is_given (codes "settings") rows)
    × (checking.quiet ≡ is_given (codes "quiet") rows)
    × IsCheckForm checking.form rows
    × (first_of (codes "FILE") rows ≡ Some file)

-- a command to import can be done: its session is of one family, and its ends can be told apart
abbrev pub CanImport : Command → Type 0
CanImport (Decode form extended file) = Unit {0}
CanImport (Capture form session recording file) = Unit {0}
CanImport (Judge config recording reporting file) = Unit {0}
CanImport (Import session recording file out) =
    IsOfOneFamily session × AreApart session recording.local_port
CanImport (Listing port json file) = Unit {0}
CanImport (Check checking file) = Unit {0}
CanImport (Speak config speaking file) = Unit {0}
CanImport (Pair file) = Unit {0}
