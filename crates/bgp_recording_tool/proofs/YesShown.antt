-- Each end that is listed of made records is that of a run which tells the connection; and the capture of these records is judged as they are.
use Rattle.std.proofs.Common.{◌≡◌, ◌∙◌, ℕ, List, [], ◌∷◌, map, refl, sym, ap, subst, inl, inr}
use Rattle.std.specs.List.{AllByRecursion}
use Rattle.bgp_prefix.specs.Shown.{ShownRecord}
use Rattle.bgp_prefix.specs.declared.session.Session.{Session}
use Rattle.bgp_prefix.specs.declared.session.RouteRefresh.{RouteRefresh}
use Rattle.bgp_prefix.specs.declared.session.RouteRefresh.TheVariants as refreshes
use Rattle.bgp_wire.specs.Header.{limit_with}
use Rattle.streams.specs.declared.connection.Connection.{Connection}
use Rattle.mrt.specs.Capture.{Spells}
use Rattle.mrt.specs.CaptureLaws.{OneSpelling, OneFault, NeverBoth}
use Rattle.mrt.specs.Reader.{shown_of}
use Rattle.mrt.specs.Written.{capture_octets, body_octets}
use Rattle.bgp_machine.specs.Lists.{Has, Each}
use Rattle.bgp_machine.specs.Run.{IsComplete}
use Rattle.bgp_open.specs.declared.config.Config.{Config}
use Rattle.bgp_judge.specs.Verdict.{HasVerdict, HasOneVerdict}
use Rattle.bgp_recording.specs.Captured.{CanBeNamed, MadeRecordsAreRead, IsNoRefresh, records_of}
use Rattle.bgp_recording.specs.Pieces.{alike, framings_of, skips_with}
use Rattle.bgp_recording.specs.Recorded.{IsRecorded}
use Rattle.bgp_recording.specs.Tells.{Numbered, numbered_of}
use Rattle.bgp_recording.specs.declared.entry.Entry.{Entry}
use Rattle.bgp_recording.specs.declared.framing.Framings.{Framings}
use Rattle.bgp_import.specs.Captures.{IsCapture}
use Rattle.bgp_import.specs.Importing.{IsMadeOf}
use Rattle.bgp_import.specs.Once.{RecordingsAreMadeOnce, calm_session}
use Rattle.bgp_import.specs.declared.importing.Import.{Import}
use Rattle.bgp_import.specs.declared.note.Notes.{Notes}
use Rattle.bgp_import.specs.declared.selection.Selection.{Selection}
use Rattle.bgp_orders.specs.Entries.{RunsOfEntriesAreWhole}
use Rattle.bgp_recording_tool.specs.Headline.{Agrees, IsFirstRefresh, EachEndIsShown, EachEndOfAnotherIsShown, ImportAndJudgeAgree}
use Rattle.mrt.specs.RefreshLaws.{without_refresh}
use Rattle.bgp_import.proofs.Once.{framed_calmly}
use Rattle.bgp_recording_tool.proofs.Calm.{spells_same, written_same}
use Rattle.bgp_recording_tool.proofs.FirstRefresh.{first_refused, alone}

-- what each element has one that is there has
of_each : {X : Type 0} (P : X → Type 0) (xs : List X) (x : X) → Each P xs → Has (λ y. y ≡ x) xs → P x
of_each P [] x each has = absurd has
of_each P (y ∷ ys) x each (inl is) = subst P is each.0
of_each P (y ∷ ys) x each (inr has) = of_each P ys x each.1 has

pub each_end : EachEndIsShown
each_end config wanted connection entries notes ends e same made lists has = record {
  complete = of_each (IsComplete config (records_of entries)) ends e lists.each has;
  recorded = subst (λ (s : Session). IsRecorded (framings_of s) wanted.within connection entries notes.received notes.sent) same made.recorded.told;
}

-- and so is each end that is listed of another order
pub each_of_another : RunsOfEntriesAreWhole → EachEndOfAnotherIsShown
each_of_another law config report wanted packets segments number named ends more remarks e (verdict, told) has =
    let another = told.judged.is_found.1 in
    let entries = told.judged.others in
    let way = another.yes.of in record {
      connection = another.connection;
      chosen = another.chosen;
      ended = record {
        exchange = way.exchange;
        tells = way.tells;
        whole = law config wanted.within way.exchange entries e way.of (of_each (IsComplete config (records_of entries)) ends e another.yes.is.1.each has);
      };
    }

-- ---- the capture

-- it is named the same without ROUTE-REFRESH
named : (session : Session) → CanBeNamed session → CanBeNamed (without_refresh session)
named session can = record { family = can.family; peer = can.peer; local = can.local }

-- what is refused is framed as what isn't offered
framed_refused : (session : Session) → session.refresh ≡ refreshes.Refused → framings_of session ≡ framings_of (without_refresh session)
framed_refused session refused = ap (λ (r : RouteRefresh). alike record { limit = limit_with session.extended; skips_refresh = skips_with r }) refused

-- what is written of records is the same, whatever becomes of a ROUTE-REFRESH
written_calmly : (session : Session) (peer_as local_as : ℕ) (records : List ShownRecord)
    → capture_octets (calm_session session) peer_as local_as records ≡ capture_octets session peer_as local_as records
unfolding body_octets
written_calmly session peer_as local_as records = refl

module _ (read : MadeRecordsAreRead) (spelling : OneSpelling) (verdicts : HasOneVerdict) (config : Config) (wanted : Import)
    (connection : Connection) (entries : List Entry) (notes : Notes) (octets : List ℕ) (can : CanBeNamed config.parts.session)
    (same : calm_session wanted.selection.session ≡ calm_session config.parts.session) (made : IsMadeOf wanted connection entries notes)
    (capture : IsCapture wanted.selection.session entries octets) where
  abbrev session : Session
  session = config.parts.session

  abbrev written : Session → List ℕ
  written s = capture_octets s capture.numbers.peer capture.numbers.local (records_of entries)

  recorded : IsRecorded (framings_of session) wanted.within connection entries notes.received notes.sent
  recorded = subst (λ (f : Framings). IsRecorded f wanted.within connection entries notes.received notes.sent)
      (sym (framed_calmly wanted.selection.session) ∙ ap (λ (s : Session). framings_of s) same ∙ framed_calmly session) made.recorded.told

  whole : octets ≡ written session
  whole =
      capture.whole
      ∙ sym (written_calmly wanted.selection.session capture.numbers.peer capture.numbers.local (records_of entries))
      ∙ ap (λ (s : Session). written s) same
      ∙ written_calmly session capture.numbers.peer capture.numbers.local (records_of entries)

  reads : (session.refresh ≡ refreshes.Refused → AllByRecursion IsNoRefresh (records_of entries)) → Spells session octets (records_of entries)
  reads without =
      subst (λ (o : List ℕ). Spells session o (records_of entries)) (sym whole)
      (read session capture.numbers.peer capture.numbers.local wanted.within connection entries notes.received notes.sent can recorded without)

  read_back : session.refresh ≡ refreshes.Refused → Spells (without_refresh session) octets (records_of entries)
  read_back refused =
      subst (λ (o : List ℕ). Spells (without_refresh session) o (records_of entries))
      (sym (whole ∙ sym (written_same session capture.numbers.peer capture.numbers.local (records_of entries))))
      (read (without_refresh session) capture.numbers.peer capture.numbers.local wanted.within connection entries notes.received notes.sent
      (named session can)
      (subst (λ (f : Framings). IsRecorded f wanted.within connection entries notes.received notes.sent) (framed_refused session refused) recorded)
      (λ never. absurd (let no = never in cc)))

  shows_by : (refresh : RouteRefresh) → session.refresh ≡ refresh → (records : List ShownRecord) → Spells session octets records → records_of entries ≡ records
  shows_by refreshes.NotOffered is records spells =
      spelling session octets (records_of entries) records (reads (λ refused. absurd (let both = sym is ∙ refused in cc))) spells
  shows_by refreshes.PassedOver is records spells =
      spelling session octets (records_of entries) records (reads (λ refused. absurd (let both = sym is ∙ refused in cc))) spells
  shows_by refreshes.Refused is records spells =
      spelling (without_refresh session) octets (records_of entries) records (read_back is)
      (spells_same session (λ passed. absurd (let both = sym is ∙ passed in cc)) octets records spells)

  shows : (records : List ShownRecord) → Spells session octets records → records_of entries ≡ records
  shows = shows_by session.refresh refl

agree_one : MadeRecordsAreRead → OneSpelling → OneFault → NeverBoth → HasOneVerdict → (config : Config) (wanted : Import) (connection : Connection) (entries : List Entry) (notes : Notes) (octets : List ℕ)
    → CanBeNamed config.parts.session → calm_session wanted.selection.session ≡ calm_session config.parts.session → IsMadeOf wanted connection entries notes
    → IsCapture wanted.selection.session entries octets → Agrees config entries octets
agree_one read spelling fault never verdicts config wanted connection entries notes octets can same made capture = record {
  reads = reads read spelling verdicts config wanted connection entries notes octets can same made capture;
  shows = shows read spelling verdicts config wanted connection entries notes octets can same made capture;
  one = λ records verdict judged spells is also.
      verdicts config records verdict judged is
      (subst (λ (rs : List ShownRecord). HasVerdict config rs judged)
      (shows read spelling verdicts config wanted connection entries notes octets can same made capture records spells) also);
  refused = λ may front first.
      first_refused config.parts.session octets (records_of entries) front
      (read_back read spelling verdicts config wanted connection entries notes octets can same made capture may) may first;
  alone = λ front kind offset at.
      alone fault never config.parts.session octets (records_of entries) front kind offset
      (read_back read spelling verdicts config wanted connection entries notes octets can same made capture)
      (reads read spelling verdicts config wanted connection entries notes octets can same made capture) at;
}

-- ---- whatever is judged

records_by : (entries : List Entry) → records_of entries ≡ map (λ (n : Numbered). n.shown) (map numbered_of entries)
records_by [] = refl
records_by (e ∷ later) = ap (λ (rs : List ShownRecord). shown_of e.record ∷ rs) (records_by later)

agrees_as : (config : Config) (entries judged : List Entry) (octets : List ℕ) → records_of entries ≡ records_of judged → Agrees config entries octets → Agrees config judged octets
agrees_as config entries judged octets same agrees = record {
  reads = subst (λ (rs : List ShownRecord). (config.parts.session.refresh ≡ refreshes.Refused → AllByRecursion IsNoRefresh rs) → Spells config.parts.session octets rs) same agrees.reads;
  shows = λ records spells. sym same ∙ agrees.shows records spells;
  one = λ records verdict judged' spells is also.
      agrees.one records verdict judged' spells is (subst (λ (rs : List ShownRecord). HasVerdict config rs judged') (sym same) also);
  refused = λ may front first. agrees.refused may front (subst (λ (rs : List ShownRecord). IsFirstRefresh rs front) (sym same) first);
  alone = λ front kind offset at.
      let was = agrees.alone front kind offset at in (was.0, was.1, subst (λ (rs : List ShownRecord). IsFirstRefresh rs front) same was.2);
}

pub agree : MadeRecordsAreRead → OneSpelling → OneFault → NeverBoth → HasOneVerdict → RecordingsAreMadeOnce → ImportAndJudgeAgree
agree read spelling fault never verdicts once config imports judges number packets entries judged notes told octets can session mean made capture also =
    let calm_same : calm_session imports.selection.session ≡ calm_session config.parts.session = ap (λ (s : Selection). s.session) mean.selection ∙ ap (λ (s : Session). calm_session s) session in
    let same = once imports judges number packets entries judged notes told mean made also in
    let records : records_of entries ≡ records_of judged = records_by entries ∙ ap (λ (ns : List Numbered). map (λ (n : Numbered). n.shown) ns) same.0 ∙ sym (records_by judged) in (
      same.1,
      records,
      agrees_as config entries judged octets records
          (agree_one read spelling fault never verdicts config imports made.connection entries notes octets can calm_same made.made capture),
    )
