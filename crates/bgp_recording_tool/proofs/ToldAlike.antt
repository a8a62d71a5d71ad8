-- What is told of a connection is what the capture reads as that is imported of it.
use Rattle.std.proofs.Common.{◌≡◌, ◌∙◌, ℕ, Bool, true, false, List, [], ◌∷◌, Option, None, Some, length, reverse, nat_lt, if◌then◌else◌, refl, sym, ap, subst, inl, inr}
use Rattle.std.specs.List.{AllByRecursion}
use Rattle.bgp_prefix.specs.Shown.{ShownRecord, Received, Sent, Changed}
use Rattle.bgp_prefix.specs.declared.session.Session.{Session}
use Rattle.bgp_prefix.specs.declared.session.RouteRefresh.TheVariants as refreshes
use Rattle.streams.specs.Choice.{IsAnswered}
use Rattle.streams.specs.Connections.{numbered}
use Rattle.streams.specs.Passed.{Segment}
use Rattle.streams.specs.declared.connection.Connection.{Connection}
use Rattle.streams.specs.declared.passed.Side.{Side}
use Rattle.streams.specs.declared.passed.Side.TheVariants.{Local, Peer}
use Rattle.mrt.specs.Reader.{shown_of}
use Rattle.packets.specs.Packet.{Recorded}
use Rattle.bgp_open.specs.declared.config.Config.{Config}
use Rattle.bgp_judge.specs.Verdict.{VerdictValue, HasVerdict}
use Rattle.mrt.specs.Capture.{Spells}
use Rattle.bgp_recording.specs.Captured.{CanBeNamed, IsNoRefresh, records_of}
use Rattle.bgp_recording.specs.declared.entry.Entry.{Entry}
use Rattle.bgp_recording.specs.declared.framing.Rest.{Rest}
use Rattle.bgp_import.specs.Captures.{IsCapture, shown_message}
use Rattle.bgp_import.specs.Importing.{IsMadeOf}
use Rattle.bgp_import.specs.Selecting.{AreTaken}
use Rattle.bgp_import.specs.declared.importing.Import.{Import}
use Rattle.bgp_import.specs.declared.note.Notes.{Notes}
use Rattle.bgp_import.specs.Once.{IsMadeOfPackets, MeanTheSame}
use Rattle.bgp_import.specs.Refreshes.{IsOne, IsRefreshPacket, IsRefreshIn, refresh_at, earlier}
use Rattle.bgp_import.specs.Refusals.{refusal_number, refusal_packet}
use Rattle.bgp_import.specs.declared.refusal.Refusal.{Refusal}
use Rattle.bgp_recording_tool.specs.Headline.{IsFirstRefresh, ImportAndJudgeAgree, JudgeTellsTheCapture}
use Rattle.bgp_recording_tool.specs.Connections.{IsJudged}
use Rattle.bgp_recording_tool.specs.Found.{Found, Nothing, TooMany, ByNone, ByAnother, ByAll}
use Rattle.bgp_recording_tool.specs.Told.{Judged, NoOrder, InAnotherOrder, Refused, UnfinishedOverAll}
use Rattle.bgp_recording_tool.specs.declared.remark.Remark.{Remark}
use Rattle.bgp_recording_tool.proofs.Answered.{not_unchosen}
use Rattle.bgp_recording_tool.proofs.FirstRefresh.{first_or_none}

-- ---- a ROUTE-REFRESH

abbrev IsEighteen : Option Refusal → Type 0
IsEighteen None = Unit {0}
IsEighteen (Some refusal) = refusal_number refusal ≡ 18

at_eighteen : (from : Side) (rest : Rest) (packet : Option ℕ) → IsEighteen (refresh_at from rest packet)
at_eighteen from rest None = tt
at_eighteen from rest (Some packet) = refl

earlier_eighteen : (received sent : Option Refusal) → IsEighteen received → IsEighteen sent → IsEighteen (earlier received sent)
earlier_eighteen None sent theirs ours = ours
earlier_eighteen (Some received) None theirs ours = theirs
earlier_eighteen (Some received) (Some sent) theirs ours =
    elim (nat_lt (refusal_packet sent) (refusal_packet received)) as (λ (b : Bool). IsEighteen (if b then Some sent else Some received)) [ true ↦ ours | false ↦ theirs ]

eighteen : (entries : List Entry) (received_rest sent_rest : Rest) (refusal : Refusal) → IsRefreshIn entries received_rest sent_rest (Some refusal) → refusal_number refusal ≡ 18
eighteen entries received_rest sent_rest refusal (received, sent, theirs, ours, is) =
    subst IsEighteen (sym is)
    (earlier_eighteen received sent (subst IsEighteen (sym theirs.2) (at_eighteen Peer received_rest theirs.0)) (subst IsEighteen (sym ours.2) (at_eighteen Local sent_rest ours.0)))

not_from : (from : Side) (shown : ShownRecord) → IsNoRefresh shown → ¬ IsOne (shown_message from shown)
not_from Peer (Received second octets) denied is = denied is
not_from Peer (Sent second octets) denied is = is
not_from Peer (Changed second old new) denied is = is
not_from Local (Received second octets) denied is = is
not_from Local (Sent second octets) denied is = denied is
not_from Local (Changed second old new) denied is = is

no_packet : (from : Side) (entries : List Entry) (packet : Option ℕ) → AllByRecursion IsNoRefresh (records_of entries) → IsRefreshPacket from entries packet → packet ≡ None
no_packet from [] packet none is = is
no_packet from (entry ∷ later) packet none (inl one) = absurd (not_from from (shown_of entry.record) none.0 one.0)
no_packet from (entry ∷ later) packet none (inr (not, is)) = no_packet from later packet none.1 is

-- it is told of none
none_there : (entries : List Entry) (received_rest sent_rest : Rest) (refusal : Refusal) → IsRefreshIn entries received_rest sent_rest (Some refusal)
    → AllByRecursion IsNoRefresh (records_of entries) → ⊥
none_there entries received_rest sent_rest refusal (received, sent, theirs, ours, is) none =
    let peer : received ≡ None = theirs.2 ∙ ap (λ (p : Option ℕ). refresh_at Peer received_rest p) (no_packet Peer entries theirs.0 none theirs.1) in
    let local : sent ≡ None = ours.2 ∙ ap (λ (p : Option ℕ). refresh_at Local sent_rest p) (no_packet Local entries ours.0 none ours.1) in
    let denied : Some refusal ≡ None = is ∙ ap (λ (r : Option Refusal). earlier r sent) peer ∙ ap (λ (r : Option Refusal). earlier None r) local in cc

some_first : (records : List ShownRecord) → (AllByRecursion IsNoRefresh records → ⊥) → (front : List ShownRecord) × IsFirstRefresh records front
some_first records not = elim (first_or_none records) [ inl none ↦ absurd (not none) | inr first ↦ first ]

-- ---- what is told

-- the capture has the verdict on the made records
module _ (agree : ImportAndJudgeAgree) (config : Config) (imports judges : Import) (number named : Option ℕ) (packets : List Recorded) (segments : List Segment) (connection : Connection)
    (entries : List Entry) (notes : Notes) (octets : List ℕ) (can : CanBeNamed config.parts.session) (session : judges.selection.session ≡ config.parts.session)
    (mean : MeanTheSame imports judges) (taken : AreTaken imports.selection 0 packets segments) (also : AreTaken judges.selection 0 packets segments)
    (answered : IsAnswered number (length packets) (numbered (reverse segments)) connection) (made : IsMadeOf imports connection entries notes)
    (capture : IsCapture imports.selection.session entries octets) where
  reads_so : (verdict : VerdictValue) (found : Found) (remarks : List Remark) → IsJudged config judges packets segments number named verdict found remarks
      → (records : List ShownRecord) × Spells config.parts.session octets records × HasVerdict config records verdict
  reads_so verdict found remarks judged =
      let theirs : IsMadeOfPackets imports number packets entries notes = record { segments = segments; connection = connection; taken = taken; answered = answered; made = made } in
      let own : IsMadeOfPackets judges number packets judged.entries judged.notes =
      record { segments = segments; connection = judged.connection; taken = also; answered = judged.chosen; made = judged.made } in
      let agrees = (agree config imports judges number packets entries judged.entries notes judged.notes octets can session mean theirs capture own).2 in
      (records_of judged.entries, agrees.reads (λ refuses. judged.without (subst (λ (s : Session). s.refresh ≡ refreshes.Refused) (sym session) refuses)), judged.is)

pub tells_as : ImportAndJudgeAgree → JudgeTellsTheCapture
tells_as agree config report imports judges number packets segments connection entries notes octets named (Judged verdict more) remarks can session mean taken also answered made capture (inl told) =
    reads_so agree config imports judges number named packets segments connection entries notes octets can session mean taken also answered made capture verdict Nothing remarks told.judged
tells_as agree config report imports judges number packets segments connection entries notes octets named (Judged verdict more) remarks can session mean taken also answered made capture (inr told) =
    reads_so agree config imports judges number named packets segments connection entries notes octets can session mean taken also answered made capture verdict TooMany remarks told.judged
tells_as agree config report imports judges number packets segments connection entries notes octets named (NoOrder u more) remarks can session mean taken also answered made capture (verdict, instead, told) =
    let (records, spells, is) = reads_so agree config imports judges number named packets segments connection entries notes octets can session mean taken also answered made capture
    verdict (ByNone u instead) remarks told.judged in
    let (count, same) = told.judged.is_found.0 in (records, spells, count, subst (λ (v : VerdictValue). HasVerdict config records v) same is)
tells_as agree config report imports judges number packets segments connection entries notes octets named (InAnotherOrder ends more) remarks can session mean taken also answered made capture (verdict, told) =
    let (records, spells, is) = reads_so agree config imports judges number named packets segments connection entries notes octets can session mean taken also answered made capture
    verdict (ByAnother ends) remarks told.judged in (records, spells, verdict, told.judged.is_found.0, is)
tells_as agree config report imports judges number packets segments connection entries notes octets named (UnfinishedOverAll more) remarks can session mean taken also answered made capture (verdict, told) =
    let (records, spells, is) = reads_so agree config imports judges number named packets segments connection entries notes octets can session mean taken also answered made capture
    verdict ByAll remarks told.judged in
    let (count, same) = told.judged.is_found.0 in (records, spells, count, subst (λ (v : VerdictValue). HasVerdict config records v) same is)
tells_as agree config report imports judges number packets segments connection entries notes octets named (Refused refusal) remarks can session mean taken also answered made capture told =
    elim told.why [
      | inl (inl not) ↦ absurd (not_unchosen number (length packets) (reverse segments) connection refusal answered not)
      | inl (inr memory) ↦ inr (ap refusal_number memory)
      | inr refresh ↦ let theirs : IsMadeOfPackets imports number packets entries notes = record { segments = segments; connection = connection; taken = taken; answered = answered; made = made } in
          let own : IsMadeOfPackets judges number packets refresh.entries refresh.notes =
          record { segments = segments; connection = refresh.connection; taken = also; answered = refresh.chosen; made = refresh.made } in
          let agrees = (agree config imports judges number packets entries refresh.entries notes refresh.notes octets can session mean theirs capture own).2 in
          let first = some_first (records_of refresh.entries) (none_there refresh.entries refresh.notes.received.rest refresh.notes.sent.rest refusal refresh.is) in
          let at = agrees.refused (subst (λ (s : Session). s.refresh ≡ refreshes.Refused) session refresh.refuses) first.0 first.1 in
          inl (eighteen refresh.entries refresh.notes.received.rest refresh.notes.sent.rest refusal refresh.is, first.0, at.0, at.1)
    ]
