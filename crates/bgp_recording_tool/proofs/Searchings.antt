-- What the search of all orders finds, of a connection that is chosen; and what is put of it.
use Rattle.std.proofs.Common.{◌≡◌, ℕ, List, Option, None, Some, IfNone, IfOk, IfSome, Result, Ok, Err, inl, inr, length, reverse, sym, subst}
use Rattle.packets.specs.Packet.{Recorded}
use Rattle.streams.specs.Choice.{IsAnswered}
use Rattle.streams.specs.Connections.{numbered}
use Rattle.streams.specs.Passed.{Segment}
use Rattle.streams.specs.declared.connection.Connection.{Connection}
use Rattle.bgp_prefix.specs.Shown.{ShownRecord}
use Rattle.bgp_prefix.specs.declared.session.Session.{Session}
use Rattle.bgp_open.specs.declared.config.Config.{Config}
use Rattle.bgp_judge.specs.Verdict.{VerdictValue, verdict_value}
use Rattle.bgp_judge.specs.declared.verdict.Verdict.{Verdict}
use Rattle.bgp_judge.specs.declared.verdict.Verdict.TheVariants as verdicts
use Rattle.bgp_recording.specs.Pieces.{framings_of}
use Rattle.bgp_recording.specs.declared.entry.Entry.{Entry}
use Rattle.bgp_explain.specs.Reason.{HasReason}
use Rattle.bgp_explain.specs.Text.{CanBePutOf}
use Rattle.bgp_explain.specs.declared.explained.Reason.{Reason}
use Rattle.bgp_explain.specs.declared.report.Report.{Report}
use Rattle.bgp_import.specs.declared.importing.Import.{Import}
use Rattle.bgp_import.specs.Selecting.{AreTaken}
use Rattle.bgp_import.proofs.InOrder.{in_order}
use Rattle.bgp_import.proofs.Telling.{is_clocked}
use Rattle.bgp_ended.proofs.OneConnection.{same_answer}
use Rattle.bgp_recording_tool.specs.Connections.{IsFound, IsFoundOver, IsInstead, IsInsteadOver, IsMadeVerdict}
use Rattle.bgp_recording_tool.specs.Found.{Found, Nothing, TooMany, ByNone, ByAnother, ByAll, IsNoYes, IsSought, IsYes, entries_of, found_of}
use Rattle.bgp_recording_tool.specs.declared.orders.Searched.{Searched}
use Rattle.bgp_recording_tool.specs.declared.orders.Searched.TheVariants as searches
use Rattle.bgp_recording_tool.proofs.MadeOverAll.{no_over}

-- what is found over all orders of the connection is found of the chosen one, of which these entries are made
pub found_so : {X : Type 0} (config : Config) (wanted : Import) (packets : List Recorded) (segments : List Segment) (number : Option ℕ) (connection : Connection) (made : List Entry)
    (verdict : VerdictValue) (searched : Searched X) → AreTaken wanted.selection 0 packets segments → IsMadeVerdict config wanted packets segments number made verdict
    → IsAnswered number (length packets) (numbered (reverse segments)) connection → IsNoYes verdict → IsSought config verdict searched
    → IsFoundOver config wanted.within (framings_of wanted.selection.session) connection verdict (entries_of searched) (found_of searched)
    → IsFound config wanted packets segments number verdict (entries_of searched) (found_of searched)
found_so config wanted packets segments number connection made verdict searches.Nothing taken is answered other sought (same, unfinished) =
    inr (same, record { connection = connection; chosen = answered; over_all = unfinished })
found_so config wanted packets segments number connection made verdict searches.TooMany taken is answered other sought over =
    (other, record { connection = connection; chosen = answered; over_all = over })
found_so config wanted packets segments number connection made verdict (searches.NoOrder u instead) taken is answered other sought over =
    let connections = numbered (reverse segments) in
    let same = same_answer number (length packets) connections is.connection connection is.chosen answered in
    let clocked = is_clocked (reverse segments) number (length packets) is.connection (in_order wanted.selection packets segments taken) is.chosen in (
      no_over config wanted.within (framings_of wanted.selection.session) is.connection connection made is.notes.received is.notes.sent verdict u same clocked is.made.recorded.told is.is other
          over,
      record { connection = connection; chosen = answered; over_all = over },
    )
found_so config wanted packets segments number connection made verdict (searches.Another another) taken is answered other sought over =
    (other, record { connection = connection; chosen = answered; yes = over })
found_so config wanted packets segments number connection made verdict searches.Unfinished taken is answered other sought over =
    (sought, record { connection = connection; chosen = answered; over_all = over })

-- and so is what its reason says of other orders
pub instead_so : (config : Config) (wanted : Import) (packets : List Recorded) (segments : List Segment) (report : Report) (number : Option ℕ) (connection : Connection) (made : List Entry)
    (verdict : VerdictValue) (found : Found) → IsAnswered number (length packets) (numbered (reverse segments)) connection
    → IsInsteadOver report config wanted.within (framings_of wanted.selection.session) connection made verdict found
    → IsInstead config wanted packets segments report number made verdict found
instead_so config wanted packets segments report number connection made verdict Nothing answered over = tt
instead_so config wanted packets segments report number connection made verdict TooMany answered over = tt
instead_so config wanted packets segments report number connection made verdict (ByNone u instead) answered over =
    record { connection = connection; chosen = answered; are = over }
instead_so config wanted packets segments report number connection made verdict (ByAnother ends) answered over = tt
instead_so config wanted packets segments report number connection made verdict ByAll answered over = tt

-- the reason of a yes can be put, since it has none
pub yes_can : {X Y : Type 0} (session : Session) (config : Config) (records : List ShownRecord) (verdict : Verdict X) (reason : Option (Reason Y)) → IsYes (verdict_value verdict)
    → HasReason config records verdict reason → CanBePutOf session reason
yes_can session config records (verdicts.Yes ends) reason is has = subst (λ (w : Option (Reason _)). CanBePutOf session w) (sym has) tt
yes_can session config records (verdicts.No count) reason is has = absurd (let never = is in cc)
yes_can session config records verdicts.Unfinished reason is has = absurd (let never = is in cc)

-- what holds if two things do, where something is answered
pub both_ok : {X E : Type 0} (r : Result X E) (P Q H : X → Type 0) → ((x : X) → P x → Q x → H x) → IfOk r P → IfOk r Q → IfOk r H
both_ok (Ok x) P Q H f p q = f x p q
both_ok (Err e) P Q H f p q = tt

-- what holds of the value that there is
pub some_is : {X : Type 0} (o : Option X) (x : X) (P : X → Type 0) → o ≡ Some x → IfSome o P → P x
some_is o x P is h = rw is at h

-- what holds if there is none
pub none_is : {X : Type 0} (o : Option X) (P : Type 0) → o ≡ None → IfNone o P → P
none_is o P is h = rw is at h
