-- What judging tells of the connections of a session, in a recording that was read to its end.
use Rattle.std.specs.Prelude.{◌↔◌, ◌≡◌, ◌<◌, ◌⊎◌, ◌++◌, ℕ, zero, suc, Bool, List, [], ◌∷◌}
use Rattle.std.specs.Prelude.{true, IsTrue, Option, None, Some, length, reverse, codes}
use Rattle.std.specs.List.{AllByRecursion}
use Rattle.packets.specs.Packet.{Recorded}
use Rattle.streams.specs.Choice.{IsAnswered, OpensAs, numbered_one}
use Rattle.streams.specs.Connections.{numbered}
use Rattle.streams.specs.Passed.{Segment}
use Rattle.streams.specs.declared.connection.Connection.{Connection}
use Rattle.streams.specs.declared.connection.Opening.{Opening}
use Rattle.bgp_prefix.specs.declared.session.RouteRefresh.TheVariants as refreshes
use Rattle.bgp_parts.specs.Confederations.{SomeShowConfederations}
use Rattle.bgp_open.specs.declared.config.Config.{Config}
use Rattle.bgp_judge.specs.Verdict.{VerdictValue, Yes, No, Unfinished, HasVerdict}
use Rattle.bgp_recording.specs.Captured.{IsNoRefresh, records_of}
use Rattle.bgp_recording.specs.Pieces.{framings_of}
use Rattle.bgp_recording.specs.declared.entry.Entry.{Entry}
use Rattle.bgp_recording.specs.declared.framing.Framings.{Framings}
use Rattle.bgp_recording.specs.declared.framing.Unshown.{Unshown}
use Rattle.bgp_machine.specs.Run.{End}
use Rattle.bgp_orders.specs.Connections.{IsOverOrders}
use Rattle.bgp_orders.specs.WholeWays.{AreOfAWayOver}
use Rattle.bgp_orders.specs.declared.connection.OverOrders.{OverOrders}
use Rattle.bgp_orders.specs.declared.connection.OverOrders.TheVariants as over
use Rattle.bgp_instead.specs.OtherOrders.{AreOtherOrders}
use Rattle.bgp_import.specs.Importing.{IsMadeOf}
use Rattle.bgp_import.specs.ListText.{opening_text}
use Rattle.bgp_import.specs.Making.{IsTurnedDown}
use Rattle.bgp_import.specs.Refreshes.{IsRefreshIn}
use Rattle.bgp_import.specs.declared.importing.Import.{Import}
use Rattle.bgp_import.specs.declared.note.Notes.{Notes}
use Rattle.bgp_import.specs.declared.refusal.Refusal.{Refusal}
use Rattle.bgp_explain.specs.LeftOut.{JudgesWithout}
use Rattle.bgp_explain.specs.declared.left_out.LeftOut.{LeftOut}
use Rattle.bgp_explain.specs.Places.{shown_places}
use Rattle.bgp_why.specs.declared.other_orders.OtherOrders.{OtherOrders}
use Rattle.bgp_why.specs.declared.other_orders.OtherOrders.TheVariants.{Unasked}
use Rattle.bgp_why.specs.declared.style.Style.{Style}
use Rattle.bgp_why.specs.Style.{plain}
use Rattle.bgp_explain.specs.Moments.{first_second}
use Rattle.bgp_explain.specs.Records.{SaysOrNot}
use Rattle.bgp_explain.specs.declared.report.Report.{Report}
use Rattle.bgp_explain.specs.declared.report.Report.TheVariants.{VerdictAlone, WithReason}
use Rattle.bgp_recording_tool.specs.declared.remark.Remark.{Remark}
use Rattle.bgp_recording_tool.specs.Remarks.{AreRemarks, IsHelp}
use Rattle.bgp_recording_tool.specs.Found.{Found, Nothing, TooMany, ByNone, ByAnother, ByAll}
use Rattle.bgp_recording_tool.specs.Found.{IsNo, IsNoYes, IsYes}
use Rattle.bgp_recording_tool.specs.Told.{Told, Judged, NoOrder, InAnotherOrder, Refused}
use Rattle.bgp_recording_tool.specs.Told.{UnfinishedOverAll, status_over, told_status, told_text}

-- One connection more is told of, under its line: what was told before it stands before it. Its
-- status comes first.
pub record HasOneMore (Before : List ℕ → List ℕ → List Remark → Type 0)
    (IsOpening : Opening → Type 0) (IsTold : Told → List Remark → Type 0)
    (line_of : Opening → List ℕ) (text statuses : List ℕ) (remarks : List Remark)
    : Type 0 where
  pub earlier : List ℕ
  pub before_it : List ℕ
  pub others : List Remark
  pub before : Before earlier before_it others
  pub opening : Opening
  pub opens : IsOpening opening
  pub told : Told
  pub own : List Remark
  pub is_told : IsTold told own
  pub prints : text ≡ earlier ++ (line_of opening ++ (codes "\n" ++ told_text told))
  pub tells : statuses ≡ told_status told ∷ before_it
  pub remarked : remarks ≡ others ++ own

-- These entries are those of an order of the connection's messages that the packets allow within
-- the patience: of a way. A yes with these ends is the verdict on their records.
pub record IsYesOver (config : Config) (within : ℕ) (framings : Framings)
    (connection : Connection) (entries : List Entry) (ends : List End) : Type 0 where
  pub received : Unshown
  pub sent : Unshown
  pub of : AreOfAWayOver framings within connection entries received sent
  pub is : HasVerdict config (records_of entries) (Yes ends)

-- This is found over all orders of the connection's messages that the packets allow, where this
-- verdict is no yes. Nothing stands in its place if it is unfinished, and so it is over all of
-- them. If another order is a yes, these are its entries.
abbrev pub IsFoundOver : Config → ℕ → Framings → Connection → VerdictValue → List Entry → Found
    → Type 0
IsFoundOver config within framings connection verdict others Nothing =
    (verdict ≡ Unfinished) × IsOverOrders config within framings connection over.Unfinished
IsFoundOver config within framings connection verdict others TooMany =
    IsOverOrders config within framings connection over.TooMany
IsFoundOver config within framings connection verdict others (ByNone u instead) =
    IsOverOrders config within framings connection (over.No u)
IsFoundOver config within framings connection verdict others (ByAnother ends) =
    IsYesOver config within framings connection others ends
IsFoundOver config within framings connection verdict others ByAll =
    IsOverOrders config within framings connection over.Unfinished

-- What a reason says of other orders, if one is wanted, where no order explains the sent message
-- behind so many, and the verdict on these made entries is a no.
abbrev pub AreInsteadOver : Report → Config → ℕ → Framings → Connection → ℕ → List Entry
    → VerdictValue → OtherOrders → Type 0
AreInsteadOver WithReason config within framings connection before made (No count) instead =
    AreOtherOrders config within framings connection before made count instead
AreInsteadOver report config within framings connection before made verdict instead =
    instead ≡ Unasked

-- and of what is found
abbrev pub IsInsteadOver : Report → Config → ℕ → Framings → Connection → List Entry → VerdictValue
    → Found → Type 0
IsInsteadOver report config within framings connection made verdict (ByNone u instead) =
    AreInsteadOver report config within framings connection u.before made verdict instead
IsInsteadOver report config within framings connection made verdict found = Unit {0}

-- The session's packets have these segments, none of which is refused.
module _ (config : Config) (wanted : Import) (packets : List Recorded) (segments : List Segment)
  where
    -- These entries are made of the connection with this number, or of the only one, and this is
    -- the verdict on their records.
    pub record IsMadeVerdict (number : Option ℕ) (entries : List Entry) (verdict : VerdictValue)
        : Type 0 where
      pub connection : Connection
      pub notes : Notes
      pub chosen : IsAnswered number (length packets) (numbered (reverse segments)) connection
      pub made : IsMadeOf wanted connection entries notes
      pub is : HasVerdict config (records_of entries) verdict

    -- This is the verdict over all orders of the messages of the connection with this number, or of
    -- the only one, that the packets allow within the patience; or it isn't known, for too many
    -- nodes.
    pub record IsOverAll (number : Option ℕ) (verdict : OverOrders) : Type 0 where
      pub connection : Connection
      pub chosen : IsAnswered number (length packets) (numbered (reverse segments)) connection
      pub over_all : IsOverOrders config wanted.within (framings_of wanted.selection.session)
          connection verdict

    -- These entries are those of an order of the connection with this number, or of the only one,
    -- that the packets allow within the patience. A yes with these ends is the verdict on their
    -- records.
    pub record IsYesOfAnother (number : Option ℕ) (entries : List Entry) (ends : List End)
        : Type 0 where
      pub connection : Connection
      pub chosen : IsAnswered number (length packets) (numbered (reverse segments)) connection
      pub yes : IsYesOver config wanted.within (framings_of wanted.selection.session) connection
          entries ends

    -- Nothing is found that stands in place of this verdict on the made records: it is a yes; or
    -- it is unfinished, and so it is over all orders.
    abbrev pub IsNothing : Option ℕ → VerdictValue → Type 0
    IsNothing number verdict =
        IsYes verdict ⊎ ((verdict ≡ Unfinished) × IsOverAll number over.Unfinished)

    -- This is what the reason of that connection's no says of other orders, where no order explains
    -- the sent message behind so many. These are its made entries.
    pub record AreInstead (report : Report) (number : Option ℕ) (before : ℕ) (made : List Entry)
        (verdict : VerdictValue) (instead : OtherOrders) : Type 0 where
      pub connection : Connection
      pub chosen : IsAnswered number (length packets) (numbered (reverse segments)) connection
      pub are : AreInsteadOver report config wanted.within
          (framings_of wanted.selection.session) connection before made verdict instead

    -- and of what is found
    abbrev pub IsInstead : Report → Option ℕ → List Entry → VerdictValue → Found → Type 0
    IsInstead report number made verdict (ByNone u instead) =
        AreInstead report number u.before made verdict instead
    IsInstead report number made verdict found = Unit {0}

    -- This is found over all orders, where this is the verdict on the made one. If another order is
    -- a yes, these are its entries.
    abbrev pub IsFound : Option ℕ → VerdictValue → List Entry → Found → Type 0
    IsFound number verdict others Nothing = IsNothing number verdict
    IsFound number verdict others TooMany = IsNoYes verdict × IsOverAll number over.TooMany
    IsFound number verdict others (ByNone u instead) = IsNo verdict × IsOverAll number (over.No u)
    IsFound number verdict others (ByAnother ends) =
        IsNoYes verdict × IsYesOfAnother number others ends
    IsFound number verdict others ByAll = IsNo verdict × IsOverAll number over.Unfinished

    -- These entries are made of the connection with this number, or of the only one, and this is
    -- the verdict on their records. None of them is a ROUTE-REFRESH, where the session refuses
    -- one. And this is found over all orders. It is remarked if one of the records shows an UPDATE
    -- of a confederation, and what is left out of what both OPENs offer.
    pub record IsJudged (number named : Option ℕ) (verdict : VerdictValue) (found : Found)
        (remarks : List Remark) : Type 0 where
      pub connection : Connection
      pub entries : List Entry
      pub notes : Notes
      pub chosen : IsAnswered number (length packets) (numbered (reverse segments)) connection
      pub made : IsMadeOf wanted connection entries notes
      pub without : wanted.selection.session.refresh ≡ refreshes.Refused
          → AllByRecursion IsNoRefresh (records_of entries)
      pub is : HasVerdict config (records_of entries) verdict
      pub others : List Entry
      pub is_found : IsFound number verdict others found
      pub confederation : Bool
      pub shows : IsTrue confederation ↔ SomeShowConfederations (records_of entries)
      pub left_out : LeftOut
      pub leaves_out : JudgesWithout config (records_of entries) left_out
      pub remarked : AreRemarks named wanted.within entries notes confederation left_out verdict
          found remarks

    -- the session refuses a ROUTE-REFRESH, and there is one
    pub record HasRefresh (number : Option ℕ) (refusal : Refusal) : Type 0 where
      pub connection : Connection
      pub entries : List Entry
      pub notes : Notes
      pub chosen : IsAnswered number (length packets) (numbered (reverse segments)) connection
      pub made : IsMadeOf wanted connection entries notes
      pub refuses : wanted.selection.session.refresh ≡ refreshes.Refused
      pub is : IsRefreshIn entries notes.received.rest notes.sent.rest (Some refusal)

    -- or it is refused, or memory was refused
    pub record IsNotJudged (number named : Option ℕ) (refusal : Refusal) (remarks : List Remark)
        : Type 0 where
      pub why : IsTurnedDown number packets segments refusal ⊎ HasRefresh number refusal
      pub helps : IsHelp named refusal remarks

    -- how the connection with this number was opened
    abbrev pub IsOpening : ℕ → Opening → Type 0
    IsOpening number opening =
        (opening.number ≡ number)
        × OpensAs (numbered_one (numbered (reverse segments)) number) opening

    -- none is named, and several hold octets
    abbrev pub HasSeveral : Type 0
    HasSeveral = (wanted.connection ≡ None) × (1 < length (numbered (reverse segments)))

-- the records are those of a recording, a time of the first one's day has no date, and this is said
-- of other orders
abbrev pub made_style : List Entry → OtherOrders → Style
made_style entries instead =
    record (plain (first_second (records_of entries)) true) { other_orders = instead }

-- What stands after the verdict on the records of these entries: nothing; or what explains it, with
-- what is said of other orders, or that memory was refused for the reason.
abbrev pub IsMore : Report → Config → List Entry → OtherOrders → VerdictValue → List ℕ → Type 0
IsMore VerdictAlone config entries instead verdict more = more ≡ []
IsMore WithReason config entries instead verdict more =
    SaysOrNot config (made_style entries instead) config.parts.session (shown_places entries)
    (records_of entries) verdict more

-- And where this is found over all orders: if another order is a yes, it is about the entries of
-- that, and else about the made ones.
abbrev pub IsMoreOf : Report → Config → List Entry → List Entry → VerdictValue → Found → List ℕ
    → Type 0
IsMoreOf report config made others verdict Nothing more =
    IsMore report config made Unasked verdict more
IsMoreOf report config made others verdict TooMany more =
    IsMore report config made Unasked verdict more
IsMoreOf report config made others verdict (ByNone u instead) more =
    IsMore report config made instead verdict more
IsMoreOf report config made others verdict (ByAnother ends) more =
    IsMore report config others Unasked (Yes ends) more
IsMoreOf report config made others verdict ByAll more =
    IsMore report config made Unasked verdict more

-- And this is reported of the session's connections.
module _ (config : Config) (report : Report) (wanted : Import) (packets : List Recorded)
    (segments : List Segment) where
  -- It is judged, and this stands after the verdict.
  pub record IsReported (number named : Option ℕ) (verdict : VerdictValue) (found : Found)
      (more : List ℕ) (remarks : List Remark) : Type 0 where
    pub judged : IsJudged config wanted packets segments number named verdict found remarks
    pub is_more : IsMoreOf report config judged.entries judged.others verdict found more
    pub instead : IsInstead config wanted packets segments report number judged.entries verdict
        found

  -- What is told of the connection with this number, or of the only one. What is remarked names it
  -- where several are told of.
  abbrev pub IsTold : Option ℕ → Option ℕ → Told → List Remark → Type 0
  IsTold number named (Judged verdict more) remarks =
      IsReported number named verdict Nothing more remarks
      ⊎ IsReported number named verdict TooMany more remarks
  IsTold number named (NoOrder u more) remarks =
      (verdict : VerdictValue) × (instead : OtherOrders)
      × IsReported number named verdict (ByNone u instead) more remarks
  IsTold number named (InAnotherOrder ends more) remarks =
      (verdict : VerdictValue) × IsReported number named verdict (ByAnother ends) more remarks
  IsTold number named (UnfinishedOverAll more) remarks =
      (verdict : VerdictValue) × IsReported number named verdict ByAll more remarks
  IsTold number named (Refused refusal) remarks =
      IsNotJudged config wanted packets segments number named refusal remarks

  -- it is told of with this text and this status
  pub record IsToldAs (number named : Option ℕ) (text : List ℕ) (status : ℕ)
      (remarks : List Remark) : Type 0 where
    pub told : Told
    pub is_told : IsTold number named told remarks
    pub prints : text ≡ told_text told
    pub tells : status ≡ told_status told

  -- the first so many connections are told of, each from Idle on, with these statuses
  abbrev pub AreEachTold : ℕ → List ℕ → List ℕ → List Remark → Type 0
  AreEachTold zero text statuses remarks = (text ≡ []) × (statuses ≡ []) × (remarks ≡ [])
  AreEachTold (suc count) text statuses remarks =
      HasOneMore (AreEachTold count) (IsOpening config wanted packets segments (suc count))
      (IsTold (Some (suc count)) (Some (suc count))) (opening_text config.parts.session)
      text statuses remarks

  -- and this is the status over them
  pub record AreTold (count : ℕ) (text : List ℕ) (status : ℕ) (remarks : List Remark) : Type 0
    where
      pub statuses : List ℕ
      pub each : AreEachTold count text statuses remarks
      pub tells : status ≡ status_over statuses

  -- where none is named and several hold octets each is told of, and else the one that is meant
  abbrev pub AllAreTold : List ℕ → ℕ → List Remark → Type 0
  AllAreTold text status remarks =
      (HasSeveral config wanted packets segments
      × AreTold (length (numbered (reverse segments))) text status remarks)
      ⊎ ((¬ HasSeveral config wanted packets segments)
      × IsToldAs wanted.connection None text status remarks)
