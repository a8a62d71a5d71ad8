-- What is told of a recording and its connections besides what is answered, sentence by sentence.
use Rattle.std.specs.Prelude.{◌≡◌, ◌⊎◌, ℕ, Bool, true, false, List, [], ◌∷◌, ◌++◌, map}
use Rattle.std.specs.Prelude.{Option, None, Some}
use Rattle.std.specs.Prelude.{if◌then◌else◌}
use Rattle.std.specs.List.{list_any, slice_get}
use Rattle.mrt.specs.Reader.{shown_of}
use Rattle.bgp_tool.specs.Seen.{is_sent}
use Rattle.bgp_judge.specs.Verdict.{VerdictValue, Yes, No, Unfinished}
use Rattle.bgp_recording.specs.declared.entry.Entry.{Entry}
use Rattle.bgp_recording.specs.declared.making.Recording.{Recording}
use Rattle.bgp_import.specs.Captures.{put_off}
use Rattle.bgp_import.specs.Notes.{notes_in_order}
use Rattle.bgp_import.specs.Refusals.{cause_of}
use Rattle.bgp_import.specs.declared.refusal.Cause.{Cause}
use Rattle.bgp_import.specs.declared.refusal.Cause.TheVariants as causes
use Rattle.bgp_import.specs.declared.refusal.Refusal.{Refusal}
use Rattle.bgp_import.specs.declared.note.Note.{Note}
use Rattle.bgp_import.specs.declared.note.Notes.{Notes}
use Rattle.bgp_open.specs.declared.route_offer.RouteOffer.{RouteOffer}
use Rattle.bgp_explain.specs.declared.left_out.LeftOut.{LeftOut}
use Rattle.bgp_recording_tool.specs.Found.{Found, Nothing, TooMany, ByNone, ByAnother, ByAll}
use Rattle.bgp_recording_tool.specs.declared.remark.Remark.{Remark}
use Rattle.bgp_recording_tool.specs.declared.remark.RemarkKind.{RemarkKind}
use Rattle.bgp_recording_tool.specs.declared.remark.RemarkKind.TheVariants as kinds

-- those that there are
abbrev pub some_of : {X : Type 0} → List (Option X) → List X
some_of [] = []
some_of (None ∷ more) = some_of more
some_of (Some x ∷ more) = x ∷ some_of more

-- how the records were made
abbrev pub notes_of : {X : Type 0} → Recording X → Notes
notes_of made = record {
  received = made.received;
  sent = made.sent;
  put_off = put_off 0 made.entries.items;
}

-- a sentence on the connection of this number, where several are told of, or on the only one
abbrev pub remark_on : Option ℕ → RemarkKind → Remark
remark_on connection kind = record { connection = connection; kind = kind }

abbrev pub making_remark : Option ℕ → Option Note → Option Remark
making_remark connection None = None
making_remark connection (Some note) = Some (remark_on connection (kinds.Made note))

abbrev pub making_remarks : Option ℕ → Notes → List (Option Remark)
making_remarks connection notes = map (making_remark connection) (notes_in_order notes)

-- the packet that shows the entry after so many
abbrev pub packet_of : Option Entry → ℕ
packet_of None = 0
packet_of (Some entry) = entry.packet

abbrev pub packet_after : List Entry → ℕ → ℕ
packet_after entries count = packet_of (slice_get entries count)

-- some entry is a message that the local system sent
abbrev pub has_sent : List Entry → Bool
has_sent entries = list_any (λ entry. is_sent (shown_of entry.record)) entries

-- that an UPDATE of a confederation is among the records, where one is
abbrev pub confederation_remark : Option ℕ → Bool → Option Remark
confederation_remark connection true = Some (remark_on connection kinds.Confederation)
confederation_remark connection false = None

-- that nothing is configured to be offered about routes, though both OPENs offer something
abbrev pub without_remark : Option ℕ → Option RouteOffer → Option Remark
without_remark connection None = None
without_remark connection (Some offer) = Some (remark_on connection (kinds.Without offer))

-- that nothing was sent, where that is so
abbrev pub unsent_remark : Option ℕ → List Entry → Option Remark
unsent_remark connection entries =
    if has_sent entries then None else Some (remark_on connection kinds.NothingSent)

-- of a yes, that nothing was sent, where that is so
abbrev pub yes_remark : Option ℕ → List Entry → VerdictValue → Option Remark
yes_remark connection entries (Yes ends) = unsent_remark connection entries
yes_remark connection entries (No count) = None
yes_remark connection entries Unfinished = None

-- That the verdict is about one order, and how long a message may have waited in it. Of a no, how
-- many records come before the first impossible one, and the packet that shows that, too.
abbrev pub one_order_remark : Option ℕ → ℕ → List Entry → VerdictValue → Option Remark
one_order_remark connection within entries (Yes ends) = unsent_remark connection entries
one_order_remark connection within entries (No count) =
    Some (remark_on connection (kinds.No count (packet_after entries count) within))
one_order_remark connection within entries Unfinished =
    Some (remark_on connection (kinds.OneOrder within))

-- If there are too many orders, it is said that the verdict is about one. If a sent message is
-- known that no order explains, the remark says how many come before it, its packet, and how long a
-- message may have waited. For a yes it says that nothing was sent, if that is so.
abbrev pub verdict_remark : Option ℕ → ℕ → List Entry → VerdictValue → Found → Option Remark
verdict_remark connection within entries verdict Nothing = yes_remark connection entries verdict
verdict_remark connection within entries verdict TooMany =
    one_order_remark connection within entries verdict
verdict_remark connection within entries verdict (ByNone u instead) =
    Some (remark_on connection (kinds.NoOrder u.before u.packet within))
verdict_remark connection within entries verdict (ByAnother ends) =
    unsent_remark connection entries
verdict_remark connection within entries verdict ByAll = None

-- what the made order is, if what is answered isn't its verdict: no yes, beside the yes of another;
-- or a no, beside what is unfinished over all
abbrev pub made_order_remark : Option ℕ → Found → Option Remark
made_order_remark connection Nothing = None
made_order_remark connection TooMany = None
made_order_remark connection (ByNone u instead) = None
made_order_remark connection (ByAnother ends) = Some (remark_on connection kinds.AnotherOrder)
made_order_remark connection ByAll = Some (remark_on connection kinds.AllOrders)

-- All that is told of a connection of which these entries are made: with this patience, with an
-- UPDATE of a confederation or without, and where this is left out of what both OPENs offer.
abbrev pub remarks_on : Option ℕ → ℕ → List Entry → Notes → Bool → LeftOut → VerdictValue → Found
    → List Remark
remarks_on connection within entries notes confederation left_out verdict found =
    some_of (making_remarks connection notes ++ confederation_remark connection confederation
    ∷ without_remark connection left_out.without ∷ made_order_remark connection found
    ∷ verdict_remark connection within entries verdict found ∷ [])

-- just that is told
abbrev pub AreRemarks : Option ℕ → ℕ → List Entry → Notes → Bool → LeftOut → VerdictValue → Found
    → List Remark → Type 0
AreRemarks connection within entries notes confederation left_out verdict found remarks =
    remarks ≡ remarks_on connection within entries notes confederation left_out verdict found

-- what helps against a refusal, if anything does
abbrev pub help_by : Cause → Option ℕ → Refusal → Option Remark
help_by causes.Recording connection refusal =
    Some (remark_on connection (kinds.Refused (record { refusal = refusal })))
help_by causes.Memory connection refusal =
    Some (remark_on connection (kinds.Refused (record { refusal = refusal })))
help_by causes.Device connection refusal = None

abbrev pub refused_remark : Option ℕ → Refusal → Option Remark
refused_remark connection refusal = help_by (cause_of refusal) connection refusal

-- that is told, or nothing where there was no memory for it
abbrev pub IsHelp : Option ℕ → Refusal → List Remark → Type 0
IsHelp connection refusal remarks =
    (remarks ≡ some_of (refused_remark connection refusal ∷ [])) ⊎ (remarks ≡ [])

-- something was added to what is told of connections
pub record AddsTold (old new : List Remark) (IsTold : List Remark → Type 0) : Type 0 where
  pub own : List Remark
  pub added : new ≡ old ++ own
  pub is_told : IsTold own
