-- What is told of a session is told of what is read of it.
use Rattle.std.proofs.Common.{◌≡◌, ◌⊎◌, ◌↔◌, Bool, IsTrue, List, Option, Some, subst, inl, inr}
use Rattle.bgp_prefix.specs.Shown.{ShownRecord}
use Rattle.bgp_prefix.specs.declared.session.Session.{Session}
use Rattle.mrt.specs.declared.fault.CaptureFault.{CaptureFault}
use Rattle.mrt.specs.declared.sink.Sink as sinks
use Rattle.mrt_sessions.specs.File.{Located}
use Rattle.mrt_sessions.specs.Reading.{IsReading}
use Rattle.mrt_sessions.specs.declared.addresses.Addresses.{Addresses}
use Rattle.mrt_sessions.specs.declared.lengths.ExtendedMessages.{ExtendedMessages}
use Rattle.bgp_machine.specs.Lists.{Has}
use Rattle.bgp_check_lines.specs.declared.check_lines.CheckLines.{CheckLines}
use Rattle.bgp_check.specs.SessionOffers.{HearsOffer, SendsOffer}
use Rattle.bgp_check_lines.specs.Capture.{no_memory}
use Rattle.bgp_check_lines.specs.DeclaredTally.{Tally}
use Rattle.bgp_check_capture_tool.specs.Ends.{IsSessionTold, addresses_of, session_of, view_of}
use Rattle.bgp_check_capture_tool.specs.Judging.{telling_where}
use Rattle.bgp_check_capture_tool.specs.Putting.{Puts, RecordsUpTo}
use Rattle.bgp_check_capture_tool.specs.StretchEnd.{View}
use Rattle.bgp_check_capture_tool.specs.declared.ends.Put.{Put}
use Rattle.bgp_check_capture_tool.specs.declared.marks.StretchMarks.{StretchMarks}
use Rattle.bgp_check_capture_tool.specs.declared.telling.Telling.{Telling}

pub seen_as : (telling : Telling) (addresses : Addresses) (named : List Located) (refusal : Option CaptureFault) (after : Telling) (session : Session)
    → after ≡ telling_where refusal telling → session ≡ session_of addresses
    → ◌≡◌ {A = View} (record { telling = after; session = session; named = named }) (view_of telling addresses named refusal)
seen_as telling addresses named refusal after session is_after is_session = λ i. record { telling = is_after i; session = is_session i; named = named }

pub all_told : {Y T : Type 0} {sink : sinks.Ghosts T} (telling : Telling) (addresses : Addresses) (named : List Located) (view : View) (records shown : List ShownRecord) (extended : ExtendedMessages)
    (refusal fault : Option CaptureFault) (all : Bool) (lines lines' : CheckLines Y T sink) (tally : Tally) (put : Put) (marks marks' : StretchMarks Y) → view ≡ view_of telling addresses named refusal → records ≡ shown
    → (IsTrue extended.received ↔ Has SendsOffer named) → (IsTrue extended.sent ↔ Has HearsOffer named) → IsReading addresses extended named shown refusal
    → (IsTrue all × (fault ≡ refusal)) ⊎ ((¬ IsTrue all) × (fault ≡ Some no_memory)) → Puts view.telling.printing (addresses_of view.session) view.named lines lines' tally put marks marks' (RecordsUpTo view records all)
    → Puts telling.printing addresses named lines lines' tally put marks marks' (λ ends. IsSessionTold telling addresses named ends fault)
all_told telling addresses named view records shown extended refusal fault all lines lines' tally put marks marks' is_view is_records received sent reading how puts =
    let p = subst (λ (rs : List ShownRecord). Puts telling.printing addresses named lines lines' tally put marks marks' (RecordsUpTo (view_of telling addresses named refusal) rs all)) is_records
    (subst (λ (v : View). Puts v.telling.printing (addresses_of v.session) v.named lines lines' tally put marks marks' (RecordsUpTo v records all)) is_view puts) in
    record {
      ends = p.ends;
      told = inl record {
        extended = extended;
        is_received = received;
        is_sent = sent;
        records = shown;
        refusal = refusal;
        reading = reading;
        rest = p.told.0;
        tells = p.told.2;
        is_fault = elim how [
          | inl so ↦ inl (p.told.1.0 so.0, so.1)
          | inr none ↦ inr (λ rest. none.0 (p.told.1.1 rest), none.1)
        ];
      };
      adds = p.adds;
      tallied = p.tallied;
      marked = p.marked;
    }
