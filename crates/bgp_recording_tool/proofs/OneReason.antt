-- What explains the verdict on a connection is one text.
use Rattle.std.proofs.Common.{◌≡◌, ◌≢◌, ◌∙◌, ℕ, zero, suc, List, [], ◌∷◌, Some, map, slice_get, true, inl, inr, refl, sym, ap, subst}
use Rattle.bgp_prefix.specs.Shown.{ShownRecord}
use Rattle.bgp_prefix.specs.declared.session.Session.{Session}
use Rattle.bgp_prefix.specs.declared.session.RouteRefresh.TheVariants as refreshes
use Rattle.mrt.specs.Capture.{Spells}
use Rattle.mrt.specs.Written.{capture_octets}
use Rattle.bgp_open.specs.declared.config.Config.{Config}
use Rattle.bgp_judge.specs.Verdict.{HasOneVerdict, HasVerdict, VerdictValue, Yes, No, Unfinished}
use Rattle.bgp_import.specs.Once.{RecordingsAreMadeOnce}
use Rattle.bgp_recording.specs.Captured.{MadeRecordsAreRead, records_of}
use Rattle.bgp_recording.specs.Pieces.{framings_of}
use Rattle.bgp_recording.specs.Recorded.{IsRecorded}
use Rattle.bgp_recording.specs.Tells.{Numbered, numbered_of}
use Rattle.bgp_recording.specs.declared.entry.Entry.{Entry}
use Rattle.bgp_why.specs.declared.place.Place.{Place}
use Rattle.bgp_why.specs.Style.{plain}
use Rattle.bgp_why.specs.declared.other_orders.OtherOrders.{OtherOrders}
use Rattle.bgp_why.specs.declared.other_orders.OtherOrders.TheVariants.{Unasked}
use Rattle.bgp_why.specs.declared.style.Style.{Style}
use Rattle.bgp_explain.specs.Laws.{HasOneReason}
use Rattle.bgp_explain.specs.Moments.{first_second}
use Rattle.bgp_explain.specs.Places.{place_with, shown_place, shown_places}
use Rattle.bgp_explain.specs.Records.{SaysOfRecords, SaysOrNot}
use Rattle.bgp_explain.specs.Text.{no_memory_line}
use Rattle.bgp_explain.specs.declared.report.Report.TheVariants.{WithReason}
use Rattle.bgp_recording_tool.specs.Connections.{IsMore, IsMoreOf}
use Rattle.bgp_recording_tool.specs.Found.{Found, Nothing, TooMany, ByNone, ByAnother, ByAll}
use Rattle.bgp_recording_tool.specs.Laws.{AreOfOneOrder, RecordingsAreExplainedInOneWay}
use Rattle.bgp_recording_tool.proofs.SameVerdict.{by_packets, records_by}

-- ---- places

-- of a record that is numbered so
place_by : ℕ → Numbered → Place
place_by number n =
    record { number = number; packet = Some n.moment.packet; second = n.moment.second; micro = n.moment.micro }

-- of the one with this index, for a count and a second
place_at : List Numbered → ℕ → ℕ → ℕ → Place
place_at [] index count second = place_with count second
place_at (n ∷ later) zero count second = place_by count n
place_at (n ∷ later) (suc index) count second = place_at later index count second

places_by : List Numbered → ℕ → ℕ → Place
places_by numbered zero second = place_with zero second
places_by numbered (suc index) second = place_at numbered index (suc index) second

same_at : (entries : List Entry) (index count second : ℕ) → shown_place count second (slice_get entries index) ≡ place_at (map numbered_of entries) index count second
unfolding place_at place_by
same_at [] index count second = refl
same_at (e ∷ later) zero count second = refl
same_at (e ∷ later) (suc index) count second = same_at later index count second

same_place : (entries : List Entry) (count second : ℕ) → shown_places entries count second ≡ places_by (map numbered_of entries) count second
unfolding places_by
same_place entries zero second = refl
same_place entries (suc index) second = same_at entries index (suc index) second

same_places : (entries : List Entry) → shown_places entries ≡ places_by (map numbered_of entries)
same_places entries = λ i count second. same_place entries count second i

-- ---- a reason, where there is one

-- the style of these records
abbrev styled : OtherOrders → List ShownRecord → Style
styled instead records = record (plain (first_second records) true) { other_orders = instead }

module _ (config : Config) (style : Style) (places : ℕ → ℕ → Place) (records : List ShownRecord) where
  said : (verdict : VerdictValue) (more : List ℕ) → SaysOrNot config style config.parts.session places records verdict more → more ≢ no_memory_line
      → SaysOfRecords config style config.parts.session places records verdict more
  said (Yes ends) more h not = h
  said (No count) more (inl h) not = h
  said (No count) more (inr lacks) not = absurd (not lacks)
  said Unfinished more (inl h) not = h
  said Unfinished more (inr lacks) not = absurd (not lacks)

-- ---- of the made entries, and of those of another order

module _ (reason : HasOneReason) (config : Config) (octets : List ℕ) (entries also : List Entry) (same : map numbered_of entries ≡ map numbered_of also)
    (spells : Spells config.parts.session octets (records_of entries)) where
  records : records_of entries ≡ records_of also
  records = records_by entries ∙ ap (map (λ (n : Numbered). n.shown)) same ∙ sym (records_by also)

  places : shown_places entries ≡ shown_places also
  places = same_places entries ∙ ap places_by same ∙ sym (same_places also)

  one_more : (instead : OtherOrders) (verdict judged : VerdictValue) (more other : List ℕ) → verdict ≡ judged → IsMore WithReason config entries instead verdict more
      → IsMore WithReason config also instead judged other → more ≢ no_memory_line → other ≢ no_memory_line → more ≡ other
  one_more instead verdict judged more other is h k some there =
      let own = said config (styled instead (records_of entries)) (shown_places entries) (records_of entries) verdict more h some in
      let its = said config (styled instead (records_of also)) (shown_places also) (records_of also) judged other k there in
      reason config (styled instead (records_of entries)) (shown_places entries) octets (records_of entries) verdict more other spells own
      (subst (λ (rs : List ShownRecord). SaysOfRecords config (styled instead rs) config.parts.session (shown_places entries) rs verdict other) (sym records)
      (subst (λ (ps : ℕ → ℕ → Place). SaysOfRecords config (styled instead (records_of also)) config.parts.session ps (records_of also) verdict other) (sym places)
      (subst (λ (v : VerdictValue). SaysOfRecords config (styled instead (records_of also)) config.parts.session (shown_places also) (records_of also) v other) (sym is) its)))

  one_of : (others beside : List Entry) (verdict judged : VerdictValue) (found : Found) (more other : List ℕ) → verdict ≡ judged
      → IsMoreOf WithReason config entries others verdict found more → IsMoreOf WithReason config also beside judged found other → AreOfOneOrder found others beside
      → more ≢ no_memory_line → other ≢ no_memory_line → more ≡ other
  one_of others beside verdict judged Nothing more other is h k of some there = one_more Unasked verdict judged more other is h k some there
  one_of others beside verdict judged TooMany more other is h k of some there = one_more Unasked verdict judged more other is h k some there
  one_of others beside verdict judged (ByNone u instead) more other is h k of some there = one_more instead verdict judged more other is h k some there
  one_of others beside verdict judged (ByAnother ends) more other is h k of some there =
      h ∙ sym (subst (λ (es : List Entry). IsMore WithReason config es Unasked (Yes ends) other) (sym of) k)
  one_of others beside verdict judged ByAll more other is h k of some there = one_more Unasked verdict judged more other is h k some there

pub one_reason : HasOneReason → MadeRecordsAreRead → RecordingsAreMadeOnce → HasOneVerdict → RecordingsAreExplainedInOneWay
one_reason reason read once verdicts config wanted packets segments number named other verdict judged found more also remarks others can session taken one two of some there =
    let same = (once wanted wanted number packets one.judged.entries two.judged.entries one.judged.notes two.judged.notes (record { selection = refl; within = refl })
    (by_packets config wanted packets segments number taken named verdict found remarks one.judged)
    (by_packets config wanted packets segments number taken other judged found others two.judged)).0 in
    let records : records_of one.judged.entries ≡ records_of two.judged.entries =
    records_by one.judged.entries ∙ ap (map (λ (n : Numbered). n.shown)) same ∙ sym (records_by two.judged.entries) in
    let is = verdicts config (records_of two.judged.entries) verdict judged (subst (λ (rs : List ShownRecord). HasVerdict config rs verdict) records one.judged.is) two.judged.is in
    let recorded : IsRecorded (framings_of config.parts.session) wanted.within one.judged.connection one.judged.entries one.judged.notes.received one.judged.notes.sent =
    subst (λ (s : Session). IsRecorded (framings_of s) wanted.within one.judged.connection one.judged.entries one.judged.notes.received one.judged.notes.sent) session
    one.judged.made.recorded.told in
    let spells = read config.parts.session 0 0 wanted.within one.judged.connection one.judged.entries one.judged.notes.received one.judged.notes.sent can recorded
    (λ refuses. one.judged.without (subst (λ (s : Session). s.refresh ≡ refreshes.Refused) (sym session) refuses)) in (
      is,
      one_of reason config (capture_octets config.parts.session 0 0 (records_of one.judged.entries)) one.judged.entries two.judged.entries same spells
          one.judged.others two.judged.others verdict judged found more also is one.is_more two.is_more of some there,
    )
