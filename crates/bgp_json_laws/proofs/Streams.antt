-- Streams with one text are the same, up to a header with faults.
use Rattle.std.proofs.Common.{◌≡◌, ◌∙◌, ◌++◌, ◌+◌, ◌<◌, ◌^◌, ℕ, Bool, List, [], ◌∷◌, All, append-nil, append_assoc, codes, length, refl, sym, ap, ap₂, subst, arith, inl, inr}
use Rattle.std.proofs.lemmas.List.{length-append}
use Rattle.std.proofs.lemmas.List.Concat.{flat_map-append}
use Rattle.std.proofs.lemmas.List.Elements.{All-cons, All-head, All-nil, All-tail, All-take}
use Rattle.json.specs.Json.{Json}
use Rattle.bgp_wire.specs.Framing.{joined}
use Rattle.bgp_wire.specs.Header.{header_of}
use Rattle.bgp_wire.specs.Octets.{AreOctets}
use Rattle.bgp_wire.specs.declared.header.HeaderFaults.{HeaderFaults}
use Rattle.bgp_wire.specs.declared.header.Limit.{Limit}
use Rattle.bgp_text.specs.Message.{Message, open_message, malformed_open_message, update_message, malformed_update_message, notification_message, keepalive_message}
use Rattle.bgp_values.specs.declared.opens.Direction.TheVariants.{Received}
use Rattle.bgp_values.specs.declared.opens.Reading.{Reading}
use Rattle.bgp_json.specs.MessageJson.{message_json}
use Rattle.bgp_json.specs.Object.{json_line}
use Rattle.bgp_json.specs.Others.{header_json, rest_json}
use Rattle.bgp_json.specs.Output.{IsJson}
use Rattle.bgp_json.specs.RecordJson.{IsFrameJson}
use Rattle.bgp_json.specs.declared.output_form.OutputForm.{OutputForm}
use Rattle.bgp_json.specs.declared.output_form.OutputForm.TheVariants as forms
use Rattle.bgp_json.specs.declared.place.Place.{Place}
use Rattle.bgp_json.specs.declared.place.Place.TheVariants.{InStream}
use Rattle.bgp_json.proofs.Shallow.{rest_shallow}
use Rattle.bgp_tool.specs.Decoding.{AreFrameLines, IsLastLine, stream_before}
use Rattle.bgp_json_laws.specs.Texts.{StreamsDiffer}
use Rattle.bgp_json_laws.proofs.Decimals.{of_number}
use Rattle.bgp_json_laws.proofs.Frames.{first_frame}
use Rattle.bgp_json_laws.proofs.Lookups.{text_of, value_at}
use Rattle.bgp_json_laws.proofs.Messages.{in_parts, kind_of}
use Rattle.bgp_json_laws.proofs.Objects.{frame_printed, header_printed, message_or_fault, same_header}
use Rattle.bgp_json_laws.proofs.Places.{differ}
use Rattle.bgp_json_laws.proofs.Printing.{IsPrinted, same_first_line, same_line}
use Rattle.bgp_json_laws.proofs.Records.{some_line}
use Rattle.bgp_json_laws.proofs.Texts.{IsOctet, same_octets}
use Rattle.bgp_json_laws.proofs.Updates.{back_are, front_are}

-- ---- the last line

rest_printed : (offset : ℕ) (octets : List ℕ) → offset < 2 ^ 64 → length octets < 2 ^ 64 → IsPrinted (rest_json offset octets)
rest_printed offset octets small fits = record { decimals = (tt, (of_number offset small, (of_number (length octets) fits, (tt, tt)))); shallow = rest_shallow offset octets }

type_in : Json → List ℕ
type_in j = text_of (value_at (codes "type") j)

type_of_message : (reading : Reading) (place : Place) (octets : List ℕ) (message : Message) → type_in (message_json reading place octets message) ≡ kind_of message
unfolding type_in
type_of_message reading place octets message = ap (λ (j : Json). text_of (value_at (codes "type") j)) (in_parts reading place octets message)

no_rest : (message : Message) → kind_of message ≡ codes "rest" → ⊥
no_rest (open_message fields) e = differ (codes "open") (codes "rest") refl refl e
no_rest (malformed_open_message fault) e = differ (codes "malformed_open") (codes "rest") refl refl e
no_rest (update_message parts) e = differ (codes "update") (codes "rest") refl refl e
no_rest malformed_update_message e = differ (codes "malformed_update") (codes "rest") refl refl e
no_rest (notification_message code subcode detail) e = differ (codes "notification") (codes "rest") refl refl e
no_rest keepalive_message e = differ (codes "keepalive") (codes "rest") refl refl e

-- a message is no rest
message_or_rest : (reading : Reading) (place : Place) (octets others : List ℕ) (message : Message) (offset : ℕ)
    → message_json reading place octets message ≡ rest_json offset others → ⊥
unfolding type_in
message_or_rest reading place octets others message offset e =
    no_rest message (sym (type_of_message reading place octets message) ∙ ap (λ (j : Json). text_of (value_at (codes "type") j)) e)

-- and neither is a header with faults
fault_or_rest : (place : Place) (faults : HeaderFaults) (header octets others : List ℕ) (offset : ℕ) → header_json place faults header octets ≡ rest_json offset others → ⊥
fault_or_rest place faults header octets others offset e =
    differ (codes "fault") (codes "rest") refl refl (ap (λ (j : Json). text_of (value_at (codes "type") j)) e)

-- how a stream ends, in JSON
abbrev IsLast : Limit → Bool → ℕ → List ℕ → List ℕ → ℕ → Type 0
IsLast limit as2 offset rest line status = IsLastLine limit (forms.Json as2) offset rest line status

-- the last line is that of no frame
end_or_frame : (limit : Limit) (as2 : Bool) (offset : ℕ) (rest line : List ℕ) (status : ℕ) (reading : Reading) (place : ℕ) (frame : List ℕ) (value : Json) (more : List ℕ)
    → offset < 2 ^ 64 → length rest < 2 ^ 64 → AreOctets rest → place < 2 ^ 64 → AreOctets frame
    → IsLast limit as2 offset rest line status → IsFrameJson reading (InStream place) frame value → line ≡ json_line value ++ more → ⊥
end_or_frame limit as2 offset rest line status reading place frame value more small fits are low too h k e = elim h [
  | inl a ↦ some_line value more (sym e ∙ a.1)
  | inr b ↦ elim b [
    | inl a ↦
        let lines : json_line (rest_json offset rest) ++ [] ≡ json_line value ++ more = append-nil (json_line (rest_json offset rest)) ∙ sym a.2 ∙ e in
        let same = same_first_line (rest_json offset rest) value [] more (rest_printed offset rest small fits) (frame_printed reading (InStream place) frame value low too k) lines in
        message_or_rest reading (InStream place) frame rest k.0 offset (sym k.2 ∙ sym same.0)
    | inr a ↦
        let object = header_json (InStream offset) a.2.0 (header_of rest) (header_of rest) in
        let lines : json_line object ++ [] ≡ json_line value ++ more = append-nil (json_line object) ∙ sym a.2.2 ∙ e in
        let same = same_first_line object value [] more (header_printed (InStream offset) a.2.0 (header_of rest) (header_of rest) small (All-take IsOctet 19 rest are))
        (frame_printed reading (InStream place) frame value low too k) lines in
        message_or_fault reading (InStream place) (InStream offset) frame (header_of rest) (header_of rest) k.0 a.2.0 (sym k.2 ∙ sym same.0)
  ]
]

-- two ends with one last line
record SameEnd (rest left : List ℕ) (status state : ℕ) : Type 0 where
  statuses : status ≡ state
  header : header_of rest ≡ header_of left
  whole : status < 3 → rest ≡ left

same_end : (limit also : Limit) (as2 other : Bool) (offset place : ℕ) (rest left line : List ℕ) (status state : ℕ) → offset < 2 ^ 64 → place < 2 ^ 64 → length rest < 2 ^ 64 → length left < 2 ^ 64
    → AreOctets rest → AreOctets left → IsLast limit as2 offset rest line status → IsLast also other place left line state → SameEnd rest left status state
same_end limit also as2 other offset place rest left line status state small low fits room are too h k = elim h [
  | inl a ↦ elim k [
    | inl b ↦
        let same = a.0 ∙ sym b.0 in
        record { statuses = a.2 ∙ sym b.2; header = ap header_of same; whole = λ _. same }
    | inr c ↦ elim c [
      | inl b ↦ absurd (some_line (rest_json place left) [] (append-nil (json_line (rest_json place left)) ∙ sym b.2 ∙ a.1))
      | inr b ↦
          let object = header_json (InStream place) b.2.0 (header_of left) (header_of left) in
          absurd (some_line object [] (append-nil (json_line object) ∙ sym b.2.2 ∙ a.1))
    ]
  ]
  | inr d ↦ elim d [
    | inl a ↦ elim k [
      | inl b ↦ absurd (some_line (rest_json offset rest) [] (append-nil (json_line (rest_json offset rest)) ∙ sym a.2 ∙ b.1))
      | inr c ↦ elim c [
        | inl b ↦
            let objects = same_line (rest_json offset rest) (rest_json place left) (rest_printed offset rest small fits) (rest_printed place left low room) (sym a.2 ∙ b.2) in
            let same = same_octets rest left are too (ap (value_at (codes "octets")) objects) in
            record { statuses = a.3 ∙ sym b.3; header = ap header_of same; whole = λ _. same }
        | inr b ↦
            let object = header_json (InStream place) b.2.0 (header_of left) (header_of left) in
            let objects = same_line (rest_json offset rest) object (rest_printed offset rest small fits)
            (header_printed (InStream place) b.2.0 (header_of left) (header_of left) low (All-take IsOctet 19 left too)) (sym a.2 ∙ b.2.2) in
            absurd (fault_or_rest (InStream place) b.2.0 (header_of left) (header_of left) rest offset (sym objects))
      ]
    ]
    | inr a ↦
        let object = header_json (InStream offset) a.2.0 (header_of rest) (header_of rest) in
        let printed = header_printed (InStream offset) a.2.0 (header_of rest) (header_of rest) small (All-take IsOctet 19 rest are) in
        elim k [
          | inl b ↦ absurd (some_line object [] (append-nil (json_line object) ∙ sym a.2.2 ∙ b.1))
          | inr c ↦ elim c [
            | inl b ↦
                let objects = same_line object (rest_json place left) printed (rest_printed place left low room) (sym a.2.2 ∙ b.2) in
                absurd (fault_or_rest (InStream offset) a.2.0 (header_of rest) (header_of rest) left place objects)
            | inr b ↦
                let objects = same_line object (header_json (InStream place) b.2.0 (header_of left) (header_of left)) printed
                (header_printed (InStream place) b.2.0 (header_of left) (header_of left) low (All-take IsOctet 19 left too)) (sym a.2.2 ∙ b.2.2) in
                let same = same_header (InStream offset) (InStream place) a.2.0 b.2.0 (header_of rest) (header_of left) (header_of rest) (header_of left)
                (All-take IsOctet 19 rest are) (All-take IsOctet 19 left too) objects in
                record { statuses = a.1 ∙ sym b.1; header = same; whole = λ less. absurd (let three = a.1 in omega (arith, less, three)) }
          ]
        ]
  ]
]

-- ---- frames, and then the last line

longer : (before : List (List ℕ)) (frame : List ℕ) → length (joined (before ++ frame ∷ [])) ≡ length (joined before) + length frame
longer before frame =
    ap length (flat_map-append (λ (f : List ℕ). f) before (frame ∷ []))
    ∙ length-append (joined before) (frame ++ []) ∙ ap (λ (f : List ℕ). length (joined before) + length f) (append-nil frame)

record Same (frames others : List (List ℕ)) (rest left : List ℕ) (status state : ℕ) : Type 0 where
  frames_are : frames ≡ others
  end : SameEnd rest left status state

one_more : (frame another : List ℕ) (frames others : List (List ℕ)) (rest left : List ℕ) (status state : ℕ) → frame ≡ another → Same frames others rest left status state
    → Same (frame ∷ frames) (another ∷ others) rest left status state
one_more frame another frames others rest left status state first rest_same = record { frames_are = ap₂ ◌∷◌ first rest_same.frames_are; end = rest_same.end }

same_frames : (limit also : Limit) (as2 other : Bool) (before earlier frames others : List (List ℕ)) (offset place : ℕ) (rest left lines texts last ending : List ℕ) (status state : ℕ)
    → length (joined before) + length (joined frames) < 2 ^ 64 → length (joined earlier) + length (joined others) < 2 ^ 64 → offset < 2 ^ 64 → place < 2 ^ 64
    → length rest < 2 ^ 64 → length left < 2 ^ 64 → All AreOctets frames → All AreOctets others → AreOctets rest → AreOctets left
    → AreFrameLines (forms.Json as2) before frames lines → AreFrameLines (forms.Json other) earlier others texts
    → IsLast limit as2 offset rest last status → IsLast also other place left ending state → lines ++ last ≡ texts ++ ending
    → Same frames others rest left status state
same_frames limit also as2 other before earlier [] [] offset place rest left lines texts last ending status state long big small low fits room each all are too h k i j e =
    let line : last ≡ ending = sym (ap (λ (l : List ℕ). l ++ last) h) ∙ e ∙ ap (λ (l : List ℕ). l ++ ending) k in
    record {
      frames_are = refl;
      end = same_end limit also as2 other offset place rest left ending status state small low fits room are too (subst (λ (l : List ℕ). IsLast limit as2 offset rest l status) line i) j;
    }
same_frames limit also as2 other before earlier [] (frame ∷ others) offset place rest left lines texts last ending status state long big small low fits room each all are too h k i j e =
    let line : last ≡ json_line k.2.2.0 ++ (k.1 ++ ending) = sym (ap (λ (l : List ℕ). l ++ last) h) ∙ e ∙ ap (λ (l : List ℕ). l ++ ending) k.4 ∙ append_assoc k.0 k.1 ending ∙ ap (λ (l : List ℕ). l ++ (k.1 ++ ending)) k.2.2.2 in
    absurd (end_or_frame limit as2 offset rest last status k.2.0 (length (joined earlier)) frame k.2.2.0 (k.1 ++ ending) small fits are (omega arith) (All-head AreOctets frame others all) i k.2.2.1 line)
same_frames limit also as2 other before earlier (frame ∷ frames) [] offset place rest left lines texts last ending status state long big small low fits room each all are too h k i j e =
    let line : ending ≡ json_line h.2.2.0 ++ (h.1 ++ last) = sym (ap (λ (l : List ℕ). l ++ ending) k) ∙ sym e ∙ ap (λ (l : List ℕ). l ++ last) h.4 ∙ append_assoc h.0 h.1 last ∙ ap (λ (l : List ℕ). l ++ (h.1 ++ last)) h.2.2.2 in
    absurd (end_or_frame also other place left ending state h.2.0 (length (joined before)) frame h.2.2.0 (h.1 ++ last) low room too (omega arith) (All-head AreOctets frame frames each) j h.2.2.1 line)
same_frames limit also as2 other before earlier (frame ∷ frames) (another ∷ others) offset place rest left lines texts last ending status state long big small low fits room each all are too h k i j e =
    let whole : h.0 ++ (h.1 ++ last) ≡ k.0 ++ (k.1 ++ ending) = sym (ap (λ (l : List ℕ). l ++ last) h.4 ∙ append_assoc h.0 h.1 last) ∙ e ∙ (ap (λ (l : List ℕ). l ++ ending) k.4 ∙ append_assoc k.0 k.1 ending) in
    let longs = longer before frame in
    let bigs = longer earlier another in
    let sum = length-append frame (joined frames) in
    let sums = length-append another (joined others) in
    let first = first_frame (stream_before before) (stream_before earlier) as2 other Received Received (length (joined before)) (length (joined earlier)) frame another h.0 k.0 (h.1 ++ last) (k.1 ++ ending)
    (omega arith) (omega arith) (All-head AreOctets frame frames each) (All-head AreOctets another others all) h.2 k.2 whole in
    one_more frame another frames others rest left status state first.0
    (same_frames limit also as2 other (before ++ frame ∷ []) (earlier ++ another ∷ []) frames others offset place rest left h.1 k.1 last ending status state
    (omega (arith, long, longs, sum)) (omega (arith, big, bigs, sums)) small low fits room
    (All-tail AreOctets frame frames each) (All-tail AreOctets another others all) are too h.3 k.3 i j first.1)

-- ---- whole streams

each_frame : (frames : List (List ℕ)) → AreOctets (joined frames) → All AreOctets frames
each_frame [] are = All-nil AreOctets
each_frame (frame ∷ frames) are =
    All-cons AreOctets frame frames (front_are frame (joined frames) are) (each_frame frames (back_are frame (joined frames) are))

-- what a text shows of a stream in JSON
in_json : (limit also : Limit) (form other : OutputForm) (frames others : List (List ℕ)) (stream another rest left lines texts last ending whole : List ℕ) (status state : ℕ)
    → IsJson form → IsJson other → length stream < 2 ^ 64 → length another < 2 ^ 64 → AreOctets stream → AreOctets another
    → stream ≡ joined frames ++ rest → another ≡ joined others ++ left
    → AreFrameLines form [] frames lines → AreFrameLines other [] others texts
    → IsLastLine limit form (length (joined frames)) rest last status → IsLastLine also other (length (joined others)) left ending state
    → whole ≡ lines ++ last → whole ≡ texts ++ ending → Same frames others rest left status state
in_json limit also (forms.Text form) other frames others stream another rest left lines texts last ending whole status state json too small fits are all is is' h k i j e f = absurd json
in_json limit also (forms.Json as2) (forms.Text form) frames others stream another rest left lines texts last ending whole status state json too small fits are all is is' h k i j e f = absurd too
in_json limit also (forms.Json as2) (forms.Json other) frames others stream another rest left lines texts last ending whole status state json too small fits are all is is' h k i j e f =
    let sum : length stream ≡ length (joined frames) + length rest = ap length is ∙ length-append (joined frames) rest in
    let sums : length another ≡ length (joined others) + length left = ap length is' ∙ length-append (joined others) left in
    let octets = subst AreOctets is are in
    let octets' = subst AreOctets is' all in
    same_frames limit also as2 other [] [] frames others (length (joined frames)) (length (joined others)) rest left lines texts last ending status state
    (omega (arith, sum, small)) (omega (arith, sums, fits)) (omega (arith, sum, small)) (omega (arith, sums, fits)) (omega (arith, sum, small)) (omega (arith, sums, fits))
    (each_frame frames (front_are (joined frames) rest octets)) (each_frame others (front_are (joined others) left octets')) (back_are (joined frames) rest octets) (back_are (joined others) left octets')
    h k i j (sym e ∙ f)

pub same_stream : StreamsDiffer
same_stream options other stream another text status state json also small fits are too d e =
    let same = in_json options.limit other.limit options.form other.form d.frames e.frames stream another d.rest e.rest d.lines e.lines d.last e.last text status state json also small fits are too
    d.framing.whole e.framing.whole d.told e.told d.ending e.ending d.text e.text in
    record {
      ends_alike = same.end.statuses;
      same_frames = same.frames_are;
      same_header = same.end.header;
      same_whole = λ less. d.framing.whole ∙ ap₂ (λ (fs : List (List ℕ)) (rest : List ℕ). joined fs ++ rest) same.frames_are (same.end.whole less) ∙ sym e.framing.whole;
    }
