-- What the laws of whole texts say: equal texts are of equal streams, and of equal records.
use Rattle.std.specs.Prelude.{◌≡◌, ◌<◌, ◌+◌, ◌++◌, ◌^◌, ⊤, ℕ, List, All, Result, Ok, Err, length}
use Rattle.mrt.specs.declared.fault.CaptureFault.{CaptureFault}
use Rattle.bgp_prefix.specs.Shown.{ShownRecord}
use Rattle.bgp_wire.specs.Header.{header_of}
use Rattle.bgp_wire.specs.Octets.{AreOctets}
use Rattle.bgp_json.specs.Output.{IsJson}
use Rattle.bgp_tool.specs.CaptureDecoding.{AreCaptureLines, last_line_in}
use Rattle.bgp_tool.specs.Decoding.{IsDecoded}
use Rattle.bgp_tool.specs.declared.session_options.SessionOptions.{SessionOptions}
use Rattle.bgp_tool.specs.declared.stream_options.StreamOptions.{StreamOptions}
use Rattle.bgp_json_laws.specs.Lines.{IsShown}

-- Two streams end alike, with the same frames and behind these the same header: if that has faults,
-- nothing behind it is in the text. Else the streams are the same.
pub record AreSame (stream another : List ℕ) (frames others : List (List ℕ)) (rest left : List ℕ)
    (status state : ℕ) : Type 0 where
  pub ends_alike : status ≡ state
  pub same_frames : frames ≡ others
  pub same_header : header_of rest ≡ header_of left
  pub same_whole : status < 3 → stream ≡ another

-- so it is with streams that have one text in JSON
abbrev pub StreamsDiffer : Type 0
StreamsDiffer =
    (options other : StreamOptions) (stream another text : List ℕ) (status state : ℕ)
    → IsJson options.form → IsJson other.form
    → length stream < 2 ^ 64 → length another < 2 ^ 64
    → AreOctets stream → AreOctets another
    → (d : IsDecoded options stream text status) → (e : IsDecoded other another text state)
    → AreSame stream another d.frames e.frames d.rest e.rest status state

-- a capture's offsets have 64 bits
abbrev pub IsAnswer : {X : Type 0} → Result X CaptureFault → Type 0
IsAnswer (Ok x) = ⊤
IsAnswer (Err fault) = fault.offset < 2 ^ 64

-- Records of captures are the same that have one text in JSON: their lines, one after another, and
-- the line of a refusal, if there is one.
abbrev pub CapturesDiffer : Type 0
CapturesDiffer =
    (options other : SessionOptions) (records others : List ShownRecord)
    (answer also : Result (Unit {0}) CaptureFault) (lines texts : List ℕ)
    → IsJson options.form → IsJson other.form
    → 1 + length records < 2 ^ 64 → 1 + length others < 2 ^ 64
    → All IsShown records → All IsShown others → IsAnswer answer → IsAnswer also
    → AreCaptureLines options records lines → AreCaptureLines other others texts
    → lines ++ last_line_in options.form answer ≡ texts ++ last_line_in other.form also
    → records ≡ others
