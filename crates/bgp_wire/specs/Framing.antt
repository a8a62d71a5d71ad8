-- How an octet stream splits into messages (RFC 4271, 4.1): frames one after another, and a rest.
use Rattle.std.specs.Prelude.{◌≡◌, ◌<◌, ◌≤◌, ◌⊎◌, ◌++◌, ℕ, List, All, length}
use Rattle.std.specs.List.{flat_map}
use Rattle.bgp_wire.specs.declared.header.Limit.{Limit}
use Rattle.bgp_wire.specs.Header.{IsSound, header_of, length_of}

-- the octets of one message: a header without a fault, and as many octets as its Length says
pub record IsFrame (limit : Limit) (frame : List ℕ) : Type 0 where
  pub header : 19 ≤ length frame
  pub sound : IsSound limit (header_of frame)
  pub whole : length frame ≡ length_of (header_of frame)

-- less than a frame, so that more octets decide: no whole header, or a header without a fault and
-- fewer octets than its Length says
abbrev pub IsShort : Limit → List ℕ → Type 0
IsShort limit octets =
    (length octets < 19)
    ⊎ ((19 ≤ length octets) × IsSound limit (header_of octets)
    × (length octets < length_of (header_of octets)))

-- a header with a fault stands at the front
abbrev pub IsFaulty : Limit → List ℕ → Type 0
IsFaulty limit octets = (19 ≤ length octets) × (¬ IsSound limit (header_of octets))

-- the octets of frames, one after another
abbrev pub joined : List (List ℕ) → List ℕ
joined frames = flat_map (λ frame. frame) frames

-- the stream is these frames, and then a rest that is short or faulty
pub record IsFraming (limit : Limit) (stream : List ℕ) (frames : List (List ℕ)) (rest : List ℕ)
    : Type 0 where
  pub whole : stream ≡ joined frames ++ rest
  pub each : All (IsFrame limit) frames
  pub last : IsShort limit rest ⊎ IsFaulty limit rest
