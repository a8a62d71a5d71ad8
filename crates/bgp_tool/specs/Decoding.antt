-- What decoding a stream writes and answers: the lines of its framing, and how it ends.
use Rattle.std.specs.Prelude.{◌≡◌, ◌≢◌, ◌<◌, ◌⊎◌, ◌++◌, ◌+◌, ℕ, List, [], ◌∷◌, length}
use Rattle.std.specs.List.{flat_map}
use Rattle.bgp_wire.specs.declared.header.Limit.{Limit}
use Rattle.bgp_wire.specs.declared.header.HeaderFaults.{HeaderFaults}
use Rattle.bgp_wire.specs.Header.{header_of}
use Rattle.bgp_wire.specs.Verdict.{AreFaults}
use Rattle.bgp_wire.specs.Framing.{IsFraming, IsShort, IsFaulty, joined}
use Rattle.bgp_text.specs.Message.{Message}
use Rattle.bgp_text.specs.Text.{line_of}
use Rattle.bgp_values.specs.declared.opens.Direction.TheVariants.{Received}
use Rattle.bgp_json.specs.Form.{Before}
use Rattle.bgp_json.specs.Output.{IsFrameOutput, fault_output, rest_output}
use Rattle.bgp_json.specs.declared.output_form.OutputForm.{OutputForm}
use Rattle.bgp_tool.specs.declared.stream_options.StreamOptions.{StreamOptions}

-- the lines of messages in the plain form, one after another
abbrev pub lines_of : List Message → List ℕ
lines_of messages = flat_map line_of messages

-- How long a message may be and how lines are written is given first, wherever the text depends on
-- it.

-- The messages of a stream all go one way, and it doesn't show which: they are taken for received
-- ones. Before a message stand these frames.
abbrev pub stream_before : List (List ℕ) → Before
stream_before frames = record { received = frames; sent = [] }

-- the lines of a stream's frames, one after another, where these frames came before: the next one
-- stands where they end
abbrev pub AreFrameLines : OutputForm → List (List ℕ) → List (List ℕ) → List ℕ → Type 0
AreFrameLines form before [] text = text ≡ []
AreFrameLines form before (frame ∷ frames) text =
    (line rest : List ℕ)
    × IsFrameOutput form (stream_before before) Received (length (joined before)) frame line
    × AreFrameLines form (before ++ frame ∷ []) frames rest × (text ≡ line ++ rest)

-- The last line, and the exit status: none and 0 where the stream ends between messages, `rest` and
-- 2 where it ends inside one, and `fault` and 3 where a header at this offset has faults.
abbrev pub IsLastLine : Limit → OutputForm → ℕ → List ℕ → List ℕ → ℕ → Type 0
IsLastLine limit form offset rest line status =
    ((rest ≡ []) × (line ≡ []) × (status ≡ 0))
    ⊎ ((rest ≢ []) × IsShort limit rest × (line ≡ rest_output form offset rest) × (status ≡ 2))
    ⊎ (IsFaulty limit rest × (status ≡ 3) × ((faults : HeaderFaults)
    × AreFaults limit (header_of rest) faults
    × (line ≡ fault_output form offset faults (header_of rest))))

-- the stream's text and its exit status
pub record IsDecoded (options : StreamOptions) (stream whole : List ℕ) (status : ℕ) : Type 0 where
  pub frames : List (List ℕ)
  pub rest : List ℕ
  pub framing : IsFraming options.limit stream frames rest
  pub lines : List ℕ
  pub told : AreFrameLines options.form [] frames lines
  pub last : List ℕ
  pub ending : IsLastLine options.limit options.form (length (joined frames)) rest last status
  pub text : whole ≡ lines ++ last

-- the lines of the frames that a stream has so far, though more of it may come
pub record IsSoFar (options : StreamOptions) (stream lines : List ℕ) : Type 0 where
  pub frames : List (List ℕ)
  pub rest : List ℕ
  pub framing : IsFraming options.limit stream frames rest
  pub told : AreFrameLines options.form [] frames lines
  pub short : IsShort options.limit rest

-- a beginning of the stream's text
abbrev pub IsBeginning : StreamOptions → List ℕ → List ℕ → Type 0
IsBeginning options stream text =
    (whole : List ℕ) × (status : ℕ) × IsDecoded options stream whole status
    × ((more : List ℕ) × (whole ≡ text ++ more))

-- a beginning of the text of what was read of the stream
abbrev pub IsBegun : StreamOptions → List ℕ → List ℕ → Type 0
IsBegun options stream text =
    (given : List ℕ) × (left : List ℕ) × (stream ≡ given ++ left) × IsBeginning options given text

-- Which device failed: the source or the sink once more, and then the status is 5; or neither, and
-- then it isn't.
abbrev pub CountsFailures : ℕ → ℕ → ℕ → ℕ → ℕ → Type 0
CountsFailures source source' sink sink' status =
    ((status ≡ 5) × (source' ≡ source + 1) × (sink' ≡ sink))
    ⊎ ((status ≡ 5) × (source' ≡ source) × (sink' ≡ sink + 1))
    ⊎ ((status ≢ 5) × (source' ≡ source) × (sink' ≡ sink))

-- What was given and what was written between two states of a source and of a sink, by what the one
-- gives and the other takes.
pub record Decodes {R W : Type 0} (options : StreamOptions)
    (gives : R → R → List ℕ → Type 0) (takes : W → W → List ℕ → Type 0)
    (source source' : R) (sink sink' : W) (source_failed : Type 0) (status : ℕ) : Type 0 where
  pub given : List ℕ
  pub written : List ℕ
  pub gave : gives source source' given
  pub took : takes sink sink' written
  -- in any case a beginning of the stream's text
  pub begun : IsBeginning options given written
  -- where the status tells of the stream, the whole text
  pub whole : status < 4 → IsDecoded options given written status
  -- where the source failed, just the lines of the frames that it gave
  pub so_far : source_failed → IsSoFar options given written
