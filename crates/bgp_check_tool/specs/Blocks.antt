-- What is told of a recording: connection by connection, and of two addresses at once where none of
-- their connections can be told.
use Rattle.std.specs.Prelude.{◌≡◌, ◌⊎◌, ◌++◌, ◌&&◌, ℕ, Bool, List, [], Option, None, Some}
use Rattle.std.specs.Prelude.{Result, Ok, Err, if◌then◌else◌}
use Rattle.bgp_prefix.specs.declared.session.Session.{Session}
use Rattle.segments.specs.declared.found.Addresses.{Addresses}
use Rattle.streams.specs.Choice.{IsAnswered, IsRefused}
use Rattle.streams.specs.Connections.{numbered}
use Rattle.streams.specs.Passed.{Segment}
use Rattle.streams.specs.declared.connection.Connection.{Connection}
use Rattle.streams.specs.declared.connection.Opening.{Opening}
use Rattle.streams.specs.declared.fault.Fault.{Fault}
use Rattle.streams.specs.declared.passed.Side.{Side}
use Rattle.streams.specs.declared.passed.Side.TheVariants.{Local, Peer}
use Rattle.bgp_import.specs.ListText.{end_of, other_side}
use Rattle.bgp_import.specs.declared.refusal.Refusal.{Refusal}
use Rattle.bgp_import.specs.declared.refusal.Refusal.TheVariants as refusals
use Rattle.bgp_import.specs.Octets.{octets_from}
use Rattle.bgp_list.specs.Connections.{connection_text, refused_between_text}
use Rattle.bgp_list.specs.Connections.{refused_connection_text}
use Rattle.bgp_ended.specs.Outline.{IsOutlineOf}
use Rattle.bgp_ended.specs.Values.{OutlineValue, outline_value}
use Rattle.bgp_check_lines.specs.Asked.{asked_of}
use Rattle.bgp_check_lines.specs.DeclaredAsked.{Asked}
use Rattle.bgp_check_tool.specs.declared.connection.EndsTold.{EndsTold}
use Rattle.bgp_check_tool.specs.declared.connection.EndsTold.TheVariants as ends
use Rattle.bgp_check_lines.specs.Quiet.{is_left_out}
use Rattle.bgp_check_lines.specs.Printing.{Printing}
use Rattle.bgp_check_tool.specs.declared.options.CheckOptions.{CheckOptions}
use Rattle.bgp_check_tool.specs.Text.{one_end_line, told_lines}
use Rattle.bgp_check_tool.specs.Told.{EndTold, IsEndTold, told_value}

pub data Block : Type 0 where
  -- of a connection: what is known of it, how many octets whoever opened it sent, and how many the
  -- other; and what is told of both ends, in that order
  BothEnds : Session → Opening → OutlineValue → ℕ → ℕ → EndTold → EndTold → Block
  -- of one whose two ends are one: what is known of it, and how many octets either sent
  OneEnd : Session → Opening → OutlineValue → ℕ → ℕ → Block
  -- a connection that is refused
  Refused : Session → Opening → Refusal → Block
  -- two addresses of whose connections none can be told
  AllRefused : Addresses → Refusal → Block

-- ---- the text

-- the lines of an end that is told, and none of one that is left out
abbrev pub kept_lines : Printing → EndTold → List ℕ
kept_lines printing told =
    if is_left_out printing.quiet told.answer then [] else told_lines printing.routes told

abbrev pub both_text : Printing → EndTold → EndTold → List ℕ
both_text printing opener other = kept_lines printing opener ++ kept_lines printing other

-- no end of two is told
abbrev pub are_left_out : Printing → EndTold → EndTold → Bool
are_left_out printing opener other =
    is_left_out printing.quiet opener.answer && is_left_out printing.quiet other.answer

abbrev pub neither_text : Session → Opening → List ℕ
neither_text session opening =
    one_end_line (end_of opening.opened_by session opening)
    ++ one_end_line (end_of (other_side opening.opened_by) session opening)

-- the lines of a list, each with those of its ends; none of a connection whose ends are left out
abbrev pub block_text : Printing → Block → List ℕ
block_text printing (BothEnds session opening outline first second opener other) =
    if are_left_out printing opener other then []
    else connection_text session opening outline first second ++ both_text printing opener other
block_text printing (OneEnd session opening outline first second) =
    if printing.quiet then []
    else connection_text session opening outline first second ++ neither_text session opening
block_text printing (Refused session opening refusal) =
    refused_connection_text session opening refusal
block_text printing (AllRefused addresses refusal) = refused_between_text addresses refusal

-- ---- what is told of a connection

-- its two ends are one address and one port, so that its packets don't say who sent what
abbrev pub AreOne : Session → Opening → Type 0
AreOne session opening = end_of Local session opening ≡ end_of Peer session opening

-- The connection of these segments, told from the last one back to the first, that was opened so;
-- in a recording whose last packet has this number, and which is checked so.
module _ (options : CheckOptions) (last_packet : ℕ) (segments : List Segment) (session : Session)
    (opening : Opening) where
  -- how an end of it is asked for
  abbrev pub asked_as : Side → Asked
  asked_as side =
      asked_of options.port options.within session (numbered segments) opening side

  -- it isn't refused, and this is told of its ends
  pub record TellsBoth (outline : OutlineValue) (first second : ℕ) (opener other : EndTold)
      : Type 0 where
    pub connection : Connection
    pub chosen : IsAnswered (Some opening.number) last_packet (numbered segments) connection
    pub are_two : ¬ AreOne session opening
    pub is_outline : IsOutlineOf connection outline
    pub is_first : first ≡ octets_from opening.opened_by connection
    pub is_second : second ≡ octets_from (other_side opening.opened_by) connection
    pub is_opener : IsEndTold options (asked_as opening.opened_by) session opening connection
        opening.opened_by opener
    pub is_other : IsEndTold options (asked_as (other_side opening.opened_by)) session opening
        connection (other_side opening.opened_by) other

  -- or its ends are one
  pub record TellsNeither (outline : OutlineValue) (first second : ℕ) : Type 0 where
    pub connection : Connection
    pub chosen : IsAnswered (Some opening.number) last_packet (numbered segments) connection
    pub are_one : AreOne session opening
    pub is_outline : IsOutlineOf connection outline
    pub is_first : first ≡ octets_from opening.opened_by connection
    pub is_second : second ≡ octets_from (other_side opening.opened_by) connection

  -- or its segments spell no two streams; or memory was refused
  pub record IsSpoilt (refusal : Refusal) : Type 0 where
    pub fault : Fault
    pub refused : IsRefused (Some opening.number) last_packet (numbered segments) fault
    pub is : refusal ≡ refusals.Connection fault

  pub record IsUncheckable (refusal : Refusal) : Type 0 where
    pub connection : Connection
    pub chosen : IsAnswered (Some opening.number) last_packet (numbered segments) connection
    pub is : refusal ≡ refusals.Memory last_packet

-- this block is told of it
abbrev pub IsBlock : CheckOptions → ℕ → List Segment → Session → Opening → Block → Type 0
IsBlock options last_packet segments session opening
    (BothEnds its its_opening outline first second opener other) =
    (its ≡ session) × (its_opening ≡ opening)
    × TellsBoth options last_packet segments session opening outline first second opener other
IsBlock options last_packet segments session opening (OneEnd its its_opening outline first second) =
    (its ≡ session) × (its_opening ≡ opening)
    × TellsNeither options last_packet segments session opening outline first second
IsBlock options last_packet segments session opening (Refused its its_opening refusal) =
    (its ≡ session) × (its_opening ≡ opening)
    × (IsSpoilt options last_packet segments session opening refusal
    ⊎ IsUncheckable options last_packet segments session opening refusal)
IsBlock options last_packet segments session opening (AllRefused addresses refusal) = ⊥

-- ---- what is answered

abbrev pub ends_block : {X : Type 0} → Session → Opening → EndsTold X → Block
ends_block session opening (ends.Both both) =
    BothEnds session opening (outline_value both.outline) both.opener_octets both.other_octets
    (told_value both.opener) (told_value both.other)
ends_block session opening (ends.One outline first second) =
    OneEnd session opening (outline_value outline) first second

abbrev pub ends_text : {X : Type 0} → Printing → Session → Opening → EndsTold X → List ℕ
ends_text printing session opening told = block_text printing (ends_block session opening told)

-- the refusal in a block, if there is one
abbrev pub refusal_in : Block → Option Refusal
refusal_in (BothEnds session opening outline first second opener other) = None
refusal_in (OneEnd session opening outline first second) = None
refusal_in (Refused session opening refusal) = Some refusal
refusal_in (AllRefused addresses refusal) = Some refusal

abbrev pub block_of : {X : Type 0} → Session → Opening → Result (EndsTold X) Refusal → Block
block_of session opening (Ok told) = ends_block session opening told
block_of session opening (Err refusal) = Refused session opening refusal
