-- Both ends of a connection in one process: what their captures took, and what is printed of them
-- and the exit status.
use Rattle.std.specs.Prelude.{◌≡◌, ◌++◌, ◌⊎◌, ◌+◌, ◌*◌, ◌^◌, ℕ, Bool, true, false, List, Option}
use Rattle.std.specs.Prelude.{codes, max}
use Rattle.bgp_prefix.specs.Shown.{ShownRecord}
use Rattle.bgp_prefix.specs.declared.session.RouteRefresh.TheVariants as refreshes
use Rattle.bgp_prefix.specs.declared.address.Address.TheVariants.{V4}
use Rattle.bgp_machine.specs.State.{fsm_of}
use Rattle.bgp_machine.specs.declared.fsm.Fsm.TheVariants.{Established}
use Rattle.bgp_open.specs.declared.config.Config.{Config}
use Rattle.bgp_open.specs.declared.config.ConfigParts.{ConfigParts}
use Rattle.bgp_open.specs.RouteOffer.{nothing}
use Rattle.mrt.specs.FromWrite.{WriterState, Takes}
use Rattle.bgp_speaker.specs.Choosing.{Drives}
use Rattle.bgp_speaker.specs.Core.{CoreState, InputValue}
use Rattle.bgp_talk.specs.Talk.{capture_of}
use Rattle.bgp_tool.specs.Answer.{IsWritten}
use Rattle.bgp_tool.specs.Judging.{TellsVerdict, TellsFault}

-- the left end's address and the right end's, 192.0.2.1 and 192.0.2.2
abbrev pub left_address : ℕ
left_address = 192 * 2 ^ 24 + 2 * 2 ^ 8 + 1

abbrev pub right_address : ℕ
right_address = 192 * 2 ^ 24 + 2 * 2 ^ 8 + 2

-- their next hops for IPv6, 2001:db8::1 and 2001:db8::2
abbrev pub left_next_hop6 : ℕ
left_next_hop6 = 8193 * 2 ^ 112 + 3512 * 2 ^ 96 + 1

abbrev pub right_next_hop6 : ℕ
right_next_hop6 = 8193 * 2 ^ 112 + 3512 * 2 ^ 96 + 2

-- An end of this AS and address, the latter being its BGP Identifier, too, for a peer of that AS
-- and address: it proposes 90 seconds, both families and AS numbers of four octets, delays no OPEN,
-- waits four minutes for the peer's, and offers neither route refresh nor extended messages, nor
-- anything about routes.
pub record IsEnd (parts : ConfigParts) (own_as own other_as other : ℕ) : Type 0 where
  pub local_as : parts.local_as ≡ own_as
  pub peer_as : parts.peer_as ≡ other_as
  pub local_id : parts.local_id ≡ own
  pub hold : parts.hold ≡ 90
  pub families : parts.families ≡ record { v4 = true; v6 = true }
  pub as4 : parts.as4 ≡ true
  pub delay_open : parts.delay_open ≡ false
  pub large_hold : parts.large_hold ≡ 240
  pub peer : parts.session.peer ≡ V4 other
  pub local : parts.session.local ≡ V4 own
  pub refresh : parts.session.refresh ≡ refreshes.NotOffered
  pub extended : parts.session.extended ≡ false
  pub offers : parts.offers ≡ nothing

-- From one state of an end to another its core was told some inputs, one after another, and what
-- its capture is written to took just the text of what the core showed, as far as it tells.
pub record Drove {W : Type 0} (contents : W → Option (List ℕ)) (config : Config)
    (a : CoreState) (old : WriterState W) (b : CoreState) (new : WriterState W) : Type 0 where
  pub inputs : List (ℕ × InputValue)
  pub records : List ShownRecord
  pub drives : Drives a inputs records b
  pub wrote : Takes contents old new (capture_of config records)

abbrev pub IsEstablished : CoreState → Type 0
IsEstablished core = fsm_of core.moment.session.head ≡ Established

-- what is told of the left end's capture, and of the right one's, each after its end's name
abbrev pub pair_text : List ℕ → List ℕ → List ℕ
pair_text left right = codes "left " ++ (left ++ (codes "right " ++ right))

-- Of the octets that each source gave it is told, as of any capture, what the verdict on them is or
-- why they have none; both texts were written, if the sink didn't fail, and then the status is the
-- greater one; and else a beginning, and the status is 5.
pub record JudgesPair {L R W : Type 0}
    (left_gives : L → L → List ℕ → Type 0) (left_ended : L → Bool) (left_failures : L → ℕ)
    (left_config : Config) (left left' : L)
    (right_gives : R → R → List ℕ → Type 0) (right_ended : R → Bool) (right_failures : R → ℕ)
    (right_config : Config) (right right' : R)
    (may_lack : Config → List ShownRecord → ShownRecord → Type 0)
    (takes : W → W → List ℕ → Type 0) (failures : W → ℕ) (sink sink' : W)
    (status : ℕ) : Type 0 where
  pub left_text : List ℕ
  pub left_code : ℕ
  pub right_text : List ℕ
  pub right_code : ℕ
  pub left_answer :
      TellsVerdict left_gives left_ended left_failures left_config left left' left_text left_code
      ⊎ TellsFault left_gives left_ended left_failures left_config left left' may_lack left_text
      left_code
  pub right_answer :
      TellsVerdict right_gives right_ended right_failures right_config right right' right_text
      right_code
      ⊎ TellsFault right_gives right_ended right_failures right_config right right' may_lack
      right_text
      right_code
  pub printed : IsWritten takes failures (pair_text left_text right_text)
      (max left_code right_code) sink sink' status
