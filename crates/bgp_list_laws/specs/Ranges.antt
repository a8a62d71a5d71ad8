-- Values of lines whose numbers have the ranges of their types.
use Rattle.std.specs.Prelude.{◌<◌, ⊤, Option, None, Some}
use Rattle.streams.specs.declared.connection.Opening.{Opening}
use Rattle.bgp_wire.specs.Octets.{AreOctets}
use Rattle.bgp_values.specs.ErrorData.{ErrorFields}
use Rattle.bgp_import.specs.Refusals.{refusal_packet}
use Rattle.bgp_import.specs.declared.refusal.Refusal.{Refusal}
use Rattle.bgp_ended.specs.Values.{EndedValue, OutlineValue}
use Rattle.bgp_ended.specs.Values.{HowValue, Notified, Closed, Fallen}
use Rattle.bgp_list.specs.Lines.{LineValue, Octets, Refused, AllRefused}
use Rattle.bgp_verdict_laws.specs.Numbers.{Fits, FitsIfAny}

-- a NOTIFICATION's codes and data are octets
pub record IsError (error : ErrorFields) : Type 0 where
  pub code : error.code < 256
  pub subcode : error.subcode < 256
  pub detail : AreOctets error.detail

abbrev pub IsHow : HowValue → Type 0
IsHow (Notified error) = IsError error
IsHow (Closed closing) = ⊤
IsHow (Fallen state) = ⊤

-- the others have 64 bits; microseconds are below 1,000,000 wherever they are put
pub record IsEnd (ended : EndedValue) : Type 0 where
  pub packet : Fits ended.moment.packet
  pub second : Fits ended.moment.second
  pub how : IsHow ended.how

abbrev pub IsEndIfAny : Option EndedValue → Type 0
IsEndIfAny None = ⊤
IsEndIfAny (Some ended) = IsEnd ended

pub record IsOutline (outline : OutlineValue) : Type 0 where
  pub local_as : FitsIfAny outline.local_as
  pub peer_as : FitsIfAny outline.peer_as
  pub ended : IsEndIfAny outline.ended

pub record IsOpening (opening : Opening) : Type 0 where
  pub number : Fits opening.number
  pub local_port : Fits opening.local_port
  pub peer_port : Fits opening.peer_port
  pub packet : Fits opening.packet
  pub second : Fits opening.second

abbrev pub IsRefusal : Refusal → Type 0
IsRefusal refusal = Fits (refusal_packet refusal)

abbrev pub IsRefusalIfAny : Option Refusal → Type 0
IsRefusalIfAny None = ⊤
IsRefusalIfAny (Some refusal) = IsRefusal refusal

abbrev pub IsLine : LineValue → Type 0
IsLine (Octets session opening outline first second) =
    IsOpening opening × IsOutline outline × Fits first × Fits second
IsLine (Refused session opening refusal) = IsOpening opening × IsRefusal refusal
IsLine (AllRefused addresses refusal) = IsRefusal refusal
