-- The records of one session of a file, up to the first that is refused.
use Rattle.std.specs.Prelude.{◌≡◌, ◌++◌, Bool, false, ℕ, List, [], ◌∷◌, map, Option, None, Some}
use Rattle.bgp_prefix.specs.Shown.{ShownRecord, second_of}
use Rattle.bgp_prefix.specs.declared.session.RouteRefresh.TheVariants as refreshes
use Rattle.bgp_prefix.specs.declared.session.Session.{Session}
use Rattle.mrt.specs.Capture.{shown_of}
use Rattle.mrt.specs.Layout.{form_of, header_of}
use Rattle.mrt.specs.Rules.{Judgement, OfSession, Refused}
use Rattle.mrt.specs.declared.fault.CaptureFault.{CaptureFault}
use Rattle.mrt.specs.declared.layout.Form.{Form}
use Rattle.mrt.specs.declared.layout.Form.TheVariants as forms
use Rattle.mrt_sessions.specs.declared.addresses.Addresses.{Addresses}
use Rattle.mrt_sessions.specs.declared.lengths.ExtendedMessages.{ExtendedMessages}
use Rattle.mrt_sessions.specs.File.{Located}
use Rattle.mrt_sessions.specs.ReadsAs.{IsJudgedOf}

-- Whether a record of this form has a message that may be an extended one (RFC 8654). Each
-- direction has its own limit: that which its receiver offers.
abbrev pub may_be_extended : ExtendedMessages → Option Form → Bool
may_be_extended extended None = false
may_be_extended extended (Some forms.Change) = false
may_be_extended extended (Some forms.Received) = extended.received
may_be_extended extended (Some forms.Sent) = extended.sent
may_be_extended extended (Some forms.AddPath) = false

-- The session as this record of it is read, whose messages have the limit of the record's
-- direction. Its ROUTE-REFRESH messages are records of it.
abbrev pub session_for : Addresses → ExtendedMessages → List ℕ → Session
session_for addresses extended octets = record {
  peer = addresses.peer;
  local = addresses.local;
  refresh = refreshes.NotOffered;
  extended = may_be_extended extended (form_of (header_of octets).subtype);
}

-- The session between these addresses, whose messages may be so long.
module _ (addresses : Addresses) (extended : ExtendedMessages) where
  -- a record is judged so, behind one of the session of the second `last`
  abbrev pub IsJudgedHere : Option ℕ → List ℕ → Judgement → Type 0
  IsJudgedHere last octets judgement =
      IsJudgedOf (session_for addresses extended octets) last octets judgement

  -- the second of the last of these records
  abbrev pub last_of : Option ℕ → List Located → Option ℕ
  last_of last [] = last
  last_of last (named ∷ later) = last_of (Some (second_of (shown_of named.octets))) later

  -- each is one that the session may have there
  abbrev pub AreAllowed : Option ℕ → List Located → Type 0
  AreAllowed last [] = Unit {0}
  AreAllowed last (named ∷ later) =
      IsJudgedHere last named.octets OfSession
      × AreAllowed (Some (second_of (shown_of named.octets))) later

  -- the next one is refused for this fault, or there is none
  abbrev pub StopsBy : Option ℕ → List Located → Option CaptureFault → Type 0
  StopsBy last [] None = Unit {0}
  StopsBy last [] (Some fault) = ⊥
  StopsBy last (named ∷ later) None = ⊥
  StopsBy last (named ∷ later) (Some fault) =
      IsJudgedHere last named.octets (Refused fault.kind) × (fault.offset ≡ named.offset)

  -- Of its records in a file these are shown, up to the first that is refused, if one is.
  pub record IsReading (named : List Located) (records : List ShownRecord)
      (fault : Option CaptureFault) : Type 0 where
    pub front : List Located
    pub rest : List Located
    pub whole : named ≡ front ++ rest
    pub each : AreAllowed None front
    pub shown : records ≡ map (λ l. shown_of l.octets) front
    pub stops : StopsBy (last_of None front) rest fault
