-- The records that are made of a connection for one of its ends, whose settings aren't known.
use Rattle.std.specs.Prelude.{◌≡◌, ℕ, List, Option}
use Rattle.bgp_prefix.specs.Shown.{ShownRecord}
use Rattle.streams.specs.declared.connection.Connection.{Connection}
use Rattle.bgp_recording.specs.Captured.{records_of}
use Rattle.bgp_recording.specs.Recorded.{IsRecordedInOrder}
use Rattle.bgp_recording.specs.declared.entry.Entry.{Entry}
use Rattle.bgp_recording.specs.declared.framing.Framings.{Framings}
use Rattle.bgp_recording.specs.declared.framing.Unshown.{Unshown}
use Rattle.bgp_parts.specs.Opens.{HasHeardOpen, HasOwnOpen}
use Rattle.bgp_ended.specs.Offered.{framing_by, with_both_offers}

-- Either direction is framed by what its receiver offers: the first well-formed OPEN that was sent
-- says what may be received, and the first that was received what may be sent.
pub record AreOffered (records : List ShownRecord) (framings : Framings) : Type 0 where
  pub own : Option (List ℕ)
  pub heard : Option (List ℕ)
  pub has_own : HasOwnOpen records own
  pub has_heard : HasHeardOpen records heard
  pub received : framings.received ≡ framing_by own
  pub sent : framings.sent ≡ framing_by heard

-- These entries tell the connection in the made order, either direction framed so, by what its
-- receiver offers. The OPENs that say so are looked for in the records that are made as if both
-- systems offered both.
pub record IsMade (within : ℕ) (connection : Connection) (framings : Framings)
    (entries : List Entry) (received_unshown sent_unshown : Unshown) : Type 0 where
  pub looked_in : List Entry
  pub looked_in_received : Unshown
  pub looked_in_sent : Unshown
  pub is_looked_in : IsRecordedInOrder with_both_offers within connection looked_in
      looked_in_received looked_in_sent
  pub are_offered : AreOffered (records_of looked_in) framings
  pub recorded : IsRecordedInOrder framings within connection entries received_unshown
      sent_unshown
