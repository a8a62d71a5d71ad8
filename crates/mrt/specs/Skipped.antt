-- Records that are skipped: why each is, and how many of a capture are.
use Rattle.std.specs.Prelude.{◌≡◌, ◌+◌, ℕ, Bool, true, false, List, Option, None, Some}
use Rattle.std.specs.List.{count_by}
use Rattle.mrt.specs.Layout.{Header, header_of, form_of, peer_in, local_in}
use Rattle.mrt.specs.Rules.{Judgement, Skipped, SkippedSession, SkippedRefresh}
use Rattle.mrt.specs.Capture.{Piece, Other, OtherEnds, PassedOver, Shown}
use Rattle.mrt.specs.declared.layout.Form.{Form}
use Rattle.mrt.specs.declared.layout.Form.TheVariants as forms
use Rattle.mrt.specs.declared.skipped.Skip.{Skip}
use Rattle.mrt.specs.declared.skipped.Skip.TheVariants as skips
use Rattle.mrt.specs.declared.skipped.SkippedRecords.{SkippedRecords}

-- ---- why

-- what a record is judged that is skipped for this, and which piece it is
abbrev pub judgement_for : Skip → Judgement
judgement_for skips.OtherKind = Skipped
judgement_for (skips.OtherSession ends) = SkippedSession
judgement_for skips.RefreshReceived = SkippedRefresh
judgement_for skips.RefreshSent = SkippedRefresh

abbrev pub piece_for : Skip → List ℕ → Piece
piece_for skips.OtherKind octets = Other octets
piece_for (skips.OtherSession ends) octets = OtherEnds octets
piece_for skips.RefreshReceived octets = PassedOver octets
piece_for skips.RefreshSent octets = PassedOver octets

-- what is told of the record with this header and body is so
abbrev pub IsSkipOf : Skip → Header → List ℕ → Type 0
IsSkipOf skips.OtherKind header body = Unit {0}
IsSkipOf (skips.OtherSession ends) header body =
    (ends.peer ≡ peer_in header body) × (ends.local ≡ local_in header body)
IsSkipOf skips.RefreshReceived header body = form_of header.subtype ≡ Some forms.Received
IsSkipOf skips.RefreshSent header body = form_of header.subtype ≡ Some forms.Sent

-- ---- how many

abbrev pub is_other_kind : Piece → Bool
is_other_kind (Other octets) = true
is_other_kind (OtherEnds octets) = false
is_other_kind (PassedOver octets) = false
is_other_kind (Shown octets) = false

abbrev pub is_other_session : Piece → Bool
is_other_session (Other octets) = false
is_other_session (OtherEnds octets) = true
is_other_session (PassedOver octets) = false
is_other_session (Shown octets) = false

-- a message that the local system received, and one that it sent
abbrev pub is_received : Option Form → Bool
is_received (Some forms.Change) = false
is_received (Some forms.Received) = true
is_received (Some forms.Sent) = false
is_received (Some forms.AddPath) = false
is_received None = false

abbrev pub is_sent : Option Form → Bool
is_sent (Some forms.Change) = false
is_sent (Some forms.Received) = false
is_sent (Some forms.Sent) = true
is_sent (Some forms.AddPath) = false
is_sent None = false

-- a ROUTE-REFRESH of such a form that is passed over
abbrev pub is_refresh : (Option Form → Bool) → Piece → Bool
is_refresh is (Other octets) = false
is_refresh is (OtherEnds octets) = false
is_refresh is (PassedOver octets) = is (form_of (header_of octets).subtype)
is_refresh is (Shown octets) = false

-- how many of the pieces are skipped, by why
abbrev pub skipped_in : List Piece → SkippedRecords
skipped_in pieces = record {
  other_kinds = count_by is_other_kind pieces;
  other_sessions = count_by is_other_session pieces;
  received_refreshes = count_by (is_refresh is_received) pieces;
  sent_refreshes = count_by (is_refresh is_sent) pieces;
}

-- none; those of both; and one more, that is skipped for this
abbrev pub none_skipped : SkippedRecords
none_skipped = record {
  other_kinds = 0;
  other_sessions = 0;
  received_refreshes = 0;
  sent_refreshes = 0;
}

abbrev pub both_skipped : SkippedRecords → SkippedRecords → SkippedRecords
both_skipped first second = record {
  other_kinds = first.other_kinds + second.other_kinds;
  other_sessions = first.other_sessions + second.other_sessions;
  received_refreshes = first.received_refreshes + second.received_refreshes;
  sent_refreshes = first.sent_refreshes + second.sent_refreshes;
}

abbrev pub one_more : SkippedRecords → Skip → SkippedRecords
one_more skipped skips.OtherKind =
    record skipped { other_kinds = skipped.other_kinds + 1 }
one_more skipped (skips.OtherSession ends) =
    record skipped { other_sessions = skipped.other_sessions + 1 }
one_more skipped skips.RefreshReceived =
    record skipped { received_refreshes = skipped.received_refreshes + 1 }
one_more skipped skips.RefreshSent =
    record skipped { sent_refreshes = skipped.sent_refreshes + 1 }
