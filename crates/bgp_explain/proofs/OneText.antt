-- What is explained has one text.
use Rattle.std.proofs.Common.{◌≡◌, ◌∙◌, ◌≤◌, ◌+◌, ◌++◌, ◌∷◌, ℕ, zero, suc, true, false, IsTrue, is_some, List, [], Option, None, Some, codes, length, take, refl, sym, ap, subst, inl, inr, arith}
use Rattle.bgp_prefix.specs.Shown.{ShownRecord, Received, Sent, Changed, second_of}
use Rattle.bgp_prefix.specs.declared.session.Session.{Session}
use Rattle.bgp_wire.specs.declared.header.HeaderFaults.{HeaderFaults}
use Rattle.bgp_wire.specs.declared.header.Limit.{Limit}
use Rattle.bgp_wire.specs.Header.{header_of, limit_with}
use Rattle.bgp_wire.specs.Verdict.{AreFaults}
use Rattle.bgp_wire.proofs.OneFaultSet.{same_fields}
use Rattle.bgp_open.specs.declared.config.Config.{Config}
use Rattle.bgp_open.specs.declared.link.Link.{Link}
use Rattle.bgp_open.specs.declared.route_offer.RouteOffer.{RouteOffer}
use Rattle.bgp_open.specs.RouteOffer.{IsRouteOffer}
use Rattle.bgp_update.specs.Subcodes.{SubcodesAreSets}
use Rattle.mrt.specs.Capture.{ArePieces, Piece, Other, OtherEnds, PassedOver, Shown, Spells, last_after, micros_of, records_of, shown_of}
use Rattle.mrt.specs.CaptureLaws.{EachAllowed}
use Rattle.mrt.specs.Rules.{End}
use Rattle.mrt.specs.Written.{IsAllowed}
use Rattle.mrt.proofs.OneReading.{one_spelling, one_text as one_reading}
use Rattle.bgp_machine.specs.declared.fsm.Fsm.{Fsm}
use Rattle.bgp_machine.specs.declared.fsm.Fsm.TheVariants as fsms
use Rattle.bgp_machine.specs.Going.{fsm_at}
use Rattle.bgp_judge.specs.Verdict.{HasOneVerdict, VerdictValue, Yes, No, Unfinished}
use Rattle.bgp_reason.specs.declared.kinds.Possible.{Possible}
use Rattle.bgp_reason.specs.declared.told.Told.{Told}
use Rattle.bgp_reason.specs.Sending.{sending_link}
use Rattle.bgp_reason.specs.Told.{last_from, last_message, nothing_told, told, told_by_change, told_from, told_with}
use Rattle.bgp_reason.proofs.OneForAll.{one_code, one_detail, one_subcode}
use Rattle.bgp_parts.proofs.OneOwnOpen.{one_own}
use Rattle.bgp_parts.proofs.ReadableOpen.{readable_or_not}
use Rattle.bgp_text.proofs.OneMessage.{one_message}
use Rattle.bgp_tool.specs.Judging.{SaysVerdict}
use Rattle.bgp_values.specs.declared.opens.Reading.{Reading}
use Rattle.bgp_lines.specs.Form.{IsNamedMessage}
use Rattle.bgp_lines.specs.MessageLine.{named_text}
use Rattle.bgp_lines.specs.Others.{named_fault}
use Rattle.bgp_why.specs.declared.endpoint.Endpoint.{Endpoint}
use Rattle.bgp_why.specs.declared.notes.Notes.{Notes}
use Rattle.bgp_why.specs.declared.place.Place.{Place}
use Rattle.bgp_why.specs.declared.state.SentAlready.{SentAlready}
use Rattle.bgp_why.specs.declared.style.Style.{Style}
use Rattle.bgp_why.specs.Deed.{form_on, peer_of, received_deed, record_line, sent_deed}
use Rattle.bgp_why.specs.Lacks.{IsWholeOf}
use Rattle.bgp_why.specs.MessageLine.{message_line}
use Rattle.bgp_why.specs.NoteLines.{note_lines}
use Rattle.bgp_why.specs.Notes.{judged_without}
use Rattle.bgp_why.specs.NotWhole.{not_whole_line}
use Rattle.bgp_why.specs.Possible.{other_lines}
use Rattle.bgp_why.specs.State.{already_line, state_line}
use Rattle.bgp_explain.specs.declared.left_out.LeftOut.{LeftOut}
use Rattle.bgp_explain.specs.declared.moments.Moments.{Moments}
use Rattle.bgp_explain.specs.declared.moments.SentNotification.{SentNotification}
use Rattle.bgp_explain.specs.declared.skipped.Skipped.{Skipped}
use Rattle.bgp_explain.specs.declared.why.Why.{Why}
use Rattle.bgp_explain.specs.Laws.{HasOneReason}
use Rattle.bgp_explain.specs.Records.{SaysOfRecords}
use Rattle.bgp_explain.specs.Capture.{HasOneText, IsAtFault, SaysExplained, SaysMore, TellsWhy, TellsWhyNot, judge_style}
use Rattle.bgp_explain.specs.Deed.{IsDeedOn}
use Rattle.bgp_explain.specs.Lacked.{Lacked, RecordLacks, lacked_cause}
use Rattle.bgp_explain.specs.LeftOut.{IsLeftOut, IsWithout, LeavesOut}
use Rattle.bgp_explain.specs.Offers.{IsOfferOf, settling_open}
use Rattle.bgp_explain.specs.Places.{counted_places, named_place}
use Rattle.bgp_explain.specs.SentLine.{IsErrorLine, IsLineOf, IsOctetsLine, IsSentLine, error_line, sent_reading}
use Rattle.bgp_explain.specs.Skipped.{skipped_of}
use Rattle.bgp_explain.specs.Why.{AreCaptured, AreNotesOf, AreNotesOn, AreWhy, IsAlready, IsAlreadyBy, IsCaptured, IsHeard, IsWhy, another_line, may_come, why_text}
use Rattle.bgp_explain.proofs.Captured.{frame_or_faulty}
use Rattle.bgp_explain.proofs.OneMoments.{one_moments}
use Rattle.bgp_explain.proofs.OnePossible.{same, same_possible}
use Rattle.bgp_explain.proofs.OneReason.{IsAlike, alike_cause, alike_lines, one_asking, one_lack, one_name, one_received, one_record_lacks, one_unwhole}

-- ---- each message of a capture is a frame, or begins with a faulty header

module _ (config : Config) where
  with_one : (last : Option ℕ) (r : ShownRecord) (records : List ShownRecord) → IsAllowed config.parts.session last r → AreCaptured config records → AreCaptured config (r ∷ records)
  with_one last (Received t octets) records allowed rest =
      (frame_or_faulty (limit_with config.parts.session.extended) octets allowed.0.0 allowed.0.3, rest)
  with_one last (Sent t octets) records allowed rest = rest
  with_one last (Changed t x y) records allowed rest = rest

  each_captured : EachAllowed → (last : Option ℕ) (pieces : List Piece) → ArePieces config.parts.session last pieces → AreCaptured config (records_of pieces)
  each_captured law last [] are = tt
  each_captured law last (Other octets ∷ pieces) are = each_captured law (last_after last (Other octets)) pieces are.1
  each_captured law last (OtherEnds octets ∷ pieces) are = each_captured law (last_after last (OtherEnds octets)) pieces are.1
  each_captured law last (PassedOver octets ∷ pieces) are = each_captured law (last_after last (PassedOver octets)) pieces are.1
  each_captured law last (Shown octets ∷ pieces) are =
      with_one last (shown_of octets) (records_of pieces) (law config.parts.session last octets are.0) (each_captured law (last_after last (Shown octets)) pieces are.1)

  pub first_captured : (n : ℕ) (records : List ShownRecord) → AreCaptured config records → AreCaptured config (take n records)
  first_captured zero records h = tt
  first_captured (suc n) [] h = tt
  first_captured (suc n) (Received t octets ∷ records) h = (h.0, first_captured n records h.1)
  first_captured (suc n) (Sent t octets ∷ records) h = first_captured n records h
  first_captured (suc n) (Changed t x y ∷ records) h = first_captured n records h

  never : false ≡ true → ⊥
  never e = cc

  by_change : (number : ℕ) (o : Option Fsm) (t : Told) (last : List ℕ) → IsHeard config t last → IsHeard config (told_by_change number o t) last
  by_change number None t last h = h
  by_change number (Some fsms.Idle) t last h = λ some. absurd (never some)
  by_change number (Some fsms.Connect) t last h = h
  by_change number (Some fsms.Active) t last h = h
  by_change number (Some fsms.OpenSent) t last h = h
  by_change number (Some fsms.OpenConfirm) t last h = h
  by_change number (Some fsms.Established) t last h = h

  heard_from : (n : ℕ) (t : Told) (last : List ℕ) (records : List ShownRecord) → AreCaptured config records → IsHeard config t last → IsHeard config (told_from n t records) (last_from last records)
  heard_from n t last [] each h = h
  heard_from n t last (Received second octets ∷ records) each h =
      heard_from (n + 1) (told_with (n + 1) (Received second octets) t) octets records each.1 (λ some. each.0)
  heard_from n t last (Sent second octets ∷ records) each h = heard_from (n + 1) t last records each h
  heard_from n t last (Changed second x y ∷ records) each h =
      heard_from (n + 1) (told_with (n + 1) (Changed second x y) t) last records each (by_change (n + 1) (fsm_at y) t last h)

  pub heard : (records : List ShownRecord) → AreCaptured config records → IsHeard config (told records) (last_message records)
  heard records each = heard_from 0 nothing_told [] records each (λ some. absurd (never some))

-- what is named stands somewhere only if it is named
named_so : (places : ℕ → ℕ → Place) (named second : Option ℕ) → IsTrue (is_some (named_place places named second)) → IsTrue (is_some named)
named_so places None second some = some
named_so places (Some n) second some = refl

-- ---- the line of a message that was sent

one_fault_text : (limit : Limit) (octets : List ℕ) (x y : HeaderFaults) → AreFaults limit (header_of octets) x → AreFaults limit (header_of octets) y → named_fault x octets ≡ named_fault y octets
unfolding named_fault
one_fault_text limit octets x y h k = let e = same_fields limit (header_of octets) x y h k in rw (e.0, e.1, e.2) refl

one_words : (reading : Reading) (limit : Limit) (octets text other : List ℕ) → IsNamedMessage reading limit octets text → IsNamedMessage reading limit octets other → text ≡ other
one_words reading limit octets text other (inl a) (inl b) =
    a.1.2 ∙ ap (named_text reading octets) (one_message reading.form octets a.1.0 b.1.0 a.1.1 b.1.1) ∙ sym b.1.2
one_words reading limit octets text other (inl a) (inr b) = absurd (b.0.1 a.0.sound)
one_words reading limit octets text other (inr a) (inl b) = absurd (a.0.1 b.0.sound)
one_words reading limit octets text other (inr a) (inr b) =
    a.1.2 ∙ one_fault_text limit octets a.1.0 b.1.0 a.1.1 b.1.1 ∙ sym b.1.2

one_error : (octets text other : List ℕ) → IsErrorLine octets text → IsErrorLine octets other → text ≡ other
one_error octets text other (a, h, x) (b, k, y) =
    let e = sym h.body ∙ k.body in
    let code = one_code a.code a.subcode b.code b.subcode a.detail b.detail e in
    let subcode = one_subcode a.code a.subcode b.code b.subcode a.detail b.detail e in
    let detail = one_detail a.code a.subcode b.code b.subcode a.detail b.detail e in
    let same : a ≡ b = λ i. record { code = code i; subcode = subcode i; detail = detail i } in
    x ∙ ap error_line same ∙ sym y

of_two : (limit : Limit) (octets : List ℕ) → IsWholeOf limit 4 octets → IsWholeOf limit 3 octets → ⊥
of_two limit octets h k = let e = sym h.1 ∙ k.1 in omega (arith, e)

one_octets_line : (reading : Reading) (limit : Limit) (octets text other : List ℕ) → IsOctetsLine reading limit octets text → IsOctetsLine reading limit octets other → text ≡ other
one_octets_line reading limit octets text other (inl a) (inl b) = a.1 ∙ sym b.1
one_octets_line reading limit octets text other (inl a) (inr (inl b)) = absurd (of_two limit octets a.0 b.0)
one_octets_line reading limit octets text other (inl a) (inr (inr b)) = absurd (b.0 a.0)
one_octets_line reading limit octets text other (inr (inl a)) (inl b) = absurd (of_two limit octets b.0 a.0)
one_octets_line reading limit octets text other (inr (inl a)) (inr (inl b)) = one_error octets text other a.1 b.1
one_octets_line reading limit octets text other (inr (inl a)) (inr (inr b)) = absurd (b.1 a.0)
one_octets_line reading limit octets text other (inr (inr a)) (inl b) = absurd (a.0 b.0)
one_octets_line reading limit octets text other (inr (inr a)) (inr (inl b)) = absurd (a.1 b.0)
one_octets_line reading limit octets text other (inr (inr a)) (inr (inr b)) =
    a.2.2 ∙ ap message_line (one_words reading limit octets a.2.0 b.2.0 a.2.1 b.2.1) ∙ sym b.2.2

one_line_of : (config : Config) (session : Session) (link : Option Link) (shown : ShownRecord) (text other : List ℕ) → IsLineOf config session link shown text
    → IsLineOf config session link shown other → text ≡ other
one_line_of config session link (Received t octets) text other h k = h ∙ sym k
one_line_of config session link (Sent t octets) text other h k = one_octets_line (sent_reading config link) (limit_with session.extended) octets text other h k
one_line_of config session link (Changed t x y) text other h k = h ∙ sym k

one_sent_line : (config : Config) (session : Session) (link : Option Link) (next : Option (ℕ × ShownRecord)) (text other : List ℕ) → IsSentLine config session link next text
    → IsSentLine config session link next other → text ≡ other
one_sent_line config session link None text other h k = h ∙ sym k
one_sent_line config session link (Some next) text other h k = one_line_of config session link next.1 text other h k

-- ---- what a record shows was done

one_deed : (session : Session) (peer : Endpoint) (link : Option Link) (shown : ShownRecord) (text other : List ℕ) → IsDeedOn session peer link shown text
    → IsDeedOn session peer link shown other → text ≡ other
one_deed session peer link (Received t octets) text other h k =
    h.2 ∙ ap (received_deed peer) (one_name (form_on link (Received t octets)) (limit_with session.extended) octets h.0 k.0 h.1 k.1) ∙ sym k.2
one_deed session peer link (Sent t octets) text other h k =
    h.2 ∙ ap (sent_deed peer) (one_name (form_on link (Sent t octets)) (limit_with session.extended) octets h.0 k.0 h.1 k.1) ∙ sym k.2
one_deed session peer link (Changed t x y) text other h k = h ∙ sym k

-- ---- what was sent already

one_already_by : (places : ℕ → ℕ → Place) (link : Option Link) (shown : ShownRecord) (last : SentNotification) (a b : Option SentAlready) → IsAlreadyBy places link shown last a
    → IsAlreadyBy places link shown last b → a ≡ b
one_already_by places link shown last None None h k = refl
one_already_by places link shown last None (Some b) h k = absurd (h k.0)
one_already_by places link shown last (Some a) None h k = absurd (k h.0)
one_already_by places link shown last (Some a) (Some b) h k = ap Some (h.1 ∙ sym k.1)

one_already : (places : ℕ → ℕ → Place) (link : Option Link) (last : Option SentNotification) (next : Option (ℕ × ShownRecord)) (a b : Option SentAlready)
    → IsAlready places link last next a → IsAlready places link last next b → a ≡ b
one_already places link last None a b h k = h ∙ sym k
one_already places link None (Some next) a b h k = h ∙ sym k
one_already places link (Some last) (Some next) a b h k = one_already_by places link next.1 last a b h k

-- ---- the notes

module _ (config : Config) (t : Told) (link : Option Link) (octets : List ℕ) (p : Possible) where
  with_notes : (next : Option (ℕ × ShownRecord)) (u : LeftOut) (a b : Notes) → AreNotesOn config t link octets p next a → AreNotesOn config t link octets p next b
      → judged_without u.without a ≡ judged_without u.without b
  with_notes None u a b h k =
      let refused = h.may_be_refused ∙ sym k.may_be_refused in
      let elsewhere = h.begins_elsewhere ∙ sym k.begins_elsewhere in
      let first = h.open_came_first ∙ sym k.open_came_first in
      let parameters = same _ a.extended_parameters b.extended_parameters h.extended_parameters k.extended_parameters in
      let alive = h.keepalive_without_hold ∙ sym k.keepalive_without_hold in
      let ended = h.may_have_ended ∙ sym k.may_have_ended in
      let missing = h.may_be_missing ∙ sym k.may_be_missing in
      λ i. record {
        may_be_refused = refused i;
        begins_elsewhere = elsewhere i;
        open_came_first = first i;
        without = u.without;
        extended_parameters = parameters i;
        keepalive_without_hold = alive i;
        may_have_ended = ended i;
        may_be_missing = missing i;
      }
  with_notes (Some next) u a b h k =
      let refused = h.may_be_refused ∙ sym k.may_be_refused in
      let elsewhere = same _ a.begins_elsewhere b.begins_elsewhere h.begins_elsewhere k.begins_elsewhere in
      let first = same _ a.open_came_first b.open_came_first h.open_came_first k.open_came_first in
      let parameters = same _ a.extended_parameters b.extended_parameters h.extended_parameters k.extended_parameters in
      let alive = same _ a.keepalive_without_hold b.keepalive_without_hold h.keepalive_without_hold k.keepalive_without_hold in
      let ended = same _ a.may_have_ended b.may_have_ended h.may_have_ended k.may_have_ended in
      let missing = same _ a.may_be_missing b.may_be_missing h.may_be_missing k.may_be_missing in
      λ i. record {
        may_be_refused = refused i;
        begins_elsewhere = elsewhere i;
        open_came_first = first i;
        without = u.without;
        extended_parameters = parameters i;
        keepalive_without_hold = alive i;
        may_have_ended = ended i;
        may_be_missing = missing i;
      }

  one_notes : (next : Option (ℕ × ShownRecord)) (u : LeftOut) (a b : Notes) → AreNotesOf config t link u octets p next a → AreNotesOf config t link u octets p next b → a ≡ b
  one_notes next u a b h k = h.2 ∙ with_notes next u h.0 k.0 h.1 k.1 ∙ sym k.2

-- ---- what both OPENs offer

one_offer : (octets : List ℕ) (a b : RouteOffer) → IsRouteOffer octets a → IsRouteOffer octets b → a ≡ b
one_offer octets a b h k = elim (readable_or_not octets) [
  | inl is ↦ h.readable is ∙ sym (k.readable is)
  | inr not ↦ h.unreadable not ∙ sym (k.unreadable not)
]

one_offer_of : (o : Option (List ℕ)) (a b : RouteOffer) → IsOfferOf o a → IsOfferOf o b → a ≡ b
one_offer_of None a b h k = h ∙ sym k
one_offer_of (Some octets) a b h k = one_offer octets a b h k

one_without : (configured own peers : RouteOffer) (a b : Option RouteOffer) → IsWithout configured own peers a → IsWithout configured own peers b → a ≡ b
one_without configured own peers None None h k = refl
one_without configured own peers None (Some y) h k = absurd (h k.0)
one_without configured own peers (Some x) None h k = absurd (k h.0)
one_without configured own peers (Some x) (Some y) h k = ap (λ (o : RouteOffer). Some o) (h.1 ∙ sym k.1)

one_left : (config : Config) (own peers : RouteOffer) (a b : LeftOut) → IsLeftOut config own peers a → IsLeftOut config own peers b → a ≡ b
one_left config own peers a b h k =
    let without = one_without config.parts.offers own peers a.without b.without h.without k.without in λ i. record { without = without i }

one_left_out : (config : Config) (records : List ShownRecord) (a b : LeftOut) → LeavesOut config records a → LeavesOut config records b → a ≡ b
one_left_out config records a b h k =
    let mine = one_own records h.own k.own h.has_own k.has_own in
    let own = one_offer_of h.own h.own_offer k.own_offer h.is_own (subst (λ (o : Option (List ℕ)). IsOfferOf o k.own_offer) (sym mine) k.is_own) in
    let peers = one_offer_of (settling_open records) h.peers_offer k.peers_offer h.is_peers k.is_peers in
    one_left config h.own_offer h.peers_offer a b h.is_left_out
    (subst (λ (o : RouteOffer). IsLeftOut config o h.peers_offer b) (sym own) (subst (λ (o : RouteOffer). IsLeftOut config k.own_offer o b) (sym peers) k.is_left_out))

-- ---- why

module _ (config : Config) (places : ℕ → ℕ → Place) (t : Told) (m : Moments) (link : Option Link) (u : LeftOut) (octets : List ℕ) (p : Possible)
    (next : Option (ℕ × ShownRecord)) where
  one_all : (a b : Why) → IsHeard config t octets → AreWhy config places t m link u octets p next a → AreWhy config places t m link u octets p next b → a ≡ b
  one_all a b whole h k =
      let place = named_place places t.last_received m.last_received in
      let since = h.since ∙ sym k.since in
      let received = one_received config octets link t place a.received b.received h.received k.received
      (λ some. whole (named_so places t.last_received m.last_received some)) in
      let unwhole = one_unwhole link next a.unwhole b.unwhole h.unwhole k.unwhole in
      let already = one_already places link m.notification next a.already b.already h.already k.already in
      let notes = one_notes config t link octets p next u a.notes b.notes h.notes k.notes in
      λ i. record { since = since i; received = received i; unwhole = unwhole i; already = already i; notes = notes i }

may_come_once : (style : Style) (p : Possible) (next : Option (ℕ × ShownRecord)) (a b : Lacked) → IsAlike a b → may_come style next p a ≡ may_come style next p b
may_come_once style p None a b is = refl
may_come_once style p (Some next) a b is =
    ap (λ (lines : List ℕ). lines ++ other_lines style.first p style.other_orders) (alike_lines p style a b is)

module _ (sets : SubcodesAreSets) (config : Config) where
  pub one_is_why : (style : Style) (session : Session) (another : Option ℕ) (places : ℕ → ℕ → Place) (t : Told) (m : Moments) (link : Option Link) (u : LeftOut) (octets : List ℕ)
      (p : Possible) (next : Option (ℕ × ShownRecord)) (text other : List ℕ) → IsHeard config t octets → IsWhy config style session another places t m link u octets p next text
      → IsWhy config style session another places t m link u octets p next other → text ≡ other
  one_is_why style session another places t m link u octets p next text other whole h k =
      let sent = one_sent_line config session link next h.sent k.sent h.is_sent k.is_sent in
      let why = one_all config places t m link u octets p next h.why k.why whole h.are_why k.are_why in
      let asks = one_asking sets style config t link octets k.why.received h.asking k.asking h.is_asked k.is_asked in
      let come = may_come_once style p next h.lacked k.lacked (one_lack config link p next h.lacked k.lacked h.are_lacks k.are_lacks) in
      let rest = ap (λ (w : Why). why_text style another t.state next p w h.asking h.lacked) why
      ∙ (λ i. not_whole_line k.why.unwhole ++ (another_line another ++ (state_line style.first t.state k.why.since
      ++ (asks i ++ (come i ++ (already_line style.first k.why.already ++ note_lines style.is_recording k.why.notes)))))) in
      h.whole ∙ (λ i. sent i ++ rest i) ∙ sym k.whole

  one_why : (style : Style) (session : Session) (another : Option ℕ) (places : ℕ → ℕ → Place) (records : List ShownRecord) (next : Option (ℕ × ShownRecord))
      (text other : List ℕ) → AreCaptured config records → TellsWhy config style session another places records next text
      → TellsWhy config style session another places records next other → text ≡ other
  one_why style session another places records next text other each h k =
      let possible = same_possible config records h.possible k.possible h.asked k.asked h.are k.are h.timely k.timely in
      let moments = one_moments config records h.moments k.moments h.are_moments k.are_moments in
      let left_out = one_left_out config records h.left_out k.left_out h.leaves_out k.leaves_out in
      one_is_why style session another places (told records) h.moments (sending_link config records) h.left_out (last_message records) h.possible next text other
      (heard config records each) h.why
      (subst (λ (v : LeftOut). IsWhy config style session another places (told records) h.moments (sending_link config records) v (last_message records) h.possible next other) (sym left_out)
      (subst (λ (v : Moments). IsWhy config style session another places (told records) v (sending_link config records) k.left_out (last_message records) h.possible next other) (sym moments)
      (subst (λ (v : Possible). IsWhy config style session another places (told records) k.moments (sending_link config records) k.left_out (last_message records) v next other) (sym possible)
      k.why)))

  one_fault : (style : Style) (session : Session) (peer : Endpoint) (before : List ShownRecord) (shown : ShownRecord) (deed cause done wrong : List ℕ)
      → IsAtFault config style session peer before shown deed cause → IsAtFault config style session peer before shown done wrong → (deed ≡ done) × (cause ≡ wrong)
  one_fault style session peer before shown deed cause done wrong h k =
      let possible = same_possible config before h.possible k.possible h.asked k.asked h.are k.are h.timely k.timely in
      let link = sending_link config before in
      let lacks = subst (λ (v : Possible). RecordLacks config link v shown k.lacked) (sym possible) k.are_lacks in
      let alike = one_record_lacks config link h.possible shown h.lacked k.lacked h.are_lacks lacks in (
        one_deed session peer link shown deed done h.is_deed k.is_deed,
        h.is_cause ∙ alike_cause h.possible style.own_faults h.lacked k.lacked alike ∙ ap (λ (v : Possible). lacked_cause style.own_faults v k.lacked) possible ∙ sym k.is_cause,
      )

  -- the one record behind others
  one_last : (before : List ShownRecord) (a b : ShownRecord) → before ++ a ∷ [] ≡ before ++ b ∷ [] → a ≡ b
  one_last [] a b e = cc
  one_last (r ∷ before) a b e = one_last before a b (let f : before ++ a ∷ [] ≡ before ++ b ∷ [] = cc in f)

  one_why_not : (style : Style) (session : Session) (places : ℕ → ℕ → Place) (before records : List ShownRecord) (text other : List ℕ) → AreCaptured config before
      → TellsWhyNot config style session places before records text → TellsWhyNot config style session places before records other → text ≡ other
  one_why_not style session places before records text other each h k =
      let shown = one_last before h.shown k.shown (sym h.next ∙ k.next) in
      let fault = one_fault style session (peer_of session) before h.shown h.deed h.cause k.deed k.cause h.at_fault
      (subst (λ (r : ShownRecord). IsAtFault config style session (peer_of session) before r k.deed k.cause) (sym shown) k.at_fault) in
      let deed = fault.0 in
      let cause = fault.1 in
      let rest = one_why style session None places before (Some (length before + 1, h.shown)) h.rest k.rest each h.why
      (subst (λ (r : ShownRecord). TellsWhy config style session None places before (Some (length before + 1, r)) k.rest) (sym shown) k.why) in
      h.whole ∙ (λ i. record_line (places (length before + 1) (second_of (shown i))) session.local (deed i) (cause i) ++ rest i) ∙ sym k.whole

  module _ (law : HasOneVerdict) (records : List ShownRecord) (micros : List (Option ℕ)) (skipped : Skipped) (each : AreCaptured config records) (first other : List ℕ) (status code : ℕ) where
    one_more : (s : SaysVerdict config records first status) (t : SaysVerdict config records other code) (more also : List ℕ) → SaysMore config records micros skipped first status s more
        → SaysMore config records micros skipped other code t also → more ≡ also
    one_more (inl a) (inl b) more also h k = h ∙ sym k
    one_more (inl a) (inr (inl b)) more also h k =
        absurd (let e : Yes a.ends ≡ No b.count = law config records (Yes a.ends) (No b.count) (a.some, a.lists) (b.within, b.before, b.behind) in cc)
    one_more (inl a) (inr (inr b)) more also h k =
        absurd (let e : Yes a.ends ≡ Unfinished = law config records (Yes a.ends) Unfinished (a.some, a.lists) (b.begins, b.none) in cc)
    one_more (inr (inl a)) (inl b) more also h k =
        absurd (let e : No a.count ≡ Yes b.ends = law config records (No a.count) (Yes b.ends) (a.within, a.before, a.behind) (b.some, b.lists) in cc)
    one_more (inr (inl a)) (inr (inl b)) more also h k =
        let e : No a.count ≡ No b.count = law config records (No a.count) (No b.count) (a.within, a.before, a.behind) (b.within, b.before, b.behind) in
        let count : a.count ≡ b.count = cc in
        one_why_not (judge_style records) config.parts.session (counted_places micros) (take a.count records) (take (a.count + 1) records) more also (first_captured config a.count records each) h
        (subst (λ (n : ℕ). TellsWhyNot config (judge_style records) config.parts.session (counted_places micros) (take n records) (take (n + 1) records) also) (sym count) k)
    one_more (inr (inl a)) (inr (inr b)) more also h k =
        absurd (let e : No a.count ≡ Unfinished = law config records (No a.count) Unfinished (a.within, a.before, a.behind) (b.begins, b.none) in cc)
    one_more (inr (inr a)) (inl b) more also h k =
        absurd (let e : Unfinished ≡ Yes b.ends = law config records Unfinished (Yes b.ends) (a.begins, a.none) (b.some, b.lists) in cc)
    one_more (inr (inr a)) (inr (inl b)) more also h k =
        absurd (let e : Unfinished ≡ No b.count = law config records Unfinished (No b.count) (a.begins, a.none) (b.within, b.before, b.behind) in cc)
    one_more (inr (inr a)) (inr (inr b)) more also h k =
        one_why (judge_style records) config.parts.session None (counted_places micros) records None more also each h k

pub one_text : SubcodesAreSets → EachAllowed → HasOneVerdict
    → ((config : Config) (octets : List ℕ) (records also : List ShownRecord) (text other : List ℕ) (status code : ℕ) → Spells config.parts.session octets records
    → SaysVerdict config records text status → Spells config.parts.session octets also → SaysVerdict config also other code → (text ≡ other) × (status ≡ code))
    → HasOneText
one_text sets allowed law verdict config octets records also text other status code spells says spelled said =
    let same = one_spelling config.parts.session octets records also spells spelled in
    let pieces : spells.pieces ≡ spelled.pieces = (one_reading config.parts.session octets spells.pieces spelled.pieces [] [] End End spells.text spelled.text).0 in
    let skipped = skipped_of spells.pieces in
    let there : SaysExplained config records (micros_of spells.pieces) skipped other code =
    subst (λ (v : List Piece). SaysExplained config records (micros_of v) (skipped_of v) other code) (sym pieces)
    (subst (λ (v : List ShownRecord). SaysExplained config v (micros_of spelled.pieces) (skipped_of spelled.pieces) other code) (sym same) said)
    in
    let each : AreCaptured config records = subst (AreCaptured config) (sym spells.shown) (each_captured config allowed None spells.pieces spells.text.each) in
    let (first, equal) = verdict config octets records records says.first there.first status code spells says.says spells there.says in
    let more = one_more sets config law records (micros_of spells.pieces) skipped each says.first there.first status code says.says there.says says.more there.more says.explains there.explains in
    (says.whole ∙ (λ i. first i ++ more i) ∙ sym there.whole, equal)

-- ---- of records, wherever they stand

pub one_reason : SubcodesAreSets → EachAllowed → HasOneReason
one_reason sets allowed config style places octets records verdict more also spells h k = told verdict h k where
  each : AreCaptured config records
  each = subst (AreCaptured config) (sym spells.shown) (each_captured config allowed None spells.pieces spells.text.each)

  told : (v : VerdictValue) → SaysOfRecords config style config.parts.session places records v more → SaysOfRecords config style config.parts.session places records v also → more ≡ also
  told (Yes ends) a b = a ∙ sym b
  told (No count) a b =
      one_why_not sets config style config.parts.session places (take count records) (take (count + 1) records) more also (first_captured config count records each) a b
  told Unfinished a b = one_why sets config style config.parts.session None places records None more also each a b
