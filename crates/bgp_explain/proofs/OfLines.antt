-- The text of a reason is that of lines.
use Rattle.std.proofs.Common.{◌≡◌, ◌∙◌, ◌++◌, ℕ, Bool, true, false, List, [], ◌∷◌, Option, None, Some, ap, append-nil, if◌then◌else◌, inl, inr, refl, subst, sym}
use Rattle.std.proofs.lemmas.Grind.{flat_map-append}
use Rattle.std.specs.List.{flat_map}
use Rattle.bgp_prefix.specs.Shown.{ShownRecord, Received, Sent, Changed}
use Rattle.bgp_prefix.specs.declared.session.Session.{Session}
use Rattle.bgp_wire.specs.declared.header.Limit.{Limit}
use Rattle.bgp_open.specs.declared.config.Config.{Config}
use Rattle.bgp_open.specs.declared.link.Link.{Link}
use Rattle.bgp_machine.specs.declared.fsm.Fsm.{Fsm}
use Rattle.bgp_reason.specs.declared.kinds.Possible.{Possible}
use Rattle.bgp_values.specs.ErrorData.{ErrorFields}
use Rattle.bgp_values.specs.declared.opens.Reading.{Reading}
use Rattle.bgp_why_parts.specs.Cut.{cut}
use Rattle.bgp_why.specs.Applying.{update_asks}
use Rattle.bgp_why.specs.Asked.{asked_text, last_received_line}
use Rattle.bgp_why.specs.Message.{name_text}
use Rattle.bgp_why.specs.MessageLine.{message_line}
use Rattle.bgp_why.specs.NotWhole.{not_whole_line, unfit_line}
use Rattle.bgp_why.specs.Possible.{other_lines, possible_lines, shown_lines}
use Rattle.bgp_why.specs.State.{already_line, another_as_line, state_line}
use Rattle.bgp_why.specs.NoteLines.{note_lines, shown_notes}
use Rattle.bgp_why.specs.declared.items.Item.{Item}
use Rattle.bgp_why.specs.declared.notes.Notes.{Notes}
use Rattle.bgp_why.specs.declared.place.Place.{Place}
use Rattle.bgp_why.specs.declared.state.SentAlready.{SentAlready}
use Rattle.bgp_why.specs.declared.style.Style.{Style}
use Rattle.bgp_why.specs.declared.whole.NotWhole.{NotWhole}
use Rattle.bgp_why.specs.declared.whole.NotWhole.TheVariants.{Faulty, BelowHeader, OtherCount}
use Rattle.bgp_verdict_lines.specs.At.{at_if, at_of}
use Rattle.bgp_verdict_lines.specs.JsonVerdictsLines.{LineValue, Reasons, AnotherAs, IsUnfit, LastReceived, TheData, TheMessage, TheState, line_text, note_values, other_values, possible_values, reason_text}
use Rattle.bgp_verdict_lines.specs.JsonVerdictsLines as verdicts
use Rattle.bgp_verdict_lines.proofs.SameTexts.{already_same, notes_same, others_same, possible_same, received_same, state_same}
use Rattle.bgp_explain.specs.declared.explained.Reason.{Reason}
use Rattle.bgp_explain.specs.declared.why.Received.{Received as Last}
use Rattle.bgp_explain.specs.declared.why.Why.{Why}
use Rattle.bgp_explain.specs.Details.{next_in}
use Rattle.bgp_explain.specs.KeptLines.{IsOfLines}
use Rattle.bgp_explain.specs.Lacked.{Lacked, Nothing, Open, Update, Notification, following_lines}
use Rattle.bgp_explain.specs.SentLine.{IsErrorLine, IsLineOf, IsOctetsLine, IsSentLine, error_line, detail_line}
use Rattle.bgp_explain.specs.Text.{IsWhyOfWith}
use Rattle.bgp_explain.specs.Updates.{Asking, update_line}
use Rattle.bgp_explain.specs.Why.{another_line, may_come, received_line, why_text}

-- ---- in turn

pub none : IsOfLines []
none = ([], refl)

both : (a b : List ℕ) → IsOfLines a → IsOfLines b → IsOfLines (a ++ b)
both a b (xs, is) (ys, so) = (
  xs ++ ys,
  flat_map-append line_text xs ys ∙ ap (λ (t : List ℕ). t ++ flat_map line_text ys) is ∙ ap (λ (t : List ℕ). a ++ t) so,
)

one : (line : LineValue) (text : List ℕ) → line_text line ≡ text → IsOfLines text
one line text is = (line ∷ [], append-nil (line_text line) ∙ is)

-- ---- the message that was sent

words : (text : List ℕ) → IsOfLines (message_line text)
unfolding line_text reason_text
words text = one (Reasons (TheMessage (cut text))) (message_line text) refl

detail : (error : ErrorFields) (octets : List ℕ) → IsOfLines (detail_line error octets)
unfolding line_text reason_text
detail error [] = none
detail error (octet ∷ octets) = one (Reasons (TheData _)) (detail_line error (octet ∷ octets)) refl

as_is : (a b : List ℕ) → a ≡ b → IsOfLines b → IsOfLines a
as_is a b is lines = subst (λ (t : List ℕ). IsOfLines t) (sym is) lines

of_error : (octets text : List ℕ) → IsErrorLine octets text → IsOfLines text
of_error octets text (error, is, same) = as_is text (error_line error) same (detail error error.detail)

of_octets : (reading : Reading) (limit : Limit) (octets text : List ℕ) → IsOctetsLine reading limit octets text → IsOfLines text
of_octets reading limit octets text (inl whole) = as_is text [] whole.1 none
of_octets reading limit octets text (inr (inl error)) = of_error octets text error.1
of_octets reading limit octets text (inr (inr (a, b, (said, named, same)))) = as_is text (message_line said) same (words said)

of_record : (config : Config) (session : Session) (link : Option Link) (shown : ShownRecord) (text : List ℕ) → IsLineOf config session link shown text → IsOfLines text
of_record config session link (Received second octets) text is = as_is text [] is none
of_record config session link (Sent second octets) text is = of_octets _ _ octets text is
of_record config session link (Changed second old new) text is = as_is text [] is none

of_sent : (config : Config) (session : Session) (link : Option Link) (next : Option (ℕ × ShownRecord)) (text : List ℕ) → IsSentLine config session link next text → IsOfLines text
of_sent config session link None text is = as_is text [] is none
of_sent config session link (Some next) text is = of_record config session link next.1 text is

-- ---- the lines after it

unfit : (why : NotWhole) → IsOfLines (unfit_line why)
unfolding line_text reason_text
unfit why = one (Reasons (IsUnfit why)) (unfit_line why) refl

of_whole : (why : Option NotWhole) → IsOfLines (not_whole_line why)
of_whole None = none
of_whole (Some (Faulty errors)) = none
of_whole (Some BelowHeader) = unfit BelowHeader
of_whole (Some OtherCount) = unfit OtherCount

of_another : (another : Option ℕ) → IsOfLines (another_line another)
unfolding line_text reason_text
of_another None = none
of_another (Some number) = one (Reasons (AnotherAs number)) (another_as_line number) refl

of_state : (first : ℕ) (state : Fsm) (since : Option Place) → IsOfLines (state_line first state since)
of_state first state since = one (Reasons (TheState state (at_if first since))) (state_line first state since) (state_same first state since)

of_received : (style : Style) (received : Option Last) (asking : Option Asking) → IsOfLines (received_line style received asking)
unfolding last_received_line update_line
of_received style None asking = none
of_received style (Some received) None =
    let asked = received.asked in
    let asks = asked_text style.peer_as_is_free asked.state asked.message in
    one (Reasons (LastReceived (at_of style.first received.place) (name_text asked.name) asks)) _ (received_same style.first received.place asked.name asks)
of_received style (Some received) (Some asking) =
    let asks = update_asks asking.applied asking.refused asking.parts in
    one (Reasons (LastReceived (at_of style.first received.place) (name_text received.asked.name) asks)) _ (received_same style.first received.place received.asked.name asks)

of_shown : (style : Style) (is_next : Bool) (but : Item → List ℕ) (p : Possible) → IsOfLines (shown_lines style is_next but p)
of_shown style is_next but p = (possible_values style is_next but p, possible_same style is_next but p)

of_following : (style : Style) (p : Possible) (lacked : Lacked) → IsOfLines (following_lines style p lacked)
of_following style p Nothing = of_shown style false _ p
of_following style p (Open parts) = of_shown style false _ p
of_following style p (Update parts) = of_shown style false _ p
of_following style p (Notification code parts) = of_shown style false _ p

of_come : (style : Style) (next : Option (ℕ × ShownRecord)) (p : Possible) (lacked : Lacked) → IsOfLines (may_come style next p lacked)
of_come style None p lacked = of_shown style true _ p
of_come style (Some next) p lacked =
    both (following_lines style p lacked) (other_lines style.first p style.other_orders) (of_following style p lacked)
    (other_values style.first p style.other_orders, others_same style.first p style.other_orders)

of_already : (first : ℕ) (already : Option SentAlready) → IsOfLines (already_line first already)
of_already first None = none
of_already first (Some sent) = one (Reasons (verdicts.SentAlready sent.code sent.subcode (at_of first sent.place))) _ (already_same first sent)

of_notes : (is_recording : Bool) (notes : Notes) → IsOfLines (note_lines is_recording notes)
of_notes is_recording notes = (note_values (shown_notes is_recording notes), notes_same is_recording notes)

of_why : (style : Style) (another : Option ℕ) (state : Fsm) (next : Option (ℕ × ShownRecord)) (p : Possible) (why : Why) (asking : Option Asking) (lacked : Lacked)
    → IsOfLines (why_text style another state next p why asking lacked)
of_why style another state next p why asking lacked =
    both _ _ (of_whole why.unwhole)
    (both _ _ (of_another another)
    (both _ _ (of_state style.first state why.since)
    (both _ _ (of_received style why.received asking)
    (both _ _ (of_come style next p lacked)
    (both _ _ (of_already style.first why.already) (of_notes style.is_recording why.notes))))))

-- ---- all of it

pub of_lines : {X : Type 0} (config : Config) (style : Style) (session : Session) (another : Option ℕ) (reason : Reason X) (why : Why) (text : List ℕ)
    → IsWhyOfWith config style session another reason why text → IsOfLines text
of_lines config style session another reason why text is =
    let rest = why_text style another reason.told.state (next_in reason.impossible) reason.possible why is.asking is.lacked in
    as_is text (is.sent ++ rest) is.whole
    (both is.sent rest (of_sent config session reason.link (next_in reason.impossible) is.sent is.is_sent)
    (of_why style another reason.told.state (next_in reason.impossible) reason.possible why is.asking is.lacked))
