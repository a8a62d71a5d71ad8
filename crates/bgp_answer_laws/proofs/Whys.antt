-- The lines on what records tell: which of them say what could have come.
use Rattle.std.proofs.Common.{◌≡◌, ◌++◌, ◌&&◌, ◌==◌, ℕ, Bool, true, false, List, [], ◌∷◌, Option, None, Some, All, append-nil, codes, not, refl, subst, sym, inl, inr}
use Rattle.std.proofs.lemmas.List.Elements.{All-nil}
use Rattle.bgp_prefix.specs.Shown.{ShownRecord, Received, Sent, Changed}
use Rattle.bgp_prefix.specs.declared.session.Session.{Session}
use Rattle.bgp_wire.specs.Header.{limit_with}
use Rattle.bgp_wire.specs.Octets.{AreOctets}
use Rattle.bgp_open.specs.declared.config.Config.{Config}
use Rattle.bgp_open.specs.declared.link.Link.{Link}
use Rattle.bgp_machine.specs.State.{number_of}
use Rattle.bgp_machine.specs.declared.fsm.Fsm.{Fsm}
use Rattle.bgp_reason.specs.Sending.{sending_link}
use Rattle.bgp_reason.specs.Told.{last_message, told}
use Rattle.bgp_reason.specs.declared.kinds.Possible.{Possible}
use Rattle.bgp_values.specs.ErrorData.{ErrorFields}
use Rattle.bgp_lines.specs.Notifications.{error_data_text}
use Rattle.bgp_open.specs.declared.route_offer.RouteOffer.{RouteOffer}
use Rattle.bgp_why_parts.specs.Cut.{cut}
use Rattle.bgp_why_parts.specs.declared.own_faults.OwnFaults.{OwnFaults}
use Rattle.bgp_why.specs.Asked.{last_received_line, received_text}
use Rattle.bgp_why.specs.Items.{all_items, first_word, those_possible}
use Rattle.bgp_why.specs.Lacks.{is_notification, is_open, is_update}
use Rattle.bgp_why.specs.MessageLine.{data_line, message_line}
use Rattle.bgp_why.specs.NotWhole.{not_whole_line, unfit_line, unfit_text}
use Rattle.bgp_why.specs.NoteLines.{note_line, note_lines, note_said, without_line}
use Rattle.bgp_why.specs.OtherOrders.{besides}
use Rattle.bgp_why.specs.Possible.{item_line, item_lines, other_item_lines, other_lines, possible_shown, shown_lines, unknown_line}
use Rattle.bgp_why.specs.State.{already_line, another_as_line, sent_line, since_text, state_line}
use Rattle.bgp_why.specs.Style.{line}
use Rattle.bgp_why.specs.declared.asked.Asked.{Asked}
use Rattle.bgp_why.specs.declared.items.Item.{Item}
use Rattle.bgp_why.specs.declared.message.MessageName.{MessageName}
use Rattle.bgp_why.specs.declared.note_lines.Note.{Note}
use Rattle.bgp_why.specs.declared.note_lines.Note.TheVariants as said
use Rattle.bgp_why.specs.declared.notes.Notes.{Notes}
use Rattle.bgp_why.specs.declared.other_orders.OtherOrders.{OtherOrders}
use Rattle.bgp_why.specs.declared.other_orders.OtherOrders.TheVariants.{Unasked, Unknown, Known}
use Rattle.bgp_why.specs.declared.place.Place.{Place}
use Rattle.bgp_why.specs.declared.state.SentAlready.{SentAlready}
use Rattle.bgp_why.specs.declared.style.Style.{Style}
use Rattle.bgp_why.specs.declared.whole.NotWhole.{NotWhole}
use Rattle.bgp_why.specs.declared.whole.NotWhole.TheVariants.{Faulty, BelowHeader, OtherCount}
use Rattle.bgp_explain.specs.Details.{AreLacksOf, IsAskedBy}
use Rattle.bgp_explain.specs.Lacked.{Lacked, Nothing, Open, Update, Notification, but_text, following_lines, lacked_text}
use Rattle.bgp_explain.specs.SentLine.{IsLineOf, IsOctetsLine, IsSentLine, detail_line, error_line, sent_reading}
use Rattle.bgp_explain.specs.Updates.{Asking, update_line}
use Rattle.bgp_explain.specs.Why.{another_line, may_come, received_line, why_text}
use Rattle.bgp_explain.specs.declared.why.Received.{Received as LastReceived}
use Rattle.bgp_explain.specs.declared.why.Why.{Why}
use Rattle.bgp_html.specs.Kinds.{kind_of}
use Rattle.bgp_html.specs.declared.printed.Kind.TheVariants as kinds
use Rattle.bgp_visible_laws.specs.Laws.{HasOctets}
use Rattle.bgp_visible_laws.specs.Visible.{IsVisible}
use Rattle.bgp_visible_laws.proofs.Texts.{state_visible}
use Rattle.bgp_visible_laws.proofs.Visible as visible
use Rattle.bgp_why_laws.specs.Octets as parts
use Rattle.bgp_why_laws.proofs.Lines.{cuts_visible}
use Rattle.bgp_why_laws.proofs.Parts.{full_code_visible, notification_parts_visible, open_parts_visible, own_faults_visible, shown_visible, update_parts_visible}
use Rattle.bgp_why_laws.proofs.Reasons.{asks_visible, names_visible, notes_visible, update_asks_visible}
use Rattle.bgp_answer_laws.specs.Answers.{Says}
use Rattle.bgp_answer_laws.proofs.Lines.{IsPlain, behind, both, ends, if_plain, none_both, nothing, says_beside, says_both, says_nothing, says_possible, word}
use Rattle.bgp_answer_laws.specs.Reasons.{HasOctetsIfAny, WhysSayWhatMayCome}
use Rattle.bgp_check_laws.proofs.Octets.{HasOctetsIn, last_are, of_update, record_has}
use Rattle.bgp_answer_laws.proofs.How.{cut_plain, data_plain}
use Rattle.bgp_answer_laws.proofs.Items.{item}
use Rattle.bgp_answer_laws.proofs.Plain.{plain}
use Rattle.bgp_answer_laws.proofs.Times.{at, number}

by_text : (text other : List ℕ) (possible : List ℕ) → text ≡ other → Says other possible → Says text possible
by_text text other possible is says = subst (λ (t : List ℕ). Says t possible) (sym is) says

-- ---- the line of the next record's message

data_says : (text : List ℕ) → IsPlain (cut text) → Says (data_line text) []
data_says text none = says_beside (data_line text) (behind (word (codes "  data: ") refl) (ends none)) refl

detail_says : (error : ErrorFields) (detail : List ℕ) → IsPlain (cut (error_data_text error)) → Says (detail_line error detail) []
detail_says error [] none = says_nothing
detail_says error (octet ∷ octets) none = data_says (error_data_text error) none

message_says : (text : List ℕ) → IsPlain (cut text) → Says (message_line text) []
message_says text none = says_beside (message_line text) (behind (word (codes "  message: ") refl) (ends none)) refl

module _ (config : Config) (session : Session) (link : Option Link) where
  octets_say : (octets text : List ℕ) → AreOctets octets → IsOctetsLine (sent_reading config link) (limit_with session.extended) octets text → Says text []
  octets_say octets text are (inl keepalive) = by_text text [] [] keepalive.1 says_nothing
  octets_say octets text are (inr (inl error)) =
      by_text text (error_line error.1.0) [] error.1.2 (detail_says error.1.0 error.1.0.detail (cut_plain (data_plain error.1.0)))
  octets_say octets text are (inr (inr words)) =
      by_text text (message_line words.2.0) [] words.2.2
      (message_says words.2.0 (plain (cuts_visible (sent_reading config link) (limit_with session.extended) octets words.2.0 are words.2.1)))

  line_says : (shown : ShownRecord) (text : List ℕ) → HasOctets shown → IsLineOf config session link shown text → Says text []
  line_says (Received second octets) text has is = by_text text [] [] is says_nothing
  line_says (Sent second octets) text has is = octets_say octets text has is
  line_says (Changed second old new) text has is = by_text text [] [] is says_nothing

  sent_says : (next : Option (ℕ × ShownRecord)) (text : List ℕ) → HasOctetsIfAny next → IsSentLine config session link next text → Says text []
  sent_says None text has is = by_text text [] [] is says_nothing
  sent_says (Some next) text has is = line_says next.1 text has is

-- ---- what the records tell

not_whole_says : (why : Option NotWhole) → Says (not_whole_line why) []
not_whole_says None = says_nothing
not_whole_says (Some (Faulty errors)) = says_nothing
not_whole_says (Some BelowHeader) = says_beside (unfit_line BelowHeader) (behind (word (codes "  ") refl) (ends {text = codes "not a whole message: " ++ unfit_text BelowHeader} (word _ refl))) refl
not_whole_says (Some OtherCount) = says_beside (unfit_line OtherCount) (behind (word (codes "  ") refl) (ends {text = codes "not a whole message: " ++ unfit_text OtherCount} (word _ refl))) refl

another_says : (another : Option ℕ) → Says (another_line another) []
unfolding another_as_line
another_says None = says_nothing
another_says (Some n) =
    says_beside (another_as_line n)
    (behind (word (codes "  the lines below are for a router configured for a peer in another AS than ") refl)
    (ends (both (number n) (if_plain (n == 23456) (codes " (AS_TRANS)") [] (word (codes " (AS_TRANS)") refl) nothing)))) refl

since : (first : ℕ) (place : Option Place) → IsPlain (since_text first place)
since first None = nothing
since first (Some place) = both (word (codes " since ") refl) (at first place)

state_says : (first : ℕ) (state : Fsm) (place : Option Place) → Says (state_line first state place) []
unfolding state_line
state_says first state place =
    says_beside (state_line first state place)
    (behind (word (codes "  state: ") refl) (behind (plain (state_visible (number_of state))) (ends (since first place)))) refl

received_no_end : (first : ℕ) (place : Place) (name : MessageName) → IsPlain (received_text first place name)
unfolding received_text
received_no_end first place name =
    both (word (codes "last received: ") refl) (both (at first place) (both (word (codes ", ") refl) (plain (names_visible name))))

last_says : (style : Style) (place : Place) (asked : Asked) → Says (last_received_line style place asked) []
unfolding last_received_line received_text
last_says style place asked =
    says_beside (last_received_line style place asked)
    (behind (word (codes "  ") refl) (behind (received_no_end style.first place asked.name)
    (ends (plain (asks_visible style.peer_as_is_free asked.state asked.message))))) refl

update_says : (style : Style) (place : Place) (name : MessageName) (asking : Asking) → All parts.HasOctets asking.parts → Says (update_line style place name asking) []
unfolding update_line received_text
update_says style place name asking has =
    says_beside (update_line style place name asking)
    (behind (word (codes "  ") refl) (behind (received_no_end style.first place name)
    (ends (plain (update_asks_visible asking.applied asking.refused asking.parts has))))) refl

abbrev HasPartsIfAny : Option Asking → Type 0
HasPartsIfAny None = Unit {0}
HasPartsIfAny (Some asking) = All parts.HasOctets asking.parts

received_says : (style : Style) (received : Option LastReceived) (asking : Option Asking) → HasPartsIfAny asking → Says (received_line style received asking) []
received_says style None asking has = says_nothing
received_says style (Some received) None has = last_says style received.place received.asked
received_says style (Some received) (Some asking) has = update_says style received.place received.asked.name asking has

-- ---- what may come

-- words in front of an item
pub record AreWords (words : List ℕ) : Type 0 where
  pub no_end : IsPlain words
  pub kind : (rest : List ℕ) → kind_of (codes "  " ++ (words ++ rest)) ≡ kinds.Possible

or_words : AreWords (codes "or: ")
or_words = record { no_end = word _ refl; kind = λ rest. refl }

other_words : AreWords (codes "or: in another order, ")
other_words = record { no_end = word _ refl; kind = λ rest. refl }

first_words : (message is_next : Bool) → AreWords (first_word message is_next)
first_words true true = record { no_end = word _ refl; kind = λ rest. refl }
first_words true false = record { no_end = word _ refl; kind = λ rest. refl }
first_words false true = record { no_end = word _ refl; kind = λ rest. refl }
first_words false false = record { no_end = word _ refl; kind = λ rest. refl }

item_says : (first : ℕ) (but : Item → List ℕ) (words : List ℕ) (its : Item) → AreWords words → IsPlain (but its)
    → Says (item_line first but words its) (item_line first but words its)
unfolding item_line
item_says first but words its are none =
    says_possible (item_line first but words its)
    (behind (word (codes "  ") refl) (behind are.no_end (behind (item first its) (ends none)))) (are.kind _)

items_say : (first : ℕ) (but : Item → List ℕ) → ((its : Item) → IsPlain (but its)) → (words : List ℕ) → AreWords words → (items : List Item)
    → Says (item_lines first but words items) (item_lines first but words items)
items_say first but none words are [] = says_nothing
items_say first but none words are (its ∷ items) =
    says_both (item_line first but words its) (item_lines first but (codes "or: ") items) (item_line first but words its) (item_lines first but (codes "or: ") items)
    (item_says first but words its are (none its)) (items_say first but none (codes "or: ") or_words items)

shown_say : (style : Style) (is_next : Bool) (but : Item → List ℕ) (p : Possible) → ((its : Item) → IsPlain (but its))
    → Says (shown_lines style is_next but p) (shown_lines style is_next but p)
shown_say style is_next but p none =
    items_say style.first but none (first_word p.message is_next) (first_words p.message is_next)
    (those_possible (all_items (possible_shown style.is_recording p)))

other_items_say : (first : ℕ) (items : List Item) → Says (other_item_lines first items) (other_item_lines first items)
other_items_say first [] = says_nothing
other_items_say first (its ∷ items) =
    let one = item_line first (λ i. []) (codes "or: in another order, ") its in
    says_both one (other_item_lines first items) one (other_item_lines first items)
    (item_says first (λ i. []) (codes "or: in another order, ") its other_words nothing) (other_items_say first items)

others_say : (first : ℕ) (p : Possible) (others : OtherOrders) → Says (other_lines first p others) (other_lines first p others)
others_say first p Unasked = says_nothing
others_say first p Unknown = says_possible unknown_line (ends (word (codes "  or: perhaps more in another order (too many to try, or out of memory)") refl)) refl
others_say first p (Known others) = other_items_say first (those_possible (all_items (besides p others)))

-- what the next record lacks
lacked_no_end : (before own : List ℕ) → IsVisible before → IsVisible own → (faults : Option OwnFaults) (lacked : Lacked) → HasOctetsIn lacked
    → IsPlain (lacked_text before own faults lacked)
lacked_no_end before own first second faults Nothing has = nothing
lacked_no_end before own first second None (Open parts) has = plain (shown_visible before _ first (open_parts_visible parts))
lacked_no_end before own first second (Some told) (Open parts) has = plain (own_faults_visible own second told)
lacked_no_end before own first second faults (Update parts) has = plain (shown_visible before _ first (update_parts_visible true parts has))
lacked_no_end before own first second faults (Notification code parts) has = plain (shown_visible before _ first (notification_parts_visible code parts has))

but_no_end : (faults : Option OwnFaults) (lacked : Lacked) → HasOctetsIn lacked → IsPlain (but_text faults lacked)
but_no_end faults lacked has =
    lacked_no_end (codes "; this one: ") (codes "; none may have ") (visible.word (codes "; this one: ") refl) (visible.word (codes "; none may have ") refl) faults lacked has

following_say : (style : Style) (p : Possible) (lacked : Lacked) → HasOctetsIn lacked → Says (following_lines style p lacked) (following_lines style p lacked)
following_say style p Nothing has = shown_say style false (λ its. []) p (λ its. nothing)
following_say style p (Open parts) has =
    shown_say style false _ p (λ its. if_plain (is_open its) _ [] (but_no_end style.own_faults (Open parts) has) nothing)
following_say style p (Update parts) has =
    shown_say style false _ p (λ its. if_plain (is_update its) _ [] (but_no_end style.own_faults (Update parts) has) nothing)
following_say style p (Notification code parts) has =
    shown_say style false _ p (λ its. if_plain (is_notification code its) _ [] (but_no_end style.own_faults (Notification code parts) has) nothing)

may_come_says : (style : Style) (next : Option (ℕ × ShownRecord)) (p : Possible) (lacked : Lacked) → HasOctetsIn lacked
    → Says (may_come style next p lacked) (may_come style next p lacked)
may_come_says style None p lacked has = shown_say style true (λ its. []) p (λ its. nothing)
may_come_says style (Some next) p lacked has =
    says_both (following_lines style p lacked) (other_lines style.first p style.other_orders) (following_lines style p lacked) (other_lines style.first p style.other_orders)
    (following_say style p lacked has) (others_say style.first p style.other_orders)

-- ---- what was sent already, and notes

already_says : (first : ℕ) (already : Option SentAlready) → Says (already_line first already) []
unfolding sent_line
already_says first None = says_nothing
already_says first (Some sent) =
    says_beside (sent_line first sent)
    (behind (word (codes "  note: it had sent NOTIFICATION ") refl) (behind (plain (full_code_visible sent.code sent.subcode))
    (behind (word (codes " already, at ") refl) (ends (at first sent.place))))) refl

one_note : (note : Note) → Says (line (note_said note)) []
one_note note =
    says_beside (line (note_said note)) (behind (word (codes "  ") refl) (ends (both (word (codes "note: ") refl) (plain (notes_visible note))))) refl

note_if : (is_so : Bool) (note : Note) → Says (note_line is_so (note_said note)) []
note_if true note = one_note note
note_if false note = says_nothing

without_says : (offer : Option RouteOffer) → Says (without_line offer) []
without_says None = says_nothing
without_says (Some offer) = one_note (said.Without offer)

notes_say : (is_recording : Bool) (notes : Notes) → Says (note_lines is_recording notes) []
unfolding note_lines
notes_say is_recording notes =
    none_both (note_if notes.may_be_refused said.MayBeRefused) (none_both (note_if notes.begins_elsewhere said.BeginsElsewhere)
    (none_both (note_if notes.open_came_first said.OpenCameFirst) (none_both (without_says notes.without)
    (none_both (note_if notes.extended_parameters said.ExtendedParameters) (none_both (note_if notes.keepalive_without_hold said.KeepaliveWithoutHold)
    (none_both (note_if notes.may_have_ended said.MayHaveEnded) (note_if (notes.may_be_missing && not is_recording) said.MayBeMissing)))))))

-- ---- all of it

-- before what may come, and behind it
around : (before possible after : List ℕ) → Says before [] → Says possible possible → Says after [] → Says (before ++ (possible ++ after)) possible
around before possible after first its last =
    subst (λ (p : List ℕ). Says (before ++ (possible ++ after)) p) (append-nil possible)
    (says_both before (possible ++ after) [] (possible ++ []) first (says_both possible after possible [] its last))

in_front : {xs ys p : List ℕ} → Says xs [] → Says ys p → Says (xs ++ ys) p
in_front {xs} {ys} {p} first second = says_both xs ys [] p first second

why_says : (style : Style) (another : Option ℕ) (state : Fsm) (next : Option (ℕ × ShownRecord)) (possible : Possible) (why : Why) (asking : Option Asking) (lacked : Lacked)
    → HasPartsIfAny asking → HasOctetsIn lacked → Says (why_text style another state next possible why asking lacked) (may_come style next possible lacked)
why_says style another state next possible why asking lacked has are =
    in_front (not_whole_says why.unwhole) (in_front (another_says another) (in_front (state_says style.first state why.since)
    (around (received_line style why.received asking) (may_come style next possible lacked) _
    (received_says style why.received asking has) (may_come_says style next possible lacked are)
    (none_both (already_says style.first why.already) (notes_say style.is_recording why.notes)))))

parts_are : (config : Config) (records : List ShownRecord) (asking : Option Asking) → All HasOctets records
    → IsAskedBy config (told records) (sending_link config records) (last_message records) asking → HasPartsIfAny asking
parts_are config records None all is = tt
parts_are config records (Some asking) all is =
    of_update is.0 is.0.received (last_message records) asking.parts (last_are [] records (All-nil _) all) is.2.parts

lacks_are : (config : Config) (link : Option Link) (possible : Possible) (next : Option (ℕ × ShownRecord)) (lacked : Lacked) → HasOctetsIfAny next
    → AreLacksOf config link possible next lacked → HasOctetsIn lacked
lacks_are config link possible None lacked has is = subst HasOctetsIn (sym is) tt
lacks_are config link possible (Some next) lacked has is = record_has config link possible next.1 lacked has is

pub whys_say : WhysSayWhatMayCome
whys_say config style session another places records next text all has tells =
    let why = tells.why in
    by_text text _ _ why.whole
    (in_front (sent_says config session (sending_link config records) next why.sent has why.is_sent)
    (why_says style another (told records).state next tells.possible why.why why.asking why.lacked
    (parts_are config records why.asking all why.is_asked)
    (lacks_are config (sending_link config records) tells.possible next why.lacked has why.are_lacks)))
