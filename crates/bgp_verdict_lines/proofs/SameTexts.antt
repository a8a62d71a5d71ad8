-- The texts of lines are those of bgp_why and bgp_tool.
use Rattle.std.proofs.Common.{◌≡◌, ◌∙◌, ◌++◌, ◌/◌, ◌==◌, ◌&&◌, ◌+◌, ℕ, Bool, true, false, not, List, [], ◌∷◌, Option, None, Some, ap, append-nil, append_assoc, codes, if◌then◌else◌, map, refl, sym}
use Rattle.std.proofs.lemmas.Grind.{flat_map-append}
use Rattle.std.specs.Bool.{then_some}
use Rattle.std.specs.List.{flat_map}
use Rattle.std.specs.Fmt.{decimal}
use Rattle.bgp_prefix.specs.Text.{address_text}
use Rattle.bgp_prefix.specs.declared.address.Address.{Address}
use Rattle.bgp_machine.specs.Run.{End}
use Rattle.bgp_judge.specs.Ends.{end_value}
use Rattle.bgp_judge.specs.Verdict.{verdict_value}
use Rattle.bgp_judge.specs.declared.verdict.Verdict.{Verdict}
use Rattle.bgp_judge.specs.declared.verdict.Verdict.TheVariants as verdicts
use Rattle.bgp_machine.specs.State.{number_of}
use Rattle.bgp_machine.specs.declared.fsm.Fsm.{Fsm}
use Rattle.bgp_names.specs.States.{state_name}
use Rattle.bgp_open.specs.declared.route_offer.RouteOffer.{RouteOffer}
use Rattle.bgp_path.specs.Path.{PathValue}
use Rattle.bgp_update.specs.declared.destination.Destination.{Destination}
use Rattle.bgp_clock.specs.When.{clock_text, when_text}
use Rattle.bgp_json_verdicts.specs.VerdictText.{end_text, families_text, no_line, route_line, state_text, verdict_text}
use Rattle.bgp_why.specs.WhyPartsCodes.{full_code_text}
use Rattle.bgp_why.specs.Items.{all_items, first_word, those_possible}
use Rattle.bgp_why.specs.NoteLines.{note_line, note_lines, note_said, shown_notes, without_line, without_note}
use Rattle.bgp_why.specs.Place.{place_at, place_text, record_text}
use Rattle.bgp_why.specs.OtherOrders.{besides}
use Rattle.bgp_why.specs.Possible.{item_line, item_lines, other_item_lines, other_lines, possible_shown, shown_lines}
use Rattle.bgp_why.specs.declared.other_orders.OtherOrders.{OtherOrders}
use Rattle.bgp_why.specs.declared.other_orders.OtherOrders.TheVariants as others
use Rattle.bgp_why.specs.State.{sent_line, since_text as why_since, state_line}
use Rattle.bgp_why.specs.Deed.{record_line}
use Rattle.bgp_why.specs.Asked.{received_text}
use Rattle.bgp_why.specs.Message.{name_text}
use Rattle.bgp_why.specs.declared.items.Item.{Item}
use Rattle.bgp_why.specs.declared.message.MessageName.{MessageName}
use Rattle.bgp_why.specs.declared.note_lines.Note as why
use Rattle.bgp_why.specs.declared.note_lines.Note.TheVariants as said
use Rattle.bgp_why.specs.declared.notes.Notes.{Notes}
use Rattle.bgp_why.specs.declared.place.Place.{Place}
use Rattle.bgp_why.specs.declared.state.SentAlready.{SentAlready}
use Rattle.bgp_why.specs.declared.style.Style.{Style}
use Rattle.bgp_reason.specs.declared.kinds.Possible as reason
use Rattle.bgp_json_verdicts.specs.At.{at_if, at_of, at_text}
use Rattle.bgp_json_verdicts.specs.Lines.{LastReceived, Reasons, SentAlready as Already, TheRecord, TheState, end_lines, item_values, item_word, line_text, note_values, possible_values, reason_text, route_value, since_text, other_item_values, other_values, verdict_lines}

-- ---- places

flipped : (b : Bool) (x y : List ℕ) → (if not b then x else y) ≡ (if b then y else x)
flipped true x y = refl
flipped false x y = refl

pub at_same : (first : ℕ) (place : Place) → at_text (at_of first place) ≡ place_at first place
unfolding place_at
at_same first place =
    ap (λ (t : List ℕ). place_text place ++ (codes ", " ++ t))
    (flipped (first / 86400 == place.second / 86400) (when_text place.second place.micro) (clock_text place.second place.micro))

since_same : (first : ℕ) (since : Option Place) → since_text (at_if first since) ≡ why_since first since
since_same first None = refl
since_same first (Some place) = ap (λ (t : List ℕ). codes " since " ++ t) (at_same first place)

-- ---- a reason

pub state_same : (first : ℕ) (state : Fsm) (since : Option Place) → line_text (Reasons (TheState state (at_if first since))) ≡ state_line first state since
unfolding line_text reason_text state_line
state_same first state since =
    ap (λ (t : List ℕ). codes "  state: " ++ (state_name (number_of state) ++ (t ++ codes "\n"))) (since_same first since)

pub received_same : (first : ℕ) (place : Place) (name : MessageName) (asked : List ℕ)
    → line_text (Reasons (LastReceived (at_of first place) (name_text name) asked)) ≡ codes "  " ++ (received_text first place name ++ (asked ++ codes "\n"))
unfolding line_text reason_text received_text
received_same first place name asked =
    ap (λ (t : List ℕ). codes "  last received: " ++ (t ++ (codes ", " ++ (name_text name ++ (asked ++ codes "\n"))))) (at_same first place)
    ∙ ap (λ (t : List ℕ). codes "  last received: " ++ t) (sym (append_assoc (place_at first place) (codes ", " ++ name_text name) (asked ++ codes "\n")))

pub already_same : (first : ℕ) (sent : SentAlready) → line_text (Reasons (Already sent.code sent.subcode (at_of first sent.place))) ≡ sent_line first sent
unfolding line_text reason_text sent_line
already_same first sent =
    ap (λ (t : List ℕ). codes "  note: it had sent NOTIFICATION " ++ (full_code_text sent.code sent.subcode ++ (codes " already, at " ++ (t ++ codes "\n")))) (at_same first sent.place)

pub record_same : (place : Place) (local : Address) (deed cause : List ℕ) → line_text (Reasons (TheRecord place local (deed ++ cause))) ≡ record_line place local deed cause
unfolding line_text reason_text record_line
record_same place local deed cause =
    ap (λ (t : List ℕ). codes "  " ++ (record_text place ++ (address_text local ++ (codes " " ++ t)))) (append_assoc deed cause (codes "\n"))

-- ---- items

items_same : (is_owed is_next is_first : Bool) (first : ℕ) (but : Item → List ℕ) (items : List Item)
    → flat_map line_text (item_values is_owed is_next is_first first but items) ≡ item_lines first but (item_word is_owed is_next is_first) items
unfolding line_text reason_text item_line
items_same is_owed is_next is_first first but [] = refl
items_same is_owed is_next is_first first but (item ∷ items) =
    ap (λ (t : List ℕ). item_line first but (item_word is_owed is_next is_first) item ++ t) (items_same is_owed is_next false first but items)

twice : (b : Bool) → not (not b) ≡ b
twice true = refl
twice false = refl

pub possible_same : (style : Style) (is_next : Bool) (but : Item → List ℕ) (p : reason.Possible) → flat_map line_text (possible_values style is_next but p) ≡ shown_lines style is_next but p
possible_same style is_next but p =
    let items = those_possible (all_items (possible_shown style.is_recording p)) in
    items_same (not p.message) is_next true style.first but items
    ∙ ap (λ (b : Bool). item_lines style.first but (first_word b is_next) items) (twice p.message)

-- ---- other orders

other_items_same : (first : ℕ) (items : List Item) → flat_map line_text (other_item_values first items) ≡ other_item_lines first items
unfolding line_text reason_text item_line
other_items_same first [] = refl
other_items_same first (item ∷ items) =
    ap (λ (t : List ℕ). item_line first (λ i. []) (codes "or: in another order, ") item ++ t) (other_items_same first items)

pub others_same : (first : ℕ) (p : reason.Possible) (orders : OtherOrders) → flat_map line_text (other_values first p orders) ≡ other_lines first p orders
unfolding line_text reason_text
others_same first p others.Unasked = refl
others_same first p others.Unknown = refl
others_same first p (others.Known those) = other_items_same first (those_possible (all_items (besides p those)))

-- ---- notes

noted : (is_so : Bool) (note : why.Note) (others : List (Option why.Note))
    → flat_map line_text (note_values (then_some is_so note ∷ others)) ≡ note_line is_so (note_said note) ++ flat_map line_text (note_values others)
unfolding line_text reason_text
noted true note others = refl
noted false note others = refl

without_noted : (without : Option RouteOffer) (others : List (Option why.Note))
    → flat_map line_text (note_values (without_note without ∷ others)) ≡ without_line without ++ flat_map line_text (note_values others)
unfolding line_text reason_text
without_noted None others = refl
without_noted (Some offer) others = refl

pub notes_same : (is_recording : Bool) (notes : Notes) → flat_map line_text (note_values (shown_notes is_recording notes)) ≡ note_lines is_recording notes
unfolding note_lines
notes_same is_recording notes =
    let missing = notes.may_be_missing && not is_recording in
    let eighth = noted missing said.MayBeMissing [] ∙ append-nil (note_line missing (note_said said.MayBeMissing)) in
    let seventh = noted notes.may_have_ended said.MayHaveEnded _ ∙ ap (λ (t : List ℕ). note_line notes.may_have_ended (note_said said.MayHaveEnded) ++ t) eighth in
    let sixth = noted notes.keepalive_without_hold said.KeepaliveWithoutHold _ ∙ ap (λ (t : List ℕ). note_line notes.keepalive_without_hold (note_said said.KeepaliveWithoutHold) ++ t) seventh in
    let fifth = noted notes.extended_parameters said.ExtendedParameters _ ∙ ap (λ (t : List ℕ). note_line notes.extended_parameters (note_said said.ExtendedParameters) ++ t) sixth in
    let fourth = without_noted notes.without _ ∙ ap (λ (t : List ℕ). without_line notes.without ++ t) fifth in
    let third = noted notes.open_came_first said.OpenCameFirst _ ∙ ap (λ (t : List ℕ). note_line notes.open_came_first (note_said said.OpenCameFirst) ++ t) fourth in
    let second = noted notes.begins_elsewhere said.BeginsElsewhere _ ∙ ap (λ (t : List ℕ). note_line notes.begins_elsewhere (note_said said.BeginsElsewhere) ++ t) third in
    noted notes.may_be_refused said.MayBeRefused _ ∙ ap (λ (t : List ℕ). note_line notes.may_be_refused (note_said said.MayBeRefused) ++ t) second

-- ---- ends

routes_same : (routes : List (Destination × PathValue)) → flat_map line_text (map route_value routes) ≡ flat_map route_line routes
unfolding line_text
routes_same [] = refl
routes_same (route ∷ routes) = ap (λ (t : List ℕ). route_line route ++ t) (routes_same routes)

end_same : (e : End) → flat_map line_text (end_lines e) ≡ end_text e
unfolding line_text end_text
end_same e =
    let disabled = families_text e.routes.disabled in
    let rest = flat_map line_text (map route_value e.routes.entries) in
    ap (λ (t : List ℕ). codes "end " ++ t)
    (append_assoc (state_text e.fsm) (codes " disabled " ++ (disabled ++ codes "\n")) rest
    ∙ ap (λ (t : List ℕ). state_text e.fsm ++ (codes " disabled " ++ t))
    (append_assoc disabled (codes "\n") rest
    ∙ ap (λ (t : List ℕ). disabled ++ (codes "\n" ++ t)) (routes_same e.routes.entries)))

pub ends_same : (ends : List End) → flat_map line_text (flat_map end_lines ends) ≡ flat_map end_text ends
ends_same [] = refl
ends_same (e ∷ ends) =
    flat_map-append line_text (end_lines e) (flat_map end_lines ends)
    ∙ ap (λ (t : List ℕ). t ++ flat_map line_text (flat_map end_lines ends)) (end_same e)
    ∙ ap (λ (t : List ℕ). end_text e ++ t) (ends_same ends)

-- ---- verdicts

pub verdict_same : {X : Type 0} (verdict : Verdict X) → flat_map line_text (verdict_lines (verdict_value verdict)) ≡ verdict_text verdict
unfolding line_text no_line
verdict_same (verdicts.Yes ends) = ap (λ (t : List ℕ). codes "yes\n" ++ t) (ends_same (map end_value ends.items))
verdict_same (verdicts.No count) = append-nil (codes "no at record " ++ (decimal (count + 1) ++ codes "\n"))
verdict_same verdicts.Unfinished = refl
