-- Lists of sessions with one text in JSON have one text.
use Rattle.std.proofs.Common.{◌≡◌, ◌∙◌, ◌++◌, ◌+◌, ◌<◌, ◌≤◌, ◌^◌, ℕ, List, [], ◌∷◌, All, Option, None, Some, append_assoc, append-nil, codes, length, refl, sym, ap, ap₂, arith, subst}
use Rattle.std.specs.List.{AllByRecursion, flat_map}
use Rattle.std.specs.Fmt.{decimal}
use Rattle.std.specs.Prelude.{⊤, option_map}
use Rattle.std.proofs.lemmas.List.{length-append}
use Rattle.std.proofs.lemmas.List.Elements.{All-cons, All-filter, All-head, All-nil, All-tail}
use Rattle.std.proofs.lemmas.List.Sums.{count_by-le-length, length-filter}
use Rattle.json.specs.Json.{Json}
use Rattle.mrt.specs.Fault.{fault_name, fault_number}
use Rattle.mrt.specs.declared.fault.CaptureFault.{CaptureFault}
use Rattle.mrt.specs.declared.fault.FaultKind.{FaultKind}
use Rattle.mrt_sessions.specs.File.{HasRecords, IsPart, Located, Named, Other, Part, joined, kind_by, named_from}
use Rattle.mrt_sessions.specs.Sessions.{is_between, records_between, sessions_in}
use Rattle.mrt_sessions.specs.declared.addresses.Addresses.{Addresses}
use Rattle.mrt_sessions.specs.declared.holding.Ending.{Ending}
use Rattle.bgp_wire.specs.Octets.{AreOctets}
use Rattle.bgp_json.specs.Object.{json_line}
use Rattle.bgp_json.specs.Others.{capture_json}
use Rattle.bgp_list.specs.Capture.{ListsIn}
use Rattle.bgp_list.specs.Forms.{fault_in, session_in, stopped_in}
use Rattle.bgp_list.specs.SessionJson.{session_json}
use Rattle.bgp_list.specs.Sessions.{refused_text, session_line}
use Rattle.bgp_list.specs.declared.form.ListForm.{ListForm}
use Rattle.bgp_list.specs.declared.form.ListForm.TheVariants.{Text, Json as AsJson}
use Rattle.bgp_json_laws.proofs.Captures.{refusal_printed}
use Rattle.bgp_json_laws.proofs.Lookups.{text_of, value_at}
use Rattle.bgp_json_laws.proofs.Printing.{IsPrinted}
use Rattle.bgp_json_laws.proofs.Texts.{IsOctet}
use Rattle.bgp_verdict_laws.specs.Numbers.{Fits}
use Rattle.bgp_list_laws.specs.Laws.{AreRecords, CapturesAreDetermined}
use Rattle.bgp_list_laws.proofs.Causes.{capture_cause_back, capture_cause_in}
use Rattle.bgp_list_laws.proofs.Printed.{not_refused, same_items}
use Rattle.bgp_list_laws.proofs.Sessions.{IsOne, same_session, session_printed}

-- ---- the records of a file

front : (xs ys : List ℕ) → AreOctets (xs ++ ys) → AreOctets xs
front [] ys all = All-nil IsOctet
front (x ∷ xs) ys all = All-cons IsOctet x xs (All-head IsOctet x (xs ++ ys) all) (front xs ys (All-tail IsOctet x (xs ++ ys) all))

back : (xs ys : List ℕ) → AreOctets (xs ++ ys) → AreOctets ys
back [] ys all = all
back (x ∷ xs) ys all = back xs ys (All-tail IsOctet x (xs ++ ys) all)

records_are : (at : ℕ) (parts : List Part) → AllByRecursion IsPart parts → AreOctets (joined parts) → All IsOne (named_from at parts)
records_are at [] each are = All-nil IsOne
records_are at (Other octets ∷ parts) each are = records_are (at + length octets) parts each.1 (back octets (joined parts) are)
records_are at (Named octets ∷ parts) each are =
    All-cons IsOne record { offset = at; octets = octets } (named_from (at + length octets) parts) (front octets (joined parts) are, each.0)
    (records_are (at + length octets) parts each.1 (back octets (joined parts) are))

few_records : (at : ℕ) (parts : List Part) → AllByRecursion IsPart parts → length (named_from at parts) ≤ length (joined parts)
few_records at [] each = omega arith
few_records at (Other octets ∷ parts) each =
    let rest = few_records (at + length octets) parts each.1 in
    let long = length-append octets (joined parts) in
    omega (arith, rest, long)
few_records at (Named octets ∷ parts) each =
    let rest = few_records (at + length octets) parts each.1 in
    let long = length-append octets (joined parts) in
    let header = each.0.whole.header in
    omega (arith, rest, long, header)

-- what a file has is octets, and they are not too many to be counted
pub record IsFile (octets : List ℕ) : Type 0 where
  pub are : AreOctets octets
  pub count : length octets < 2 ^ 64

module _ (octets : List ℕ) (named : List Located) (offset : ℕ) (refusal : Option FaultKind) (is : IsFile octets) (has : HasRecords octets named offset refusal) where
  joined_octets : AreOctets (joined has.parts)
  joined_octets = front (joined has.parts) has.rest (subst (λ (o : List ℕ). AreOctets o) has.text.whole is.are)

  within : length (joined has.parts) ≤ length octets
  within =
      let whole = ap (λ (o : List ℕ). length o) has.text.whole in
      let long = length-append (joined has.parts) has.rest in
      omega (arith, whole, long)

  pub each_record : All IsOne named
  each_record = subst (λ (n : List Located). All IsOne n) (sym has.are) (records_are 0 has.parts has.text.each joined_octets)

  pub few_named : length named < 2 ^ 64
  few_named =
      let same = ap (λ (n : List Located). length n) has.are in
      let few = few_records 0 has.parts has.text.each in
      let most = is.count in
      let in_file = within in
      omega (arith, same, few, most, in_file)

  pub offset_fits : Fits offset
  offset_fits =
      let place = has.place in
      let most = is.count in
      let in_file = within in
      omega (arith, place, most, in_file)

between_are : (addresses : Addresses) (named : List Located) → All IsOne named → length named < 2 ^ 64 → AreRecords (records_between addresses named)
between_are addresses named all few = record {
  each = All-filter (is_between addresses) IsOne named all;
  count =
      let passed = length-filter (is_between addresses) named in
      let most = count_by-le-length (is_between addresses) named in
      omega (arith, passed, most, few);
}

-- ---- why the file isn't read to its end

abbrev FitsFault : Option CaptureFault → Type 0
FitsFault None = ⊤
FitsFault (Some fault) = Fits fault.offset

by_kind : (kind : Option FaultKind) (offset : ℕ) → Fits offset → FitsFault (option_map (λ (k : FaultKind). record { kind = k; offset = offset }) kind)
by_kind None offset fits = tt
by_kind (Some kind) offset fits = fits

abbrev fault_in_object : Json → List ℕ
fault_in_object j =
    codes "refused at octet " ++ (text_of (value_at (codes "at") j) ++ (codes ": " ++ (text_of (value_at (codes "number") j) ++ (codes " "
    ++ (text_of (value_at (codes "name") j) ++ (codes ", " ++ (capture_cause_in (text_of (value_at (codes "number") j)) ++ codes "\n")))))))

fault_reads : (fault : CaptureFault) → fault_in_object (capture_json fault) ≡ refused_text fault
unfolding refused_text
fault_reads fault =
    ap (λ (c : List ℕ). codes "refused at octet " ++ (decimal fault.offset ++ (codes ": " ++ (decimal (fault_number fault.kind) ++ (codes " "
    ++ (fault_name fault.kind ++ (codes ", " ++ (c ++ codes "\n")))))))) (capture_cause_back fault.kind)

same_fault : (fault other : CaptureFault) → capture_json fault ≡ capture_json other → refused_text fault ≡ refused_text other
same_fault fault other e = sym (fault_reads fault) ∙ ap fault_in_object e ∙ fault_reads other

-- ---- what is listed of a capture, item by item

data Item : Type 0 where
  OfSession : Addresses → List Located → Item
  OfFault : CaptureFault → Item

abbrev IsItem : Item → Type 0
IsItem (OfSession addresses named) = AreRecords named
IsItem (OfFault fault) = Fits fault.offset

abbrev item_json : Item → Json
item_json (OfSession addresses named) = session_json addresses named
item_json (OfFault fault) = capture_json fault

abbrev item_text : Item → List ℕ
item_text (OfSession addresses named) = session_line addresses named
item_text (OfFault fault) = refused_text fault

item_printed : (item : Item) → IsItem item → IsPrinted (item_json item)
item_printed (OfSession addresses named) is = session_printed addresses named is
item_printed (OfFault fault) is = refusal_printed fault is

session_isnt : (addresses : Addresses) (named : List Located) (fault : CaptureFault) → session_json addresses named ≡ capture_json fault → ⊥
session_isnt addresses named fault e = not_refused (codes "session") _ (capture_json fault) refl refl refl e

same_item : (item other : Item) → IsItem item → IsItem other → item_json item ≡ item_json other → item_text item ≡ item_text other
same_item (OfSession addresses named) (OfSession others also) is too e = same_session addresses others named also is too e
same_item (OfSession addresses named) (OfFault fault) is too e = absurd (session_isnt addresses named fault e)
same_item (OfFault fault) (OfSession addresses named) is too e = absurd (session_isnt addresses named fault (sym e))
same_item (OfFault fault) (OfFault other) is too e = same_fault fault other e

abbrev item_in : ListForm → Item → List ℕ
item_in Text item = item_text item
item_in AsJson item = json_line (item_json item)

session_item : (form : ListForm) (addresses : Addresses) (named : List Located) → session_in form addresses named ≡ item_in form (OfSession addresses named)
session_item Text addresses named = refl
session_item AsJson addresses named = refl

fault_item : (form : ListForm) (fault : CaptureFault) → stopped_in form fault ≡ item_in form (OfFault fault)
fault_item Text fault = refl
fault_item AsJson fault = refl

abbrev fault_items : Option CaptureFault → List Item
fault_items None = []
fault_items (Some fault) = OfFault fault ∷ []

-- the sessions between these addresses
abbrev items_from : List Located → List Addresses → Option CaptureFault → List Item
items_from named [] fault = fault_items fault
items_from named (addresses ∷ list) fault = OfSession addresses (records_between addresses named) ∷ items_from named list fault

fault_is : (form : ListForm) (fault : Option CaptureFault) → fault_in form fault ≡ flat_map (item_in form) (fault_items fault)
fault_is form None = refl
fault_is form (Some fault) = fault_item form fault ∙ sym (append-nil (item_in form (OfFault fault)))

whole_from : (form : ListForm) (named : List Located) (list : List Addresses) (fault : Option CaptureFault)
    → flat_map (λ addresses. session_in form addresses (records_between addresses named)) list ++ fault_in form fault ≡ flat_map (item_in form) (items_from named list fault)
whole_from form named [] fault = fault_is form fault
whole_from form named (addresses ∷ list) fault =
    append_assoc (session_in form addresses (records_between addresses named)) (flat_map (λ a. session_in form a (records_between a named)) list) (fault_in form fault)
    ∙ ap₂ ◌++◌ (session_item form addresses (records_between addresses named)) (whole_from form named list fault)

all_from : (named : List Located) (list : List Addresses) (fault : Option CaptureFault) → All IsOne named → length named < 2 ^ 64 → FitsFault fault → All IsItem (items_from named list fault)
all_from named [] None all few fits = All-nil IsItem
all_from named [] (Some fault) all few fits = All-cons IsItem (OfFault fault) [] fits (All-nil IsItem)
all_from named (addresses ∷ list) fault all few fits =
    All-cons IsItem (OfSession addresses (records_between addresses named)) (items_from named list fault) (between_are addresses named all few)
    (all_from named list fault all few fits)

all_listed : (octets text : List ℕ) (ending : Ending) (fault : Option CaptureFault) → IsFile octets → (listed : ListsIn AsJson octets ending text fault)
    → All IsItem (items_from listed.named (sessions_in listed.named) fault)
all_listed octets text ending fault is listed =
    let named = listed.named in
    let offset = listed.offset in
    let refusal = listed.refusal in
    all_from named (sessions_in named) fault (each_record octets named offset refusal is listed.has) (few_named octets named offset refusal is listed.has)
    (subst FitsFault (sym listed.is_fault) (by_kind (kind_by ending refusal) offset (offset_fits octets named offset refusal is listed.has)))

pub same_captures : CapturesAreDetermined
same_captures octets others text texts ending also fault other are few too fewer listed second e =
    let items = items_from listed.named (sessions_in listed.named) fault in
    let more = items_from second.named (sessions_in second.named) other in
    let first_text = ap (λ (t : List ℕ). t ++ fault_in AsJson fault) listed.is_text ∙ whole_from AsJson listed.named (sessions_in listed.named) fault in
    let second_text = ap (λ (t : List ℕ). t ++ fault_in AsJson other) second.is_text ∙ whole_from AsJson second.named (sessions_in second.named) other in
    whole_from Text listed.named (sessions_in listed.named) fault
    ∙ same_items IsItem item_json item_text item_printed same_item items more (all_listed octets text ending fault record { are = are; count = few } listed)
    (all_listed others texts also other record { are = too; count = fewer } second) (sym first_text ∙ e ∙ second_text)
    ∙ sym (whole_from Text second.named (sessions_in second.named) other)
