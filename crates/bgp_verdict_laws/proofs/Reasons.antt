-- Lines of a reason are read from their objects.
use Rattle.std.proofs.Common.{◌≡◌, ◌∙◌, ◌++◌, ◌<◌, ◌^◌, ℕ, Bool, true, false, List, [], ◌∷◌, Option, None, Some, IsUtf8, codes, drop, length, nat_lt, refl, sym, ap, ap₂, arith, subst, if◌then◌else◌, inl, inr}
use Rattle.std.specs.Fmt.{decimal}
use Rattle.std.specs.Str.Lossy.{utf8_lossy}
use Rattle.std.proofs.lemmas.Bool.{lt-ltb}
use Rattle.std.proofs.lemmas.Str.{utf8_lossy-IsUtf8}
use Rattle.json.specs.Json.{Json, boolean, string}
use Rattle.mrt.specs.declared.record.Endpoints.{Endpoints}
use Rattle.bgp_prefix.specs.Text.{address_text}
use Rattle.bgp_prefix.specs.declared.address.Address.{Address}
use Rattle.bgp_machine.specs.State.{number_of as state_number}
use Rattle.bgp_machine.specs.declared.fsm.Fsm.{Fsm}
use Rattle.bgp_names.specs.States.{state_name}
use Rattle.bgp_why_parts.specs.Codes.{full_code_text}
use Rattle.bgp_why.specs.NotWhole.{unfit_text}
use Rattle.bgp_why.specs.Place.{record_text}
use Rattle.bgp_why.specs.State.{another_as_line}
use Rattle.bgp_why.specs.declared.place.Place.{Place}
use Rattle.bgp_why.specs.declared.whole.NotWhole.{NotWhole}
use Rattle.bgp_json_values.specs.ErrorJson.{error_name_json}
use Rattle.bgp_json_values.specs.Objects.{number_of, object_of}
use Rattle.bgp_json_values.specs.Texts.{address_json}
use Rattle.bgp_json_verdicts.specs.At.{at_text}
use Rattle.bgp_json_verdicts.specs.Lines.{ReasonValue, TheRecord, TheMessage, TheData, IsUnfit, AnotherAs, TheState, LastReceived, Possible as MayCome, InAnotherOrder, OtherOrdersUnknown, SentAlready, Note as Noted, Records, Ignored as AreIgnored, OtherSessions, OtherKinds, item_word, reason_text}
use Rattle.bgp_json_verdicts.specs.Objects.{of_verdict, reason_members, reason_type, text_behind, text_json}
use Rattle.bgp_json_verdicts.specs.declared.at.At.{At}
use Rattle.bgp_json_verdicts.specs.declared.telling.Counts.{Counts}
use Rattle.bgp_verdict_laws.specs.Laws.{IsAt, IsAtIfAny, IsMarkedIfAny, IsPlace, IsReason}
use Rattle.bgp_verdict_laws.proofs.Shapes.{IsMade, having, nothing, joined}
use Rattle.bgp_verdict_laws.proofs.Times.{at_back, at_made, number_back, packet_back, place_made, when_back}
use Rattle.bgp_verdict_laws.proofs.Reading.{as_in, behind, plain, reads, Record, Message, Data, Unfit, Configured, State, Last, Possible, Elsewhere, Unknown, Already, Note, Counted, Ignored, Skipped}

-- ---- texts

text_back : (text : List ℕ) → IsUtf8 text → utf8_lossy text ≡ text
text_back text is = utf8_lossy-IsUtf8 text is

-- what stands behind two octets
abbrev behind_json : List ℕ → Option Json
behind_json text = if nat_lt 2 (length text) then Some (text_json (drop 2 text)) else None

behind_made : (name text : List ℕ) → IsMade (name ∷ []) (behind_json text ∷ []) (text_behind 2 name text)
behind_made name text = by (nat_lt 2 (length text)) where
  by : (b : Bool) → IsMade (name ∷ []) ((if b then Some (text_json (drop 2 text)) else None) ∷ []) (if b then (name, text_json (drop 2 text)) ∷ [] else [])
  by true = record { is = refl; long = refl }
  by false = record { is = refl; long = refl }

marked_back : (a b : ℕ) (said : List ℕ) → 0 < length said → IsUtf8 said → behind (a ∷ b ∷ []) (behind_json (a ∷ b ∷ said)) ≡ a ∷ b ∷ said
marked_back a b said some utf8 =
    let long : nat_lt 2 (length (a ∷ b ∷ said)) ≡ true = lt-ltb 2 (length (a ∷ b ∷ said)) (omega (arith, some)) in
    rw long (ap (λ (t : List ℕ). a ∷ b ∷ t) (text_back said utf8))

behind_back : (a b : ℕ) (text : List ℕ) → IsMarkedIfAny (a ∷ b ∷ []) text → behind (a ∷ b ∷ []) (behind_json text) ≡ text
behind_back a b text (inl none) = subst (λ (t : List ℕ). behind (a ∷ b ∷ []) (behind_json t) ≡ t) (sym none) refl
behind_back a b text (inr m) =
    subst (λ (t : List ℕ). behind (a ∷ b ∷ []) (behind_json t) ≡ t) (sym m.is_its) (marked_back a b m.said m.some m.utf8)

-- ---- one by one

module _ (counts : Counts) where
  abbrev judged : Json
  judged = number_of counts.judged

  abbrev Reads : ReasonValue → Type 0
  Reads reason = plain (of_verdict (reason_type reason) counts (reason_members reason)) ≡ reason_text reason

  record_reads : (place : Place) (local : Address) (deed : List ℕ) → IsPlace place → IsUtf8 deed → Reads (TheRecord place local deed)
  unfolding reason_text record_text
  record_reads place local deed small utf8 =
      reads Record _ _ (having (codes "judged") judged (joined (place_made place) (having (codes "address") (address_json local) (having (codes "deed") (text_json deed) nothing))))
      ∙ ap₂ (λ (p w : List ℕ). codes "  " ++ ((codes "record " ++ (decimal place.number ++ (p ++ (codes ", " ++ (w ++ codes " UTC: ")))))
      ++ (address_text local ++ (codes " " ++ (utf8_lossy deed ++ codes "\n")))))
      (packet_back place.packet) (when_back place.second place.micro small)
      ∙ ap (λ (d : List ℕ). codes "  " ++ (record_text place ++ (address_text local ++ (codes " " ++ (d ++ codes "\n"))))) (text_back deed utf8)

  message_reads : (text : List ℕ) → IsUtf8 text → Reads (TheMessage text)
  unfolding reason_text
  message_reads text utf8 =
      reads Message _ _ (having (codes "judged") judged (having (codes "line") (text_json text) nothing))
      ∙ ap (λ (t : List ℕ). codes "  message: " ++ (t ++ codes "\n")) (text_back text utf8)

  data_reads : (text : List ℕ) → IsUtf8 text → Reads (TheData text)
  unfolding reason_text
  data_reads text utf8 =
      reads Data _ _ (having (codes "judged") judged (having (codes "line") (text_json text) nothing))
      ∙ ap (λ (t : List ℕ). codes "  data: " ++ (t ++ codes "\n")) (text_back text utf8)

  unfit_reads : (why : NotWhole) → Reads (IsUnfit why)
  unfolding reason_text
  unfit_reads why = reads Unfit _ _ (having (codes "judged") judged (having (codes "text") (string (unfit_text why)) nothing))

  another_reads : (number : ℕ) → number < 2 ^ 64 → Reads (AnotherAs number)
  unfolding reason_text another_as_line
  another_reads number small =
      reads Configured _ _ (having (codes "judged") judged (having (codes "peer_as_not") (number_of number) nothing))
      ∙ ap (λ (n : ℕ). codes "  the lines below are for a router configured for a peer in another AS than " ++ (as_in n ++ codes "\n")) (number_back number small)

  state_reads : (state : Fsm) (since : Option At) → IsAtIfAny since → Reads (TheState state since)
  unfolding reason_text
  state_reads state None small =
      reads State (Some judged ∷ Some (string (state_name (state_number state))) ∷ None ∷ None ∷ None ∷ None ∷ None ∷ []) _
      record { is = refl; long = refl }
  state_reads state (Some at) small =
      reads State _ _ (having (codes "judged") judged (having (codes "state") (string (state_name (state_number state))) (at_made at)))
      ∙ ap (λ (t : List ℕ). codes "  state: " ++ (state_name (state_number state) ++ ((codes " since " ++ t) ++ codes "\n"))) (at_back at small)

  last_reads : (at : At) (name asked : List ℕ) → IsAt at → IsUtf8 name → IsMarkedIfAny (codes ": ") asked → Reads (LastReceived at name asked)
  unfolding reason_text
  last_reads at name asked small utf8 marked =
      reads Last _ _ (having (codes "judged") judged (joined (at_made at) (having (codes "message") (text_json name) (behind_made (codes "asked") asked))))
      ∙ ap₂ (λ (t a : List ℕ). codes "  last received: " ++ (t ++ (codes ", " ++ (utf8_lossy name ++ (a ++ codes "\n"))))) (at_back at small) (behind_back 58 32 asked marked)
      ∙ ap (λ (n : List ℕ). codes "  last received: " ++ (at_text at ++ (codes ", " ++ (n ++ (asked ++ codes "\n"))))) (text_back name utf8)

  possible_reads : (is_owed is_next is_first : Bool) (item but : List ℕ) → IsUtf8 item → IsMarkedIfAny (codes "; ") but → Reads (MayCome is_owed is_next is_first item but)
  unfolding reason_text
  possible_reads is_owed is_next is_first item but utf8 marked =
      reads Possible _ _ (having (codes "judged") judged (having (codes "owed") (boolean is_owed) (having (codes "next") (boolean is_next) (having (codes "first") (boolean is_first)
      (having (codes "item") (text_json item) (behind_made (codes "but") but))))))
      ∙ ap₂ (λ (i b : List ℕ). codes "  " ++ (item_word is_owed is_next is_first ++ (i ++ (b ++ codes "\n")))) (text_back item utf8) (behind_back 59 32 but marked)

  elsewhere_reads : (item : List ℕ) → IsUtf8 item → Reads (InAnotherOrder item)
  unfolding reason_text
  elsewhere_reads item utf8 =
      reads Elsewhere _ _ (having (codes "judged") judged (having (codes "item") (text_json item) nothing))
      ∙ ap (λ (t : List ℕ). codes "  or: in another order, " ++ (t ++ codes "\n")) (text_back item utf8)

  unknown_reads : Reads OtherOrdersUnknown
  unfolding reason_text
  unknown_reads = reads Unknown _ _ (having (codes "judged") judged nothing)

  already_reads : (code subcode : ℕ) (at : At) → IsAt at → Reads (SentAlready code subcode at)
  unfolding reason_text full_code_text
  already_reads code subcode at small =
      reads Already _ _ (having (codes "judged") judged (joined (at_made at) (having (codes "code") (number_of code) (having (codes "subcode") (number_of subcode)
      (having (codes "name") (error_name_json code subcode) nothing)))))
      ∙ ap (λ (t : List ℕ). codes "  note: it had sent NOTIFICATION " ++ (full_code_text code subcode ++ (codes " already, at " ++ (t ++ codes "\n")))) (at_back at small)

  note_reads : (text : List ℕ) → IsUtf8 text → Reads (Noted text)
  unfolding reason_text
  note_reads text utf8 =
      reads Note _ _ (having (codes "judged") judged (having (codes "text") (text_json text) nothing))
      ∙ ap (λ (t : List ℕ). codes "  note: " ++ (t ++ codes "\n")) (text_back text utf8)

  records_reads : (received sent changes : ℕ) → Reads (Records received sent changes)
  unfolding reason_text
  records_reads received sent changes = reads Counted (Some judged ∷ Some _ ∷ Some _ ∷ Some _ ∷ Some _ ∷ []) _ record { is = refl; long = refl }

  ignored_reads : (count : ℕ) → Reads (AreIgnored count)
  unfolding reason_text
  ignored_reads count = reads Ignored _ _ (having (codes "judged") judged (having (codes "count") (number_of count) nothing))

  sessions_reads : (count : ℕ) (first : Option Endpoints) → Reads (OtherSessions count first)
  unfolding reason_text
  sessions_reads count None =
      reads Skipped (Some judged ∷ Some (number_of count) ∷ Some (string (codes "sessions")) ∷ None ∷ []) _ record { is = refl; long = refl }
  sessions_reads count (Some ends) =
      reads Skipped (Some judged ∷ Some (number_of count) ∷ Some (string (codes "sessions"))
      ∷ Some (object_of ((codes "peer", address_json ends.peer) ∷ (codes "local", address_json ends.local) ∷ [])) ∷ []) _
      record { is = refl; long = refl }

  kinds_reads : (count : ℕ) → Reads (OtherKinds count)
  unfolding reason_text
  kinds_reads count =
      reads Skipped (Some judged ∷ Some (number_of count) ∷ Some (string (codes "kinds")) ∷ None ∷ []) _ record { is = refl; long = refl }

  pub reason_reads : (reason : ReasonValue) → IsReason reason → Reads reason
  reason_reads (TheRecord place local deed) is = record_reads place local deed is.0 is.1
  reason_reads (TheMessage text) is = message_reads text is
  reason_reads (TheData text) is = data_reads text is
  reason_reads (IsUnfit why) is = unfit_reads why
  reason_reads (AnotherAs number) is = another_reads number is
  reason_reads (TheState state since) is = state_reads state since is
  reason_reads (LastReceived at name asked) is = last_reads at name asked is.0 is.1 is.2
  reason_reads (MayCome is_owed is_next is_first item but) is = possible_reads is_owed is_next is_first item but is.0 is.1
  reason_reads (InAnotherOrder item) is = elsewhere_reads item is
  reason_reads OtherOrdersUnknown is = unknown_reads
  reason_reads (SentAlready code subcode at) is = already_reads code subcode at is
  reason_reads (Noted text) is = note_reads text is
  reason_reads (Records received sent changes) is = records_reads received sent changes
  reason_reads (AreIgnored count) is = ignored_reads count
  reason_reads (OtherSessions count first) is = sessions_reads count first
  reason_reads (OtherKinds count) is = kinds_reads count
