-- What was done at a no, and what is wrong with it, has no control characters.
use Rattle.std.proofs.Common.{◌+◌, ◌++◌, ℕ, Bool, true, List, [], ◌∷◌, All, Option, None, Some, codes, refl, subst, sym, take, inl, inr}
use Rattle.std.proofs.lemmas.List.Elements.{All-head, All-tail, All-take}
use Rattle.bgp_prefix.specs.Shown.{ShownRecord, Sent}
use Rattle.bgp_prefix.specs.declared.session.Session.{Session}
use Rattle.bgp_wire.specs.declared.header.Limit.{Limit}
use Rattle.bgp_open.specs.declared.config.Config.{Config}
use Rattle.bgp_judge.specs.Verdict.{VerdictValue, Yes, No, Unfinished}
use Rattle.bgp_reason.specs.declared.kinds.Possible.{Possible}
use Rattle.bgp_check.specs.Answered.{AnswerValue, JudgedAs, Unjudged}
use Rattle.bgp_check.specs.declared.peer_as.PeerAs.{PeerAs}
use Rattle.bgp_why.specs.declared.endpoint.Endpoint.{Endpoint}
use Rattle.bgp_why.specs.declared.other_orders.OtherOrders.{OtherOrders}
use Rattle.bgp_why.specs.declared.place.Place.{Place}
use Rattle.bgp_why.specs.declared.style.Style.{Style}
use Rattle.bgp_why_parts.specs.declared.own_faults.OwnFaults.{OwnFaults}
use Rattle.bgp_explain.specs.Capture.{TellsDeed}
use Rattle.bgp_explain.specs.Lacked.{Lacked, Nothing, Open, Update, Notification, lacked_cause, lacked_text, may_be_like}
use Rattle.bgp_explain.specs.Records.{SaysDeed}
use Rattle.bgp_check_text.specs.Reason.{IsExplained, IsReasonOf, IsReasonTo, IsSaid, another_of, style_of}
use Rattle.bgp_check_text.specs.Shown.{session_at, session_for}
use Rattle.bgp_visible_laws.specs.Laws.{HasOctets}
use Rattle.bgp_visible_laws.specs.Visible.{IsVisible}
use Rattle.bgp_visible_laws.proofs.Texts.{if_visible}
use Rattle.bgp_visible_laws.proofs.Visible.{both, nothing, word}
use Rattle.bgp_why_laws.specs.Octets.{IsOctetIfAny}
use Rattle.bgp_why_laws.proofs.JsonLines.{all_front}
use Rattle.bgp_why_laws.proofs.Parts.{notification_parts_visible, open_parts_visible, own_faults_visible, shown_visible, update_parts_visible}
use Rattle.bgp_why_laws.proofs.Reasons.{deeds_visible, due_cause_visible}
use Rattle.bgp_check_laws.specs.Deeds.{DeedsAreVisible, SentDeedsAreVisible}
use Rattle.bgp_check_laws.proofs.Octets.{HasOctetsIn, header_is, record_has}

lacked_visible : (before own : List ℕ) → IsVisible before → IsVisible own → (faults : Option OwnFaults) (lacked : Lacked) → HasOctetsIn lacked
    → IsVisible (lacked_text before own faults lacked)
lacked_visible before own first second faults Nothing has = nothing
lacked_visible before own first second None (Open parts) has = shown_visible before _ first (open_parts_visible parts)
lacked_visible before own first second (Some told) (Open parts) has = own_faults_visible own second told
lacked_visible before own first second faults (Update parts) has = shown_visible before _ first (update_parts_visible true parts has)
lacked_visible before own first second faults (Notification code parts) has = shown_visible before _ first (notification_parts_visible code parts has)

cause_visible : (faults : Option OwnFaults) (p : Possible) (lacked : Lacked) → IsOctetIfAny p.header_errors.kind → HasOctetsIn lacked → IsVisible (lacked_cause faults p lacked)
cause_visible faults p lacked is has =
    if_visible p.message _ _
    (both (word (codes ", not allowed here") refl)
    (if_visible (may_be_like p lacked) _ [] (lacked_visible (codes ": ") (codes ": ") (word (codes ": ") refl) (word (codes ": ") refl) faults lacked has) nothing))
    (due_cause_visible p is)

all_back : {X : Type 0} (P : X → Type 0) (xs ys : List X) → All P (xs ++ ys) → All P ys
all_back P [] ys all = all
all_back P (x ∷ xs) ys all = all_back P xs ys (All-tail P x (xs ++ ys) all)

-- the record behind those before it is at fault
of_fault : (config : Config) (style : Style) (session : Session) (peer : Endpoint) (before records : List ShownRecord) (text : List ℕ) → All HasOctets records
    → TellsDeed config style session peer before records text → IsVisible text
of_fault config style session peer before records text all tells =
    let fault = tells.at_fault in
    let those : All HasOctets (before ++ tells.shown ∷ []) = subst (All HasOctets) tells.next all in
    let its = All-head HasOctets tells.shown [] (all_back HasOctets before (tells.shown ∷ []) those) in
    subst IsVisible (sym tells.whole)
    (both (deeds_visible session peer _ tells.shown tells.deed fault.is_deed)
    (subst IsVisible (sym fault.is_cause)
    (cause_visible style.own_faults fault.possible fault.lacked (header_is config before fault.possible (all_front HasOctets before (tells.shown ∷ []) those) fault.asked)
    (record_has config _ fault.possible tells.shown fault.lacked its fault.are_lacks))))

said : (config : Config) (style : Style) (session : Session) (peer : Endpoint) (records : List ShownRecord) (verdict : VerdictValue) (text : List ℕ)
    → All HasOctets records → SaysDeed config style session peer records verdict text → IsVisible text
said config style session peer records (Yes ends) text all says = subst IsVisible (sym says) nothing
said config style session peer records (No count) text all says =
    of_fault config style session peer (take count records) (take (count + 1) records) text (All-take HasOctets (count + 1) records all) says
said config style session peer records Unfinished text all says = subst IsVisible (sym says) nothing

of_said : (config : Config) (style : Style) (sent : Limit) (peer : Endpoint) (another : Option ℕ) (places : ℕ → ℕ → Place) (records : List ShownRecord)
    (verdict : VerdictValue) (deed lines : List ℕ) → All HasOctets records → IsSaid config style sent peer another places records verdict deed lines → IsVisible deed
of_said config style sent peer another places records verdict deed lines all (inl so) =
    said config style (session_at config.parts.session sent records verdict) peer records verdict deed all so.1.0
of_said config style sent peer another places records verdict deed lines all (inr none) = subst IsVisible (sym none.1) nothing

module _ (session : Session) (sent : Limit) (first : ℕ) (is_recording : Bool) (peer : Endpoint) (places : ℕ → ℕ → Place) (instead : OtherOrders)
    (records : List ShownRecord) (all : All HasOctets records) where
  explained : (its : PeerAs) (config : Config) (verdict : VerdictValue) (deed lines : List ℕ)
      → IsExplained session sent first is_recording peer places instead records its config verdict deed lines → IsVisible deed
  explained its config verdict deed lines is =
      of_said config (style_of first is_recording its is.faults instead) sent peer (another_of its) places records verdict deed lines all is.is_said

  of_verdict : (its : PeerAs) (config : Config) (verdict : VerdictValue) (deed lines : List ℕ)
      → IsReasonOf session sent first is_recording peer places instead records its config verdict deed lines → IsVisible deed
  of_verdict its config (Yes ends) deed lines is = subst IsVisible (sym is.0) nothing
  of_verdict its config (No count) deed lines is = explained its config (No count) deed lines is
  of_verdict its config Unfinished deed lines is = explained its config Unfinished deed lines is

  of_answer : (answer : AnswerValue) (deed lines : List ℕ) → IsReasonTo session sent first is_recording peer places instead records answer deed lines → IsVisible deed
  of_answer (Unjudged why) deed lines is = subst IsVisible (sym is.0) nothing
  of_answer (JudgedAs number its config verdict) deed lines is = of_verdict its config verdict deed lines is

pub deeds : DeedsAreVisible
deeds session sent first is_recording peer places instead records answer deed lines all is =
    of_answer session sent first is_recording peer places instead records all answer deed lines is

pub sent_deeds : SentDeedsAreVisible
sent_deeds session sent peer form second octets text (inl told) = deeds_visible (session_for session sent (Sent second octets)) peer form (Sent second octets) text told.1
sent_deeds session sent peer form second octets text (inr none) = subst IsVisible (sym none.1) nothing
