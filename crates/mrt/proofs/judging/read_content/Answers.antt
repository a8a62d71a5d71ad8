use Rattle.std.proofs.Common.{◌≡◌, ℕ, Bool, true, false, List, [], ◌∷◌, refl, Some, if◌then◌else◌}
use Rattle.bgp_prefix.specs.Shown.{Received, Sent, Changed}
use Rattle.mrt.specs.declared.layout.Form.TheVariants as forms
use Rattle.mrt.specs.Layout.{Header, form_of, is_of, shown_in, old_state_in, new_state_in}
use Rattle.mrt.specs.Found.{header_value}
use Rattle.mrt.proofs.AllowedRecord.{form_by}
use Rattle.mrt.proofs.judging.read_content.Goals as goal

received_by : (a b c d : Bool) (second old new : ℕ) (content : List ℕ) → form_by a b c d ≡ Some forms.Received
    → Received second content ≡ (if a then Changed second old new else (if b then Received second content else Sent second content))
received_by true b c d second old new content is = absurd (cc)
received_by false true c d second old new content is = refl
received_by false false true d second old new content is = absurd (cc)
received_by false false false true second old new content is = absurd (cc)
received_by false false false false second old new content is = absurd (cc)

sent_by : (a b c d : Bool) (second old new : ℕ) (content : List ℕ) → form_by a b c d ≡ Some forms.Sent
    → Sent second content ≡ (if a then Changed second old new else (if b then Received second content else Sent second content))
sent_by true b c d second old new content is = absurd (cc)
sent_by false true c d second old new content is = absurd (cc)
sent_by false false true d second old new content is = refl
sent_by false false false true second old new content is = absurd (cc)
sent_by false false false false second old new content is = absurd (cc)

received : (header : Header) (content : List ℕ) → form_of header.subtype ≡ Some forms.Received → Received header.second content ≡ shown_in header content
received header content is =
    let subtype = header.subtype in
    received_by (is_of subtype (0 ∷ 5 ∷ [])) (is_of subtype (1 ∷ 4 ∷ [])) (is_of subtype (6 ∷ 7 ∷ [])) (is_of subtype (8 ∷ 9 ∷ 10 ∷ 11 ∷ []))
    header.second (old_state_in content) (new_state_in content) content is

sent : (header : Header) (content : List ℕ) → form_of header.subtype ≡ Some forms.Sent → Sent header.second content ≡ shown_in header content
sent header content is =
    let subtype = header.subtype in
    sent_by (is_of subtype (0 ∷ 5 ∷ [])) (is_of subtype (1 ∷ 4 ∷ [])) (is_of subtype (6 ∷ 7 ∷ [])) (is_of subtype (8 ∷ 9 ∷ 10 ∷ 11 ∷ []))
    header.second (old_state_in content) (new_state_in content) content is

pub returns-in-Ok : goal.returns-in-Ok
returns-in-Ok c = λ body. (c.in-Ok.ensures.judged c.args.session.now body, c.in-Ok.ensures.shown)

pub returns-in-Err : goal.returns-in-Err
returns-in-Err c = λ body. c.in-Err.ensures.judged c.args.session.now body

pub returns-in-Whole : goal.returns-in-Whole
returns-in-Whole c = λ body. (c.in-Whole.ensures body, received (header_value c.args.header.now) c.args.content.now (rw c.in-Received.is at c.requires))

pub returns-in-PassedOver : goal.returns-in-PassedOver
returns-in-PassedOver c = λ body. (c.in-PassedOver.ensures body, rw c.in-Received.is at c.requires)

pub returns-in-Whole-read_message : goal.returns-in-Whole-read_message
returns-in-Whole-read_message c = λ body. (c.in-Whole-read_message.ensures body, sent (header_value c.args.header.now) c.args.content.now (rw c.in-Sent.is at c.requires))

pub returns-in-PassedOver-read_message : goal.returns-in-PassedOver-read_message
returns-in-PassedOver-read_message c = λ body. (c.in-PassedOver-read_message.ensures body, rw c.in-Sent.is at c.requires)
