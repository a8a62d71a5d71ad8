-- Many inputs, taken one after another: told by what is still to come.
use Rattle.std.proofs.Common.{◌≡◌, ◌+◌, ◌<◌, ◌≤◌, ℕ, List, [], ◌∷◌, ◌++◌, drop, get_or, length, map, refl, sym, ap, subst, ◌∙◌, append_assoc, append-nil}
use Rattle.std.proofs.lemmas.List.{drop_all, drop_more, map-append}
use Rattle.bgp_prefix.specs.Shown.{ShownRecord}
use Rattle.bgp_speaker.specs.Choosing.{Chooses, Drives, sent_in}
use Rattle.bgp_speaker.specs.declared.engine.Output.{Output}
use Rattle.bgp_speaker.specs.declared.input.Input.{Input}
use Rattle.bgp_speaker.specs.declared.shown.Shown.{Shown}
use Rattle.bgp_speaker.specs.Answers.{Answers}
use Rattle.bgp_speaker.specs.Core.{CoreState, InputValue}
use Rattle.bgp_speaker.specs.Shown.{input_value, shown_value}
use Rattle.bgp_speaker.specs.Driven.{input_at}
use Rattle.bgp_speaker.proofs.Drafting.{sent_joined}

-- whatever is done from here on is done from there on, after these records; and the octets are those of the sent messages
pub record GoesOnDriving (s now : CoreState) (inputs later : List (ℕ × InputValue)) (records : List ShownRecord) (sent : List ℕ) : Type 0 where
  pub drives : (others : List ShownRecord) (e : CoreState) → Drives now later others e → Drives s inputs (records ++ others) e
  pub sent_are : sent ≡ sent_in records

pub goes_on : (s : CoreState) (inputs : List (ℕ × InputValue)) → GoesOnDriving s s inputs inputs [] []
goes_on s inputs = record { drives = λ others e x. x; sent_are = refl }

pub one_more_input : (s now next : CoreState) (inputs later : List (ℕ × InputValue)) (input : InputValue) (second : ℕ) (records more : List ShownRecord) (sent octets : List ℕ)
    → GoesOnDriving s now inputs ((second, input) ∷ later) records sent → Chooses now input second more next → octets ≡ sent_in more
    → GoesOnDriving s next inputs later (records ++ more) (sent ++ octets)
one_more_input s now next inputs later input second records more sent octets g chooses is = record {
  drives = λ others e x. subst (λ (r : List ShownRecord). Drives s inputs r e) (sym (append_assoc records more others))
      (g.drives (more ++ others) e (more, next, others, chooses, x, refl));
  sent_are = ap (λ (v : List ℕ). v ++ octets) g.sent_are ∙ (ap (λ (v : List ℕ). sent_in records ++ v) is ∙ sym (sent_joined records more));
}

pub at_the_end : (s now : CoreState) (inputs : List (ℕ × InputValue)) (records : List ShownRecord) (sent : List ℕ)
    → GoesOnDriving s now inputs [] records sent → Drives s inputs records now
at_the_end s now inputs records sent g =
    subst (λ (r : List ShownRecord). Drives s inputs r now) (append-nil records) (g.drives [] now (refl, refl))

-- ---- over the code's own lists

pub starts : {X : Type 0} (s now : CoreState) (inputs : List (ℕ × InputValue)) (records : List (Shown X)) (sent : List ℕ)
    → now ≡ s → records ≡ [] → sent ≡ [] → GoesOnDriving s now inputs inputs (map shown_value records) sent
starts {X} s now inputs records sent same none nothing =
    subst (λ (v : CoreState). GoesOnDriving s v inputs inputs (map shown_value records) sent) (sym same)
    (subst (λ (v : List (Shown X)). GoesOnDriving s s inputs inputs (map shown_value v) sent) (sym none)
    (subst (λ (v : List ℕ). GoesOnDriving s s inputs inputs [] v) (sym nothing) (goes_on s inputs)))

still_to_come : (inputs : List (ℕ × Input)) (i : ℕ) (x : ℕ × Input) → i < length inputs → x ≡ get_or inputs i x
    → map input_at (drop i inputs) ≡ input_at x ∷ map input_at (drop (i + 1) inputs)
still_to_come inputs i x below is =
    ap (λ (v : List (ℕ × Input)). map input_at v) (drop_more inputs i x below ∙ ap (λ (v : ℕ × Input). v ∷ drop (i + 1) inputs) (sym is))

pub one_more : {X : Type 0} (s now next : CoreState) (inputs : List (ℕ × Input)) (i : ℕ) (x : ℕ × Input) (told : InputValue) (out : Output X)
    (records records2 : List (Shown X)) (sent sent2 : List ℕ)
    → GoesOnDriving s now (map input_at inputs) (map input_at (drop i inputs)) (map shown_value records) sent
    → i < length inputs → x ≡ get_or inputs i x → told ≡ input_value x.1 → Answers now told x.0 out next
    → sent2 ≡ sent ++ out.octets.items → records2 ≡ records ++ out.records.items
    → GoesOnDriving s next (map input_at inputs) (map input_at (drop (i + 1) inputs)) (map shown_value records2) sent2
one_more {X} s now next inputs i x told out records records2 sent sent2 g below is same answers sends shows =
    let first : GoesOnDriving s now (map input_at inputs) (input_at x ∷ map input_at (drop (i + 1) inputs)) (map shown_value records) sent =
    subst (λ (v : List (ℕ × InputValue)). GoesOnDriving s now (map input_at inputs) v (map shown_value records) sent) (still_to_come inputs i x below is) g in
    let chooses : Chooses now (input_value x.1) x.0 answers.records next =
    subst (λ (v : InputValue). Chooses now v x.0 answers.records next) same answers.chooses in
    let more = one_more_input s now next (map input_at inputs) (map input_at (drop (i + 1) inputs)) (input_value x.1) x.0 (map shown_value records) answers.records
    sent out.octets.items first chooses answers.octets_are in
    let shown : map shown_value records2 ≡ map shown_value records ++ answers.records =
    ap (λ (v : List (Shown X)). map shown_value v) shows ∙ (map-append shown_value records out.records.items ∙ ap (λ (v : List ShownRecord). map shown_value records ++ v) answers.records_are) in
    subst (λ (v : List ShownRecord). GoesOnDriving s next (map input_at inputs) (map input_at (drop (i + 1) inputs)) v sent2) (sym shown)
    (subst (λ (v : List ℕ). GoesOnDriving s next (map input_at inputs) (map input_at (drop (i + 1) inputs)) (map shown_value records ++ answers.records) v) (sym sends) more)

pub driven : {X : Type 0} (s now : CoreState) (inputs : List (ℕ × Input)) (i : ℕ) (records : List (Shown X)) (sent : List ℕ)
    → GoesOnDriving s now (map input_at inputs) (map input_at (drop i inputs)) (map shown_value records) sent → length inputs ≤ i
    → Drives s (map input_at inputs) (map shown_value records) now
driven {X} s now inputs i records sent g all =
    at_the_end s now (map input_at inputs) (map shown_value records) sent
    (subst (λ (v : List (ℕ × Input)). GoesOnDriving s now (map input_at inputs) (map input_at v) (map shown_value records) sent) (drop_all i inputs all) g)
