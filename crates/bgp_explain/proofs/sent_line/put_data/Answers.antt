use Rattle.std.proofs.Common.{◌≡◌, ◌≢◌, ◌∙◌, ◌∷◌, List, ℕ, [], ap, length, refl, subst, sym, take}
use Rattle.std.proofs.lemmas.Bool.{eqb-false, eqb-true}
use Rattle.bgp_text.proofs.Fresh.{IsFresh}
use Rattle.bgp_text.proofs.Pieces.{and_nothing}
use Rattle.bgp_verdict_lines.specs.Lines.{PutsLines}
use Rattle.bgp_verdict_lines.proofs.Puts.{no_lines}
use Rattle.bgp_lines.specs.Notifications.{error_data_text}
use Rattle.bgp_values.specs.ErrorData.{ErrorFields, error_of}
use Rattle.bgp_why.specs.MessageLine.{data_line}
use Rattle.bgp_why_parts.specs.Cut.{keeps_joined}
use Rattle.bgp_why_parts.specs.declared.room.Room.{Room}
use Rattle.bgp_why_parts.proofs.Fronts.{front_of}
use Rattle.bgp_explain.specs.SentLine.{detail_line}
use Rattle.bgp_explain.proofs.sent_line.put_data.Goals as goal

none_there : (error : ErrorFields) (detail : List ℕ) → length detail ≡ 0 → detail_line error detail ≡ []
none_there error [] none = refl
none_there error (octet ∷ octets) none = absurd (let k : ⊥ = cc in k)

some_there : (error : ErrorFields) (detail : List ℕ) → (length detail ≡ 0 → ⊥) → detail_line error detail ≡ data_line (error_data_text error)
some_there error [] some = absurd (some refl)
some_there error (octet ∷ octets) some = refl

pub returns-then-is_empty : goal.returns-then-is_empty
returns-then-is_empty g c =
    let error = error_of c.args.error in
    let none = eqb-true (length error.detail) 0 (sym c.is_empty.ensures ∙ c.if-is_empty.true) in
    subst (λ (t : List ℕ). PutsLines c.args.lines.now c.args.lines.now t) (sym (none_there error error.detail none))
    (no_lines g.met.W.Sink.nothing c.args.lines.now)

pub returns : goal.returns
returns g c =
    let error = error_of c.args.error in
    let text = error_data_text error in
    let some = eqb-false (length error.detail) 0 (sym c.is_empty.ensures ∙ c.if-is_empty.false) in
    let fresh : IsFresh c.new-within.result = record { empty = c.new-within.ensures.empty; calm = c.new-within.ensures.fresh } in
    let wrote = and_nothing (record { joined = λ a b d xs ys. keeps_joined a.kept.items b.kept.items d.kept.items xs ys }) c.put_error_data.ensures c.hand_over.ensures.writes in
    let empty = ap (λ (r : Room). r.kept.items) c.new-within.ensures.now ∙ c.new-room.ensures in
    let front = front_of (λ (r : Room). r.kept.items) (λ a b xs takes. takes) (λ a. refl) c.new-within.result c.hand_over.new.self text fresh wrote empty c.hand_over.ensures.none in
    let is : c.front.result.now ≡ take 256 text = rw c.into_sink.ensures at c.front.ensures ∙ front in
    subst (λ (t : List ℕ). PutsLines c.args.lines.now c.put_data_line.new.lines t) (sym (some_there error error.detail some)) (c.put_data_line.ensures text is)
