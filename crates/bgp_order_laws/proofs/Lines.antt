-- Which text begins as a yes does, and which as a no at a packet.
use Rattle.std.proofs.Common.{◌≡◌, ◌++◌, ℕ, true, false, List, Some, codes, get_or, refl, ap}
use Rattle.std.proofs.Math.Dec.{eqb}
use Rattle.std.proofs.lemmas.Bool.{eq-eqb}
use Rattle.std.specs.List.{flat_map}
use Rattle.bgp_machine.specs.Run.{End}
use Rattle.bgp_judge.specs.Verdict.{VerdictValue}
use Rattle.bgp_judge.specs.Verdict as verdicts
use Rattle.bgp_tool.specs.VerdictText.{end_text, no_line}
use Rattle.bgp_import.specs.Refusals.{refusal_line}
use Rattle.bgp_import.specs.declared.refusal.Refusal.{Refusal}
use Rattle.bgp_recording_tool.specs.Told.{Told, Judged, NoOrder, InAnotherOrder, Refused, UnfinishedOverAll, no_order_line, told_text, value_text}
use Rattle.bgp_order_laws.specs.AllEnds.{ends_told}
use Rattle.bgp_order_laws.specs.OneAnswer.{Answer, NoAt, Unfinished, Yes, answer_lines}

-- two octets that differ
apart : (a b : ℕ) → eqb a b ≡ false → a ≡ b → ⊥
apart a b differ e = (let same : eqb a b ≡ true = eq-eqb a b e in absurd (cc))

first_is : (xs ys : List ℕ) → xs ≡ ys → get_or xs 0 0 ≡ get_or ys 0 0
first_is xs ys e = ap (λ (t : List ℕ). get_or t 0 0) e

-- ---- no other text begins as a yes

no_record : (count : ℕ) (more rest : List ℕ) → no_line count ++ more ≡ codes "yes\n" ++ rest → ⊥
unfolding no_line
no_record count more rest e = apart 110 121 refl (first_is _ _ e)

no_packet : (packet : ℕ) (more rest : List ℕ) → no_order_line packet ++ more ≡ codes "yes\n" ++ rest → ⊥
unfolding no_order_line
no_packet packet more rest e = apart 110 121 refl (first_is _ _ e)

no_unfinished : (more rest : List ℕ) → codes "unfinished\n" ++ more ≡ codes "yes\n" ++ rest → ⊥
no_unfinished more rest e = apart 117 121 refl (first_is _ _ e)

no_refusal : (refusal : Refusal) (rest : List ℕ) → refusal_line refusal ≡ codes "yes\n" ++ rest → ⊥
unfolding refusal_line
no_refusal refusal rest e = apart 114 121 refl (first_is _ _ e)

-- what is told is a yes
pub yes_by : (told : Told) (rest : List ℕ) → told_text told ≡ codes "yes\n" ++ rest → (ends : List End) × (ends_told told ≡ Some ends)
yes_by (Judged (verdicts.Yes ends) more) rest e = (ends, refl)
yes_by (Judged (verdicts.No count) more) rest e = absurd (no_record count more rest e)
yes_by (Judged verdicts.Unfinished more) rest e = absurd (no_unfinished more rest e)
yes_by (NoOrder u more) rest e = absurd (no_packet u.packet more rest e)
yes_by (InAnotherOrder ends more) rest e = (ends, refl)
yes_by (UnfinishedOverAll more) rest e = absurd (no_unfinished more rest e)
yes_by (Refused refusal) rest e = absurd (no_refusal refusal rest e)

-- ---- no other text begins as a no at a packet

not_yes : (more rest : List ℕ) → codes "yes\n" ++ more ≡ codes "no at packet " ++ rest → ⊥
not_yes more rest e = apart 121 110 refl (first_is _ _ e)

not_record : (count : ℕ) (more rest : List ℕ) → no_line count ++ more ≡ codes "no at packet " ++ rest → ⊥
unfolding no_line
not_record count more rest e = apart 114 112 refl (ap (λ (t : List ℕ). get_or t 6 0) e)

not_unfinished : (more rest : List ℕ) → codes "unfinished\n" ++ more ≡ codes "no at packet " ++ rest → ⊥
not_unfinished more rest e = apart 117 110 refl (first_is _ _ e)

not_refusal : (refusal : Refusal) (rest : List ℕ) → refusal_line refusal ≡ codes "no at packet " ++ rest → ⊥
unfolding refusal_line
not_refusal refusal rest e = apart 114 110 refl (first_is _ _ e)

-- what is printed about all orders is a no
pub no_by : (answer : Answer) (more rest : List ℕ) → answer_lines answer ++ more ≡ codes "no at packet " ++ rest → (packet : ℕ) × (answer ≡ NoAt packet)
no_by (Yes ends) more rest e = absurd (not_yes (flat_map end_text ends ++ more) rest e)
no_by (NoAt packet) more rest e = (packet, refl)
no_by Unfinished more rest e = absurd (not_unfinished more rest e)

-- and not of the made order
pub no_made : (verdict : VerdictValue) (more rest : List ℕ) → value_text verdict ++ more ≡ codes "no at packet " ++ rest → ⊥
no_made (verdicts.Yes ends) more rest e = not_yes (flat_map end_text ends ++ more) rest e
no_made (verdicts.No count) more rest e = not_record count more rest e
no_made verdicts.Unfinished more rest e = not_unfinished more rest e

pub no_refused : (refusal : Refusal) (rest : List ℕ) → refusal_line refusal ≡ codes "no at packet " ++ rest → ⊥
no_refused refusal rest e = not_refusal refusal rest e
