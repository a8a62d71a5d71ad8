-- A text that begins as a no at a record does is told of made records, and all orders aren't known.
use Rattle.std.proofs.Common.{◌≡◌, ◌∙◌, ◌++◌, ℕ, true, false, List, Option, codes, get_or, inl, inr, refl, sym, ap}
use Rattle.std.proofs.Math.Dec.{eqb}
use Rattle.std.proofs.lemmas.Bool.{eq-eqb}
use Rattle.std.specs.List.{flat_map}
use Rattle.packets.specs.Packet.{Recorded}
use Rattle.streams.specs.Passed.{Segment}
use Rattle.bgp_open.specs.declared.config.Config.{Config}
use Rattle.bgp_judge.specs.Verdict.{Yes, No, Unfinished}
use Rattle.bgp_tool.specs.VerdictText.{end_text, no_line}
use Rattle.bgp_explain.specs.declared.report.Report.{Report}
use Rattle.bgp_import.specs.Refusals.{refusal_line}
use Rattle.bgp_import.specs.declared.importing.Import.{Import}
use Rattle.bgp_import.specs.declared.refusal.Refusal.{Refusal}
use Rattle.bgp_recording_tool.specs.Connections.{IsTold}
use Rattle.bgp_recording_tool.specs.Found.{TooMany}
use Rattle.bgp_recording_tool.specs.Headline.{IsAsMade, NoAtRecordIsAsMade}
use Rattle.bgp_recording_tool.specs.Told.{Told, Judged, NoOrder, InAnotherOrder, Refused, UnfinishedOverAll, no_order_line, told_status, told_text}
use Rattle.bgp_recording_tool.specs.declared.remark.Remark.{Remark}
use Rattle.bgp_recording_tool.proofs.FoundNothing.{made_verdict, no_nothing}

-- ---- no other text begins so

-- two octets that differ
apart : (a b : ℕ) → eqb a b ≡ false → a ≡ b → ⊥
apart a b differ e = (let same : eqb a b ≡ true = eq-eqb a b e in absurd (cc))

is_yes : (more rest : List ℕ) → codes "yes\n" ++ more ≡ codes "no at record " ++ rest → ⊥
is_yes more rest e = apart 121 110 refl (ap (λ (t : List ℕ). get_or t 0 0) e)

is_packet : (packet : ℕ) (more rest : List ℕ) → no_order_line packet ++ more ≡ codes "no at record " ++ rest → ⊥
unfolding no_order_line
is_packet packet more rest e = apart 112 114 refl (ap (λ (t : List ℕ). get_or t 6 0) e)

is_unfinished : (more rest : List ℕ) → codes "unfinished\n" ++ more ≡ codes "no at record " ++ rest → ⊥
is_unfinished more rest e = apart 117 110 refl (ap (λ (t : List ℕ). get_or t 0 0) e)

is_refusal : (refusal : Refusal) (rest : List ℕ) → refusal_line refusal ≡ codes "no at record " ++ rest → ⊥
unfolding refusal_line
is_refusal refusal rest e = apart 114 110 refl (ap (λ (t : List ℕ). get_or t 0 0) e)

-- ---- and what it says

module _ (config : Config) (report : Report) (wanted : Import) (packets : List Recorded) (segments : List Segment) (number named : Option ℕ) where
  by_told : (text : List ℕ) (status : ℕ) (remarks : List Remark) (rest : List ℕ) (told : Told) → IsTold config report wanted packets segments number named told remarks
      → text ≡ told_text told → status ≡ told_status told → text ≡ codes "no at record " ++ rest
      → (count : ℕ) × (more : List ℕ) × (text ≡ no_line count ++ more) × (status ≡ 1) × IsAsMade config wanted packets segments number (No count)
  by_told text status remarks rest (Judged (Yes ends) more) is prints tells begins = absurd (is_yes (flat_map end_text ends ++ more) rest (sym prints ∙ begins))
  by_told text status remarks rest (Judged (No count) more) (inl is) prints tells begins =
      absurd (no_nothing config wanted packets segments number count is.judged.is_found)
  by_told text status remarks rest (Judged (No count) more) (inr is) prints tells begins =
      let judged = is.judged in
      let made = made_verdict config wanted packets segments number named (No count) TooMany remarks judged in
      (count, more, prints, tells, record { entries = judged.entries; made = made; many = judged.is_found.1 })
  by_told text status remarks rest (Judged Unfinished more) is prints tells begins = absurd (is_unfinished more rest (sym prints ∙ begins))
  by_told text status remarks rest (Refused refusal) is prints tells begins = absurd (is_refusal refusal rest (sym prints ∙ begins))
  by_told text status remarks rest (InAnotherOrder ends more) is prints tells begins = absurd (is_yes (flat_map end_text ends ++ more) rest (sym prints ∙ begins))
  by_told text status remarks rest (NoOrder u more) is prints tells begins = absurd (is_packet u.packet more rest (sym prints ∙ begins))
  by_told text status remarks rest (UnfinishedOverAll more) is prints tells begins = absurd (is_unfinished more rest (sym prints ∙ begins))

pub as_made : NoAtRecordIsAsMade
as_made config report wanted packets segments number named text status remarks rest told begins =
    by_told config report wanted packets segments number named text status remarks rest told.told told.is_told told.prints told.tells begins
