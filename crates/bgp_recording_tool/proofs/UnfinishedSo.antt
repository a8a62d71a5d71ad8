-- A text that begins as what is unfinished does is told of such a connection.
use Rattle.std.proofs.Common.{◌≡◌, ◌∙◌, ◌++◌, ◌⊎◌, ℕ, true, false, List, Option, codes, get_or, inl, inr, refl, sym, ap}
use Rattle.std.proofs.Math.Dec.{eqb}
use Rattle.std.proofs.lemmas.Bool.{eq-eqb}
use Rattle.std.specs.List.{flat_map}
use Rattle.packets.specs.Packet.{Recorded}
use Rattle.streams.specs.Passed.{Segment}
use Rattle.bgp_open.specs.declared.config.Config.{Config}
use Rattle.bgp_judge.specs.Verdict.{Yes, No, Unfinished}
use Rattle.bgp_orders.specs.declared.connection.OverOrders.TheVariants as over
use Rattle.bgp_tool.specs.VerdictText.{end_text, no_line}
use Rattle.bgp_explain.specs.declared.report.Report.{Report}
use Rattle.bgp_import.specs.Refusals.{refusal_line}
use Rattle.bgp_import.specs.declared.importing.Import.{Import}
use Rattle.bgp_import.specs.declared.refusal.Refusal.{Refusal}
use Rattle.bgp_recording_tool.specs.Connections.{IsOverAll, IsTold}
use Rattle.bgp_recording_tool.specs.Found.{TooMany}
use Rattle.bgp_recording_tool.specs.Headline.{IsAsMade, IsUnfinishedByEach, UnfinishedIsSo}
use Rattle.bgp_recording_tool.specs.Told.{Told, Judged, NoOrder, InAnotherOrder, Refused, UnfinishedOverAll, no_order_line, told_status, told_text}
use Rattle.bgp_recording_tool.specs.declared.remark.Remark.{Remark}
use Rattle.bgp_recording_tool.proofs.FoundNothing.{made_verdict, unfinished_nothing}

-- ---- no other text begins so

-- two octets that differ
apart : (a b : ℕ) → eqb a b ≡ false → a ≡ b → ⊥
apart a b differ e = (let same : eqb a b ≡ true = eq-eqb a b e in absurd (cc))

first_is : (xs ys : List ℕ) → xs ≡ ys → get_or xs 0 0 ≡ get_or ys 0 0
first_is xs ys e = ap (λ (t : List ℕ). get_or t 0 0) e

not_yes : (more rest : List ℕ) → codes "yes\n" ++ more ≡ codes "unfinished" ++ rest → ⊥
not_yes more rest e = apart 121 117 refl (first_is _ _ e)

not_record : (count : ℕ) (more rest : List ℕ) → no_line count ++ more ≡ codes "unfinished" ++ rest → ⊥
unfolding no_line
not_record count more rest e = apart 110 117 refl (first_is _ _ e)

not_packet : (packet : ℕ) (more rest : List ℕ) → no_order_line packet ++ more ≡ codes "unfinished" ++ rest → ⊥
unfolding no_order_line
not_packet packet more rest e = apart 110 117 refl (first_is _ _ e)

not_refusal : (refusal : Refusal) (rest : List ℕ) → refusal_line refusal ≡ codes "unfinished" ++ rest → ⊥
unfolding refusal_line
not_refusal refusal rest e = apart 114 117 refl (first_is _ _ e)

-- ---- and what it says

module _ (config : Config) (report : Report) (wanted : Import) (packets : List Recorded) (segments : List Segment) (number named : Option ℕ) where
  by_each : IsOverAll config wanted packets segments number over.Unfinished → IsUnfinishedByEach config wanted packets segments number
  by_each found = record {
    connection = found.connection;
    chosen = found.chosen;
    exchange = found.over_all.exchange;
    tells = found.over_all.tells;
    explained = found.over_all.holds.0;
    none = found.over_all.holds.1;
  }

  by_told : (text : List ℕ) (status : ℕ) (remarks : List Remark) (rest : List ℕ) (told : Told) → IsTold config report wanted packets segments number named told remarks
      → text ≡ told_text told → status ≡ told_status told → text ≡ codes "unfinished" ++ rest
      → (status ≡ 2) × (IsAsMade config wanted packets segments number Unfinished ⊎ IsUnfinishedByEach config wanted packets segments number)
  by_told text status remarks rest (Judged (Yes ends) more) is prints tells begins = absurd (not_yes (flat_map end_text ends ++ more) rest (sym prints ∙ begins))
  by_told text status remarks rest (Judged (No count) more) is prints tells begins = absurd (not_record count more rest (sym prints ∙ begins))
  by_told text status remarks rest (Judged Unfinished more) (inl is) prints tells begins =
      (tells, inr (by_each (unfinished_nothing config wanted packets segments number is.judged.is_found)))
  by_told text status remarks rest (Judged Unfinished more) (inr is) prints tells begins =
      let judged = is.judged in
      let made = made_verdict config wanted packets segments number named Unfinished TooMany remarks judged in
      (tells, inl (record { entries = judged.entries; made = made; many = judged.is_found.1 }))
  by_told text status remarks rest (Refused refusal) is prints tells begins = absurd (not_refusal refusal rest (sym prints ∙ begins))
  by_told text status remarks rest (InAnotherOrder ends more) is prints tells begins = absurd (not_yes (flat_map end_text ends ++ more) rest (sym prints ∙ begins))
  by_told text status remarks rest (NoOrder u more) is prints tells begins = absurd (not_packet u.packet more rest (sym prints ∙ begins))
  by_told text status remarks rest (UnfinishedOverAll more) (verdict, reported) prints tells begins =
      (tells, inr (by_each reported.judged.is_found.1))

pub unfinished_is_so : UnfinishedIsSo
unfinished_is_so config report wanted packets segments number named text status remarks rest told begins =
    by_told config report wanted packets segments number named text status remarks rest told.told told.is_told told.prints told.tells begins
