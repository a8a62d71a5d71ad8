-- A text that begins as a no over all orders does is told of a sent message that no order explains.
use Rattle.std.proofs.Common.{◌≡◌, ◌∙◌, ◌++◌, ℕ, true, false, List, Option, codes, get_or, refl, sym, ap}
use Rattle.std.proofs.Math.Dec.{eqb}
use Rattle.std.proofs.lemmas.Bool.{eq-eqb}
use Rattle.std.specs.List.{flat_map}
use Rattle.packets.specs.Packet.{Recorded}
use Rattle.streams.specs.Passed.{Segment}
use Rattle.bgp_open.specs.declared.config.Config.{Config}
use Rattle.bgp_judge.specs.Verdict.{Yes, No, Unfinished}
use Rattle.bgp_tool.specs.VerdictText.{end_text, no_line}
use Rattle.bgp_explain.specs.declared.report.Report.{Report}
use Rattle.bgp_import.specs.Refusals.{refusal_line}
use Rattle.bgp_import.specs.declared.importing.Import.{Import}
use Rattle.bgp_import.specs.declared.refusal.Refusal.{Refusal}
use Rattle.bgp_orders.specs.Connections.{NoOrderExplains}
use Rattle.bgp_orders.specs.declared.connection.OverOrders.TheVariants as over
use Rattle.bgp_orders.specs.declared.connection.Unexplained.{Unexplained}
use Rattle.bgp_recording_tool.specs.Connections.{IsOverAll, IsTold}
use Rattle.bgp_recording_tool.specs.Headline.{IsByNoOrder, NoAtPacketIsByNoOrder}
use Rattle.bgp_recording_tool.specs.Told.{Told, Judged, NoOrder, InAnotherOrder, Refused, UnfinishedOverAll, no_order_line, told_status, told_text}
use Rattle.bgp_recording_tool.specs.declared.remark.Remark.{Remark}

-- ---- no other text begins so

-- two octets that differ
apart : (a b : ℕ) → eqb a b ≡ false → a ≡ b → ⊥
apart a b differ e = (let same : eqb a b ≡ true = eq-eqb a b e in absurd (cc))

no_yes : (more rest : List ℕ) → codes "yes\n" ++ more ≡ codes "no at packet " ++ rest → ⊥
no_yes more rest e =
    apart 121 110 refl (ap (λ (t : List ℕ). get_or t 0 0) e)

no_record : (count : ℕ) (more rest : List ℕ) → no_line count ++ more ≡ codes "no at packet " ++ rest → ⊥
unfolding no_line
no_record count more rest e =
    apart 114 112 refl (ap (λ (t : List ℕ). get_or t 6 0) e)

no_unfinished : (more rest : List ℕ) → codes "unfinished\n" ++ more ≡ codes "no at packet " ++ rest → ⊥
no_unfinished more rest e =
    apart 117 110 refl (ap (λ (t : List ℕ). get_or t 0 0) e)

no_refusal : (refusal : Refusal) (rest : List ℕ) → refusal_line refusal ≡ codes "no at packet " ++ rest → ⊥
unfolding refusal_line
no_refusal refusal rest e =
    apart 114 110 refl (ap (λ (t : List ℕ). get_or t 0 0) e)

-- ---- and what it says

module _ (law : NoOrderExplains) (config : Config) (report : Report) (wanted : Import) (packets : List Recorded) (segments : List Segment) (number named : Option ℕ) where
  says_so : (u : Unexplained) → IsOverAll config wanted packets segments number (over.No u) → IsByNoOrder config wanted packets segments number u
  says_so u is = record {
    connection = is.connection;
    chosen = is.chosen;
    exchange = is.over_all.exchange;
    tells = is.over_all.tells;
    packet = is.over_all.holds.1;
    others = is.over_all.holds.0.1;
    none = law config wanted.within _ is.connection u is.over_all;
  }

  by_told : (text : List ℕ) (status : ℕ) (remarks : List Remark) (rest : List ℕ) (told : Told) → IsTold config report wanted packets segments number named told remarks
      → text ≡ told_text told → status ≡ told_status told → text ≡ codes "no at packet " ++ rest
      → (u : Unexplained) × (more : List ℕ) × (text ≡ no_order_line u.packet ++ more) × (status ≡ 1) × IsByNoOrder config wanted packets segments number u
  by_told text status remarks rest (Judged (Yes ends) more) is prints tells begins =
      absurd (no_yes (flat_map end_text ends ++ more) rest (sym prints ∙ begins))
  by_told text status remarks rest (Judged (No count) more) is prints tells begins = absurd (no_record count more rest (sym prints ∙ begins))
  by_told text status remarks rest (Judged Unfinished more) is prints tells begins = absurd (no_unfinished more rest (sym prints ∙ begins))
  by_told text status remarks rest (Refused refusal) is prints tells begins = absurd (no_refusal refusal rest (sym prints ∙ begins))
  by_told text status remarks rest (InAnotherOrder ends more) is prints tells begins = absurd (no_yes (flat_map end_text ends ++ more) rest (sym prints ∙ begins))
  by_told text status remarks rest (UnfinishedOverAll more) is prints tells begins = absurd (no_unfinished more rest (sym prints ∙ begins))
  by_told text status remarks rest (NoOrder u more) (verdict, instead, reported) prints tells begins = (u, more, prints, tells, says_so u reported.judged.is_found.1)

pub by_no_order : NoOrderExplains → NoAtPacketIsByNoOrder
by_no_order law config report wanted packets segments number named text status remarks rest told begins =
    by_told law config report wanted packets segments number named text status remarks rest told.told told.is_told told.prints told.tells begins
