-- What it says of all orders that nothing is found that is told in place of the made verdict.
use Rattle.std.proofs.Common.{ℕ, List, Option, inl, inr}
use Rattle.packets.specs.Packet.{Recorded}
use Rattle.streams.specs.Passed.{Segment}
use Rattle.bgp_open.specs.declared.config.Config.{Config}
use Rattle.bgp_judge.specs.Verdict.{VerdictValue, No, Unfinished}
use Rattle.bgp_orders.specs.declared.connection.OverOrders.TheVariants as over
use Rattle.bgp_import.specs.declared.importing.Import.{Import}
use Rattle.bgp_recording_tool.specs.Connections.{IsJudged, IsMadeVerdict, IsNothing, IsOverAll}
use Rattle.bgp_recording_tool.specs.Found.{Found}
use Rattle.bgp_recording_tool.specs.declared.remark.Remark.{Remark}

module _ (config : Config) (wanted : Import) (packets : List Recorded) (segments : List Segment) (number : Option ℕ) where
  pub made_verdict : (named : Option ℕ) (verdict : VerdictValue) (found : Found) (remarks : List Remark)
      → (judged : IsJudged config wanted packets segments number named verdict found remarks)
      → IsMadeVerdict config wanted packets segments number judged.entries verdict
  made_verdict named verdict found remarks judged = record {
    connection = judged.connection;
    notes = judged.notes;
    chosen = judged.chosen;
    made = judged.made;
    is = judged.is;
  }

  -- not beside a no
  pub no_nothing : (count : ℕ) → IsNothing config wanted packets segments number (No count) → ⊥
  no_nothing count (inl same) = absurd (let never = same in cc)
  no_nothing count (inr (unfinished, is)) = absurd (let never = unfinished in cc)

  -- beside what is unfinished
  pub unfinished_nothing : IsNothing config wanted packets segments number Unfinished → IsOverAll config wanted packets segments number over.Unfinished
  unfinished_nothing (inl same) = absurd (let never = same in cc)
  unfinished_nothing (inr (same, is)) = is
