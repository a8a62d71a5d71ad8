-- What is told of one connection, by what was made of it and what was put of that.
use Rattle.std.proofs.Common.{◌≡◌, ℕ, List, Option, Some, refl, inl, inr}
use Rattle.std.specs.List.{AllByRecursion}
use Rattle.packets.specs.Packet.{Recorded}
use Rattle.streams.specs.Passed.{Segment}
use Rattle.mrt.specs.declared.sink.Sink as sinks
use Rattle.bgp_prefix.specs.declared.session.RouteRefresh.TheVariants as refreshes
use Rattle.bgp_open.specs.declared.config.Config.{Config}
use Rattle.bgp_judge.specs.Verdict.{VerdictValue}
use Rattle.bgp_verdict_lines.specs.Lines.{PutsLines}
use Rattle.bgp_verdict_lines.specs.declared.verdict_lines.VerdictLines.{VerdictLines}
use Rattle.bgp_recording.specs.Captured.{IsNoRefresh, records_of}
use Rattle.bgp_recording.specs.declared.making.Recording.{Recording}
use Rattle.bgp_import.specs.Making.{TellsOne, IsTurnedDown}
use Rattle.bgp_import.specs.Refreshes.{IsRefreshIn}
use Rattle.bgp_import.specs.Refusals.{refusal_line}
use Rattle.bgp_import.specs.declared.importing.Import.{Import}
use Rattle.bgp_import.specs.declared.refusal.Refusal.{Refusal}
use Rattle.bgp_recording_tool.specs.declared.remark.Remark.{Remark}
use Rattle.bgp_recording_tool.specs.Judging.{Puts}
use Rattle.bgp_recording_tool.specs.Remarks.{AddsTold, IsHelp, notes_of}
use Rattle.bgp_explain.specs.declared.report.Report.{Report}
use Rattle.bgp_recording_tool.specs.Found.{Found, Nothing, TooMany, ByNone, ByAnother, ByAll}
use Rattle.bgp_recording_tool.specs.Told.{Refused, refused_status, told_text, told_with}
use Rattle.bgp_recording_tool.proofs.Judgings.{is_made}
use Rattle.bgp_recording_tool.specs.Connections.{IsReported, IsTold, IsToldAs}
use Rattle.bgp_recording_tool.specs.Putting.{PutsReport}

module _ {X T : Type 0} {sink : sinks.Ghosts T} (config : Config) (report : Report) (wanted : Import) (packets : List Recorded) (segments : List Segment) (number named : Option ℕ)
    (a b : VerdictLines X T sink) (old new : List Remark) (status : ℕ) where
  -- what is told of a verdict, and of what is found over all orders
  reported_so : (verdict : VerdictValue) (found : Found) (more : List ℕ) (remarks : List Remark)
      → IsReported config report wanted packets segments number named verdict found more remarks
      → IsTold config report wanted packets segments number named (told_with verdict found more) remarks
  reported_so verdict Nothing more remarks reported = inl reported
  reported_so verdict TooMany more remarks reported = inr reported
  reported_so verdict (ByNone u instead) more remarks reported = (verdict, instead, reported)
  reported_so verdict (ByAnother ends) more remarks reported = (verdict, reported)
  reported_so verdict ByAll more remarks reported = (verdict, reported)

  -- it was judged
  pub was_judged : {Z : Type 0} (made : Recording Z) → TellsOne wanted number packets segments made
      → (wanted.selection.session.refresh ≡ refreshes.Refused → AllByRecursion IsNoRefresh (records_of made.entries.items))
      → PutsReport config report wanted packets segments number named made.entries.items (notes_of made) a b old new status
      → Puts a b old new status (IsToldAs config report wanted packets segments number named)
  was_judged made tells without puts =
      let own = puts.added.own in
      let reported : IsReported config report wanted packets segments number named puts.verdict puts.found puts.more own =
      record {
        judged = record {
          connection = tells.connection;
          entries = made.entries.items;
          notes = notes_of made;
          chosen = tells.answered;
          made = is_made wanted number packets segments made tells;
          without = without;
          is = puts.is;
          others = puts.others;
          is_found = puts.is_found;
          confederation = puts.confederation;
          shows = puts.shows;
          left_out = puts.left_out;
          leaves_out = puts.leaves_out;
          remarked = puts.added.is_told;
        };
        is_more = puts.is_more;
        instead = puts.instead;
      } in
      record {
        text = told_text (told_with puts.verdict puts.found puts.more);
        own = own;
        wrote = puts.wrote;
        added = puts.added.added;
        holds = record {
          told = told_with puts.verdict puts.found puts.more;
          is_told = reported_so puts.verdict puts.found puts.more own reported;
          prints = refl;
          tells = puts.tells;
        };
      }

  -- or it is refused, and what helps was added
  pub was_turned_down : (refusal : Refusal) → IsTurnedDown number packets segments refusal → PutsLines a b (refusal_line refusal) → status ≡ refused_status refusal
      → AddsTold old new (IsHelp named refusal) → Puts a b old new status (IsToldAs config report wanted packets segments number named)
  was_turned_down refusal down wrote tells adds = record {
    text = refusal_line refusal;
    own = adds.own;
    wrote = wrote;
    added = adds.added;
    holds = record { told = Refused refusal; is_told = record { why = inl down; helps = adds.is_told }; prints = refl; tells = tells };
  }

  -- or it has a ROUTE-REFRESH
  pub was_refreshed : {Z : Type 0} (refusal : Refusal) (made : Recording Z) → TellsOne wanted number packets segments made
      → wanted.selection.session.refresh ≡ refreshes.Refused → IsRefreshIn made.entries.items made.received.rest made.sent.rest (Some refusal)
      → PutsLines a b (refusal_line refusal) → status ≡ refused_status refusal → AddsTold old new (IsHelp named refusal)
      → Puts a b old new status (IsToldAs config report wanted packets segments number named)
  was_refreshed refusal made tells refuses is wrote told adds = record {
    text = refusal_line refusal;
    own = adds.own;
    wrote = wrote;
    added = adds.added;
    holds = record {
      told = Refused refusal;
      is_told = record {
        why = inr (record {
          connection = tells.connection;
          entries = made.entries.items;
          notes = notes_of made;
          chosen = tells.answered;
          made = is_made wanted number packets segments made tells;
          refuses = refuses;
          is = is;
        });
        helps = adds.is_told;
      };
      prints = refl;
      tells = told;
    };
  }
