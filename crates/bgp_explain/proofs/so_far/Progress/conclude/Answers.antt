use Rattle.std.proofs.Common.{◌≡◌, IfSome, List, None, Option, refl, subst, sym}
use Rattle.bgp_prefix.specs.Shown.{ShownRecord}
use Rattle.bgp_open.specs.declared.config.Config.{Config}
use Rattle.bgp_judge.specs.Verdict.{IsVerdict}
use Rattle.bgp_judge.specs.declared.verdict.Verdict.{Verdict}
use Rattle.bgp_judge.specs.declared.verdict.Verdict.TheVariants.{Yes, No, Unfinished}
use Rattle.bgp_tool.specs.declared.seen.Seen.{Seen}
use Rattle.bgp_tool.specs.Seen.{seen_in}
use Rattle.bgp_explain.specs.declared.so_far.Stop.{Stop}
use Rattle.bgp_explain.specs.declared.tally.Tally.{Tally}
use Rattle.bgp_explain.specs.Fractions.{names_by, reason_names, stop_number}
use Rattle.bgp_explain.specs.Progress.{AreSaidBy}
use Rattle.bgp_explain.specs.Reason.{AreSummed, HasReason}
use Rattle.bgp_explain.specs.Tally.{tally_of}
use Rattle.bgp_explain.proofs.Keeping.{no_for, no_is, none_yet, some_stop, unfinished_for}
use Rattle.bgp_explain.proofs.so_far.Progress.conclude.Goals as goal

pub returns-in-Some-clause-is : goal.returns-in-Some-clause-is
returns-in-Some-clause-is g c = λ records at.
    let stop = some_stop (g.T.Tracker.stands_for c.args.tracker.now) c.args.config.now records c.args.self c.args.self.stop _ c.in-Some.is at in
    let said : AreSaidBy c.args.config.now stop.before c.args.self.told c.args.self.moments c.args.self.sending c.args.self.last_message =
    record { told = stop.tells.told; moments = stop.tells.moments; sending = stop.tells.sending; last_message = stop.tells.last_message } in (
      no_is c.args.config.now records c.args.self _ stop,
      no_for c.args.config.now records c.args.self _ stop g.row.A.Denot c.stopped-reason.result (c.stopped-reason.ensures.is stop.before stop.shown said stop.found),
      tt,
    )

pub returns-in-Unfinished-clause-is : goal.returns-in-Unfinished-clause-is
returns-in-Unfinished-clause-is g c = λ records at.
    let so = none_yet (g.T.Tracker.stands_for c.args.tracker.now) c.args.config.now records c.args.self c.args.self.stop c.in_default.is at in (
      subst (λ verdict. IsVerdict c.args.config.now records verdict) c.in-Unfinished.is (c.in_ok-verdict.ensures c.args.config.now records so.0 so.1),
      unfinished_for c.args.config.now records g.row.A.Denot c.unfinished-reason.result
          (c.unfinished-reason.ensures.is records so.0 (record { told = so.2.told; moments = so.2.moments; sending = so.2.sending; last_message = so.2.last_message })),
      tt,
    )

-- a verdict may be without a reason
without : {X : Type 0} (Y : Type 0) (config : Config) (records : List ShownRecord) (verdict : Verdict X)
    → HasReason {Y = Y} config records verdict None
without Y config records (Yes ends) = refl
without Y config records (No count) = tt
without Y config records Unfinished = tt

summed : {X : Type 0} (records : List ShownRecord) (verdict : Verdict X) (tally : Tally) (seen : Seen)
    → tally ≡ tally_of records → seen ≡ seen_in records → AreSummed records verdict tally seen
summed records (Yes ends) tally seen is_tally is_seen = (is_tally, is_seen)
summed records (No count) tally seen is_tally is_seen = tt
summed records Unfinished tally seen is_tally is_seen = tt

pub returns-in_default-2-clause-is : goal.returns-in_default-2-clause-is
returns-in_default-2-clause-is g c = λ records at.
    let so = none_yet (g.T.Tracker.stands_for c.args.tracker.now) c.args.config.now records c.args.self c.args.self.stop c.in_default.is at in (
      c.in_ok-verdict.ensures c.args.config.now records so.0 so.1,
      without g.row.A.Denot c.args.config.now records c.in_ok-verdict.verdict,
      summed records c.in_ok-verdict.verdict c.args.self.tally c.args.self.seen so.2.tally so.2.seen,
    )

pub returns-in-Some-clause-names : goal.returns-in-Some-clause-names
returns-in-Some-clause-names g c =
    subst (λ (o : Option (Stop _)). IfSome c.stopped-reason.result (λ reason. reason_names reason ≡ names_by c.args.self.told c.args.self.moments (stop_number o)))
    (sym c.in-Some.is) c.stopped-reason.ensures.names

pub returns-in-Unfinished-clause-names : goal.returns-in-Unfinished-clause-names
returns-in-Unfinished-clause-names g c =
    subst (λ (o : Option (Stop _)). IfSome c.unfinished-reason.result (λ reason. reason_names reason ≡ names_by c.args.self.told c.args.self.moments (stop_number o)))
    (sym c.in_default.is) c.unfinished-reason.ensures.names
