use Rattle.std.proofs.Common.{List, inl, inr, map, subst, sym}
use Rattle.std.proofs.lemmas.List.{length-map, take-map}
use Rattle.std.specs.List.{AllByRecursion}
use Rattle.bgp_prefix.specs.Shown.{ShownRecord}
use Rattle.mrt.specs.Reader.{shown_of}
use Rattle.bgp_check_text.specs.Refused.{HearsNothing, IsLastHeard}
use Rattle.bgp_check_text.proofs.Refusals.{none_heard, none_sent, refused_at}
use Rattle.bgp_check_text.proofs.refused.up_to_refusal.Goals as goal

pub returns-in_default-clause-refused : goal.returns-in_default-clause-refused
returns-in_default-clause-refused c =
    let records = c.args.records.now in
    inr (sym (length-map records shown_of), none_sent (map shown_of records) c.in_default.ensures.none)

pub returns-in-Some-last_heard-clause-refused : goal.returns-in-Some-last_heard-clause-refused
returns-in-Some-last_heard-clause-refused c =
    let records = c.args.records.now in
    let count = c.in-Some.count in
    let before = c.in-Some-last_heard.before in
    inl (refused_at (map shown_of records) count before c.in-Some.ensures.some
    (subst (λ (rs : List ShownRecord). IsLastHeard rs before) (sym (take-map shown_of count records)) c.in-Some-last_heard.ensures.some))

pub returns-in-None-clause-refused : goal.returns-in-None-clause-refused
returns-in-None-clause-refused c =
    let records = c.args.records.now in
    let count = c.in-Some.count in
    inr (
      sym (length-map records shown_of),
      none_heard (map shown_of records) count c.in-Some.ensures.some
          (subst (λ (rs : List ShownRecord). AllByRecursion HearsNothing rs) (sym (take-map shown_of count records)) c.in-None.ensures.none),
    )
