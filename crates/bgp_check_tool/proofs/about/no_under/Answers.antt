use Rattle.std.proofs.Common.{◌≡◌, ◌∙◌, List, None, ap, map, refl, rules, subst, sym}
use Rattle.std.proofs.lemmas.Bool.{false≢true}
use Rattle.bgp_prefix.specs.Shown.{ShownRecord}
use Rattle.mrt.specs.Reader.{shown_of}
use Rattle.bgp_judge.specs.Verdict.{HasVerdict, verdict_value}
use Rattle.bgp_parts.specs.Opens.{HasOwnOpen, HasPeersOpen}
use Rattle.bgp_recording.specs.Captured.{records_of}
use Rattle.bgp_check_tool.specs.Orders.{own_of, peers_of}
use Rattle.bgp_check_tool.proofs.NoUnder.{no_of}
use Rattle.bgp_check_tool.proofs.NoneLeft.{un_denied, un_own, un_peers}
use Rattle.bgp_check_tool.proofs.about.no_under.Goals as goal

pub returns-clause-some : goal.returns-clause-some
returns-clause-some g c =
    let found = c.args.found.now in
    let same = ap (map shown_of) c.as_slice-records.ensures.value ∙ c.requires in
    no_of (records_of c.args.recording.now.entries.items) c.args.as_number found (verdict_value c.in_ok-verdict.verdict) c.count_in.result c.count_in.ensures (λ none. search rules)
    (subst (λ (rs : List ShownRecord). HasVerdict found.its.under rs (verdict_value c.in_ok-verdict.verdict)) same c.in_ok-verdict.ensures.verdict)
    (subst (λ (rs : List ShownRecord). HasOwnOpen rs (own_of found)) same (c.if-not-has_opens.ensures.own refl))
    (subst (λ (rs : List ShownRecord). HasPeersOpen rs (peers_of found)) same (c.if-not-has_opens.ensures.peers refl))

pub returns-then-not-has_opens-clause-none : goal.returns-then-not-has_opens-clause-none
returns-then-not-has_opens-clause-none g c = λ session within framings connection received sent clocked recorded un.
    let found = c.args.found.now in
    let entries = c.args.recording.now.entries.items in
    let same = ap (map shown_of) c.as_slice-records.ensures.value ∙ c.requires in
    let own = un_own session within framings connection entries received sent clocked recorded found un in
    let peers = un_peers session within framings connection entries received sent clocked recorded found un in
    let has =
    c.has_opens.ensures.has (subst (λ (rs : List ShownRecord). HasOwnOpen rs (own_of found)) (sym same) own)
    (subst (λ (rs : List ShownRecord). HasPeersOpen rs (peers_of found)) (sym same) peers) in
    false≢true (sym c.if-not-has_opens.true ∙ has)

pub returns-then-is_none-clause-none : goal.returns-then-is_none-clause-none
returns-then-is_none-clause-none g c = λ session within framings connection received sent clocked recorded un.
    let found = c.args.found.now in
    let entries = c.args.recording.now.entries.items in
    let same = ap (map shown_of) c.as_slice-records.ensures.value ∙ c.requires in
    un_denied session within framings connection entries received sent clocked recorded found un (verdict_value c.in_ok-verdict.verdict)
    (subst (λ (rs : List ShownRecord). HasVerdict found.its.under rs (verdict_value c.in_ok-verdict.verdict)) same c.in_ok-verdict.ensures.verdict)
    (let none : None ≡ c.count_in.result = search rules in none ∙ c.count_in.ensures)
