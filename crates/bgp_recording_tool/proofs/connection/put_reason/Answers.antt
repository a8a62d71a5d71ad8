use Rattle.std.proofs.Common.{◌∙◌, List, ℕ, Bool, true, false, ap, inl, inr, is_some, subst}
use Rattle.bgp_prefix.specs.declared.session.Session.{Session}
use Rattle.bgp_open.specs.declared.config.Config.{Config}
use Rattle.bgp_judge.specs.Verdict.{VerdictValue, Yes, No, Unfinished, verdict_value}
use Rattle.bgp_prefix.specs.Shown.{ShownRecord}
use Rattle.bgp_recording.specs.Captured.{records_of}
use Rattle.bgp_why.specs.Style.{plain}
use Rattle.bgp_why.specs.declared.place.Place.{Place}
use Rattle.bgp_why.specs.declared.style.Style.{Style}
use Rattle.bgp_explain.specs.Places.{shown_places}
use Rattle.bgp_explain.specs.Records.{SaysOrNot, SaysWhere}
use Rattle.bgp_recording_tool.specs.Connections.{made_style}
use Rattle.bgp_recording_tool.proofs.connection.put_reason.Goals as goal

-- with details or without
or_not : (config : Config) (style : Style) (session : Session) (places : ℕ → ℕ → Place) (records : List ShownRecord) (detailed : Bool) (verdict : VerdictValue) (more : List ℕ)
    → SaysWhere config style session places records detailed verdict more → SaysOrNot config style session places records verdict more
or_not config style session places records detailed (Yes ends) more says = says
or_not config style session places records true (No count) more says = inl says
or_not config style session places records true Unfinished more says = inl says
or_not config style session places records false (No count) more says = inr says
or_not config style session places records false Unfinished more says = inr says

pub returns : goal.returns
returns g c =
    let config = c.args.config.now in
    let entries = c.args.entries.now in
    let verdict = verdict_value c.args.explained.now.verdict in
    let (more, so, put) = c.put_explained_records.ensures (records_of entries) c.requires.explained in
    let instead = c.args.instead in
    let style = ap (λ (s : Style). record s { other_orders = instead }) (c.plain.ensures ∙ ap (λ (n : ℕ). plain n true) c.first_second_of.ensures) in
    let says = subst (λ (s : Style). SaysWhere config s config.parts.session (shown_places entries) (records_of entries) (is_some c.details-details.result) verdict more) style so in
    (more, or_not config (made_style entries instead) config.parts.session (shown_places entries) (records_of entries) (is_some c.details-details.result) verdict more says, put)
