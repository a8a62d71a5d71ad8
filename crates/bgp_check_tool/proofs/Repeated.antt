-- What a line is worth that tells how `bgp judge` gives a verdict.
use Rattle.std.proofs.Common.{◌≡◌, ◌∙◌, Bool, true, false, IsFalse, ℕ, List, Option, None, Some, refl, subst, sym}
use Rattle.std.specs.List.{AllByRecursion}
use Rattle.bgp_prefix.specs.Shown.{ShownRecord}
use Rattle.bgp_prefix.specs.declared.session.Session.{Session}
use Rattle.bgp_open.specs.declared.config.Config.{Config}
use Rattle.streams.specs.declared.connection.Connection.{Connection}
use Rattle.streams.specs.declared.connection.Opening.{Opening}
use Rattle.streams.specs.declared.passed.Side.{Side}
use Rattle.bgp_judge.specs.Verdict.{No, VerdictValue}
use Rattle.bgp_orders.specs.Explained.{HasVerdictOver, No as NoOver}
use Rattle.bgp_recording.specs.Captured.{IsNoRefresh, records_of}
use Rattle.bgp_recording.specs.declared.entry.Entry.{Entry}
use Rattle.bgp_recording.specs.declared.framing.Unshown.{Unshown}
use Rattle.bgp_check.specs.Answered.{AnswerValue, HasItsVerdict, IsAnswerTo, IsJudged, JudgedAs}
use Rattle.bgp_check.specs.declared.peer_as.PeerAs.{PeerAs}
use Rattle.bgp_check_lines.specs.ReadAlike.{AreOptionsOf, IsReadAlike, framings_by}
use Rattle.bgp_check_lines.specs.DeclaredAsked.{Asked}
use Rattle.bgp_check_lines.specs.JudgeOptions.{JudgeOptions}
use Rattle.bgp_check_lines.specs.Settings.{are_told}
use Rattle.bgp_check_tool.specs.Judging.{AreOptionsFor, AreOptionsTo}
use Rattle.bgp_check_tool.specs.About.{IsAbout}
use Rattle.bgp_check_tool.specs.Another.{number_in}
use Rattle.bgp_check_tool.specs.Repeated.{GivesVerdict, IsNoOver, LineGivesTheVerdict}
use Rattle.bgp_check_tool.specs.Told.{EndTold, IsEndTold}
use Rattle.bgp_check_tool.specs.declared.options.CheckOptions.{CheckOptions}
use Rattle.bgp_check_tool.specs.declared.orders.NoOrder.{NoOrder}
use Rattle.bgp_import.specs.ListText.{end_of}
use Rattle.bgp_check_tool.specs.Seen.{seen_from, session_from}
use Rattle.bgp_check_tool.proofs.TellingEnd.{line_of_made}
use Rattle.bgp_check_tool.proofs.Verdicts.{found_is}

module _ (within : ℕ) (asked : Asked) (connection : Connection) (entries : List Entry) (received sent : Unshown) (under : Config) (line : JudgeOptions) where
  record IsUnder (config : Config) : Type 0 where
    pub same : config ≡ under
    pub are : AreOptionsOf config asked entries received sent line
    pub alike : IsReadAlike (framings_by config line.skips_refresh) within connection entries

  -- where a line is told, it is of a configuration
  of_told : (is_told : Bool) → AreOptionsFor within asked connection entries received sent is_told under (Some line) → (config : Config) × IsUnder config
  of_told false none = let k : ⊥ = cc in absurd k
  of_told true (None, told, none) = let k : ⊥ = cc in absurd k
  of_told true (Some config, told, is) = (config, record { same = told.1; are = is.0; alike = is.1 })

module _ (law : HasItsVerdict) (options : CheckOptions) (asked : Asked) (session : Session) (opening : Opening) (connection : Connection) (side : Side) (told : EndTold) (number : Option ℕ) (peer : PeerAs)
    (under : Config) (verdict : VerdictValue) (line : JudgeOptions) (end : IsEndTold options asked session opening connection side told) (is : told.answer ≡ JudgedAs number peer under verdict)
    (there : told.judge ≡ Some line) where
  abbrev its : Session
  its = session_from side session

  abbrev seen : Connection
  seen = seen_from side connection

  abbrev records : List ShownRecord
  records = records_of end.entries

  abbrev OfLine : Config → Config → Type 0
  OfLine config other = IsUnder options.within asked seen end.entries end.received_unshown end.sent_unshown config line other

  abbrev Gives : Option NoOrder → Type 0
  Gives found =
      IsReadAlike (framings_by line.config line.skips_refresh) options.within seen end.entries × GivesVerdict line.config options.within end.framings seen records found verdict
      × (IsFalse line.no_refresh → AllByRecursion IsNoRefresh records) × (line.asked ≡ asked)

  -- the line is of the configuration that the reason is about
  of_about : (n : Option ℕ) (p : PeerAs) (config : Config) (v : VerdictValue) → end.about ≡ JudgedAs n p config v → (other : Config) × OfLine config other
  of_about n p config v same =
      let of = line_of_made options asked (end_of side session opening) its seen told end line there in
      let line_told = subst (λ (j : Option JudgeOptions).
      AreOptionsTo options.within asked seen end.entries end.received_unshown end.sent_unshown options.settings end.about j) there of.judges in
      let for_it = subst (λ (a : AnswerValue).
      AreOptionsTo options.within asked seen end.entries end.received_unshown end.sent_unshown options.settings a (Some line)) same line_told in
      of_told options.within asked seen end.entries end.received_unshown end.sent_unshown config line (are_told options.settings) for_it

  gives_by : (config other : Config) (found : Option NoOrder) → OfLine config other → GivesVerdict config options.within end.framings seen records found verdict → Gives found
  gives_by config other found so gives = (
    subst (λ (c : Config). IsReadAlike (framings_by c line.skips_refresh) options.within seen end.entries) (sym so.are.is_config) so.alike,
    subst (λ (c : Config). GivesVerdict c options.within end.framings seen records found verdict) (sym (so.are.is_config ∙ so.same)) gives,
    so.are.calm,
    so.are.is_asked,
  )

  -- over all orders the no is the one of the message
  no_over : (found : NoOrder) → told.found ≡ Some found → IsNoOver found.its.under options.within end.framings seen found.unexplained
  no_over found same =
      let u = found_is its options.within end.framings seen told.answer told.found found same end.is_found in
      record {
        exchange = u.over.exchange;
        tells = u.over.tells;
        is_packet = u.is_message.is_packet;
        holds = subst (λ (c : Config). HasVerdictOver c options.within u.over.exchange (NoOver found.unexplained.before)) (sym u.is_under) u.over.is_told.holds;
      }

  gives : (found : Option NoOrder) → told.found ≡ found → IsAbout its records end.answer found end.about → Gives found
  gives None same about =
      let of = line_of_made options asked (end_of side session opening) its seen told end line there in
      let answered : end.answer ≡ JudgedAs number peer under verdict = sym of.is_told ∙ is in
      let judged : IsJudged its records number peer under verdict = subst (λ (a : AnswerValue). IsAnswerTo its records a) answered end.answers in
      let (other, so) = of_about number peer under verdict (about ∙ answered) in
      gives_by under other None so (law its records number peer under verdict judged).0
  gives (Some found) same about =
      let (other, so) = of_about (number_in end.answer) found.its.peer_as found.its.under (No about.count) about.is in
      gives_by found.its.under other (Some found) so (about.count, about.holds, no_over found same)

pub gives_the_verdict : HasItsVerdict → LineGivesTheVerdict
gives_the_verdict law options asked session opening connection side told number peer under verdict line end is there =
    gives law options asked session opening connection side told number peer under verdict line end is there told.found refl end.is_about
