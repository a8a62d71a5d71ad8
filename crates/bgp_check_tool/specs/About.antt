-- What the reason of an answer is about.
use Rattle.std.specs.Prelude.{◌≡◌, ℕ, List, Option, None, Some}
use Rattle.bgp_prefix.specs.Shown.{ShownRecord}
use Rattle.bgp_prefix.specs.declared.session.Session.{Session}
use Rattle.streams.specs.declared.connection.Connection.{Connection}
use Rattle.bgp_judge.specs.Verdict.{HasVerdict, No, verdict_value}
use Rattle.bgp_recording.specs.Gathered.{IsClocked}
use Rattle.bgp_recording.specs.Recorded.{IsRecorded}
use Rattle.bgp_recording.specs.declared.entry.Entry.{Entry}
use Rattle.bgp_recording.specs.declared.framing.Framings.{Framings}
use Rattle.bgp_recording.specs.declared.framing.Unshown.{Unshown}
use Rattle.bgp_check.specs.Answered.{AnswerValue, IsWidestFor, JudgedAs}
use Rattle.bgp_check.specs.declared.answering.Judged.{Judged}
use Rattle.bgp_parts.specs.Opens.{HasOwnOpen, HasPeersOpen}
use Rattle.bgp_check_tool.specs.declared.orders.NoOrder.{NoOrder}
use Rattle.bgp_check_tool.specs.declared.orders.Under.{Under}
use Rattle.bgp_check_tool.specs.Another.{number_in}
use Rattle.bgp_check_tool.specs.Orders.{IsUnexplained, own_of, peers_of}

-- a verdict and its configuration, as an answer
abbrev pub judged_value : {X : Type 0} → Judged X → AnswerValue
judged_value judged =
    JudgedAs judged.as_number judged.peer_as judged.under (verdict_value judged.verdict)

-- This is the verdict on the records under a configuration, and a no. The configuration is one of
-- the widest. The end's OPEN tells that AS number.
pub record IsNoUnder (session : Session) (records : List ShownRecord) (number : Option ℕ)
    (its : Under) (about : AnswerValue) : Type 0 where
  pub count : ℕ
  pub is : about ≡ JudgedAs number its.peer_as its.under (No count)
  pub widest : IsWidestFor session records its.peer_as its.under
  pub holds : HasVerdict its.under records (No count)

-- That no, of records with the OPENs that are told with a message that no order explains.
pub record IsNoOf (records : List ShownRecord) (number : Option ℕ) (found : NoOrder)
    (about : AnswerValue) : Type 0 where
  pub count : ℕ
  pub is : about ≡ JudgedAs number found.its.peer_as found.its.under (No count)
  pub holds : HasVerdict found.its.under records (No count)
  pub has_own : HasOwnOpen records (own_of found)
  pub has_peers : HasPeersOpen records (peers_of found)

-- Such a message is one that no order explains of no connection whose session these entries tell.
abbrev pub NeverUnexplained : List Entry → NoOrder → Type 0
NeverUnexplained entries found =
    (session : Session) (within : ℕ) (framings : Framings) (connection : Connection)
    (received sent : Unshown) → IsClocked connection
    → IsRecorded framings within connection entries received sent
    → ¬ IsUnexplained session within framings connection found

-- The reason is about the answer on the records. If no order explains a sent message, it is about
-- the no that the same records have under the configuration under which that message comes last.
abbrev pub IsAbout : Session → List ShownRecord → AnswerValue → Option NoOrder → AnswerValue
    → Type 0
IsAbout session records answer None about = about ≡ answer
IsAbout session records answer (Some found) about =
    IsNoUnder session records (number_in answer) found.its about
