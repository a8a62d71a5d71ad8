use Rattle.std.proofs.Common.{◌≡◌, ◌≤◌, ℕ, arith, refl, inl, inr, Result, Err}
use Rattle.bgp_talk.specs.declared.fault.SpeakFault.{SpeakFault}
use Rattle.bgp_talk.specs.declared.fault.SpeakFault.TheVariants.{Capture, Memory}
use Rattle.bgp_talk.specs.Talk.{faults_after}
use Rattle.bgp_speak_tool.specs.Speaking.{failures_by, fault_status}
use Rattle.bgp_speak_tool.proofs.speaking.speak_session.Goals as goal

-- by the sink's count
counted : {X : Type 0} (answer : Result X SpeakFault) (fault : SpeakFault) (count after : ℕ) → after ≡ faults_after {X = X} count (Err fault) → after ≡ failures_by fault count
counted answer Capture count after is = is
counted answer Memory count after is = is

few : (fault : SpeakFault) → fault_status fault ≤ 5
few Capture = omega arith
few Memory = omega arith

pub returns-in-Ok-clause-speaks : goal.returns-in-Ok-clause-speaks
returns-in-Ok-clause-speaks g c =
    inl record {
      turns = c.in-Ok.report.turns;
      routes = c.in-Ok.report.rib;
      spoken = c.in-Ok.ensures.ok;
      captured = c.in-Ok.ensures.sink_failures;
      printed = c.write_report.ensures.writes;
    }

pub returns-in-Err-clause-speaks : goal.returns-in-Err-clause-speaks
returns-in-Err-clause-speaks g c =
    inr record {
      fault = c.in-Err.fault;
      cut = c.in-Err.ensures.err;
      silent = refl;
      counted = counted c.speak.result c.in-Err.fault _ _ c.in-Err.ensures.sink_failures;
      named = c.status_of.ensures;
    }

pub returns-in-Err-clause-statuses : goal.returns-in-Err-clause-statuses
returns-in-Err-clause-statuses g c = rw c.status_of.ensures (few c.in-Err.fault)
