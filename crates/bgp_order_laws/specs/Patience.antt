-- What more patience leaves of what is printed: a yes with its ends; and what less patience leaves
-- of it: a no.
use Rattle.std.specs.Prelude.{◌≡◌, ◌≤◌, ◌⊎◌, ◌++◌, ℕ, List, Option, codes}
use Rattle.packets.specs.Packet.{Recorded}
use Rattle.streams.specs.Passed.{Segment}
use Rattle.bgp_open.specs.declared.config.Config.{Config}
use Rattle.bgp_machine.specs.Run.{End}
use Rattle.bgp_orders.specs.declared.connection.Unexplained.{Unexplained}
use Rattle.bgp_explain.specs.declared.report.Report.{Report}
use Rattle.bgp_import.specs.Selecting.{AreTaken}
use Rattle.bgp_import.specs.declared.importing.Import.{Import}
use Rattle.bgp_recording_tool.specs.Connections.{IsToldAs}
use Rattle.bgp_recording_tool.specs.Headline.{IsByNoOrder}
use Rattle.bgp_recording_tool.specs.declared.remark.Remark.{Remark}
use Rattle.bgp_order_laws.specs.AllEnds.{AreAllEnds}
use Rattle.bgp_order_laws.specs.OneAnswer.{Prints, SaysNothing, Yes, NoAt}

-- the same, but each received message may be handled so many seconds after it came
abbrev pub with_patience : Import → ℕ → Import
with_patience wanted more = record wanted { within = more }

-- If a yes is printed, then with more patience the same lines are: `yes` and the same ends. These
-- are all ends with either patience. Or nothing is printed about all orders then.
abbrev pub MorePatienceKeepsAYes : Type 0
MorePatienceKeepsAYes =
    (config : Config) (report reported : Report) (wanted : Import) (more : ℕ)
    (packets : List Recorded) (segments : List Segment) (number named called : Option ℕ)
    (text printed : List ℕ) (status code : ℕ) (remarks others : List Remark) (rest : List ℕ)
    → wanted.within ≤ more
    → AreTaken wanted.selection 0 packets segments
    → IsToldAs config report wanted packets segments number named text status remarks
    → text ≡ codes "yes\n" ++ rest
    → IsToldAs config reported (with_patience wanted more) packets segments number called printed
    code others
    → ((ends : List End) × AreAllEnds config wanted packets segments number ends
    × AreAllEnds config (with_patience wanted more) packets segments number ends
    × Prints (Yes ends) text status × Prints (Yes ends) printed code)
    ⊎ SaysNothing config (with_patience wanted more) packets segments number called printed code
    others

-- Two noes are printed at the packets of these messages, the one of which isn't behind the other.
-- No order explains the one within the patience, and none the other within more.
pub record AreNoes (config : Config) (wanted : Import) (more : ℕ) (packets : List Recorded)
    (segments : List Segment) (number : Option ℕ) (text printed : List ℕ) (status code : ℕ)
    : Type 0 where
  pub one : Unexplained
  pub other : Unexplained
  pub one_printed : Prints (NoAt one.packet) text status
  pub other_printed : Prints (NoAt other.packet) printed code
  pub one_so : IsByNoOrder config wanted packets segments number one
  pub other_so : IsByNoOrder config (with_patience wanted more) packets segments number other
  pub before : one.before ≤ other.before

-- If a no at a packet is printed with more patience, one is printed with less, at the packet of the
-- same message or of one before it. Or nothing is printed about all orders then.
abbrev pub LessPatienceKeepsANo : Type 0
LessPatienceKeepsANo =
    (config : Config) (report reported : Report) (wanted : Import) (more : ℕ)
    (packets : List Recorded) (segments : List Segment) (number named called : Option ℕ)
    (text printed : List ℕ) (status code : ℕ) (remarks others : List Remark) (rest : List ℕ)
    → wanted.within ≤ more
    → AreTaken wanted.selection 0 packets segments
    → IsToldAs config reported (with_patience wanted more) packets segments number called printed
    code others
    → printed ≡ codes "no at packet " ++ rest
    → IsToldAs config report wanted packets segments number named text status remarks
    → AreNoes config wanted more packets segments number text printed status code
    ⊎ SaysNothing config wanted packets segments number named text status remarks
