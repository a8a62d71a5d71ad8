-- What is told of the verdict on records.
use Rattle.std.proofs.Common.{ℕ, true, List}
use Rattle.bgp_prefix.specs.Shown.{ShownRecord}
use Rattle.bgp_prefix.specs.declared.session.Session.{Session}
use Rattle.bgp_open.specs.declared.config.Config.{Config}
use Rattle.bgp_judge.specs.Verdict.{VerdictValue}
use Rattle.bgp_judge.specs.Verdict as values
use Rattle.bgp_why.specs.declared.place.Place.{Place}
use Rattle.bgp_why.specs.declared.style.Style.{Style}
use Rattle.bgp_explain.specs.Records.{SaysOfRecords, SaysWhere}

-- where the details of the reason are there, all is said
pub says_all : (config : Config) (style : Style) (session : Session) (places : ℕ → ℕ → Place) (records : List ShownRecord) (verdict : VerdictValue) (more : List ℕ)
    → SaysWhere config style session places records true verdict more → SaysOfRecords config style session places records verdict more
says_all config style session places records (values.Yes ends) more says = says
says_all config style session places records (values.No count) more says = says
says_all config style session places records values.Unfinished more says = says
