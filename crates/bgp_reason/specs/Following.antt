-- What may follow a session's records: a record with which they still begin a run of the session
-- machine (RFC 4271, 8.2.2).
use Rattle.std.specs.Prelude.{◌++◌, List, [], ◌∷◌}
use Rattle.bgp_prefix.specs.Shown.{ShownRecord}
use Rattle.bgp_open.specs.declared.config.Config.{Config}
use Rattle.bgp_machine.specs.Run.{Begins}

-- the record may follow: with it the records begin a run
abbrev pub MayFollow : Config → List ShownRecord → ShownRecord → Type 0
MayFollow config records shown = Begins config (records ++ shown ∷ [])
