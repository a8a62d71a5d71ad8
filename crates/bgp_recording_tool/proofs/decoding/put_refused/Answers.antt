use Rattle.bgp_recording_tool.proofs.decoding.put_refused.Goals as goal

pub returns-in-Json : goal.returns-in-Json
returns-in-Json g c = rw c.in-Json.is (c.put_json_refused.ensures c.in-Json.as2)
