use Rattle.bgp_list.proofs.capture.put_stopped.Goals as goal

pub returns-in-Text-clause-wrote : goal.returns-in-Text-clause-wrote
returns-in-Text-clause-wrote g c = rw c.in-Text.is c.put_refused.ensures

pub returns-in-Text-clause-in_form : goal.returns-in-Text-clause-in_form
returns-in-Text-clause-in_form g c = rw c.in-Text.is tt

pub returns-in-Json-clause-wrote : goal.returns-in-Json-clause-wrote
returns-in-Json-clause-wrote g c = rw c.in-Json.is c.put_fault_json.ensures.wrote

pub returns-in-Json-clause-in_form : goal.returns-in-Json-clause-in_form
returns-in-Json-clause-in_form g c = rw c.in-Json.is c.put_fault_json.ensures.is_value
