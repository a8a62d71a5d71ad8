use Rattle.bgp_list.proofs.Objects.{all_session_texts}
use Rattle.bgp_list.proofs.capture.put_in_form.Goals as goal

pub returns-in-Text : goal.returns-in-Text
returns-in-Text g c = λ named holds. rw c.in-Text.is (c.put_sessions.ensures named holds, all_session_texts named)

pub returns-in-Json : goal.returns-in-Json
returns-in-Json g c = λ named holds. rw c.in-Json.is (c.put_session_objects.ensures named holds)
