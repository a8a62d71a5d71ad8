-- What the first impossible record shows was done, and what is wrong with it: the first line of a
-- no.
use Rattle.std.specs.Prelude.{◌≡◌, ◌++◌, ℕ, List, [], Option, None, Some}
use Rattle.bgp_prefix.specs.Shown.{ShownRecord, second_of}
use Rattle.bgp_prefix.specs.declared.session.Session.{Session}
use Rattle.bgp_open.specs.declared.config.Config.{Config}
use Rattle.bgp_open.specs.declared.link.Link.{Link}
use Rattle.bgp_reason.specs.declared.kinds.Possible.{Possible}
use Rattle.bgp_why_parts.specs.declared.own_faults.OwnFaults.{OwnFaults}
use Rattle.bgp_why.specs.declared.endpoint.Endpoint.{Endpoint}
use Rattle.bgp_why.specs.declared.place.Place.{Place}
use Rattle.bgp_why.specs.declared.style.Style.{Style}
use Rattle.bgp_why.specs.Deed.{IsDeed, form_on, peer_of, record_line}
use Rattle.bgp_explain.specs.Lacked.{Lacked, lacked_cause}

-- what a record of the session with this peer shows was done
abbrev pub IsDeedOn : Session → Endpoint → Option Link → ShownRecord → List ℕ → Type 0
IsDeedOn session peer link shown deed = IsDeed session peer (form_on link shown) shown deed

-- and what is wrong with it, if there is a next record, which lacks this
abbrev pub IsDeedText : Style → Session → Endpoint → Option Link → Possible → Lacked
    → Option (ℕ × ShownRecord) → List ℕ → Type 0
IsDeedText style session peer link possible lacked None text = text ≡ []
IsDeedText style session peer link possible lacked (Some next) text =
    (deed : List ℕ) × IsDeedOn session peer link next.1 deed
    × (text ≡ deed ++ lacked_cause style.own_faults possible lacked)

-- the line of the next record, which stands there
abbrev pub line_of : Style → Session → (ℕ → ℕ → Place) → Possible → Lacked → ℕ → ShownRecord
    → List ℕ → List ℕ
line_of style session places possible lacked count shown deed =
    record_line (places count (second_of shown)) session.local deed
    (lacked_cause style.own_faults possible lacked)

-- it names both addresses of the session, whose ports aren't known
abbrev pub IsFirstLine : Style → Session → (ℕ → ℕ → Place) → Option Link → Possible → Lacked
    → Option (ℕ × ShownRecord) → List ℕ → Type 0
IsFirstLine style session places link possible lacked None text = text ≡ []
IsFirstLine style session places link possible lacked (Some next) text =
    (deed : List ℕ) × IsDeedOn session (peer_of session) link next.1 deed
    × (text ≡ line_of style session places possible lacked next.0 next.1 deed)
