-- What a record shows, in words.
use Rattle.std.specs.Prelude.{◌≡◌, ◌≤◌, ◌⊎◌, ◌++◌, ℕ, false, List, codes, length}
use Rattle.bgp_prefix.specs.Shown.{ShownRecord, Received as In, Sent as Out, Changed}
use Rattle.bgp_wire.specs.declared.header.Limit.{Limit}
use Rattle.mrt.specs.Rules.{HasOtherLength}
use Rattle.bgp_text.specs.Text.{hex_text}
use Rattle.bgp_names.specs.States.{state_name}
use Rattle.bgp_values.specs.Opens.{reading_by}
use Rattle.bgp_values.specs.declared.opens.Direction.TheVariants.{Received, Sent}
use Rattle.bgp_values.specs.declared.opens.Opens.{Opens}
use Rattle.bgp_values.specs.declared.opens.Reading.{Reading}
use Rattle.bgp_lines.specs.Form.{IsNamedMessage}
use Rattle.bgp_recording.specs.declared.framing.Framings.{Framings}

-- octets are one whole message, or begin with a faulty header
abbrev pub IsWhole : Limit → List ℕ → Type 0
IsWhole limit octets = (19 ≤ length octets) × (¬ HasOtherLength limit octets)

abbrev pub octets_text : List ℕ → List ℕ
octets_text octets = codes "no whole message: " ++ hex_text octets

-- what a message says, which may be so long and is read so: its line of `bgp decode --names`
abbrev pub IsMessageText : Reading → Limit → List ℕ → List ℕ → Type 0
IsMessageText reading limit octets text =
    (IsWhole limit octets × IsNamedMessage reading limit octets text)
    ⊎ ((¬ IsWhole limit octets) × (text ≡ octets_text octets))

abbrev pub change_text : ℕ → ℕ → List ℕ
change_text old new = state_name old ++ (codes " to " ++ state_name new)

-- what a record shows, where these were the last OPENs and both directions are framed so
abbrev pub IsDeedBy : Framings → Opens → ShownRecord → List ℕ → Type 0
IsDeedBy framings opens (In second octets) text =
    IsMessageText (reading_by false Received opens) framings.received.limit octets text
IsDeedBy framings opens (Out second octets) text =
    IsMessageText (reading_by false Sent opens) framings.sent.limit octets text
IsDeedBy framings opens (Changed second old new) text = text ≡ change_text old new
