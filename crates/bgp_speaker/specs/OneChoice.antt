-- The core's choice is one: for a state, an input and a second any two choices are one, but for how
-- an UPDATE that is sent is spelled.
use Rattle.std.specs.Prelude.{◌≡◌, ◌⊎◌, ℕ, List, [], ◌∷◌, Some}
use Rattle.bgp_prefix.specs.Shown.{ShownRecord}
use Rattle.bgp_prefix.specs.Shown.{Received as In, Sent as Out, Changed as Change}
use Rattle.bgp_open.specs.declared.link.Link.{Link}
use Rattle.bgp_update.specs.Changes.{RouteChanges}
use Rattle.bgp_speaker.specs.Choosing.{Chooses}
use Rattle.bgp_speaker.specs.Core.{CoreState, InputValue}
use Rattle.bgp_speaker.specs.Said.{SaysChanges}

-- two UPDATEs: each is a whole frame and clean on the link, and both read as the same changes
abbrev pub SayTheSame : List ℕ → List ℕ → Type 0
SayTheSame octets others =
    (link : Link) × (changes : RouteChanges)
    × SaysChanges (Some link) changes octets × SaysChanges (Some link) changes others

-- one record twice, or an UPDATE that is sent at one second, in two spellings
abbrev pub IsAlike : ShownRecord → ShownRecord → Type 0
IsAlike (Out t octets) (Out u others) =
    (t ≡ u) × ((octets ≡ others) ⊎ SayTheSame octets others)
IsAlike (Out t octets) other = ⊥
IsAlike (In t octets) other = In t octets ≡ other
IsAlike (Change t old new) other = Change t old new ≡ other

-- record by record
abbrev pub AreAlike : List ShownRecord → List ShownRecord → Type 0
AreAlike [] [] = Unit {0}
AreAlike [] (other ∷ others) = ⊥
AreAlike (x ∷ records) [] = ⊥
AreAlike (x ∷ records) (other ∷ others) = IsAlike x other × AreAlike records others

-- what two choices show is alike, and they leave one state
abbrev pub EachChoiceIsOne : Type 0
EachChoiceIsOne =
    (s first second : CoreState) (input : InputValue) (t : ℕ) (records others : List ShownRecord)
    → Chooses s input t records first → Chooses s input t others second
    → AreAlike records others × (first ≡ second)
