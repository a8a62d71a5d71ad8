-- The values of `speak`: what `judge` is told too, how the connection comes to be, what is
-- announced, how long it lasts, and a file.
use Rattle.std.specs.Prelude.{◌≡◌, ◌<◌, ◌^◌, ◌↔◌, false, List, Some, None, codes, IsTrue, IsSomeAnd}
use Rattle.clap.specs.Words.{Row, Text, first_of}
use Rattle.bgp_prefix.specs.Notation.{IsPrefixText}
use Rattle.bgp_prefix.specs.declared.session.RouteRefresh.TheVariants as refreshes
use Rattle.bgp_open.specs.declared.config.Config.{Config}
use Rattle.bgp_words.specs.Values.{IsNextHop4Text, IsNextHop6Text, IsOptional, IsPortText}
use Rattle.bgp_words.specs.Values.{IsTurnsText, IsValue, is_given, HasBitsAfter}
use Rattle.bgp_words.specs.Settings.{AreParts, IsOfOneFamily}
use Rattle.bgp_talk.specs.declared.options.Speaking.{Speaking}
use Rattle.bgp_talk.specs.declared.options.Start.{Start}
use Rattle.bgp_talk.specs.declared.options.Start.TheVariants.{Connect, Listen}
use Rattle.bgp_words.specs.declared.words.Command.{Command}
use Rattle.bgp_words.specs.declared.words.Command.TheVariants.{Decode, Capture, Judge}
use Rattle.bgp_words.specs.declared.words.Command.TheVariants.{Check, Import, List as Listing}
use Rattle.bgp_words.specs.declared.words.Command.TheVariants.{Speak, Pair}

-- one of `--connect` and `--listen` is given, with this port
abbrev pub IsStart : Start → List Row → Type 0
IsStart (Connect port) rows =
    IsValue IsPortText (codes "connect") rows port × (first_of (codes "listen") rows ≡ None)
IsStart (Listen port) rows =
    IsValue IsPortText (codes "listen") rows port × (first_of (codes "connect") rows ≡ None)

-- the options that `judge` hasn't
pub record AreOptions (speaking : Speaking) (rows : List Row) : Type 0 where
  pub start : IsStart speaking.start rows
  pub next_hop4 : IsValue IsNextHop4Text (codes "next-hop") rows speaking.next_hop4
  pub next_hop6 : IsValue IsNextHop6Text (codes "next-hop6") rows speaking.next_hop6
  pub announce : IsOptional IsPrefixText (codes "announce") rows speaking.announce
  pub cleared : IsTrue speaking.cleared ↔ IsSomeAnd (first_of (codes "announce") rows) HasBitsAfter
  pub turns : IsValue IsTurnsText (codes "turns") rows speaking.turns
  pub quiet : speaking.quiet ≡ is_given (codes "quiet") rows

-- The values of `speak`: a configuration whose session has addresses of one family, its own
-- options, and a file. Route refresh is never offered: `--no-refresh` changes nothing.
abbrev pub IsSpeak : Config → Speaking → Text → List Row → Type 0
IsSpeak config speaking file rows =
    AreParts config.parts refreshes.NotOffered rows × IsOfOneFamily config.parts.session
    × AreOptions speaking rows × (first_of (codes "FILE") rows ≡ Some file)

-- a command to speak can be done: both addresses are of one family, and turns can be counted
abbrev pub CanSpeak : Command → Type 0
CanSpeak (Decode form extended file) = Unit {0}
CanSpeak (Capture form session recording file) = Unit {0}
CanSpeak (Judge config recording reporting file) = Unit {0}
CanSpeak (Import session recording file out) = Unit {0}
CanSpeak (Listing port json file) = Unit {0}
CanSpeak (Check checking file) = Unit {0}
CanSpeak (Speak config speaking file) =
    IsOfOneFamily config.parts.session × (speaking.turns < 2 ^ 63)
CanSpeak (Pair file) = Unit {0}
