-- The line with the `bgp judge` command that reproduces a verdict.
use Rattle.std.specs.Prelude.{◌==◌, ◌++◌, ℕ, Bool, true, false, not, List, [], Option, None, Some}
use Rattle.std.specs.Prelude.{codes, if◌then◌else◌, option_map}
use Rattle.std.specs.Fmt.{decimal}
use Rattle.bgp_prefix.specs.Text.{address_text}
use Rattle.bgp_prefix.specs.declared.address.Address.TheVariants.{V4}
use Rattle.bgp_prefix.specs.declared.session.Session.{Session}
use Rattle.bgp_open.specs.declared.config.Config.{Config}
use Rattle.bgp_open.specs.declared.families.Families.{Families}
use Rattle.bgp_open.specs.declared.route_offer.RouteOffer.{RouteOffer}
use Rattle.bgp_why_parts.specs.Offers.{offer_text, offers_something}
use Rattle.bgp_check_text.specs.declared.options.Asked.{Asked}
use Rattle.bgp_check_text.specs.declared.options.JudgeOptions.{JudgeOptions}

-- an option with a number, where there is one
abbrev pub number_text : List ℕ → Option (List ℕ) → List ℕ
number_text option None = []
number_text option (Some number) = option ++ number

-- one without a value, where it is given
abbrev pub flag_text : List ℕ → Bool → List ℕ
flag_text option is_given = if is_given then option else []

-- ---- what is configured

-- both AS numbers and the BGP Identifier
unfoldable pub needs_text : Config → List ℕ
needs_text config =
    codes " --local-as " ++ (decimal config.parts.local_as ++ (codes " --peer-as "
    ++ (decimal config.parts.peer_as ++ (codes " --local-id "
    ++ address_text (V4 config.parts.local_id)))))

unfoldable pub addresses_text : Session → List ℕ
addresses_text session =
    codes " --local " ++ (address_text session.local ++ (codes " --peer "
    ++ address_text session.peer))

-- the Hold Time, where it isn't the one that is taken where none is given
abbrev pub hold_text : ℕ → List ℕ
hold_text hold = if hold == 90 then [] else codes " --hold " ++ decimal hold

-- the word of families, by whether IPv4 and IPv6 are among them: no configuration has neither
abbrev pub word_by : Bool → Bool → List ℕ
word_by true true = codes "both"
word_by true false = codes "v4"
word_by false v6 = codes "v6"

abbrev pub families_word : Families → List ℕ
families_word families = word_by families.v4 families.v6

-- what is offered about how routes are spelled (RFC 7911, 4; RFC 8950, 4), if something is
unfoldable pub offers_option : RouteOffer → List ℕ
offers_option offers =
    if offers_something offers then codes " --offers " ++ offer_text offers else []

unfoldable pub choices_text : Config → List ℕ
choices_text config =
    hold_text config.parts.hold ++ (codes " --families "
    ++ (families_word config.parts.families
    ++ (flag_text (codes " --as2") (not config.parts.as4)
    ++ (flag_text (codes " --extended") config.parts.session.extended
    ++ (offers_option config.parts.offers
    ++ (flag_text (codes " --delay-open") config.parts.delay_open
    ++ (codes " --large-hold " ++ decimal config.parts.large_hold)))))))

-- ---- what else is asked

-- what becomes of a ROUTE-REFRESH
unfoldable pub refresh_text : JudgeOptions → List ℕ
refresh_text options =
    flag_text (codes " --skip-refresh") options.skips_refresh
    ++ flag_text (codes " --no-refresh") options.no_refresh

-- which connection of a recording is meant
unfoldable pub asked_text : Asked → List ℕ
asked_text asked =
    number_text (codes " --port ") (option_map decimal asked.port)
    ++ (number_text (codes " --local-port ") (option_map decimal asked.local_port)
    ++ (number_text (codes " --connection ") (option_map decimal asked.connection)
    ++ number_text (codes " --within ") (option_map decimal asked.within)))

-- ---- all of it

-- without the file's name
unfoldable pub command_text : JudgeOptions → List ℕ
command_text options =
    codes "bgp judge" ++ (needs_text options.config
    ++ (addresses_text options.config.parts.session ++ (choices_text options.config
    ++ (refresh_text options ++ asked_text options.asked))))

unfoldable pub judge_line : JudgeOptions → List ℕ
judge_line options =
    codes "  repeat: bgp judge" ++ (needs_text options.config
    ++ (addresses_text options.config.parts.session ++ (choices_text options.config
    ++ (refresh_text options ++ (asked_text options.asked ++ codes " FILE\n")))))
