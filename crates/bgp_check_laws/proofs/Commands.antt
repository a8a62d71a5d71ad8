-- The command that reproduces a verdict has no control character.
use Rattle.std.proofs.Common.{◌≡◌, ◌++◌, ◌==◌, ℕ, Bool, true, false, not, List, [], Option, None, Some, codes, option_map, refl}
use Rattle.std.specs.Fmt.{decimal}
use Rattle.bgp_prefix.specs.declared.address.Address.TheVariants.{V4}
use Rattle.bgp_prefix.specs.declared.session.Session.{Session}
use Rattle.bgp_open.specs.declared.config.Config.{Config}
use Rattle.bgp_open.specs.declared.families.Families.{Families}
use Rattle.bgp_open.specs.declared.route_offer.RouteOffer.{RouteOffer}
use Rattle.bgp_why_parts.specs.Offers.{offer_text, offers_something}
use Rattle.bgp_check_text.specs.JudgeLine.{addresses_text, asked_text, choices_text, command_text, families_word, flag_text, hold_text, needs_text, number_text, offers_option, refresh_text, word_by}
use Rattle.bgp_check_text.specs.declared.options.Asked.{Asked}
use Rattle.bgp_check_text.specs.declared.options.JudgeOptions.{JudgeOptions}
use Rattle.bgp_visible_laws.specs.Visible.{IsVisible}
use Rattle.bgp_visible_laws.proofs.Texts.{address_visible, decimal_visible, if_visible}
use Rattle.bgp_visible_laws.proofs.Visible.{both, is_word, nothing, word}
use Rattle.bgp_why_laws.proofs.Parts.{offer_visible}

flag_visible : (option : List ℕ) → is_word option ≡ true → (is_given : Bool) → IsVisible (flag_text option is_given)
flag_visible option is is_given = if_visible is_given option [] (word option is) nothing

number_visible : (option : List ℕ) → is_word option ≡ true → (number : Option ℕ) → IsVisible (number_text option (option_map decimal number))
number_visible option is None = nothing
number_visible option is (Some number) = both (word option is) (decimal_visible number)

needs_visible : (config : Config) → IsVisible (needs_text config)
unfolding needs_text
needs_visible config =
    both (word (codes " --local-as ") refl) (both (decimal_visible config.parts.local_as) (both (word (codes " --peer-as ") refl)
    (both (decimal_visible config.parts.peer_as) (both (word (codes " --local-id ") refl) (address_visible (V4 config.parts.local_id))))))

addresses_visible : (session : Session) → IsVisible (addresses_text session)
unfolding addresses_text
addresses_visible session =
    both (word (codes " --local ") refl) (both (address_visible session.local) (both (word (codes " --peer ") refl) (address_visible session.peer)))

hold_visible : (hold : ℕ) → IsVisible (hold_text hold)
hold_visible hold = if_visible (hold == 90) [] _ nothing (both (word (codes " --hold ") refl) (decimal_visible hold))

families_are : (v4 v6 : Bool) → is_word (word_by v4 v6) ≡ true
families_are true true = refl
families_are true false = refl
families_are false true = refl
families_are false false = refl

families_visible : (families : Families) → IsVisible (families_word families)
families_visible families = word (word_by families.v4 families.v6) (families_are families.v4 families.v6)

offers_visible : (offers : RouteOffer) → IsVisible (offers_option offers)
unfolding offers_option
offers_visible offers = if_visible (offers_something offers) (codes " --offers " ++ offer_text offers) [] (both (word (codes " --offers ") refl) (offer_visible offers)) nothing

choices_visible : (config : Config) → IsVisible (choices_text config)
unfolding choices_text
choices_visible config =
    both (hold_visible config.parts.hold) (both (word (codes " --families ") refl) (both (families_visible config.parts.families)
    (both (flag_visible (codes " --as2") refl (not config.parts.as4)) (both (flag_visible (codes " --extended") refl config.parts.session.extended)
    (both (offers_visible config.parts.offers) (both (flag_visible (codes " --delay-open") refl config.parts.delay_open)
    (both (word (codes " --large-hold ") refl) (decimal_visible config.parts.large_hold))))))))

refresh_visible : (options : JudgeOptions) → IsVisible (refresh_text options)
unfolding refresh_text
refresh_visible options = both (flag_visible (codes " --skip-refresh") refl options.skips_refresh) (flag_visible (codes " --no-refresh") refl options.no_refresh)

asked_visible : (asked : Asked) → IsVisible (asked_text asked)
unfolding asked_text
asked_visible asked =
    both (number_visible (codes " --port ") refl asked.port) (both (number_visible (codes " --local-port ") refl asked.local_port)
    (both (number_visible (codes " --connection ") refl asked.connection) (number_visible (codes " --within ") refl asked.within)))

pub command_visible : (options : JudgeOptions) → IsVisible (command_text options)
unfolding command_text
command_visible options =
    both (word (codes "bgp judge") refl) (both (needs_visible options.config) (both (addresses_visible options.config.parts.session)
    (both (choices_visible options.config) (both (refresh_visible options) (asked_visible options.asked)))))
