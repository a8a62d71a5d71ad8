use Rattle.clap.specs.Words.{found_of, rows_of}
use Rattle.bgp_open.specs.RouteOffer.{nothing}
use Rattle.bgp_words.specs.Offers.{IsOffersText}
use Rattle.bgp_words.proofs.FoundValues.{met_none, met_some, value_or, value_or_none}
use Rattle.bgp_words.proofs.values.offers_of.Goals as goal

pub returns-in_default : goal.returns-in_default
returns-in_default c =
    value_or_none IsOffersText c.args.name.now (rows_of (found_of c.args.matches.now)) nothing
    (met_none (found_of c.args.matches.now) c.args.name.now c.get_str.result c.get_str.ensures c.in_default.is)

pub returns : goal.returns
returns c =
    value_or IsOffersText c.args.name.now (rows_of (found_of c.args.matches.now)) nothing c.in-Some.word.now
    (met_some (found_of c.args.matches.now) c.args.name.now c.get_str.result c.get_str.ensures c.in-Some.word c.in-Some.is)
    c.read_offers.result c.read_offers.ensures _ c.ok_or.result c.ok_or.ensures.value
