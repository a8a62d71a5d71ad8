use Rattle.std.proofs.Common.{rules, subst}
use Rattle.std.proofs.lemmas.Str.Pattern.{IsSplitOnceResult}
use Rattle.bgp_words.proofs.OfferWords.{last_one, last_word, more_words, no_word, none_more, one_more}
use Rattle.bgp_words.proofs.offers.read_offers.Goals as goal

pub loop-word-init : goal.loop-word-init
loop-word-init c = (search rules, λ w. (λ a. a, λ a. a))

pub returns-in_err-offers : goal.returns-in_err-offers
returns-in_err-offers c =
    let l = c.loop-word in
    let cut = subst (IsSplitOnceResult 44 l.rest.now) c.in-Some.is c.split_once.ensures.cases in
    none_more c.args.text.now l.rest.now l.offers l.invariant.1 c.from_residual.result (search rules)
    (no_word l.rest.now l.offers c.in-Some.word c.in-Some.more cut c.add_word.result c.add_word.ensures (search rules))

pub loop-word-preserved : goal.loop-word-preserved
loop-word-preserved c =
    let l = c.loop-word in
    let cut = subst (IsSplitOnceResult 44 l.rest.now) c.in-Some.is c.split_once.ensures.cases in (
      search rules,
      one_more c.args.text.now l.rest.now l.offers l.invariant.1 c.in-Some.more.now c.in_ok-offers.offers
          (more_words l.rest.now l.offers c.in-Some.word c.in-Some.more cut c.add_word.result c.add_word.ensures c.in_ok-offers.offers c.in_ok-offers.was),
    )

pub returns : goal.returns
returns c =
    let l = c.loop-word in
    last_one c.args.text.now l.rest.now l.offers l.invariant.1 c.add_word-2.result
    (last_word l.rest.now l.offers c.split_once.result c.split_once.ensures.cases c.in_default.is c.add_word-2.result c.add_word-2.ensures)
