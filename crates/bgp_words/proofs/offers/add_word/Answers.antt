use Rattle.std.proofs.Common.{rules, ◌∙◌, sym}
use Rattle.bgp_words.proofs.OfferWords.{is_new, no_such_word, there_already}
use Rattle.bgp_words.proofs.offers.add_word.Goals as goal

pub returns-in_err-word : goal.returns-in_err-word
returns-in_err-word c =
    no_such_word c.args.text.now c.args.offers c.read_word.result c.read_word.ensures c.from_residual.result (search rules) (search rules)

pub returns-then-has_word : goal.returns-then-has_word
returns-then-has_word c =
    there_already c.args.text.now c.args.offers c.read_word.result c.read_word.ensures c.in_ok-word.word c.in_ok-word.was
    (sym c.has_word.ensures ∙ c.if-has_word.true)

pub returns-else-has_word : goal.returns-else-has_word
returns-else-has_word c =
    is_new c.args.text.now c.args.offers c.read_word.result c.read_word.ensures c.in_ok-word.word c.in_ok-word.was
    (sym c.has_word.ensures ∙ c.if-has_word.false) c.with_word.result c.with_word.ensures
