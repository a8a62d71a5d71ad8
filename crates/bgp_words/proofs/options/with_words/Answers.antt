use Rattle.std.proofs.Common.{◌≡◌, ◌∙◌, ◌+◌, ◌<◌, ℕ, List, length, take, get_or, refl, sym, ap}
use Rattle.std.specs.Prelude.{fold}
use Rattle.std.proofs.lemmas.List.Sums.{fold_more}
use Rattle.clap.specs.Words.{App}
use Rattle.bgp_words.specs.Options.{AddsWord, with_word}
use Rattle.bgp_words.specs.declared.options.Word.{Word}
use Rattle.bgp_words.proofs.options.with_words.Goals as goal

-- with the next word it has one more of them
one_more : (words : List Word) (i : ℕ) (word d : Word) (start before after : App) → i < length words → word ≡ get_or words i d
    → AddsWord before word after → before ≡ fold with_word start (take i words) → after ≡ fold with_word start (take (i + 1) words)
one_more words i word d start before after lt next adds so_far =
    adds.is ∙ ap (λ (a : App). with_word a word) so_far
    ∙ ap (with_word (fold with_word start (take i words))) next
    ∙ sym (fold_more with_word start words i d lt)

pub loop-word-preserved : goal.loop-word-preserved
loop-word-preserved c = record {
  words =
      one_more c.args.words.now c.loop-word.word-index _ _ _ _ _ c.loop-word-test.true refl
      c.in_ok-command.ensures.words c.loop-word.invariant.words;
  local = λ none. c.in_ok-command.ensures.local (c.loop-word.invariant.local none);
}
