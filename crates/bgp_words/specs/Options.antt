-- A word of a command as clap has it, and a command with one word more.
use Rattle.std.specs.Prelude.{◌≡◌}
use Rattle.clap.specs.Words.{App, Rule, with_rule}
use Rattle.bgp_words.specs.Words.{file_word, flag_word, letter_word, option_word}
use Rattle.bgp_words.specs.Words.{required_word, default_word}
use Rattle.bgp_words.specs.declared.options.Word.{Word}
use Rattle.bgp_words.specs.declared.options.Word.TheVariants as words

abbrev pub rule_by : Word → Rule
rule_by (words.File name help) = file_word name.now
rule_by (words.Flag name help) = flag_word name.now
rule_by (words.Letter name letter help) = letter_word name.now letter
rule_by (words.Option name help) = option_word name.now
rule_by (words.Required name help) = required_word name.now
rule_by (words.Default name value help) = default_word name.now value.now

abbrev pub with_word : App → Word → App
with_word command word = with_rule command (rule_by word)

pub record AddsWord (old : App) (word : Word) (new : App) : Type 0 where
  pub is : new ≡ with_word old word
