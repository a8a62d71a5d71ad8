use Rattle.std.proofs.Common.{◌≡◌, take, false}
use Rattle.std.specs.Prelude.{fold}
use Rattle.clap.specs.Words.{app_of}
use Rattle.clap.specs.declared.builder.command.Command.TheViews.{out-Command as fields_of}
use Rattle.bgp_words.specs.Options.{with_word}
use Rattle.bgp_words.proofs.options.with_words.Given as goal

-- it has the words so far
abbrev pub invariant-loop-word : goal.invariant-loop-word
invariant-loop-word l = record {
  words : app_of l.command ≡ fold with_word (app_of l.initial.command) (take l.word-index l.words);
  local : (fields_of l.initial.command).has_globals ≡ false → (fields_of l.command).has_globals ≡ false;
}
