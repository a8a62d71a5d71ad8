-- What `bgp check --html` does with a file, whoever has its octets.
use Rattle.std.specs.Prelude.{◌≡◌, ℕ, false, List, Option}
use Rattle.std.specs.Borrow.{Bor}
use Rattle.mrt.specs.declared.sink.FromWrite.{FromWrite}
use Rattle.bgp_words.specs.declared.check.CheckForm.TheVariants.{Html}
use Rattle.bgp_words.specs.declared.check.Checking.{Checking}
use Rattle.bgp_commands.specs.Answers.{ChecksIn, check_options}
use Rattle.bgp_commands.specs.Sentences.{sentences_of, status_of}
use Rattle.bgp_commands.specs.declared.answer.Answer.{Answer}
use Rattle.bgp_commands.specs.declared.sentence.Sentence.{Sentence}

-- what `check --html` is asked for with this port, so many seconds, and no other option
abbrev pub html_checking : ℕ → ℕ → Checking
html_checking port within = record {
  port = port;
  within = within;
  routes = false;
  settings = false;
  quiet = false;
  form = Html;
}

-- A file is answered as it is by the command `check` with these options. All that there is to say of
-- the answer was said, and this is its exit status.
pub record IsReported (X : Type 0) {R W V : Type 0} (remaining : R → Option (List ℕ))
    (contents : W → Option (List ℕ)) (says : V → V → List Sentence → Type 0) (port within : ℕ)
    (file : Bor (List ℕ)) (reader : R) (old new : FromWrite W) (voice voice' : V) (status : ℕ)
    : Type 0 where
  pub answer : Answer X
  pub answers : ChecksIn remaining contents file reader old new answer
      (html_checking port within).form (check_options (html_checking port within))
  pub said : says voice voice' (sentences_of answer)
  pub is_status : status ≡ status_of answer
