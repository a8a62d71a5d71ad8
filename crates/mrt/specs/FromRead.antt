-- A source made of a reader: what it holds, and what it gives.
use Rattle.std.specs.Prelude.{◌≡◌, ℕ, ◌+◌, List, [], ◌++◌, length, Option, None, Bool, false}
use Rattle.std.specs.Prelude.{IsTrue}
use Rattle.std.specs.declared.io.ErrorKind.{ErrorKind}
use Rattle.std.specs.Io.KnownBytes.{Consumes, IsAtEnd}
use Rattle.mrt.specs.OverCalls.{counts_nothing, counts_joined, consumes_nothing, consumes_joined}
use Rattle.mrt.specs.declared.source.FromRead.{FromRead}

-- what it holds: the reader, how many octets it has given, how often it failed, whether the last
-- read with room told the end, and the kind of the error by which it failed last
pub record ReaderState (R : Type 0) : Type 0 where
  pub reader : R
  pub given : ℕ
  pub failures : ℕ
  pub has_ended : Bool
  pub last_error : Option ErrorKind

abbrev pub reader_state : {R : Type 0} → FromRead R → ReaderState R
reader_state source = record {
  reader = source.reader;
  given = source.given;
  failures = source.failures;
  has_ended = source.has_ended;
  last_error = source.last_error;
}

-- one that has given nothing yet
abbrev pub fresh_reader : {R : Type 0} → R → ReaderState R
fresh_reader reader = record {
  reader = reader;
  given = 0;
  failures = 0;
  has_ended = false;
  last_error = None;
}

-- one that failed once more, by an error of the reader if there was one
abbrev pub failed_reader : {R : Type 0} → ReaderState R → Option ErrorKind → ReaderState R
failed_reader state error = record state {
  failures = state.failures + 1;
  has_ended = false;
  last_error = error;
}

-- it has told the end only where the reader has nothing left, as far as the reader tells that
abbrev pub EndsRightly : {R : Type 0} → (R → Option (List ℕ)) → ReaderState R → Type 0
EndsRightly remaining state = IsTrue state.has_ended → IsAtEnd (remaining state.reader)

-- From one state to another it gave these octets: they are the next ones of the reader, as far as
-- the reader tells that, and the count of octets given rose by as many.
pub record Gives {R : Type 0} (remaining : R → Option (List ℕ))
    (old new : ReaderState R) (octets : List ℕ) : Type 0 where
  pub next : Consumes (remaining old.reader) (remaining new.reader) octets
  pub count : new.given ≡ old.given + length octets
  pub ended : EndsRightly remaining old → EndsRightly remaining new

-- from a state to itself it gave nothing
pub gives_nothing : {R : Type 0} (remaining : R → Option (List ℕ)) (a : ReaderState R) →
    Gives remaining a a []
gives_nothing remaining a = record {
  next = consumes_nothing (remaining a.reader);
  count = counts_nothing a.given;
  ended = λ rightly. rightly;
}

-- what it gave, and then more, it gave in all
pub gives_joined : {R : Type 0} (remaining : R → Option (List ℕ)) (a b c : ReaderState R)
    (xs ys : List ℕ) →
    Gives remaining a b xs → Gives remaining b c ys → Gives remaining a c (xs ++ ys)
gives_joined remaining a b c xs ys first second = record {
  next = consumes_joined (remaining a.reader) (remaining b.reader) (remaining c.reader)
      xs ys first.next second.next;
  count = counts_joined a.given b.given c.given xs ys first.count second.count;
  ended = λ rightly. second.ended (first.ended rightly);
}
