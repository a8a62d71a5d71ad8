-- What a source in memory gives from one state to another.
use Rattle.std.specs.Prelude.{◌≡◌, ◌≢◌, ℕ, ◌+◌, List, [], ◌++◌, length, drop}
use Rattle.std.specs.Prelude.{IsTrue, is_some, Option, None, Some}
use Rattle.std.proofs.Common.{◌∙◌, ap, sym, refl, append_assoc}
use Rattle.std.proofs.Math.Seq.{drop-length}
use Rattle.std.proofs.lemmas.Bool.{false≢true}
use Rattle.mrt.specs.MemSource.{SourceState, source_state, octets_left}
use Rattle.mrt.specs.OverCalls.{counts_nothing, counts_joined}
use Rattle.mrt.specs.declared.mem_source.MemSource.{MemSource}
use Rattle.mrt.specs.declared.mem_source.SourceUpset.{SourceUpset}
use Rattle.mrt.specs.declared.mem_source.SourceUpset.TheVariants.{End}

-- It gave these octets, the next ones of those that it holds. Where nothing else is to happen, it
-- does not fail, and has told its end only where it has given all.
pub record Gives (old new : SourceState) (octets : List ℕ) : Type 0 where
  pub held : new.octets ≡ old.octets
  pub next : octets_left old ≡ octets ++ octets_left new
  pub count : new.given ≡ old.given + length octets
  pub calm : old.upset ≡ None → (new.upset ≡ None) × (new.failures ≡ old.failures)
  pub ended : new.upset ≡ None → IsTrue new.has_ended → octets_left new ≡ []

-- where nothing else is to happen, no end is
no_end : (upset : Option SourceUpset) → upset ≡ None → upset ≢ Some End
no_end upset none is_end = false≢true (sym (ap is_some none) ∙ ap is_some is_end)

-- from a state to itself it gave nothing
pub gives_nothing : {A : Type 0} (a : MemSource A) → Gives (source_state a) (source_state a) []
gives_nothing a = record {
  held = refl;
  next = refl;
  count = counts_nothing a.given;
  calm = λ calm. (calm, refl);
  ended = λ calm told.
      ap (λ count. drop count a.octets.items) (a.told told (no_end a.upset calm))
      ∙ drop-length a.octets.items;
}

-- what it gave, and then more, it gave in all
pub gives_joined : (a b c : SourceState) (xs ys : List ℕ) →
    Gives a b xs → Gives b c ys → Gives a c (xs ++ ys)
gives_joined a b c xs ys first second = record {
  held = second.held ∙ first.held;
  next =
      first.next ∙ ap (λ left. xs ++ left) second.next ∙ sym (append_assoc xs ys (octets_left c));
  count = counts_joined a.given b.given c.given xs ys first.count second.count;
  calm = λ calm.
      let early = first.calm calm in
      let late = second.calm early.0 in
      (late.0, late.1 ∙ early.1);
  ended = second.ended;
}
