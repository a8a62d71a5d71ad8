-- Pieces of a text that are put one behind another make one text.
use Rattle.std.proofs.Common.{◌≡◌, ◌∙◌, ◌++◌, ◌+◌, ℕ, Bool, true, false, List, [], refl, append-nil, sym, ap, subst, append_assoc}
use Rattle.mrt.specs.declared.sink.Sink as sinks
use Rattle.bgp_text.specs.declared.outlet.Outlet.{Outlet}
use Rattle.bgp_text.specs.Outlet.{IsKept, Passes}

-- one piece was put, and then another
module _ {W : Type 0} (takes : W → W → List ℕ → Type 0) (failures : W → ℕ)
    (joined : (a b c : W) (xs ys : List ℕ) → takes a b xs → takes b c ys → takes a c (xs ++ ys))
    (a b c : W) (start xs ys taken left middle taken' left' held : List ℕ)
    (took : takes a b taken) (whole : start ++ xs ≡ taken ++ left)
    (took' : takes b c taken') (whole' : middle ++ ys ≡ taken' ++ left') where
  -- what was held in between was taken, or is held
  in_turn : left ≡ middle → start ++ (xs ++ ys) ≡ (taken ++ taken') ++ left'
  in_turn is =
      sym (append_assoc start xs ys) ∙ ap (λ (o : List ℕ). o ++ ys) whole ∙ append_assoc taken left ys
      ∙ ap (λ (o : List ℕ). taken ++ (o ++ ys)) is ∙ ap (λ (o : List ℕ). taken ++ o) whole' ∙ sym (append_assoc taken taken' left')

  -- both pieces, as far as the sink took them
  both_kept : (x y z : Bool) → IsKept failures a b left middle x y → IsKept failures b c left' held y z
      → (t l : List ℕ) × takes a c t × (start ++ (xs ++ ys) ≡ t ++ l) × IsKept failures a c l held x z
  both_kept false false false first second =
      (taken ++ taken', left', joined a b c taken taken' took took', in_turn first.0, (second.0, second.1 ∙ first.1))
  both_kept false false true first second =
      (taken ++ taken', left', joined a b c taken taken' took took', in_turn first.0, second ∙ ap (λ (n : ℕ). n + 1) first.1)
  both_kept false true true first second = (
    taken,
    left ++ ys,
    subst (λ (w : W). takes a w taken) (sym second) took,
    sym (append_assoc start xs ys) ∙ ap (λ (o : List ℕ). o ++ ys) whole ∙ append_assoc taken left ys,
    ap failures second ∙ first,
  )
  both_kept true true true first second = (
    taken,
    left ++ ys,
    subst (λ (w : W). takes a w taken) (sym second) took,
    sym (append_assoc start xs ys) ∙ ap (λ (o : List ℕ). o ++ ys) whole ∙ append_assoc taken left ys,
    second ∙ first,
  )
  both_kept true false z first second = absurd first
  both_kept x true false first second = absurd second

-- nothing is put
nothing_kept : {W : Type 0} (failures : W → ℕ) (a : W) (held : List ℕ) (failed : Bool) → IsKept failures a a held held failed failed
nothing_kept failures a held false = (refl, refl)
nothing_kept failures a held true = refl

pub nothing_yet : {W : Type 0} (sink : sinks.Ghosts W) → ((a : W) → sink.takes a a []) → (old : Outlet W sink) (held : List ℕ)
    → Passes old old held [] held
nothing_yet sink nothing old held = record {
  same_sink = refl;
  taken = [];
  left = held;
  took = nothing old.sink.now;
  whole = append-nil held;
  kept = nothing_kept sink.failures old.sink.now held old.has_failed;
}

-- a text is held, behind what was held
pub more_held : {W : Type 0} (sink : sinks.Ghosts W) → ((a : W) → sink.takes a a []) → (old : Outlet W sink) (held text : List ℕ)
    → Passes old old held text (held ++ text)
more_held sink nothing old held text = record {
  same_sink = refl;
  taken = [];
  left = held ++ text;
  took = nothing old.sink.now;
  whole = refl;
  kept = nothing_kept sink.failures old.sink.now (held ++ text) old.has_failed;
}

-- what a sink takes at once is what it takes piece by piece: its law
pub record Joins {W : Type 0} (sink : sinks.Ghosts W) : Type 0 where
  pub joined : (a b c : W) (xs ys : List ℕ) → sink.takes a b xs → sink.takes b c ys → sink.takes a c (xs ++ ys)

-- what is put piece by piece is put as one
pub and_then : {W : Type 0} {sink : sinks.Ghosts W} → Joins sink → {old middle new : Outlet W sink} {start held held' xs ys : List ℕ}
    → Passes old middle start xs held → Passes middle new held ys held' → Passes old new start (xs ++ ys) held'
and_then {W} {sink} law {old} {middle} {new} {start} {held} {held'} {xs} {ys} first second =
    let both = both_kept sink.takes sink.failures law.joined old.sink.now middle.sink.now new.sink.now start xs ys
    first.taken first.left held second.taken second.left held' first.took first.whole second.took second.whole
    old.has_failed middle.has_failed new.has_failed first.kept second.kept
    in
    record {
      same_sink = second.same_sink ∙ first.same_sink;
      taken = both.0;
      left = both.1;
      took = both.2;
      whole = both.3;
      kept = both.4;
    }

-- nothing is put behind a piece
pub and_nothing : {W : Type 0} {sink : sinks.Ghosts W} → Joins sink → {old middle new : Outlet W sink} {start held held' xs : List ℕ}
    → Passes old middle start xs held → Passes middle new held [] held' → Passes old new start xs held'
and_nothing {W} {sink} law {old} {middle} {new} {start} {held} {held'} {xs} first second =
    subst (λ (text : List ℕ). Passes old new start text held') (append-nil xs) (and_then law first second)
