use Rattle.std.proofs.Common.{◌≡◌, ◌∙◌, ◌<◌, ◌++◌, ℕ, List, [], ◌∷◌, Option, None, Some, refl, sym, ap, length, take, slice_set, remove, zero, suc, false, ◌==◌, arith}
use Rattle.std.specs.Io.KnownBytes.{Consumes, prepend_known}
use Rattle.std.specs.List.{slice_get}
use Rattle.bgp_recording_tool.proofs.peeked.PeekedRead.read.Goals as goal

-- the first of a list, and the others
first_and_others : (xs : List ℕ) (x : ℕ) → Some x ≡ slice_get xs 0 → xs ≡ x ∷ remove xs 0
first_and_others [] x is = absurd (let no = is in cc)
first_and_others (y ∷ ys) x is = ap (λ (z : ℕ). z ∷ ys) (let same = is in cc)

-- an octet that is put at the front of a buffer
put_first : (buffer : List ℕ) (octet : ℕ) → 0 < length buffer → take 1 (slice_set buffer 0 octet) ≡ octet ∷ []
put_first [] octet room = absurd (omega (arith, room))
put_first (first ∷ later) octet room = refl

-- there is room
some_room : (room : ℕ) → false ≡ (room == 0) → 0 < room
some_room zero is = absurd cc
some_room (suc room) is = omega arith

-- an octet was taken from the front
gave_one : (known : Option (List ℕ)) (old new given : List ℕ) (octet : ℕ) → old ≡ octet ∷ new → given ≡ octet ∷ []
    → Consumes (prepend_known old known) (prepend_known new known) given
gave_one None old new given octet front one = tt
gave_one (Some rest) old new given octet front one =
    ap (λ (o : List ℕ). o ++ rest) front ∙ sym (ap (λ (o : List ℕ). o ++ (new ++ rest)) one)

pub returns-in-Some-clause-bytes : goal.returns-in-Some-clause-bytes
returns-in-Some-clause-bytes g c = (
  gave_one (g.R.Read.remaining c.args.self.now.reader) c.args.self.now.front.items c.pop_at.new.self.items _ c.in-Some.octet
      (first_and_others c.args.self.now.front.items c.in-Some.octet c.in-Some.ensures.value
      ∙ sym (ap (λ (o : List ℕ). c.in-Some.octet ∷ o) c.in-Some.ensures.items))
      (put_first c.args.buf.now c.in-Some.octet (some_room (length c.args.buf.now) (sym c.if-is_empty.false ∙ c.is_empty.ensures))),
  λ none. absurd (let no = none in cc),
)
