-- What is asked about: an UPDATE that is written, one octet, a field of a header.
use Rattle.std.proofs.Common.{◌≡◌, ◌<◌, ◌%◌, ℕ, Bool, true, false, IsTrue, IsSome, IfSome, IfNone, MatchOption, List, [], ◌∷◌, ◌++◌, Option, None, Some, refl, sym, ap, subst, ◌∙◌, append_assoc, arith}
use Rattle.std.specs.Bool.{then_some}
use Rattle.byteorder.specs.Endian.{big_bytes}
use Rattle.bgp_wire.specs.Header.{header_octets}
use Rattle.bgp_wire.specs.Message.{message_octets}
use Rattle.bgp_update.specs.Laws.{empty_update}

pub empty_written : (old : List ℕ) → old ≡ [] → ((old ++ header_octets 2 23) ++ big_bytes 2 0) ++ big_bytes 2 0 ≡ empty_update
unfolding message_octets
empty_written old e = rw e (append_assoc (header_octets 2 23) (big_bytes 2 0) (big_bytes 2 0))

pub one_octet : (n : ℕ) → n < 256 → big_bytes 1 n ≡ n ∷ []
one_octet n small = let e : n % 256 ≡ n = omega (arith, small) in ap (λ (v : ℕ). v ∷ []) e

pub then_could : (could : Bool) (n : ℕ) (x : Option ℕ) (F : ℕ → Type 0) → x ≡ then_some could n → (IsTrue could → F n) → IfSome x F
then_could true n x F e h = subst (λ (v : Option ℕ). IfSome v F) (sym e) (h refl)
then_could false n x F e h = subst (λ (v : Option ℕ). IfSome v F) (sym e) tt

pub none_some : {X : Type 0} (x : Option X) → x ≡ None → IsSome x → ⊥
none_some {X = X} x e some = let k : IsSome {T = X} None = subst (λ (v : Option X). IsSome v) e some in cc

pub field_so : (x : Option ℕ) (n m : ℕ) (Whole : Type 0) (F : ℕ → Type 0) → n ≡ m → IfSome x (λ v. v ≡ n) → IfSome x F → IfNone x (¬ F n)
    → MatchOption x (Whole → ¬ F m) (λ v. (v ≡ m) × F v)
field_so None n m Whole F e is could none = λ whole f. none (subst F (sym e) f)
field_so (Some v) n m Whole F e is could none = (is ∙ e, could)
