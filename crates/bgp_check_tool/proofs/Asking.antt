-- What is there of an option.
use Rattle.std.proofs.Common.{◌≡◌, Option, Some, IfSome}

pub some_is : {X : Type 0} (o : Option X) (x : X) (P : X → Type 0) → o ≡ Some x → IfSome o P → P x
some_is o x P is h = rw is at h
