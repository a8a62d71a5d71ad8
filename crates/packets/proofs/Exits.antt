-- What is known of a call's answer, from one that was made after octets were taken.
use Rattle.std.proofs.Common.{Result, Ok, Err, IfOk, OnOk, OnErr}

pub ok_then : {X E : Type 0} (r : Result X E) (P Q : X → Type 0) → ((x : X) → P x → Q x) → IfOk r P → IfOk r Q
ok_then (Ok x) P Q step held = step x held
ok_then (Err e) P Q step held = tt

pub err_then : {X E : Type 0} (r : Result X E) (P Q : Type 0) → (P → Q) → OnErr r P → OnErr r Q
err_then (Ok x) P Q step held = tt
err_then (Err e) P Q step held = step held

pub done_then : {X E : Type 0} (r : Result X E) (P Q : Type 0) → (P → Q) → OnOk r P → OnOk r Q
done_then (Ok x) P Q step held = step held
done_then (Err e) P Q step held = tt

-- what holds anyhow holds of an error
pub on_err : {X E : Type 0} (r : Result X E) (P : Type 0) → P → OnErr r P
on_err (Ok x) P held = tt
on_err (Err e) P held = held
