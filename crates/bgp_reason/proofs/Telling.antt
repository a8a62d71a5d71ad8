-- What records tell, one after another.
use Rattle.std.proofs.Common.{◌≡◌, ◌+◌, ℕ, List, [], ◌∷◌, ◌++◌, Option, None, Some, length, refl, sym, ap, ◌∙◌, arith}
use Rattle.bgp_prefix.specs.Shown.{ShownRecord, Received, Sent, Changed}
use Rattle.bgp_machine.specs.declared.fsm.Fsm.{Fsm}
use Rattle.bgp_machine.specs.declared.fsm.Fsm.TheVariants as fsms
use Rattle.bgp_machine.specs.Going.{fsm_at}
use Rattle.bgp_judge.specs.Told as judge
use Rattle.bgp_reason.specs.declared.told.Told.{Told}
use Rattle.bgp_reason.specs.Told.{ToldOneMore, ToldStateIsTold, nothing_told, told_by_change, told_by_message, told_from, told_with}
use Rattle.bgp_reason.proofs.Owing.{fsm_by_message}

told_joined : (n : ℕ) (t : Told) (xs : List ShownRecord) (r : ShownRecord) → told_from n t (xs ++ r ∷ []) ≡ told_with (n + length xs + 1) r (told_from n t xs)
told_joined n t [] r = let e : n + 1 ≡ n + length {A = ShownRecord} [] + 1 = omega arith in ap (λ (k : ℕ). told_with k r t) e
told_joined n t (x ∷ xs) r =
    let e : (n + 1) + length xs + 1 ≡ n + length (x ∷ xs) + 1 = omega arith in
    told_joined (n + 1) (told_with (n + 1) x t) xs r ∙ ap (λ (k : ℕ). told_with k r (told_from (n + 1) (told_with (n + 1) x t) xs)) e

pub one_more : ToldOneMore
one_more records shown =
    let e : 0 + length records + 1 ≡ length records + 1 = omega arith in
    told_joined 0 nothing_told records shown ∙ ap (λ (k : ℕ). told_with k shown (told_from 0 nothing_told records)) e

by_change : (n : ℕ) (o : Option Fsm) (t : Told) (j : judge.Told) → t.state ≡ j.fsm → (told_by_change n o t).state ≡ (judge.told_by_change o j).fsm
by_change n None t j e = e
by_change n (Some fsms.Idle) t j e = refl
by_change n (Some fsms.Connect) t j e = refl
by_change n (Some fsms.Active) t j e = refl
by_change n (Some fsms.OpenSent) t j e = refl
by_change n (Some fsms.OpenConfirm) t j e = refl
by_change n (Some fsms.Established) t j e = refl

by_message : (n : ℕ) (f : Fsm) (t : Told) → (told_by_message n f t).state ≡ t.state
by_message n fsms.Idle t = refl
by_message n fsms.Connect t = refl
by_message n fsms.Active t = refl
by_message n fsms.OpenSent t = refl
by_message n fsms.OpenConfirm t = refl
by_message n fsms.Established t = refl

one_state : (n : ℕ) (t : Told) (j : judge.Told) (records : List ShownRecord) → t.state ≡ j.fsm → (told_from n t records).state ≡ (judge.told_from j records).fsm
one_state n t j [] e = e
one_state n t j (Received u o ∷ records) e =
    one_state (n + 1) (told_with (n + 1) (Received u o) t) (judge.told_next j (Received u o)) records (by_message (n + 1) t.state t ∙ e ∙ sym (fsm_by_message j.fsm j o))
one_state n t j (Sent u o ∷ records) e = one_state (n + 1) t j records e
one_state n t j (Changed u x y ∷ records) e =
    one_state (n + 1) (told_with (n + 1) (Changed u x y) t) (judge.told_next j (Changed u x y)) records (by_change (n + 1) (fsm_at y) t j e)

pub state_so : ToldStateIsTold
state_so records = one_state 0 nothing_told judge.fresh_told records refl
