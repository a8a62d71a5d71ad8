-- What a wire in memory tells of a call.
use Rattle.std.proofs.Common.{◌≡◌, ◌∙◌, ◌++◌, append-nil, append_assoc, ℕ, ◌+◌, List, [], ◌∷◌, Bool, true, false, IsTrue, IsFalse, Option, Result, Ok, Err, IfOk, OnErr, is_ok, if◌then◌else◌, length, take, ap, sym, refl}
use Rattle.std.specs.Prelude.{slice_get}
use Rattle.mrt.specs.Failures.{failures_after}
use Rattle.mrt.specs.declared.failure.Failed.{Failed}
use Rattle.bgp_talk.specs.declared.mem_wire.MemRead.{MemRead}
use Rattle.bgp_talk.specs.declared.wire.ReadAnswer.{ReadAnswer}
use Rattle.bgp_talk.specs.declared.wire.ReadAnswer.TheVariants as answers
use Rattle.bgp_talk.specs.Account.{Telling, Asked, Read, Clock, taken_by, taken_of, Broke, Wrote, read_told, failures_after_read}
use Rattle.bgp_talk.specs.MemWire.{WireState, Calls, TookWhatIsTold, Tells, IsWriteAnswer, next_write_upset, after_write, read_tells, next_read_fails, after_read_call, after_read_place, place_after, told_at, failures_told}

pub connect_failures : {X : Type 0} (n : ℕ) (r : Result X Failed) (b : Bool) → is_ok r ≡ b → (if b then n else n + 1) ≡ failures_after n r
connect_failures n (Ok x) true is = refl
connect_failures n (Ok x) false is = absurd (cc)
connect_failures n (Err f) true is = absurd (cc)
connect_failures n (Err f) false is = refl

pub wrote_ok : (s next : WireState) (octets : List ℕ) (r : Result ℕ Failed) → IsWriteAnswer (next_write_upset s) s.most octets r
    → next ≡ after_write s octets r → IfOk r (λ count. Tells s (Wrote (length octets) (take count octets) ∷ []) next)
wrote_ok s next octets (Ok count) answer is = (after_write s octets (Ok count), (octets, Ok count, refl, answer, refl, refl), is)
wrote_ok s next octets (Err f) answer is = tt

pub wrote_err : (s next : WireState) (octets : List ℕ) (r : Result ℕ Failed) → IsWriteAnswer (next_write_upset s) s.most octets r
    → next ≡ after_write s octets r → OnErr r (Tells s (Wrote (length octets) [] ∷ []) next)
wrote_err s next octets (Ok count) answer is = tt
wrote_err s next octets (Err f) answer is = (after_write s octets (Err f), (octets, Err f, refl, answer, refl, refl), is)

-- a read that is to fail
pub read_broke : (s : WireState) (room : ℕ) (b : Bool) → b ≡ next_read_fails s → IsTrue b → Broke ≡ read_tells s room
read_broke s room b is fails =
    ap (λ (v : Bool). if v then Broke else told_at (slice_get s.reads s.next_read) room) (sym fails ∙ is)

pub broke_place : (s next : WireState) (b : Bool) → next ≡ after_read_call s → b ≡ next_read_fails s → IsTrue b → next ≡ after_read_place s
broke_place s next b same is fails =
    same ∙ ap (λ (v : Bool). record (after_read_call s) { next_read = if v then s.next_read else place_after s.next_read (length s.reads) }) (sym fails ∙ is)

-- one that isn't
pub read_here : (s : WireState) (room : ℕ) (b : Bool) (answer : Option MemRead) → b ≡ next_read_fails s → IsFalse b → answer ≡ slice_get s.reads s.next_read
    → told_at answer room ≡ read_tells s room
read_here s room b answer is fails here =
    ap (λ (a : Option MemRead). told_at a room) here
    ∙ ap (λ (v : Bool). if v then Broke else told_at (slice_get s.reads s.next_read) room) (sym fails ∙ is)

pub here_place : (s next : WireState) (b : Bool) → next ≡ after_read_call s → b ≡ next_read_fails s → IsFalse b
    → record next { next_read = place_after next.next_read (length next.reads) } ≡ after_read_place s
here_place s next b same is fails =
    ap (λ (v : WireState). record v { next_read = place_after v.next_read (length v.reads) }) same
    ∙ ap (λ (v : Bool). record (after_read_call s) { next_read = if v then s.next_read else place_after s.next_read (length s.reads) }) (sym fails ∙ is)

pub failures_are : (n : ℕ) (answer : ReadAnswer) (buffer : List ℕ) → failures_after_read n answer ≡ failures_told n (read_told answer buffer)
failures_are n (answers.Bytes count) buffer = refl
failures_are n answers.Nothing buffer = refl
failures_are n answers.Closed buffer = refl
failures_are n answers.Failed buffer = refl

-- the octets that it took are those that it tells
pub took_what_is_told : TookWhatIsTold
took_what_is_told a b [] tells = ap (λ (v : WireState). v.taken) tells ∙ sym (append-nil a.taken)
took_what_is_told a b (told ∷ account) tells =
    took_what_is_told tells.0 b account tells.2
    ∙ ap (λ (o : List ℕ). o ++ taken_of account) (one_took a tells.0 told tells.1)
    ∙ append_assoc a.taken (taken_by told) (taken_of account)
  where
    one_took : (a next : WireState) (told : Telling) → Calls a told next → next.taken ≡ a.taken ++ taken_by told
    one_took a next (Asked answer) calls = ap (λ (v : WireState). v.taken) calls.1 ∙ sym (append-nil a.taken)
    one_took a next (Read room told) calls = ap (λ (v : WireState). v.taken) calls.1 ∙ sym (append-nil a.taken)
    one_took a next (Clock second) calls = ap (λ (v : WireState). v.taken) calls.1 ∙ sym (append-nil a.taken)
    one_took a next (Wrote given octets) calls =
        ap (λ (v : WireState). v.taken) calls.5 ∙ ap (λ (o : List ℕ). a.taken ++ o) (sym calls.4)
