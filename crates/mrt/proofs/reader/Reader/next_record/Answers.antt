use Rattle.std.proofs.Common.{◌≡◌, ◌∙◌, ℕ, Bool, true, false, ◌+◌, ◌≤◌, length, refl, sym, ap, subst, arith, None, Ok, Err, OnOk, OnErr, Result, is_some, if◌then◌else◌}
use Rattle.std.specs.Result.{is_err}
use Rattle.mrt.specs.declared.fault.CaptureFault.{CaptureFault}
use Rattle.mrt.specs.declared.fault.FaultKind.TheVariants as kinds
use Rattle.mrt.specs.Progress.{state_of, fault_at}
use Rattle.mrt.specs.Reader.{ReaderState, Ends, at_fault, device_count}
use Rattle.mrt.proofs.Kept.{room_kept}
use Rattle.mrt.proofs.Refusing.{first_call, open_next, no_memory}
use Rattle.mrt.proofs.reader.Reader.next_record.Goals as goal

no_failure : (count : ℕ) (fault : Bool) (found : CaptureFault) (state : ReaderState) → found ≡ fault_at state kinds.Memory
    → count ≡ count + (if fault then 0 else device_count found.kind)
no_failure count fault found state is =
    let kind = ap (λ (f : CaptureFault). device_count f.kind) is in
    elim fault as (λ (b : Bool). count ≡ count + (if b then 0 else device_count found.kind)) [
      | true ↦ omega arith
      | false ↦ omega arith
    ]

-- what holds of an error holds where there is one
of_error : {X E : Type 0} {P : Type 0} (r : Result X E) (b : Bool) → b ≡ is_err r → b ≡ true → OnErr r P → P
of_error (Ok x) b is so held = absurd cc
of_error (Err e) b is so held = held

-- what holds of no error holds where there is none
of_no_error : {X E : Type 0} {P : Type 0} (r : Result X E) (b : Bool) → b ≡ is_err r → b ≡ false → OnOk r P → P
of_no_error (Ok x) b is so held = held
of_no_error (Err e) b is so held = absurd cc

pub returns-then-is_err : goal.returns-then-is_err
returns-then-is_err g c =
    let v : state_of c.self.inside.progress ≡ c.args.self.now = c.self.view_is in
    let none : c.args.self.now.fault ≡ None = ap (λ (s : ReaderState). s.fault) (sym v) ∙ c.in_default.is in
    let not_ended : c.args.self.now.is_ended ≡ false = ap (λ (s : ReaderState). s.is_ended) (sym v) ∙ c.if-self.false in
    let short = of_error c.make_room.result c.is_err.result c.is_err.ensures.value c.if-is_err.true c.make_room.ensures.err in
    let fresh = sym v ∙ first_call (length c.self.inside.buffer.items) (state_of c.self.inside.progress) c.self.invariant.1 short c.in_default.is in
    let fault : c.refuse.result ≡ fault_at c.args.self.now kinds.Memory = c.refuse.ensures.fault ∙ ap (λ (s : ReaderState). fault_at s kinds.Memory) v in
    let state : state_of c.refuse.new.self ≡ at_fault c.args.self.now c.refuse.result =
    c.refuse.ensures.state ∙ ap (λ (s : ReaderState). at_fault s c.refuse.result) v in
    let passed : c.refuse.new.self.passed ≡ c.args.self.now.passed = ap (λ (s : ReaderState). s.passed) state in (
      (
        refl,
        λ _. tt,
        (
          open_next _ _ _ _ _ _ _ _ none not_ended
              (no_memory _ _ _ c.args.source.now c.args.self.now _ c.refuse.result (g.met.S.Source.nothing c.args.source.now) fault fresh state),
          subst (λ (n : ℕ). n ≤ g.S.Source.given_count c.args.source.now) (sym passed) c.requires.one_source,
        ),
      ),
      record {
        after_borrow = tt;
        failures = no_failure (g.S.Source.failures c.args.source.now) (is_some c.args.self.now.fault) c.refuse.result c.args.self.now fault;
      },
    )

pub invariant_of-self-in-Break-1 : goal.invariant_of-self-in-Break-1
invariant_of-self-in-Break-1 g c =
    let all = of_no_error c.make_room.result c.is_err.result c.is_err.ensures.value c.if-is_err.false c.make_room.ensures.ok in
    room_kept c.make_room.new.buffer.len c.advance.new.buffer c.make_room.new.buffer.items (state_of c.advance.new.progress) c.advance.ensures.room all
    c.make_room.new.buffer.ok.0

pub invariant_of-self-in-Some-2 : goal.invariant_of-self-in-Some-2
invariant_of-self-in-Some-2 g c =
    let all = of_no_error c.make_room.result c.is_err.result c.is_err.ensures.value c.if-is_err.false c.make_room.ensures.ok in
    room_kept c.make_room.new.buffer.len c.advance.new.buffer c.make_room.new.buffer.items (state_of c.advance.new.progress) c.advance.ensures.room all
    c.make_room.new.buffer.ok.0

pub invariant_of-self-in-None : goal.invariant_of-self-in-None
invariant_of-self-in-None g c =
    let all = of_no_error c.make_room.result c.is_err.result c.is_err.ensures.value c.if-is_err.false c.make_room.ensures.ok in
    room_kept c.make_room.new.buffer.len c.advance.new.buffer c.make_room.new.buffer.items (state_of c.advance.new.progress) c.advance.ensures.room all
    c.make_room.new.buffer.ok.0

pub returns-in-None : goal.returns-in-None
returns-in-None g c =
    let v : state_of c.self.inside.progress ≡ c.args.self.now = c.self.view_is in
    let none : c.args.self.now.fault ≡ None = ap (λ (s : ReaderState). s.fault) (sym v) ∙ c.in_default.is in
    let not_ended : c.args.self.now.is_ended ≡ false = ap (λ (s : ReaderState). s.is_ended) (sym v) ∙ c.if-self.false in
    let ends = rw c.in-None.is at c.in_ok-found.ensures.next in (
      (
        refl,
        λ _. tt,
        (
          open_next _ _ _ _ _ _ _ _ none not_ended
              (subst (λ (s : ReaderState). Ends g.S.Source.gives g.S.Source.has_ended c.args.session.now c.args.source.now c.advance.new.source s (state_of c.advance.new.progress)) v ends),
          c.in_ok-found.ensures.one_source,
        ),
      ),
      record { after_borrow = tt; failures = c.in_ok-found.ensures.failures },
    )
