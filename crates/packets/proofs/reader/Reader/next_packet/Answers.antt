use Rattle.std.proofs.Common.{◌≡◌, ◌∙◌, ℕ, Bool, true, false, ◌+◌, ◌≤◌, length, refl, sym, ap, subst, arith, None, Some, Ok, Err, OnOk, OnErr, Result, is_some, if◌then◌else◌}
use Rattle.std.specs.Result.{is_err}
use Rattle.packets.specs.declared.fault.FileFault.{FileFault}
use Rattle.packets.specs.declared.fault.FaultKind.TheVariants as kinds
use Rattle.packets.specs.Fault.{device_count}
use Rattle.packets.specs.Reader.{ReaderState, state_of, fault_at, Ends}
use Rattle.packets.proofs.Advancing.{stands_with}
use Rattle.packets.proofs.Kept.{room_kept}
use Rattle.packets.proofs.Refusing.{first_call, open_next, no_memory}
use Rattle.packets.proofs.reader.Reader.next_packet.Goals as goal

no_failure : (count : ℕ) (fault : Bool) (found : FileFault) (state : ReaderState) → found ≡ fault_at state kinds.Memory
    → count ≡ count + (if fault then 0 else device_count found.kind)
no_failure count fault found state is =
    let kind = ap (λ (f : FileFault). device_count f.kind) is in
    elim fault as (λ (b : Bool). count ≡ count + (if b then 0 else device_count found.kind)) [
      | true ↦ omega arith
      | false ↦ omega arith
    ]

-- what holds of an error holds where there is one
of_error : {X E : Type 0} {P : Type 0} (r : Result X E) (b : Bool) → b ≡ is_err r → b ≡ true → OnErr r P → P
of_error (Ok x) b is so held = absurd cc
of_error (Err e) b is so held = held

-- what holds of no error holds where there is none
of_no_error : {X E : Type 0} {P : Type 0} (r : Result X E) (b : Bool) → b ≡ is_err r → b ≡ false → OnOk r P → P
of_no_error (Ok x) b is so held = held
of_no_error (Err e) b is so held = absurd cc

pub returns-then-is_err : goal.returns-then-is_err
returns-then-is_err g c =
    let v : state_of c.self.inside.progress c.self.inside.interfaces.items ≡ c.args.self.now = c.self.view_is in
    let none : c.args.self.now.fault ≡ None = ap (λ (s : ReaderState). s.fault) (sym v) ∙ c.in_default.is in
    let not_ended : c.args.self.now.is_ended ≡ false = ap (λ (s : ReaderState). s.is_ended) (sym v) ∙ c.if-self.false in
    let short = of_error c.make_room.result c.is_err.result c.is_err.ensures.value c.if-is_err.true c.make_room.ensures.err in
    let fresh = sym v ∙ first_call (length c.self.inside.buffer.items) (state_of c.self.inside.progress c.self.inside.interfaces.items) c.self.invariant.1 short c.in_default.is in
    let fault : c.refuse.result ≡ fault_at c.args.self.now kinds.Memory = c.refuse.ensures.fault ∙ ap (λ (s : ReaderState). fault_at s kinds.Memory) v in
    let state : state_of c.refuse.new.self c.self.inside.interfaces.items ≡ record c.args.self.now { fault = Some c.refuse.result } =
    stands_with c.self.inside.progress c.refuse.new.self c.refuse.result c.self.inside.interfaces.items c.self.inside.interfaces.items c.refuse.ensures.state refl
    ∙ ap (λ (s : ReaderState). let r : ReaderState = record s { fault = Some c.refuse.result } in r) v in
    let number : c.refuse.new.self.number ≡ c.args.self.now.number = ap (λ (s : ReaderState). s.number) state in (
      (
        refl,
        λ _. tt,
        (
          open_next _ _ _ _ _ _ _ none not_ended
              (no_memory _ _ c.args.source.now c.args.self.now (state_of c.refuse.new.self c.self.inside.interfaces.items) c.refuse.result (g.met.S.Source.nothing c.args.source.now) fault fresh state),
          subst (λ (n : ℕ). n ≤ g.S.Source.given_count c.args.source.now) (sym number) c.requires.one_source,
        ),
      ),
      record {
        after_borrow = tt;
        failures = no_failure (g.S.Source.failures c.args.source.now) (is_some c.args.self.now.fault) c.refuse.result c.args.self.now fault;
      },
    )

pub invariant_of-self-in-Break-1 : goal.invariant_of-self-in-Break-1
invariant_of-self-in-Break-1 g c =
    let all = of_no_error c.make_room.result c.is_err.result c.is_err.ensures.value c.if-is_err.false c.make_room.ensures.ok in
    room_kept c.make_room.new.buffer.len c.advance.new.buffer c.make_room.new.buffer.items (state_of c.advance.new.progress c.advance.new.interfaces.items)
    c.advance.ensures.room all c.make_room.new.buffer.ok.0

pub invariant_of-self-in-Some-2 : goal.invariant_of-self-in-Some-2
invariant_of-self-in-Some-2 g c =
    let all = of_no_error c.make_room.result c.is_err.result c.is_err.ensures.value c.if-is_err.false c.make_room.ensures.ok in
    room_kept c.make_room.new.buffer.len c.advance.new.buffer c.make_room.new.buffer.items (state_of c.advance.new.progress c.advance.new.interfaces.items)
    c.advance.ensures.room all c.make_room.new.buffer.ok.0

pub invariant_of-self-in-None : goal.invariant_of-self-in-None
invariant_of-self-in-None g c =
    let all = of_no_error c.make_room.result c.is_err.result c.is_err.ensures.value c.if-is_err.false c.make_room.ensures.ok in
    room_kept c.make_room.new.buffer.len c.advance.new.buffer c.make_room.new.buffer.items (state_of c.advance.new.progress c.advance.new.interfaces.items)
    c.advance.ensures.room all c.make_room.new.buffer.ok.0

pub returns-in-None : goal.returns-in-None
returns-in-None g c =
    let v : state_of c.self.inside.progress c.self.inside.interfaces.items ≡ c.args.self.now = c.self.view_is in
    let none : c.args.self.now.fault ≡ None = ap (λ (s : ReaderState). s.fault) (sym v) ∙ c.in_default.is in
    let not_ended : c.args.self.now.is_ended ≡ false = ap (λ (s : ReaderState). s.is_ended) (sym v) ∙ c.if-self.false in
    let ends = rw c.in-None.is at c.in_ok-found.ensures.next in (
      (
        refl,
        λ _. tt,
        (
          open_next _ _ _ _ _ _ _ none not_ended
              (subst (λ (s : ReaderState). Ends g.S.Source.gives g.S.Source.has_ended c.args.source.now c.advance.new.source s
              (state_of c.advance.new.progress c.advance.new.interfaces.items)) v ends),
          c.in_ok-found.ensures.one_source,
        ),
      ),
      record { after_borrow = tt; failures = c.in_ok-found.ensures.failures },
    )
