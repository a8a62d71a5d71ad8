-- What the records of a capture show, one after another.
use Rattle.std.proofs.Common.{◌≡◌, ◌∙◌, Bool, true, false, ◌||◌, List, [], ◌∷◌, ◌++◌, refl, sym, ap, arith}
use Rattle.std.specs.List.{list_any}
use Rattle.bgp_prefix.specs.Shown.{ShownRecord}
use Rattle.mrt.specs.declared.fault.CaptureFault.{CaptureFault}
use Rattle.mrt.specs.declared.fault.FaultKind.{FaultKind}
use Rattle.mrt.specs.declared.fault.FaultKind.TheVariants as kinds
use Rattle.bgp_tool.specs.CaptureDecoding.{status_by}
use Rattle.bgp_tool.specs.Seen.{is_sent, leaves_idle, seen_in, seen_with}
use Rattle.bgp_tool.specs.declared.seen.Seen.{Seen}

or_false : (b : Bool) → b || false ≡ b
or_false true = refl
or_false false = refl

or_assoc : (a b c : Bool) → a || (b || c) ≡ (a || b) || c
or_assoc true b c = refl
or_assoc false b c = refl

any_more : {X : Type 0} (test : X → Bool) (xs : List X) (x : X) → list_any test xs || test x ≡ list_any test (xs ++ x ∷ [])
any_more test [] x = sym (or_false (test x))
any_more test (y ∷ ys) x =
    sym (or_assoc (test y) (list_any test ys) (test x)) ∙ ap (λ (b : Bool). test y || b) (any_more test ys x)

-- one record more
pub seen_more : (records : List ShownRecord) (shown : ShownRecord) → seen_with (seen_in records) shown ≡ seen_in (records ++ shown ∷ [])
seen_more records shown =
    let left = λ (b : Bool). let s : Seen = record { left_idle = b; sent = list_any is_sent records || is_sent shown } in s in
    let sent = λ (b : Bool). let s : Seen = record { left_idle = list_any leaves_idle (records ++ shown ∷ []); sent = b } in s in
    ap left (any_more leaves_idle records shown) ∙ ap sent (any_more is_sent records shown)

-- a fault isn't answered by a yes
status_of_fault : (kind : FaultKind) → status_by kind ≡ 0 → ⊥
status_of_fault kinds.Truncated zero = omega (arith, zero)
status_of_fault kinds.TooLong zero = omega (arith, zero)
status_of_fault kinds.Body zero = omega (arith, zero)
status_of_fault kinds.BadState zero = omega (arith, zero)
status_of_fault kinds.NotAMessage zero = omega (arith, zero)
status_of_fault kinds.TimeBack zero = omega (arith, zero)
status_of_fault kinds.RouteRefresh zero = omega (arith, zero)
status_of_fault kinds.AddPath zero = omega (arith, zero)
status_of_fault kinds.Device zero = omega (arith, zero)
status_of_fault kinds.Memory zero = omega (arith, zero)

pub fault_is_no_yes : (fault : CaptureFault) (P : Type 0) → status_by fault.kind ≡ 0 → P
fault_is_no_yes fault P zero = absurd (status_of_fault fault.kind zero)
