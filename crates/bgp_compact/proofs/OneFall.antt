-- Falls, by cases.
use Rattle.std.proofs.Common.{◌≡◌, ◌↔◌, ◌⊎◌, inl, inr, Bool, true, false, IsTrue, [], ◌∷◌, None, Some, ◌||◌, refl, sym, ap, ◌∙◌}
use Rattle.bgp_machine.specs.declared.fsm.Fsm.{Fsm}
use Rattle.bgp_machine.specs.declared.fsm.Fsm.TheVariants as fsms
use Rattle.bgp_machine.specs.declared.want.FaultSet.{FaultSet}
use Rattle.bgp_machine.specs.declared.want.Want.{Want}
use Rattle.bgp_machine.specs.declared.want.Want.TheVariants as wants
use Rattle.bgp_machine.specs.declared.want.Wants.{Wants}
use Rattle.bgp_machine.specs.declared.want.Wants.TheVariants.{Nothing, One, Two}
use Rattle.bgp_machine.specs.Want.{wants_of}
use Rattle.bgp_compact.specs.declared.falls.Fall.{Fall}
use Rattle.bgp_compact.specs.declared.falls.Fall.TheVariants.{Silent, Ceased, Expired, SendExpired, Erred, Faulted}
use Rattle.bgp_compact.specs.declared.falls.Falls.{Falls}
use Rattle.bgp_compact.specs.Members.{HasFall, sends_of, error_of, no_falls}
use Rattle.bgp_compact.specs.Parts.{fall_for, with_fall, AgreeOnFaults}
use Rattle.bgp_compact.proofs.SetsOfSets.{or_cases, or_left, or_right}

-- ---- one more

pub has_with : (falls : Falls) (fall other : Fall) → AgreeOnFaults falls fall → HasFall (with_fall falls fall) other ↔ (HasFall falls other ⊎ (other ≡ fall))
has_with falls Silent Silent agree = (λ h. inr refl, λ h. refl)
has_with falls Silent Ceased agree = (λ h. inl h, λ h. elim h [ inl x ↦ x | inr e ↦ absurd (let k : ⊥ = cc in k) ])
has_with falls Silent Expired agree = (λ h. inl h, λ h. elim h [ inl x ↦ x | inr e ↦ absurd (let k : ⊥ = cc in k) ])
has_with falls Silent SendExpired agree = (λ h. inl h, λ h. elim h [ inl x ↦ x | inr e ↦ absurd (let k : ⊥ = cc in k) ])
has_with falls Silent Erred agree = (λ h. inl h, λ h. elim h [ inl x ↦ x | inr e ↦ absurd (let k : ⊥ = cc in k) ])
has_with falls Silent (Faulted s) agree = (λ h. inl h, λ h. elim h [ inl x ↦ x | inr e ↦ absurd (let k : ⊥ = cc in k) ])
has_with falls Ceased Silent agree = (λ h. inl h, λ h. elim h [ inl x ↦ x | inr e ↦ absurd (let k : ⊥ = cc in k) ])
has_with falls Ceased Ceased agree = (λ h. inr refl, λ h. refl)
has_with falls Ceased Expired agree = (λ h. inl h, λ h. elim h [ inl x ↦ x | inr e ↦ absurd (let k : ⊥ = cc in k) ])
has_with falls Ceased SendExpired agree = (λ h. inl h, λ h. elim h [ inl x ↦ x | inr e ↦ absurd (let k : ⊥ = cc in k) ])
has_with falls Ceased Erred agree = (λ h. inl h, λ h. elim h [ inl x ↦ x | inr e ↦ absurd (let k : ⊥ = cc in k) ])
has_with falls Ceased (Faulted s) agree = (λ h. inl h, λ h. elim h [ inl x ↦ x | inr e ↦ absurd (let k : ⊥ = cc in k) ])
has_with falls Expired Silent agree = (λ h. inl h, λ h. elim h [ inl x ↦ x | inr e ↦ absurd (let k : ⊥ = cc in k) ])
has_with falls Expired Ceased agree = (λ h. inl h, λ h. elim h [ inl x ↦ x | inr e ↦ absurd (let k : ⊥ = cc in k) ])
has_with falls Expired Expired agree = (λ h. inr refl, λ h. refl)
has_with falls Expired SendExpired agree = (λ h. inl h, λ h. elim h [ inl x ↦ x | inr e ↦ absurd (let k : ⊥ = cc in k) ])
has_with falls Expired Erred agree = (λ h. inl h, λ h. elim h [ inl x ↦ x | inr e ↦ absurd (let k : ⊥ = cc in k) ])
has_with falls Expired (Faulted s) agree = (λ h. inl h, λ h. elim h [ inl x ↦ x | inr e ↦ absurd (let k : ⊥ = cc in k) ])
has_with falls SendExpired Silent agree = (λ h. inl h, λ h. elim h [ inl x ↦ x | inr e ↦ absurd (let k : ⊥ = cc in k) ])
has_with falls SendExpired Ceased agree = (λ h. inl h, λ h. elim h [ inl x ↦ x | inr e ↦ absurd (let k : ⊥ = cc in k) ])
has_with falls SendExpired Expired agree = (λ h. inl h, λ h. elim h [ inl x ↦ x | inr e ↦ absurd (let k : ⊥ = cc in k) ])
has_with falls SendExpired SendExpired agree = (λ h. inr refl, λ h. refl)
has_with falls SendExpired Erred agree = (λ h. inl h, λ h. elim h [ inl x ↦ x | inr e ↦ absurd (let k : ⊥ = cc in k) ])
has_with falls SendExpired (Faulted s) agree = (λ h. inl h, λ h. elim h [ inl x ↦ x | inr e ↦ absurd (let k : ⊥ = cc in k) ])
has_with falls Erred Silent agree = (λ h. inl h, λ h. elim h [ inl x ↦ x | inr e ↦ absurd (let k : ⊥ = cc in k) ])
has_with falls Erred Ceased agree = (λ h. inl h, λ h. elim h [ inl x ↦ x | inr e ↦ absurd (let k : ⊥ = cc in k) ])
has_with falls Erred Expired agree = (λ h. inl h, λ h. elim h [ inl x ↦ x | inr e ↦ absurd (let k : ⊥ = cc in k) ])
has_with falls Erred SendExpired agree = (λ h. inl h, λ h. elim h [ inl x ↦ x | inr e ↦ absurd (let k : ⊥ = cc in k) ])
has_with falls Erred Erred agree = (λ h. inr refl, λ h. refl)
has_with falls Erred (Faulted s) agree = (λ h. inl h, λ h. elim h [ inl x ↦ x | inr e ↦ absurd (let k : ⊥ = cc in k) ])
has_with falls (Faulted t) Silent agree = (λ h. inl h, λ h. elim h [ inl x ↦ x | inr e ↦ absurd (let k : ⊥ = cc in k) ])
has_with falls (Faulted t) Ceased agree = (λ h. inl h, λ h. elim h [ inl x ↦ x | inr e ↦ absurd (let k : ⊥ = cc in k) ])
has_with falls (Faulted t) Expired agree = (λ h. inl h, λ h. elim h [ inl x ↦ x | inr e ↦ absurd (let k : ⊥ = cc in k) ])
has_with falls (Faulted t) SendExpired agree = (λ h. inl h, λ h. elim h [ inl x ↦ x | inr e ↦ absurd (let k : ⊥ = cc in k) ])
has_with falls (Faulted t) Erred agree = (λ h. inl h, λ h. elim h [ inl x ↦ x | inr e ↦ absurd (let k : ⊥ = cc in k) ])
has_with falls (Faulted t) (Faulted s) agree = (
  λ h. inr (let e : t ≡ s = cc in ap (λ (v : FaultSet). Faulted v) (sym e)),
  λ h. elim h [
    | inl x ↦ ap (λ (v : FaultSet). Some v) (sym (agree t s refl x))
    | inr e ↦ (let k : t ≡ s = cc in ap (λ (v : FaultSet). Some v) k)
  ],
)

-- ---- none

pub none_falls : (fall : Fall) → HasFall no_falls fall → ⊥
none_falls Silent h = cc
none_falls Ceased h = cc
none_falls Expired h = cc
none_falls SendExpired h = cc
none_falls Erred h = cc
none_falls (Faulted s) h = cc

flags_off : (falls : Falls) → (IsTrue ((falls.silent || falls.ceased) || ((falls.expired || falls.send_expired) || falls.erred)) → ⊥) → falls.faulted ≡ None
    → (fall : Fall) → HasFall falls fall → ⊥
flags_off falls f e Silent h = f (or_left (falls.silent || falls.ceased) ((falls.expired || falls.send_expired) || falls.erred) (or_left falls.silent falls.ceased h))
flags_off falls f e Ceased h = f (or_left (falls.silent || falls.ceased) ((falls.expired || falls.send_expired) || falls.erred) (or_right falls.silent falls.ceased h))
flags_off falls f e Expired h = f (or_right (falls.silent || falls.ceased) ((falls.expired || falls.send_expired) || falls.erred) (or_left (falls.expired || falls.send_expired) falls.erred (or_left falls.expired falls.send_expired h)))
flags_off falls f e SendExpired h = f (or_right (falls.silent || falls.ceased) ((falls.expired || falls.send_expired) || falls.erred) (or_left (falls.expired || falls.send_expired) falls.erred (or_right falls.expired falls.send_expired h)))
flags_off falls f e Erred h = f (or_right (falls.silent || falls.ceased) ((falls.expired || falls.send_expired) || falls.erred) (or_right (falls.expired || falls.send_expired) falls.erred h))
flags_off falls f e (Faulted s) h = cc

pub no_fall : (falls : Falls) (b : Bool) → b ≡ (falls.silent || falls.ceased) || ((falls.expired || falls.send_expired) || falls.erred) → b ≡ false → falls.faulted ≡ None
    → (fall : Fall) → HasFall falls fall → ⊥
no_fall falls b e off none fall h = flags_off falls (λ on. let k : b ≡ true = e ∙ on in cc) none fall h

pub some_fall : (falls : Falls) (b : Bool) → b ≡ (falls.silent || falls.ceased) || ((falls.expired || falls.send_expired) || falls.erred) → b ≡ true → (fall : Fall) × HasFall falls fall
some_fall falls b e on = elim (or_cases (falls.silent || falls.ceased) ((falls.expired || falls.send_expired) || falls.erred) (sym e ∙ on)) [
  | inl y ↦ elim (or_cases falls.silent falls.ceased y) [ inl x ↦ (Silent, x) | inr x ↦ (Ceased, x) ]
  | inr y ↦ elim (or_cases (falls.expired || falls.send_expired) falls.erred y) [
    | inl z ↦ elim (or_cases falls.expired falls.send_expired z) [ inl x ↦ (Expired, x) | inr x ↦ (SendExpired, x) ]
    | inr x ↦ (Erred, x)
  ]
]

-- ---- what is sent

one_error : (left : Fsm) (w : Want) → w ∷ [] ≡ error_of left → w ∷ [] ≡ sends_of left (fall_for (One w))
one_error fsms.Idle wants.OwnOpen h = absurd (let k : ⊥ = cc in k)
one_error fsms.Connect wants.OwnOpen h = absurd (let k : ⊥ = cc in k)
one_error fsms.Active wants.OwnOpen h = absurd (let k : ⊥ = cc in k)
one_error fsms.OpenSent wants.OwnOpen h = absurd (let k : ⊥ = cc in k)
one_error fsms.OpenConfirm wants.OwnOpen h = absurd (let k : ⊥ = cc in k)
one_error fsms.Established wants.OwnOpen h = absurd (let k : ⊥ = cc in k)
one_error fsms.Idle wants.KeepAlive h = absurd (let k : ⊥ = cc in k)
one_error fsms.Connect wants.KeepAlive h = absurd (let k : ⊥ = cc in k)
one_error fsms.Active wants.KeepAlive h = absurd (let k : ⊥ = cc in k)
one_error fsms.OpenSent wants.KeepAlive h = absurd (let k : ⊥ = cc in k)
one_error fsms.OpenConfirm wants.KeepAlive h = absurd (let k : ⊥ = cc in k)
one_error fsms.Established wants.KeepAlive h = absurd (let k : ⊥ = cc in k)
one_error fsms.Idle wants.CleanUpdate h = absurd (let k : ⊥ = cc in k)
one_error fsms.Connect wants.CleanUpdate h = absurd (let k : ⊥ = cc in k)
one_error fsms.Active wants.CleanUpdate h = absurd (let k : ⊥ = cc in k)
one_error fsms.OpenSent wants.CleanUpdate h = absurd (let k : ⊥ = cc in k)
one_error fsms.OpenConfirm wants.CleanUpdate h = absurd (let k : ⊥ = cc in k)
one_error fsms.Established wants.CleanUpdate h = absurd (let k : ⊥ = cc in k)
one_error fsms.Idle wants.Cease h = refl
one_error fsms.Connect wants.Cease h = refl
one_error fsms.Active wants.Cease h = refl
one_error fsms.OpenSent wants.Cease h = refl
one_error fsms.OpenConfirm wants.Cease h = refl
one_error fsms.Established wants.Cease h = refl
one_error fsms.Idle wants.HoldExpired h = refl
one_error fsms.Idle wants.SendHoldExpired h = refl
one_error fsms.Connect wants.HoldExpired h = refl
one_error fsms.Connect wants.SendHoldExpired h = refl
one_error fsms.Active wants.HoldExpired h = refl
one_error fsms.Active wants.SendHoldExpired h = refl
one_error fsms.OpenSent wants.HoldExpired h = refl
one_error fsms.OpenSent wants.SendHoldExpired h = refl
one_error fsms.OpenConfirm wants.HoldExpired h = refl
one_error fsms.OpenConfirm wants.SendHoldExpired h = refl
one_error fsms.Established wants.HoldExpired h = refl
one_error fsms.Established wants.SendHoldExpired h = refl
one_error fsms.Idle (wants.MachineError st) h = h
one_error fsms.Connect (wants.MachineError st) h = h
one_error fsms.Active (wants.MachineError st) h = h
one_error fsms.OpenSent (wants.MachineError st) h = h
one_error fsms.OpenConfirm (wants.MachineError st) h = h
one_error fsms.Established (wants.MachineError st) h = h
one_error fsms.Idle (wants.Faults t) h = refl
one_error fsms.Connect (wants.Faults t) h = refl
one_error fsms.Active (wants.Faults t) h = refl
one_error fsms.OpenSent (wants.Faults t) h = refl
one_error fsms.OpenConfirm (wants.Faults t) h = refl
one_error fsms.Established (wants.Faults t) h = refl

one_sends : (left : Fsm) (other : Fall) (w : Want) → w ∷ [] ≡ sends_of left other → w ∷ [] ≡ sends_of left (fall_for (One w))
one_sends left Silent wants.OwnOpen h = absurd (let k : ⊥ = cc in k)
one_sends left Silent wants.KeepAlive h = absurd (let k : ⊥ = cc in k)
one_sends left Silent wants.CleanUpdate h = absurd (let k : ⊥ = cc in k)
one_sends left Silent wants.Cease h = refl
one_sends left Silent wants.HoldExpired h = refl
one_sends left Silent wants.SendHoldExpired h = refl
one_sends left Silent (wants.MachineError st) h = absurd (let k : ⊥ = cc in k)
one_sends left Silent (wants.Faults t) h = refl
one_sends left Ceased wants.OwnOpen h = absurd (let k : ⊥ = cc in k)
one_sends left Ceased wants.KeepAlive h = absurd (let k : ⊥ = cc in k)
one_sends left Ceased wants.CleanUpdate h = absurd (let k : ⊥ = cc in k)
one_sends left Ceased wants.Cease h = refl
one_sends left Ceased wants.HoldExpired h = refl
one_sends left Ceased wants.SendHoldExpired h = refl
one_sends left Ceased (wants.MachineError st) h = absurd (let k : ⊥ = cc in k)
one_sends left Ceased (wants.Faults t) h = refl
one_sends left Expired wants.OwnOpen h = absurd (let k : ⊥ = cc in k)
one_sends left Expired wants.KeepAlive h = absurd (let k : ⊥ = cc in k)
one_sends left Expired wants.CleanUpdate h = absurd (let k : ⊥ = cc in k)
one_sends left Expired wants.Cease h = refl
one_sends left Expired wants.HoldExpired h = refl
one_sends left Expired wants.SendHoldExpired h = refl
one_sends left Expired (wants.MachineError st) h = absurd (let k : ⊥ = cc in k)
one_sends left Expired (wants.Faults t) h = refl
one_sends left SendExpired wants.OwnOpen h = absurd (let k : ⊥ = cc in k)
one_sends left SendExpired wants.KeepAlive h = absurd (let k : ⊥ = cc in k)
one_sends left SendExpired wants.CleanUpdate h = absurd (let k : ⊥ = cc in k)
one_sends left SendExpired wants.Cease h = refl
one_sends left SendExpired wants.HoldExpired h = refl
one_sends left SendExpired wants.SendHoldExpired h = refl
one_sends left SendExpired (wants.MachineError st) h = absurd (let k : ⊥ = cc in k)
one_sends left SendExpired (wants.Faults t) h = refl
one_sends left (Faulted s) wants.OwnOpen h = absurd (let k : ⊥ = cc in k)
one_sends left (Faulted s) wants.KeepAlive h = absurd (let k : ⊥ = cc in k)
one_sends left (Faulted s) wants.CleanUpdate h = absurd (let k : ⊥ = cc in k)
one_sends left (Faulted s) wants.Cease h = refl
one_sends left (Faulted s) wants.HoldExpired h = refl
one_sends left (Faulted s) wants.SendHoldExpired h = refl
one_sends left (Faulted s) (wants.MachineError st) h = absurd (let k : ⊥ = cc in k)
one_sends left (Faulted s) (wants.Faults t) h = refl
one_sends left Erred w h = one_error left w h

two_error : (left : Fsm) (w v : Want) → w ∷ v ∷ [] ≡ error_of left → ⊥
two_error fsms.Idle w v h = cc
two_error fsms.Connect w v h = cc
two_error fsms.Active w v h = cc
two_error fsms.OpenSent w v h = cc
two_error fsms.OpenConfirm w v h = cc
two_error fsms.Established w v h = cc

pub sends_fall : (left : Fsm) (other : Fall) (ws : Wants) → wants_of ws ≡ sends_of left other → wants_of ws ≡ sends_of left (fall_for ws)
sends_fall left other Nothing h = refl
sends_fall left other (One w) h = one_sends left other w h
sends_fall left Silent (Two w v) h = absurd (let k : ⊥ = cc in k)
sends_fall left Ceased (Two w v) h = absurd (let k : ⊥ = cc in k)
sends_fall left Expired (Two w v) h = absurd (let k : ⊥ = cc in k)
sends_fall left SendExpired (Two w v) h = absurd (let k : ⊥ = cc in k)
sends_fall left (Faulted s) (Two w v) h = absurd (let k : ⊥ = cc in k)
sends_fall left Erred (Two w v) h = absurd (two_error left w v h)
