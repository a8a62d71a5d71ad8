-- Each message has a row in each state; and where one is impossible, something is owed.
use Rattle.std.proofs.Common.{◌≡◌, ◌≤◌, ◌⊎◌, inl, inr, ℕ, Bool, true, false, List, [], ◌∷◌, ◌++◌, None, Some, IsTrue, ◌↔◌, length, refl, sym, subst, ◌∙◌, append_assoc, arith}
use Rattle.bgp_prefix.specs.declared.family.Family.{Family}
use Rattle.bgp_prefix.specs.declared.family.Family.TheVariants.{V4, V6}
use Rattle.bgp_prefix.specs.Shown.{ShownRecord, Received}
use Rattle.bgp_open.specs.declared.config.Config.{Config}
use Rattle.bgp_open.specs.declared.families.Families.{Families}
use Rattle.bgp_open.specs.declared.link.Link.{Link}
use Rattle.bgp_open.specs.Families.{contains}
use Rattle.bgp_machine.specs.Split.{attributes_of}
use Rattle.bgp_machine.specs.Outcomes.{Outcomes}
use Rattle.bgp_machine.specs.Allowed.{Allows}
use Rattle.bgp_machine.specs.Changes.{RouteChanges, announcements, destinations_among, withdrawals}
use Rattle.bgp_machine.specs.Disabled.{IsCertain}
use Rattle.bgp_machine.specs.Found.{found}
use Rattle.bgp_machine.specs.Laws.{HasAnOutcome}
use Rattle.bgp_machine.specs.Outcome.{Outcome, Applied, Reset, IsOutcome, IsOnlyReset}
use Rattle.bgp_machine.specs.ResetFaults.{HasReset}
use Rattle.bgp_machine.specs.Sections.{Sections, IsUpdate}
use Rattle.bgp_machine.specs.WithdrawFaults.{HasWithdrawFault}
use Rattle.bgp_machine.specs.declared.hearing.Heard.{Heard}
use Rattle.bgp_machine.specs.declared.hearing.Heard.TheVariants.{TooShort, ValidOpen, FaultyHeader, InvalidOpen, BadVersion, Notification, Keepalive, Update}
use Rattle.bgp_machine.specs.declared.rows.ReceivedRow.{ReceivedRow}
use Rattle.bgp_machine.specs.declared.rows.ReceivedRow.TheVariants.{Ignores, Overlooks, Collides, Drops, NamesFault, ReportsError, Establishes, Renews, Applies}
use Rattle.bgp_machine.specs.declared.state.Head.{Head}
use Rattle.bgp_machine.specs.declared.state.Head.TheVariants.{Idle, Connect, Active, OpenSent, OpenConfirm, Established}
use Rattle.bgp_machine.specs.declared.state.HoldTimer.{HoldTimer}
use Rattle.bgp_machine.specs.declared.want.FaultSet.TheVariants as sets
use Rattle.bgp_machine.specs.declared.want.Unexpected.TheVariants.{InOpenSent, InOpenConfirm}
use Rattle.bgp_machine.specs.declared.want.Want.{Want}
use Rattle.bgp_machine.specs.declared.want.Want.TheVariants.{Cease, MachineError, Faults}
use Rattle.bgp_machine.specs.Heard.{Hears}
use Rattle.bgp_machine.specs.Owed.{EachOwedCanBeMet}
use Rattle.bgp_machine.specs.Run.{Begins, Run}
use Rattle.bgp_machine.specs.State.{SessionState, Turn, Given, enters, falls, fresh_state, fsm_of, link_at, moved, renewed}
use Rattle.bgp_machine.specs.Step.{ReceivedIn, changed}
use Rattle.bgp_machine.proofs.JoinedRuns.{no_steps, run_joined}
use Rattle.bgp_judge.specs.Member.{Member, link_for}
use Rattle.bgp_judge.specs.Next.{Next}
use Rattle.bgp_judge.specs.Receiving.{HasAStep, IsImpossibleWhereOwed, IsSettled}
use Rattle.bgp_judge.proofs.OneRecordMore.{free_runs, goes_to, next_met}
use Rattle.bgp_judge.proofs.Standing.{can_go}
use Rattle.bgp_judge.proofs.Telling.{each_as_told}

-- ---- what an UPDATE comes to

by_outcome : {X : Type 0} (link : Link) (octets : List ℕ) (o : Outcomes X) → ((x : Outcome) → Allows o x ↔ IsOutcome link octets x)
    → (x : Outcome) → IsOutcome link octets x → IsSettled link octets
by_outcome link octets o are (Applied changes families) is = inr (changes, families, is)
by_outcome link octets o are (Reset n) is = inl (o.reset, record { each = λ m. are (Reset m); one = (n, is) })

pub worked_out : {X : Type 0} (link : Link) (octets : List ℕ) (o : Outcomes X) → ((x : Outcome) → Allows o x ↔ IsOutcome link octets x) → HasAnOutcome link octets
    → IsSettled link octets
worked_out link octets o are some = by_outcome link octets o are some.0 some.1

-- it isn't so that something neither holds nor doesn't
either : (P : Type 0) → ¬ ¬ (P ⊎ (¬ P))
either P neither = neither (inr (λ p. neither (inl p)))

mark : (P : Type 0) → P ⊎ (¬ P) → (b : Bool) × (IsTrue b ↔ P)
mark P (inl p) = (true, (λ t. p, λ q. refl))
mark P (inr none) = (false, (λ t. cc, λ p. absurd (none p)))

each_family : (P : Family → Type 0) (families : Families) → IsTrue families.v4 ↔ P V4 → IsTrue families.v6 ↔ P V6 → (f : Family) → IsTrue (contains families f) ↔ P f
each_family P families v4 v6 V4 = v4
each_family P families v4 v6 V6 = v6

applied : (link : Link) (octets : List ℕ) (s : Sections) (faulty : Bool) (disabled : Families) → IsUpdate octets s → ¬ HasReset (found link s)
    → IsTrue faulty ↔ HasWithdrawFault (found link s) → ((f : Family) → IsTrue (contains disabled f) ↔ IsCertain (found link s) f)
    → (changes : RouteChanges) × (families : Families) × IsOutcome link octets (Applied changes families)
applied link octets s true disabled is none fault certain = (
  record { remove = withdrawals link (found link s) ++ destinations_among (announcements link (found link s) (attributes_of s.attributes)); put = [] },
  disabled,
  inr (s, is, (none, inl (fault.0 refl, refl), λ f. ((certain f).1, λ on. inl ((certain f).0 on)))),
)
applied link octets s false disabled is none fault certain = (
  record { remove = withdrawals link (found link s); put = announcements link (found link s) (attributes_of s.attributes) },
  disabled,
  inr (s, is, (none, inr (λ f. let k : false ≡ true = fault.1 f in cc, refl), λ f. ((certain f).1, λ on. inl ((certain f).0 on)))),
)

-- one that doesn't reset the session is applied
pub not_reset : (link : Link) (octets : List ℕ) → HasAnOutcome link octets → ¬ IsOnlyReset link octets → ¬ ¬ IsSettled link octets
not_reset link octets some goes none = elim some.1 [
  | inl bad ↦ absurd (goes (inl bad.0))
  | inr by ↦
      let x = found link by.0 in
      either (HasWithdrawFault x) (λ faulty. either (IsCertain x V4) (λ v4. either (IsCertain x V6) (λ v6.
      let b = mark (HasWithdrawFault x) faulty in
      let c = mark (IsCertain x V4) v4 in
      let d = mark (IsCertain x V6) v6 in
      let families : Families = record { v4 = c.0; v6 = d.0 } in
      none (inr (applied link octets by.0 b.0 families by.1 (λ reset. goes (inr (by.0, by.1, reset))) b.1
      (each_family (IsCertain x) families c.1 d.1))))))
]

-- ---- each message has a row

abbrev Taken : Head → ℕ → List ℕ → Heard → Type 0
Taken head t octets heard = (row : ReceivedRow) × (wants : List Want) × (turn : Turn) × ReceivedIn head t octets heard row wants turn

abbrev pub IsSettledAt : Head → List ℕ → Type 0
IsSettledAt (Established link timer) octets = IsSettled link octets
IsSettledAt head octets = Unit {0}

update_row : (link : Link) (timer : HoldTimer) (t : ℕ) (octets : List ℕ) → IsSettled link octets → Taken (Established link timer) t octets Update
update_row link timer t octets (inl x) = (NamesFault, Faults (sets.Update x.0) ∷ [], falls, (x.0, x.1, refl, refl))
update_row link timer t octets (inr x) =
    (Applies x.1, [], record { head = Established link (renewed timer t); routes = Given x.0 x.1 }, (x.0, x.2, refl, refl))

has_row : (head : Head) (config : Config) (t : ℕ) (octets : List ℕ) (heard : Heard) → Hears config octets heard → 19 ≤ length octets → (heard ≡ Update → IsSettledAt head octets) → Taken head t octets heard
has_row Idle config t octets heard s whole settled = (Ignores, [], enters Idle, (refl, refl))
has_row (Connect delay) config t octets TooShort s whole settled = absurd (omega (arith, s, whole))
has_row (Active delay) config t octets TooShort s whole settled = absurd (omega (arith, s, whole))
has_row (OpenSent timer) config t octets TooShort s whole settled = absurd (omega (arith, s, whole))
has_row (OpenConfirm link timer) config t octets TooShort s whole settled = absurd (omega (arith, s, whole))
has_row (Established link timer) config t octets TooShort s whole settled = absurd (omega (arith, s, whole))
has_row (Connect delay) config t octets (ValidOpen l e) s whole settled = (Drops, [], falls, (refl, refl))
has_row (Connect delay) config t octets (FaultyHeader k) s whole settled = (Drops, [], falls, (refl, refl))
has_row (Connect delay) config t octets (InvalidOpen e) s whole settled = (Drops, [], falls, (refl, refl))
has_row (Connect delay) config t octets BadVersion s whole settled = (Drops, [], falls, (refl, refl))
has_row (Connect delay) config t octets Notification s whole settled = (Drops, [], falls, (refl, refl))
has_row (Connect delay) config t octets Keepalive s whole settled = (Drops, [], falls, (refl, refl))
has_row (Connect delay) config t octets Update s whole settled = (Drops, [], falls, (refl, refl))
has_row (Active delay) config t octets (ValidOpen l e) s whole settled = (Drops, [], falls, (refl, refl))
has_row (Active delay) config t octets (FaultyHeader k) s whole settled = (Drops, [], falls, (refl, refl))
has_row (Active delay) config t octets (InvalidOpen e) s whole settled = (Drops, [], falls, (refl, refl))
has_row (Active delay) config t octets BadVersion s whole settled = (Drops, [], falls, (refl, refl))
has_row (Active delay) config t octets Notification s whole settled = (Drops, [], falls, (refl, refl))
has_row (Active delay) config t octets Keepalive s whole settled = (Drops, [], falls, (refl, refl))
has_row (Active delay) config t octets Update s whole settled = (Drops, [], falls, (refl, refl))
has_row (OpenSent timer) config t octets (ValidOpen l e) s whole settled = (Collides, Cease ∷ [], falls, (refl, refl))
has_row (OpenSent timer) config t octets (FaultyHeader k) s whole settled = (NamesFault, Faults (sets.Header k) ∷ [], falls, (refl, refl))
has_row (OpenSent timer) config t octets (InvalidOpen e) s whole settled = (NamesFault, Faults (sets.Open e) ∷ [], falls, (refl, refl))
has_row (OpenSent timer) config t octets BadVersion s whole settled = (Drops, [], falls, (refl, refl))
has_row (OpenSent timer) config t octets Notification s whole settled = (Drops, [], falls, (refl, refl))
has_row (OpenSent timer) config t octets Keepalive s whole settled = (ReportsError, MachineError InOpenSent ∷ [], falls, (refl, refl))
has_row (OpenSent timer) config t octets Update s whole settled = (ReportsError, MachineError InOpenSent ∷ [], falls, (refl, refl))
has_row (OpenConfirm link timer) config t octets (ValidOpen l e) s whole settled = (Overlooks, [], enters (OpenConfirm link timer), (refl, refl))
has_row (OpenConfirm link timer) config t octets (FaultyHeader k) s whole settled = (NamesFault, Faults (sets.Header k) ∷ [], falls, (refl, refl))
has_row (OpenConfirm link timer) config t octets (InvalidOpen e) s whole settled = (NamesFault, Faults (sets.Open e) ∷ [], falls, (refl, refl))
has_row (OpenConfirm link timer) config t octets BadVersion s whole settled = (Drops, [], falls, (refl, refl))
has_row (OpenConfirm link timer) config t octets Notification s whole settled = (Drops, [], falls, (refl, refl))
has_row (OpenConfirm link timer) config t octets Keepalive s whole settled = (Establishes, [], enters (Established link (renewed timer t)), (refl, refl))
has_row (OpenConfirm link timer) config t octets Update s whole settled = (ReportsError, MachineError InOpenConfirm ∷ [], falls, (refl, refl))
has_row (Established link timer) config t octets (ValidOpen l e) s whole settled = (Overlooks, [], enters (Established link timer), (refl, refl))
has_row (Established link timer) config t octets (FaultyHeader k) s whole settled = (NamesFault, Faults (sets.Header k) ∷ [], falls, (refl, refl))
has_row (Established link timer) config t octets (InvalidOpen e) s whole settled = (NamesFault, Faults (sets.Open e) ∷ [], falls, (refl, refl))
has_row (Established link timer) config t octets BadVersion s whole settled = (Drops, [], falls, (refl, refl))
has_row (Established link timer) config t octets Notification s whole settled = (Drops, [], falls, (refl, refl))
has_row (Established link timer) config t octets Keepalive s whole settled = (Renews, [], enters (Established link (renewed timer t)), (refl, refl))
has_row (Established link timer) config t octets Update s whole settled = update_row link timer t octets (settled refl)

pub has_step : (head : Head) (config : Config) (t : ℕ) (octets : List ℕ) (heard : Heard) → Hears config octets heard → 19 ≤ length octets → IsSettledAt head octets → HasAStep config head t octets
has_step head config t octets heard hears whole settled =
    let row = has_row head config t octets heard hears whole (λ update. settled) in
    (row.1, changed (fsm_of head) (fsm_of row.2.head), row.2, ((heard, row.0, hears, row.3), refl))

pub settled_down : (head : Head) (octets : List ℕ) → ((link : Link) (timer : HoldTimer) → head ≡ Established link timer → ⊥) → IsSettledAt head octets
settled_down Idle octets down = tt
settled_down (Connect delay) octets down = tt
settled_down (Active delay) octets down = tt
settled_down (OpenSent timer) octets down = tt
settled_down (OpenConfirm own timer) octets down = tt
settled_down (Established own timer) octets down = absurd (down own timer refl)

-- ---- a run that ends goes on with each message

goes_on : EachOwedCanBeMet → (config : Config) (records : List ShownRecord) (t : ℕ) (octets : List ℕ) (s : SessionState) → Run config fresh_state records s
    → HasAStep config s.head t octets → Begins config (records ++ Received t octets ∷ [])
goes_on law config records t octets s run (wants, change, turn, is) =
    let r = Received t octets in
    let m : Member = record { state = s; link = None; wants = []; change = None } in
    let n : Member = record { state = moved s turn; link = link_for wants (link_at s.head); wants = wants; change = change } in
    let next : Next config r m n =
    inr (record { free = (refl, refl); before = s; silent = no_steps config s; turn = turn; opens = is; state = refl; link = refl }) in
    let g = can_go config n (next_met law config r m n next tt) in
    let after = free_runs config m (r ∷ g.0) n.state (refl, refl) (goes_to config r m n g.0 n.state next g.1) in
    let all = run_joined config fresh_state s n.state records (r ∷ g.0) run after in
    (g.0, n.state, subst (λ (v : List ShownRecord). Run config fresh_state v n.state) (sym (append_assoc records (r ∷ []) g.0)) all)

settled_here : (head : Head) (octets : List ℕ) (link : Link) → ((own : Link) → link_at head ≡ Some own → own ≡ link) → IsSettled link octets → IsSettledAt head octets
settled_here Idle octets link so s = tt
settled_here (Connect delay) octets link so s = tt
settled_here (Active delay) octets link so s = tt
settled_here (OpenSent timer) octets link so s = tt
settled_here (OpenConfirm own timer) octets link so s = tt
settled_here (Established own timer) octets link so s = subst (λ (v : Link). IsSettled v octets) (sym (so own refl)) s

pub owed_before : EachOwedCanBeMet → (config : Config) (link : Link) (octets : List ℕ) (heard : Heard) → Hears config octets heard → 19 ≤ length octets → ¬ ¬ IsSettled link octets
    → IsImpossibleWhereOwed config link octets
owed_before law config link octets heard hears whole settled records t same never e complete =
    let s = complete.0 in
    let held = each_as_told config records s complete.1 in
    settled (λ now. never (goes_on law config records t octets s complete.1
    (has_step s.head config t octets heard hears whole (settled_here s.head octets link (λ own k. held.link own k ∙ sym same) now))))
