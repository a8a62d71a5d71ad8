-- What chains send that lead to a state which is up, and what those do that fall to Idle.
use Rattle.std.proofs.Common.{◌≡◌, ◌∙◌, ◌⊎◌, ◌==◌, ℕ, Bool, true, false, List, [], ◌∷◌, Option, None, Some, if◌then◌else◌, inl, inr, refl, sym, ap, subst}
use Rattle.std.specs.List.{AllByRecursion}
use Rattle.std.proofs.lemmas.Bool.{cases_Bool, cond_both, false≢true}
use Rattle.bgp_prefix.specs.Shown.{ShownRecord, Received, Sent, Changed, second_of}
use Rattle.bgp_open.specs.declared.config.Config.{Config}
use Rattle.bgp_open.specs.declared.link.Link.{Link}
use Rattle.bgp_machine.specs.declared.fsm.Fsm.{Fsm}
use Rattle.bgp_machine.specs.declared.fsm.Fsm.TheVariants as fsms
use Rattle.bgp_machine.specs.declared.rows.HiddenRow.{HiddenRow}
use Rattle.bgp_machine.specs.declared.rows.HiddenRow.TheVariants as rows
use Rattle.bgp_machine.specs.declared.state.Head.{Head}
use Rattle.bgp_machine.specs.declared.state.Head.TheVariants.{Idle, Connect, Active, OpenSent, OpenConfirm, Established}
use Rattle.bgp_machine.specs.declared.want.Want.{Want}
use Rattle.bgp_machine.specs.declared.want.Want.TheVariants.{OwnOpen, KeepAlive}
use Rattle.bgp_machine.specs.Lists.{Each, Has}
use Rattle.bgp_machine.specs.Rows.{silent_heads}
use Rattle.bgp_machine.specs.Run.{Silent}
use Rattle.bgp_machine.specs.Shows.{Pays}
use Rattle.bgp_machine.specs.State.{SessionState, Turn, fsm_of, link_at, number_of}
use Rattle.bgp_machine.specs.Step.{ReceivedIn, changed, hidden_change}
use Rattle.bgp_machine.specs.Heard.{Hears}
use Rattle.bgp_machine.specs.declared.hearing.Heard.{Heard}
use Rattle.bgp_machine.specs.declared.hearing.Heard.TheVariants.{Keepalive, Update, ValidOpen}
use Rattle.bgp_machine.specs.declared.rows.ReceivedRow.{ReceivedRow}
use Rattle.bgp_machine.specs.declared.rows.ReceivedRow.TheVariants.{Ignores}
use Rattle.bgp_machine.proofs.Quiet.{quiet}
use Rattle.bgp_judge.specs.Chains.{Reaches}
use Rattle.bgp_judge.specs.Member.{IsFree, Member}
use Rattle.bgp_judge.specs.Next.{Continues, Next, Opens, Starts}
use Rattle.bgp_judge.specs.Openings.{IsOwn}
use Rattle.bgp_judge.proofs.KeptSteps.{own_opens}
use Rattle.bgp_way_ends.proofs.Chains.{LeavesNoIdle, heard_in, idle_next, idle_own, idle_stays, idle_head, of_each, silent_phase, up_by_phase, down_head}
use Rattle.bgp_way_ends.proofs.Hearing.{Goes, a_keepalive, goes, is_keepalive}
use Rattle.bgp_way_ends.proofs.Phases.{Before, Confirmed, Down, IsUp, Phase, Stays, Up, hidden_stays, phase_of}
use Rattle.bgp_way_ends.proofs.Sending.{AllUp, IsLastWant, IsNotice, IsUnopened, UpHeard, UpRow, fall_heard, fall_row, met_last, met_up, up_heard, up_row}

-- ---- silence doesn't open

abbrev pub opening : Head → Bool
opening (Connect delay) = true
opening (Active delay) = true
opening head = false

quiet_openings : (config : Config) (head : Head) → Each (λ h. opening h ≡ opening head) (silent_heads config head)
quiet_openings config Idle = (refl, tt)
quiet_openings config (Connect true) = (refl, (refl, tt))
quiet_openings config (Connect false) =
    cond_both config.parts.delay_open (Connect false ∷ Connect true ∷ []) (Connect false ∷ []) (λ (hs : List Head). Each (λ h. opening h ≡ true) hs) (λ _. (refl, (refl, tt))) (λ _. (refl, tt))
quiet_openings config (Active true) = (refl, tt)
quiet_openings config (Active false) =
    cond_both config.parts.delay_open (Active false ∷ Active true ∷ []) (Active false ∷ []) (λ (hs : List Head). Each (λ h. opening h ≡ true) hs) (λ _. (refl, (refl, tt))) (λ _. (refl, tt))
quiet_openings config (OpenSent timer) = (refl, tt)
quiet_openings config (OpenConfirm link timer) = (refl, tt)
quiet_openings config (Established link timer) = (refl, tt)

pub silent_opening : (config : Config) (s e : SessionState) → Silent config s e → opening e.head ≡ opening s.head
silent_opening config s e silent =
    of_each (λ x. opening x ≡ opening s.head) (silent_heads config s.head) e.head (quiet_openings config s.head)
    (quiet config silent.steps s e silent.are_steps silent.shows).1

pub unopened_is : (h : Head) → opening h ≡ true → IsUnopened h
unopened_is Idle e = absurd (false≢true e)
unopened_is (Connect delay) e = tt
unopened_is (Active delay) e = tt
unopened_is (OpenSent timer) e = absurd (false≢true e)
unopened_is (OpenConfirm link timer) e = absurd (false≢true e)
unopened_is (Established link timer) e = absurd (false≢true e)

pub is_unopened : (h : Head) → IsUnopened h → opening h ≡ true
is_unopened Idle u = absurd u
is_unopened (Connect delay) u = refl
is_unopened (Active delay) u = refl
is_unopened (OpenSent timer) u = absurd u
is_unopened (OpenConfirm link timer) u = absurd u
is_unopened (Established link timer) u = absurd u

pub either_opened : (h : Head) → IsUnopened h ⊎ (IsUnopened h → ⊥)
either_opened h = elim (cases_Bool (opening h)) [ inl e ↦ inl (unopened_is h e) | inr e ↦ inr (λ u. false≢true (sym e ∙ is_unopened h u)) ]

pub either_idle : (f : Fsm) → (f ≡ fsms.Idle) ⊎ (f ≡ fsms.Idle → ⊥)
either_idle fsms.Idle = inl refl
either_idle fsms.Connect = inr (λ e. cc)
either_idle fsms.Active = inr (λ e. cc)
either_idle fsms.OpenSent = inr (λ e. cc)
either_idle fsms.OpenConfirm = inr (λ e. cc)
either_idle fsms.Established = inr (λ e. cc)

-- ---- what is sent

abbrev pub said_in : List ShownRecord → List (List ℕ)
said_in [] = []
said_in (Received t octets ∷ records) = said_in records
said_in (Sent t octets ∷ records) = octets ∷ said_in records
said_in (Changed t old new ∷ records) = said_in records

some_octets : (o : List ℕ) (os : List (List ℕ)) → o ∷ os ≡ [] → ⊥
some_octets o os e = cc

abbrev pub NoNotices : List (List ℕ) → Type 0
NoNotices os = AllByRecursion (λ o. IsNotice o → ⊥) os

abbrev pub SomeNotice : List (List ℕ) → Type 0
SomeNotice os = Has IsNotice os

-- another connection isn't awaited
abbrev pub RetriesNone : ShownRecord → Type 0
RetriesNone (Received t octets) = Unit {0}
RetriesNone (Sent t octets) = Unit {0}
RetriesNone (Changed t old new) = (old ≡ 4) × (new ≡ 3) → ⊥

-- what is still to be sent keeps the session up, and before the own OPEN there is nothing
pub record Good (m : Member) : Type 0 where
  pub all_up : AllUp m.wants
  pub silent : IsUnopened m.state.head → m.wants ≡ []

-- the record is no message; it is one that is sent
abbrev IsNoMessage : ShownRecord → Type 0
IsNoMessage (Received t octets) = ⊥
IsNoMessage (Sent t octets) = ⊥
IsNoMessage (Changed t old new) = Unit {0}

abbrev IsSent : ShownRecord → Type 0
IsSent (Received t octets) = ⊥
IsSent (Sent t octets) = Unit {0}
IsSent (Changed t old new) = ⊥

abbrev HasWants : Member → Type 0
HasWants m = (want : Want) × (rest : List Want) × (m.wants ≡ want ∷ rest)

-- a message that is received opens the session, and is no NOTIFICATION; nor is one that is sent
abbrev Facts : ShownRecord → Head → Type 0
Facts (Received t octets) head = (IsNotice octets → ⊥) × (IsUnopened head → ⊥)
Facts (Sent t octets) head = IsNotice octets → ⊥
Facts (Changed t old new) head = Unit {0}

-- what a record does that keeps the session up
record UpNext (shown : ShownRecord) (m m2 : Member) : Type 0 where
  pub good : Good m2
  pub facts : Facts shown m2.state.head
  -- before the own OPEN no message was
  pub from : RetriesNone shown → IsUnopened m2.state.head → IsUnopened m.state.head × IsNoMessage shown
  -- what opens the session sends the own OPEN
  pub opens : IsUnopened m.state.head → (IsUnopened m2.state.head → ⊥) → IsSent shown ⊎ HasWants m2

-- ---- what is paid

nothing_paid : (config : Config) (link : Option Link) (t : ℕ) (octets : List ℕ) (wants left : List Want) (change still : Option (Fsm × Fsm)) → wants ≡ []
    → Pays config link (Sent t octets) wants change left still → ⊥
nothing_paid config link t octets wants left change still e pays = subst (λ (ws : List Want). Pays config link (Sent t octets) ws change left still) e pays

sent_up : (config : Config) (link : Option Link) (t : ℕ) (octets : List ℕ) (wants left : List Want) (change still : Option (Fsm × Fsm)) → AllUp wants
    → Pays config link (Sent t octets) wants change left still → AllUp left × (IsNotice octets → ⊥)
sent_up config link t octets [] left change still up pays = absurd pays
sent_up config link t octets (want ∷ wants) left change still up pays = (subst AllUp (sym pays.1) up.1, met_up config link want octets up.0 pays.0)

pub change_keeps : (config : Config) (link : Option Link) (t old new : ℕ) (wants left : List Want) (change still : Option (Fsm × Fsm))
    → Pays config link (Changed t old new) wants change left still → left ≡ wants
change_keeps config link t old new wants left None still pays = absurd pays
change_keeps config link t old new wants left (Some c) still pays = pays.2

-- which change is shown
pub change_is : (config : Config) (link : Option Link) (t old new : ℕ) (wants left : List Want) (change still : Option (Fsm × Fsm)) (a b : Fsm) → change ≡ Some (a, b)
    → Pays config link (Changed t old new) wants change left still → (old ≡ number_of a) × (new ≡ number_of b)
change_is config link t old new wants left change still a b e pays =
    let k = subst (λ (c : Option (Fsm × Fsm)). Pays config link (Changed t old new) wants c left still) e pays in (k.0, k.1)

retry_change : (row : HiddenRow) → hidden_change row fsms.OpenSent fsms.Active ≡ Some (fsms.OpenSent, fsms.Active)
retry_change rows.Starts = refl
retry_change rows.Listens = refl
retry_change rows.Stops = refl
retry_change rows.Ceases = refl
retry_change rows.RetryExpires = refl
retry_change rows.HoldExpires = refl
retry_change rows.SendHoldExpires = refl
retry_change rows.KeepaliveExpires = refl
retry_change rows.DelayExpires = refl
retry_change rows.ConnectionOpens = refl
retry_change rows.DelayBegins = refl
retry_change rows.ConnectionFails = refl
retry_change rows.Announces = refl
retry_change rows.Notes = refl

changed_to_idle : (f : Fsm) → (f ≡ fsms.Idle → ⊥) → changed f fsms.Idle ≡ Some (f, fsms.Idle)
changed_to_idle fsms.Idle up = absurd (up refl)
changed_to_idle fsms.Connect up = refl
changed_to_idle fsms.Active up = refl
changed_to_idle fsms.OpenSent up = refl
changed_to_idle fsms.OpenConfirm up = refl
changed_to_idle fsms.Established up = refl

fall_change : (row : HiddenRow) (f : Fsm) → (f ≡ fsms.Idle → ⊥) → hidden_change row f fsms.Idle ≡ Some (f, fsms.Idle)
fall_change rows.Starts f up = changed_to_idle f up
fall_change rows.Listens f up = changed_to_idle f up
fall_change rows.Stops f up = changed_to_idle f up
fall_change rows.Ceases f up = changed_to_idle f up
fall_change rows.RetryExpires f up = changed_to_idle f up
fall_change rows.HoldExpires f up = changed_to_idle f up
fall_change rows.SendHoldExpires f up = changed_to_idle f up
fall_change rows.KeepaliveExpires f up = changed_to_idle f up
fall_change rows.DelayExpires f up = changed_to_idle f up
fall_change rows.ConnectionOpens f up = changed_to_idle f up
fall_change rows.DelayBegins f up = changed_to_idle f up
fall_change rows.ConnectionFails f up = changed_to_idle f up
fall_change rows.Announces f up = changed_to_idle f up
fall_change rows.Notes f up = refl

-- ---- a record that keeps the session up

module _ (config : Config) (m m2 : Member) (shown : ShownRecord) (s : Starts config shown m m2) where
  start_up : IsUp m.state.head → IsUp s.before.head
  start_up up = up_by_phase s.before.head m.state.head (silent_phase config m.state s.before s.silent) up

  turn_up : IsUp m2.state.head → IsUp s.turn.head
  turn_up up2 = subst IsUp (ap (λ (v : SessionState). v.head) s.state) up2

  -- the own OPEN isn't sent yet at either
  to_before : IsUnopened m.state.head → IsUnopened s.before.head
  to_before u = unopened_is s.before.head (silent_opening config m.state s.before s.silent ∙ is_unopened m.state.head u)

  from_before : IsUnopened s.before.head → IsUnopened m.state.head
  from_before u = unopened_is m.state.head (sym (silent_opening config m.state s.before s.silent) ∙ is_unopened s.before.head u)

  to_turn : IsUnopened m2.state.head → IsUnopened s.turn.head
  to_turn u = subst IsUnopened (ap (λ (v : SessionState). v.head) s.state) u

  from_turn : IsUnopened s.turn.head → IsUnopened m2.state.head
  from_turn u = subst IsUnopened (sym (ap (λ (v : SessionState). v.head) s.state)) u

module _ (config : Config) (m m2 : Member) (up : IsUp m.state.head) (up2 : IsUp m2.state.head) (good : Good m) where
  same_head : m2.state ≡ m.state → IsUnopened m2.state.head → IsUnopened m.state.head
  same_head e u = subst (λ (s : SessionState). IsUnopened s.head) e u

  same_back : m2.state ≡ m.state → IsUnopened m.state.head → IsUnopened m2.state.head
  same_back e u = subst (λ (s : SessionState). IsUnopened s.head) (sym e) u

  continued_sent : (t : ℕ) (octets : List ℕ) → Continues config (Sent t octets) m m2 → UpNext (Sent t octets) m m2
  continued_sent t octets c =
      let k = sent_up config m.link t octets m.wants m2.wants m.change m2.change good.all_up c.pays in record {
        good = record {
          all_up = k.0;
          silent = λ u. absurd (nothing_paid config m.link t octets m.wants m2.wants m.change m2.change (good.silent (same_head c.state u)) c.pays);
        };
        facts = k.1;
        from = λ none u. absurd (nothing_paid config m.link t octets m.wants m2.wants m.change m2.change (good.silent (same_head c.state u)) c.pays);
        opens = λ u n. inl tt;
      }

  continued_change : (t old new : ℕ) → Continues config (Changed t old new) m m2 → UpNext (Changed t old new) m m2
  continued_change t old new c =
      let left = change_keeps config m.link t old new m.wants m2.wants m.change m2.change c.pays in record {
        good = record { all_up = subst AllUp (sym left) good.all_up; silent = λ u. left ∙ good.silent (same_head c.state u) };
        facts = tt;
        from = λ none u. (same_head c.state u, tt);
        opens = λ u n. absurd (n (same_back c.state u));
      }

  started_heard : (t : ℕ) (octets : List ℕ) → Starts config (Received t octets) m m2 → UpNext (Received t octets) m m2
  started_heard t octets s =
      let o = s.opens.0 in
      let k : UpHeard s.before.head octets m2.wants s.turn =
      up_heard config s.before.head t octets o.0 o.1 m2.wants s.turn (start_up config m m2 (Received t octets) s up) (turn_up config m m2 (Received t octets) s up2) o.2 o.3 in record {
        good = record { all_up = k.all_up; silent = λ u. absurd (k.opened (to_turn config m m2 (Received t octets) s u)) };
        facts = (k.no_notice, λ u. k.opened (to_turn config m m2 (Received t octets) s u));
        from = λ none u. absurd (k.opened (to_turn config m m2 (Received t octets) s u));
        opens = λ u n. inr (OwnOpen, KeepAlive ∷ [], k.opens (to_before config m m2 (Received t octets) s u));
      }

  started_sent : (t : ℕ) (octets : List ℕ) → Starts config (Sent t octets) m m2 → UpNext (Sent t octets) m m2
  started_sent t octets s =
      let o = s.opens in
      let k : UpRow s.before.head o.1 s.turn = up_row config s.before.head t o.0 o.1 s.turn (start_up config m m2 (Sent t octets) s up) (turn_up config m m2 (Sent t octets) s up2) o.3.0 in
      let paid = sent_up config (link_at s.before.head) t octets o.1 m2.wants o.2 m2.change k.all_up o.4 in record {
        good = record {
          all_up = paid.0;
          silent = λ u. absurd (nothing_paid config (link_at s.before.head) t octets o.1 m2.wants o.2 m2.change (k.silent (to_turn config m m2 (Sent t octets) s u)) o.4);
        };
        facts = paid.1;
        from = λ none u. absurd (nothing_paid config (link_at s.before.head) t octets o.1 m2.wants o.2 m2.change (k.silent (to_turn config m m2 (Sent t octets) s u)) o.4);
        opens = λ u n. inl tt;
      }

  started_change : (t old new : ℕ) → Starts config (Changed t old new) m m2 → UpNext (Changed t old new) m m2
  started_change t old new s =
      let o = s.opens in
      let shown = Changed t old new in
      let k : UpRow s.before.head o.1 s.turn = up_row config s.before.head t o.0 o.1 s.turn (start_up config m m2 shown s up) (turn_up config m m2 shown s up2) o.3.0 in
      let left = change_keeps config (link_at s.before.head) t old new o.1 m2.wants o.2 m2.change o.4 in record {
        good = record { all_up = subst AllUp (sym left) k.all_up; silent = λ u. left ∙ k.silent (to_turn config m m2 shown s u) };
        facts = tt;
        from = λ none u. elim (k.from (to_turn config m m2 shown s u)) [
          | inl before ↦ (from_before config m m2 shown s before, tt)
          | inr retry ↦
              let is : o.2 ≡ Some (fsms.OpenSent, fsms.Active) =
              o.3.1 ∙ ap (λ (f : Fsm). hidden_change o.0 f (fsm_of s.turn.head)) retry.0 ∙ ap (λ (f : Fsm). hidden_change o.0 fsms.OpenSent f) retry.1 ∙ retry_change o.0 in
              absurd (none (change_is config (link_at s.before.head) t old new o.1 m2.wants o.2 m2.change fsms.OpenSent fsms.Active is o.4))
        ];
        opens = λ u n. inr (OwnOpen, [], left ∙ k.opens (to_before config m m2 shown s u) (λ v. n (from_turn config m m2 shown s v)));
      }

up_next : (config : Config) (shown : ShownRecord) (m m2 : Member) → IsUp m.state.head → IsUp m2.state.head → Good m → Next config shown m m2 → UpNext shown m m2
up_next config (Received t octets) m m2 up up2 good (inl c) = absurd c.pays
up_next config (Received t octets) m m2 up up2 good (inr s) = started_heard config m m2 up up2 good t octets s
up_next config (Sent t octets) m m2 up up2 good (inl c) = continued_sent config m m2 up up2 good t octets c
up_next config (Sent t octets) m m2 up up2 good (inr s) = started_sent config m m2 up up2 good t octets s
up_next config (Changed t old new) m m2 up up2 good (inl c) = continued_change config m m2 up up2 good t old new c
up_next config (Changed t old new) m m2 up up2 good (inr s) = started_change config m m2 up up2 good t old new s

-- ---- chains that stay up

abbrev Fine : List ShownRecord → Type 0
Fine records = AllByRecursion LeavesNoIdle records

module _ (config : Config) where
  mid_up : (records : List ShownRecord) (mid last : Member) → Fine records → IsUp last.state.head → Reaches config mid records last → IsUp mid.state.head
  mid_up records mid last fine up k idle = up (idle_stays config records mid last fine idle k)

  add_heard : (shown : ShownRecord) (head : Head) (records : List ShownRecord) → Facts shown head → NoNotices (heard_in records) → NoNotices (heard_in (shown ∷ records))
  add_heard (Received t octets) head records facts rest = (facts.0, rest)
  add_heard (Sent t octets) head records facts rest = rest
  add_heard (Changed t old new) head records facts rest = rest

  add_said : (shown : ShownRecord) (head : Head) (records : List ShownRecord) → Facts shown head → NoNotices (said_in records) → NoNotices (said_in (shown ∷ records))
  add_said (Received t octets) head records facts rest = rest
  add_said (Sent t octets) head records facts rest = (facts, rest)
  add_said (Changed t old new) head records facts rest = rest

  -- no NOTIFICATION is received or sent
  pub no_notices : (records : List ShownRecord) (m last : Member) → Fine records → IsUp m.state.head → IsUp last.state.head → Good m → Reaches config m records last
      → NoNotices (heard_in records) × NoNotices (said_in records)
  no_notices [] m last fine up0 up good e = (tt, tt)
  no_notices (shown ∷ records) m last fine up0 up good k =
      let mid : Member = k.0 in
      let up1 = mid_up records mid last fine.1 up k.2 in
      let step : UpNext shown m mid = up_next config shown m mid up0 up1 good k.1 in
      let rest = no_notices records mid last fine.1 up1 up step.good k.2 in
      (add_heard shown mid.state.head records step.facts rest.0, add_said shown mid.state.head records step.facts rest.1)

  no_message : (shown : ShownRecord) (records : List ShownRecord) → IsNoMessage shown → (heard_in (shown ∷ records) ≡ heard_in records) × (said_in (shown ∷ records) ≡ said_in records)
  no_message (Received t octets) records none = absurd none
  no_message (Sent t octets) records none = absurd none
  no_message (Changed t old new) records none = (refl, refl)

  -- before the own OPEN no message is
  pub none_before : (records : List ShownRecord) (m last : Member) → Fine records → AllByRecursion RetriesNone records → IsUp m.state.head → IsUp last.state.head → Good m
      → Reaches config m records last → IsUnopened last.state.head → IsUnopened m.state.head × (heard_in records ≡ []) × (said_in records ≡ [])
  none_before [] m last fine tries up0 up good e u = (subst (λ (v : Member). IsUnopened v.state.head) (sym e) u, refl, refl)
  none_before (shown ∷ records) m last fine tries up0 up good k u =
      let mid : Member = k.0 in
      let up1 = mid_up records mid last fine.1 up k.2 in
      let step : UpNext shown m mid = up_next config shown m mid up0 up1 good k.1 in
      let rest = none_before records mid last fine.1 tries.1 up1 up step.good k.2 u in
      let first = step.from tries.0 rest.0 in
      let same = no_message shown records first.1 in
      (first.0, same.0 ∙ rest.1, same.1 ∙ rest.2)

  some_said : (shown : ShownRecord) (records : List ShownRecord) → IsSent shown → said_in (shown ∷ records) ≡ [] → ⊥
  some_said (Received t octets) records sent e = sent
  some_said (Sent t octets) records sent e = let none : octets ∷ said_in records ≡ [] = e in cc
  some_said (Changed t old new) records sent e = sent

  more_said : (shown : ShownRecord) (records : List ShownRecord) → (said_in records ≡ [] → ⊥) → said_in (shown ∷ records) ≡ [] → ⊥
  more_said (Received t octets) records some e = some e
  more_said (Sent t octets) records some e = let none : octets ∷ said_in records ≡ [] = e in cc
  more_said (Changed t old new) records some e = some e

  not_free : {X : Type 0} (m : Member) (want : Want) (rest : List Want) → m.wants ≡ want ∷ rest → m.wants ≡ [] → X
  not_free m want rest e none = let k : want ∷ rest ≡ [] = sym e ∙ none in absurd (let f : ⊥ = cc in f)

  -- what is still to be sent is sent, if nothing is left at last
  wants_said : (records : List ShownRecord) (m last : Member) (want : Want) (rest : List Want) → m.wants ≡ want ∷ rest → IsFree last → Reaches config m records last
      → (said_in records ≡ [] → ⊥) × (IsLastWant want → SomeNotice (said_in records))
  wants_said [] m last want rest e free k = not_free m want rest e (ap (λ (v : Member). v.wants) k ∙ free.0)
  wants_said (Received t octets ∷ records) m last want rest e free (mid, inl c, k) = absurd c.pays
  wants_said (Received t octets ∷ records) m last want rest e free (mid, inr s, k) = not_free m want rest e s.free.0
  wants_said (Sent t octets ∷ records) m last want rest e free (mid, inl c, k) =
      let pays = subst (λ (ws : List Want). Pays config m.link (Sent t octets) ws m.change mid.wants mid.change) e c.pays in
      (some_said (Sent t octets) records tt, λ is. inl (met_last config m.link want octets is pays.0))
  wants_said (Sent t octets ∷ records) m last want rest e free (mid, inr s, k) = not_free m want rest e s.free.0
  wants_said (Changed t old new ∷ records) m last want rest e free (mid, inl c, k) =
      wants_said records mid last want rest (change_keeps config m.link t old new m.wants mid.wants m.change mid.change c.pays ∙ e) free k
  wants_said (Changed t old new ∷ records) m last want rest e free (mid, inr s, k) = not_free m want rest e s.free.0

  -- what opens the session sends a message
  pub opened_said : (records : List ShownRecord) (m last : Member) → Fine records → IsUp m.state.head → IsUp last.state.head → Good m → IsFree last → Reaches config m records last
      → IsUnopened m.state.head → (IsUnopened last.state.head → ⊥) → said_in records ≡ [] → ⊥
  opened_said [] m last fine up0 up good free e u isnt none = isnt (subst (λ (v : Member). IsUnopened v.state.head) e u)
  opened_said (shown ∷ records) m last fine up0 up good free k u isnt none =
      let mid : Member = k.0 in
      let up1 = mid_up records mid last fine.1 up k.2 in
      let step : UpNext shown m mid = up_next config shown m mid up0 up1 good k.1 in
      elim (either_opened mid.state.head) [
        | inl still ↦ more_said shown records (opened_said records mid last fine.1 up1 up step.good free k.2 still isnt) none
        | inr opened ↦ elim (step.opens u opened) [
          | inl sent ↦ some_said shown records sent none
          | inr wants ↦ more_said shown records (wants_said records mid last wants.0 wants.1 wants.2 free k.2).0 none
        ]
      ]

-- ---- the phase at last

abbrev pub kind_of : Phase → ℕ
kind_of Before = 0
kind_of (Confirmed link) = 1
kind_of (Up link) = 2
kind_of Down = 3

abbrev pub next_kind : ℕ → Bool → ℕ
next_kind kind keepalive = if kind == 0 then 1 else (if kind == 1 then (if keepalive then 2 else 1) else kind)

abbrev pub kind_after : ℕ → List (List ℕ) → ℕ
kind_after kind [] = kind
kind_after kind (o ∷ os) = kind_after (next_kind kind (is_keepalive o)) os

own_kind : (config : Config) (m m2 : Member) → IsUp m.state.head → IsUp m2.state.head → (shown : ShownRecord) (s : Starts config shown m m2) → IsOwn shown → (os : List (List ℕ))
    → kind_after (kind_of (phase_of m.state.head)) os ≡ kind_after (kind_of (phase_of m2.state.head)) os
own_kind config m m2 up up2 shown s own os =
    let k = own_opens config s.before.head shown m2.wants m2.change s.turn own s.opens in
    let stay : Stays s.before.head s.turn =
    hidden_stays config s.before.head (second_of shown) k.0 k.1 s.turn (start_up config m m2 shown s up) (turn_up config m m2 shown s up2) k.3.0 in
    let phase : phase_of m2.state.head ≡ phase_of m.state.head =
    ap (λ (v : SessionState). phase_of v.head) s.state ∙ stay.phase ∙ silent_phase config m.state s.before s.silent in
    ap (λ (p : Phase). kind_after (kind_of p) os) (sym phase)

goes_kind : (config : Config) (head : Head) (t : ℕ) (octets : List ℕ) (x : Heard) (wants : List Want) (turn : Turn) → Hears config octets x → Goes head t octets x wants turn
    → kind_of (phase_of turn.head) ≡ next_kind (kind_of (phase_of head)) (is_keepalive octets)
goes_kind config (Connect delay) t octets (ValidOpen link e) wants turn hears g = ap (λ (u : Turn). kind_of (phase_of u.head)) g.1
goes_kind config (Active delay) t octets (ValidOpen link e) wants turn hears g = ap (λ (u : Turn). kind_of (phase_of u.head)) g.1
goes_kind config (OpenSent own) t octets (ValidOpen link e) wants turn hears g = ap (λ (u : Turn). kind_of (phase_of u.head)) g.1
goes_kind config (OpenConfirm own timer) t octets (ValidOpen link e) wants turn hears g =
    ap (λ (u : Turn). kind_of (phase_of u.head)) g ∙ sym (ap (next_kind 1) (a_keepalive config octets 1 hears.0))
goes_kind config (OpenConfirm own timer) t octets Keepalive wants turn hears g =
    ap (λ (u : Turn). kind_of (phase_of u.head)) g ∙ sym (ap (next_kind 1) (a_keepalive config octets 4 hears))
goes_kind config (Established own timer) t octets (ValidOpen link e) wants turn hears g = ap (λ (u : Turn). kind_of (phase_of u.head)) g
goes_kind config (Established own timer) t octets Keepalive wants turn hears g = ap (λ (u : Turn). kind_of (phase_of u.head)) g
goes_kind config (Established own timer) t octets Update wants turn hears g = ap (λ (u : Turn). kind_of (phase_of u.head)) g.4
goes_kind config head t octets x wants turn hears g = absurd g

kind_next : (config : Config) (shown : ShownRecord) (records : List ShownRecord) (m m2 : Member) → IsUp m.state.head → IsUp m2.state.head → Next config shown m m2
    → kind_after (kind_of (phase_of m.state.head)) (heard_in (shown ∷ records)) ≡ kind_after (kind_of (phase_of m2.state.head)) (heard_in records)
kind_next config (Received t octets) records m m2 up up2 (inl c) = absurd c.pays
kind_next config (Received t octets) records m m2 up up2 (inr s) =
    let o = s.opens.0 in
    let before_up = start_up config m m2 (Received t octets) s up in
    let turn_is_up = turn_up config m m2 (Received t octets) s up2 in
    let g = goes s.before.head t octets o.0 o.1 m2.wants s.turn before_up turn_is_up o.3 in
    let kind = goes_kind config s.before.head t octets o.0 m2.wants s.turn o.2 g in
    let same : kind_of (phase_of m2.state.head) ≡ next_kind (kind_of (phase_of m.state.head)) (is_keepalive octets) =
    ap (λ (v : SessionState). kind_of (phase_of v.head)) s.state ∙ kind
    ∙ ap (λ (p : Phase). next_kind (kind_of p) (is_keepalive octets)) (silent_phase config m.state s.before s.silent) in
    ap (λ (n : ℕ). kind_after n (heard_in records)) (sym same)
kind_next config (Sent t octets) records m m2 up up2 (inl c) = ap (λ (s : SessionState). kind_after (kind_of (phase_of s.head)) (heard_in records)) (sym c.state)
kind_next config (Sent t octets) records m m2 up up2 (inr s) = own_kind config m m2 up up2 (Sent t octets) s tt (heard_in records)
kind_next config (Changed t old new) records m m2 up up2 (inl c) = ap (λ (s : SessionState). kind_after (kind_of (phase_of s.head)) (heard_in records)) (sym c.state)
kind_next config (Changed t old new) records m m2 up up2 (inr s) = own_kind config m m2 up up2 (Changed t old new) s tt (heard_in records)

module _ (config : Config) where
  pub last_kind : (records : List ShownRecord) (m last : Member) → Fine records → IsUp m.state.head → IsUp last.state.head → Reaches config m records last
      → kind_after (kind_of (phase_of m.state.head)) (heard_in records) ≡ kind_of (phase_of last.state.head)
  last_kind [] m last fine up0 up e = ap (λ (v : Member). kind_of (phase_of v.state.head)) e
  last_kind (shown ∷ records) m last fine up0 up k =
      let mid : Member = k.0 in
      let up1 = mid_up config records mid last fine.1 up k.2 in
      kind_next config shown records m mid up0 up1 k.1 ∙ last_kind records mid last fine.1 up1 up k.2

  -- ---- chains that fall

  idle_received_wants : (t : ℕ) (octets : List ℕ) (x : Heard) (row : ReceivedRow) (wants : List Want) (turn : Turn) → ReceivedIn Idle t octets x row wants turn → wants ≡ []
  idle_received_wants t octets x Ignores wants turn r = r.0
  idle_received_wants t octets x row wants turn r = absurd r

  -- in Idle nothing is sent, but what is still to be
  idle_said : (records : List ShownRecord) (m last : Member) → Fine records → fsm_of m.state.head ≡ fsms.Idle → m.wants ≡ [] → Reaches config m records last → said_in records ≡ []
  idle_said [] m last fine idle none k = refl
  idle_said (Received t octets ∷ records) m last fine idle none (mid, inl c, k) = absurd c.pays
  idle_said (Received t octets ∷ records) m last fine idle none (mid, inr s, k) =
      let head : s.before.head ≡ Idle = down_head s.before.head (silent_phase config m.state s.before s.silent ∙ ap phase_of (idle_head m.state.head idle)) in
      let o = subst (λ (h : Head). Opens config h (Received t octets) mid.wants mid.change s.turn) head s.opens in
      idle_said records mid last fine.1 (idle_next config (Received t octets) m mid tt idle (inr s)) (idle_received_wants t octets o.0.0 o.0.1 mid.wants s.turn o.0.3) k
  idle_said (Sent t octets ∷ records) m last fine idle none (mid, inl c, k) = absurd (nothing_paid config m.link t octets m.wants mid.wants m.change mid.change none c.pays)
  idle_said (Sent t octets ∷ records) m last fine idle none (mid, inr s, k) =
      let head : s.before.head ≡ Idle = down_head s.before.head (silent_phase config m.state s.before s.silent ∙ ap phase_of (idle_head m.state.head idle)) in
      let o = subst (λ (h : Head). Opens config h (Sent t octets) mid.wants mid.change s.turn) head s.opens in
      absurd (idle_own config (Sent t octets) o.0 o.1 o.2 s.turn mid.wants mid.change tt fine.0 o.3.0 o.3.1 o.4)
  idle_said (Changed t old new ∷ records) m last fine idle none (mid, inl c, k) =
      idle_said records mid last fine.1 (idle_next config (Changed t old new) m mid fine.0 idle (inl c))
      (change_keeps config m.link t old new m.wants mid.wants m.change mid.change c.pays ∙ none) k
  idle_said (Changed t old new ∷ records) m last fine idle none (mid, inr s, k) =
      let head : s.before.head ≡ Idle = down_head s.before.head (silent_phase config m.state s.before s.silent ∙ ap phase_of (idle_head m.state.head idle)) in
      let o = subst (λ (h : Head). Opens config h (Changed t old new) mid.wants mid.change s.turn) head s.opens in
      absurd (idle_own config (Changed t old new) o.0 o.1 o.2 s.turn mid.wants mid.change tt fine.0 o.3.0 o.3.1 o.4)

-- why a change to Idle is shown: for what stands just before it
abbrev pub Cause : Option ShownRecord → ℕ → Type 0
Cause None old = ⊥
Cause (Some (Received t octets)) old = IsNotice octets ⊎ ((old ≡ 2) ⊎ (old ≡ 3))
Cause (Some (Sent t octets)) old = IsNotice octets
Cause (Some (Changed t a b)) old = ⊥

abbrev HasCause : Option ShownRecord → ShownRecord → Type 0
HasCause before (Received t octets) = Unit {0}
HasCause before (Sent t octets) = Unit {0}
HasCause before (Changed t old new) = new ≡ 1 → Cause before old

abbrev pub FallsByCause : Option ShownRecord → List ShownRecord → Type 0
FallsByCause before [] = Unit {0}
FallsByCause before (shown ∷ records) = HasCause before shown × FallsByCause (Some shown) records

abbrev pub After : Option ShownRecord → Head → Type 0
After None head = Unit {0}
After (Some shown) head = Facts shown head

two_or_three : (h : Head) (old : ℕ) → old ≡ number_of (fsm_of h) → (old ≡ 2) ⊎ (old ≡ 3) → IsUnopened h
two_or_three Idle old is (inl e) = absurd (let k : 2 ≡ 1 = sym e ∙ is in cc)
two_or_three Idle old is (inr e) = absurd (let k : 3 ≡ 1 = sym e ∙ is in cc)
two_or_three (Connect delay) old is e = tt
two_or_three (Active delay) old is e = tt
two_or_three (OpenSent timer) old is (inl e) = absurd (let k : 2 ≡ 4 = sym e ∙ is in cc)
two_or_three (OpenSent timer) old is (inr e) = absurd (let k : 3 ≡ 4 = sym e ∙ is in cc)
two_or_three (OpenConfirm link timer) old is (inl e) = absurd (let k : 2 ≡ 5 = sym e ∙ is in cc)
two_or_three (OpenConfirm link timer) old is (inr e) = absurd (let k : 3 ≡ 5 = sym e ∙ is in cc)
two_or_three (Established link timer) old is (inl e) = absurd (let k : 2 ≡ 6 = sym e ∙ is in cc)
two_or_three (Established link timer) old is (inr e) = absurd (let k : 3 ≡ 6 = sym e ∙ is in cc)

no_cause : (before : Option ShownRecord) (head h : Head) (old : ℕ) → After before head → (IsUnopened h → IsUnopened head) → old ≡ number_of (fsm_of h) → Cause before old → ⊥
no_cause None head h old after to is cause = cause
no_cause (Some (Received t octets)) head h old after to is (inl notice) = after.0 notice
no_cause (Some (Received t octets)) head h old after to is (inr e) = after.1 (to (two_or_three h old is e))
no_cause (Some (Sent t octets)) head h old after to is cause = after cause
no_cause (Some (Changed t a b)) head h old after to is cause = cause

-- a NOTIFICATION was received, or sent; or a message was received before the own OPEN, and none is sent
abbrev pub Fell : Member → List ShownRecord → Type 0
Fell m records =
    SomeNotice (heard_in records) ⊎ (SomeNotice (said_in records) ⊎ (IsUnopened m.state.head × (said_in records ≡ []) × (heard_in records ≡ [] → ⊥)))

more_heard_notice : (shown : ShownRecord) (records : List ShownRecord) → SomeNotice (heard_in records) → SomeNotice (heard_in (shown ∷ records))
more_heard_notice (Received t octets) records h = inr h
more_heard_notice (Sent t octets) records h = h
more_heard_notice (Changed t old new) records h = h

more_said_notice : (shown : ShownRecord) (records : List ShownRecord) → SomeNotice (said_in records) → SomeNotice (said_in (shown ∷ records))
more_said_notice (Received t octets) records h = h
more_said_notice (Sent t octets) records h = inr h
more_said_notice (Changed t old new) records h = h

module _ (config : Config) (last : Member) (idle : fsm_of last.state.head ≡ fsms.Idle) (free : IsFree last) where
  -- at a record at which it falls
  falls_now : (shown : ShownRecord) (records : List ShownRecord) (before : Option ShownRecord) (m mid : Member) → Fine (shown ∷ records) → HasCause before shown → IsUp m.state.head
      → fsm_of mid.state.head ≡ fsms.Idle → After before m.state.head → Starts config shown m mid → Reaches config mid records last → Fell m (shown ∷ records)
  falls_now (Received t octets) records before m mid fine cause up down after s k =
      let o = s.opens.0 in
      let turn_down : fsm_of s.turn.head ≡ fsms.Idle = sym (ap (λ (v : SessionState). fsm_of v.head) s.state) ∙ down in
      elim (fall_heard config s.before.head t octets o.0 o.1 mid.wants s.turn (start_up config m mid (Received t octets) s up) turn_down o.2 o.3) [
        | inl silent ↦ elim silent.1 [
          | inl u ↦ inr (inr (from_before config m mid (Received t octets) s u, idle_said config records mid last fine.1 down silent.0 k, λ e. some_octets octets (heard_in records) e))
          | inr notice ↦ inl (inl notice)
        ]
        | inr w ↦ inr (inl ((wants_said config records mid last w.0 [] w.1.1 free k).1 w.1.0))
      ]
  falls_now (Sent t octets) records before m mid fine cause up down after s k =
      let o = s.opens in
      let turn_down : fsm_of s.turn.head ≡ fsms.Idle = sym (ap (λ (v : SessionState). fsm_of v.head) s.state) ∙ down in
      let link = link_at s.before.head in
      elim (fall_row config s.before.head t o.0 o.1 s.turn (start_up config m mid (Sent t octets) s up) turn_down o.3.0) [
        | inl none ↦ absurd (nothing_paid config link t octets o.1 mid.wants o.2 mid.change none o.4)
        | inr w ↦
            let pays = subst (λ (ws : List Want). Pays config link (Sent t octets) ws o.2 mid.wants mid.change) w.1.1 o.4 in
            inr (inl (inl (met_last config link w.0 octets w.1.0 pays.0)))
      ]
  falls_now (Changed t old new) records before m mid fine cause up down after s k =
      let o = s.opens in
      let shown = Changed t old new in
      let turn_down : fsm_of s.turn.head ≡ fsms.Idle = sym (ap (λ (v : SessionState). fsm_of v.head) s.state) ∙ down in
      let link = link_at s.before.head in
      let before_up = start_up config m mid shown s up in
      elim (fall_row config s.before.head t o.0 o.1 s.turn before_up turn_down o.3.0) [
        | inl none ↦
            let is : o.2 ≡ Some (fsm_of s.before.head, fsms.Idle) =
            o.3.1 ∙ ap (λ (f : Fsm). hidden_change o.0 (fsm_of s.before.head) f) turn_down ∙ fall_change o.0 (fsm_of s.before.head) before_up in
            let numbers = change_is config link t old new o.1 mid.wants o.2 mid.change (fsm_of s.before.head) fsms.Idle is o.4 in
            absurd (no_cause before m.state.head s.before.head old after (from_before config m mid shown s) numbers.0 (cause numbers.1))
        | inr w ↦ inr (inl ((wants_said config records mid last w.0 [] (change_keeps config link t old new o.1 mid.wants o.2 mid.change o.4 ∙ w.1.1) free k).1 w.1.0))
      ]

  pub fell : (records : List ShownRecord) (before : Option ShownRecord) (m : Member) → Fine records → AllByRecursion RetriesNone records → FallsByCause before records
      → IsUp m.state.head → Good m → After before m.state.head → Reaches config m records last → Fell m records
  fell [] before m fine tries causes up good after e = absurd (up (ap (λ (v : Member). fsm_of v.state.head) e ∙ idle))
  fell (shown ∷ records) before m fine tries causes up good after (mid, next, k) = elim (either_idle (fsm_of mid.state.head)) [
    | inl down ↦ elim next [
      | inl c ↦ absurd (up (sym (ap (λ (v : SessionState). fsm_of v.head) c.state) ∙ down))
      | inr s ↦ falls_now shown records before m mid fine causes.0 up down after s k
    ]
    | inr mid_is_up ↦
        let step : UpNext shown m mid = up_next config shown m mid up mid_is_up good next in
        elim (fell records (Some shown) mid fine.1 tries.1 causes.1 mid_is_up step.good step.facts k) [
          | inl heard ↦ inl (more_heard_notice shown records heard)
          | inr rest ↦ elim rest [
            | inl said ↦ inr (inl (more_said_notice shown records said))
            | inr none ↦
                let first = step.from tries.0 none.0 in
                let same = no_message config shown records first.1 in
                inr (inr (first.0, same.1 ∙ none.1, λ e. none.2 (sym same.0 ∙ e)))
          ]
        ]
  ]
