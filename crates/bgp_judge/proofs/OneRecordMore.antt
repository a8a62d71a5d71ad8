-- A member goes on with a record and others exactly where what the record makes of it goes on with the others.
use Rattle.std.proofs.Common.{◌≡◌, inl, inr, List, [], ◌∷◌, ◌++◌, Option, None, refl, sym, ap, subst}
use Rattle.bgp_prefix.specs.Shown.{ShownRecord, Received, Sent, Changed}
use Rattle.bgp_open.specs.declared.config.Config.{Config}
use Rattle.bgp_open.specs.declared.link.Link.{Link}
use Rattle.bgp_machine.specs.declared.fsm.Fsm.{Fsm}
use Rattle.bgp_machine.specs.declared.want.Want.{Want}
use Rattle.bgp_machine.specs.Lists.{Each}
use Rattle.bgp_machine.specs.Owed.{CanBeMet, EachOwedCanBeMet}
use Rattle.bgp_machine.specs.Run.{Run}
use Rattle.bgp_machine.specs.Shows.{Pays, PaysAll}
use Rattle.bgp_machine.specs.State.{SessionState, Turn, link_at, moved}
use Rattle.bgp_machine.specs.Step.{Hidden, Received as OnMessage}
use Rattle.bgp_judge.specs.Image.{Covers}
use Rattle.bgp_judge.specs.Member.{Member, IsFree, link_for}
use Rattle.bgp_judge.specs.Next.{Opens, Starts, Next}
use Rattle.bgp_judge.specs.Stands.{Goes}
use Rattle.bgp_judge.proofs.FirstShown.{First, first_shown, heads, tails}
use Rattle.bgp_machine.proofs.JoinedRuns.{run_joined, step_first}
use Rattle.bgp_judge.proofs.Paying.{pays_on, pays_for, pays_nothing, each_left, each_for}

-- a step that the record opens, and a run behind it
opened_runs : (config : Config) (before e : SessionState) (r : ShownRecord) (left : List Want) (still : Option (Fsm × Fsm)) (turn : Turn)
    (paid later : List ShownRecord) → Opens config before.head r left still turn → PaysAll config (link_at before.head) left still paid
    → Run config (moved before turn) later e → Run config before ((r ∷ paid) ++ later) e
opened_runs config before e (Received t octets) left still turn paid later opens pays run =
    step_first config (record { before = before; second = t; event = OnMessage octets; wants = left; after = moved before turn; shown = Received t octets ∷ paid })
    e later (record {
      step = (turn, opens.0, refl);
      shows = (refl, subst (λ (c : Option (Fsm × Fsm)). PaysAll config (link_at before.head) left c paid) opens.1 pays);
    }) run
opened_runs config before e (Sent t octets) left still turn paid later opens pays run =
    step_first config (record { before = before; second = t; event = Hidden opens.0; wants = opens.1; after = moved before turn; shown = Sent t octets ∷ paid })
    e later (record {
      step = (turn, opens.3.0, refl);
      shows = (refl, subst (λ (c : Option (Fsm × Fsm)). PaysAll config (link_at before.head) opens.1 c (Sent t octets ∷ paid)) opens.3.1 (left, still, opens.4, pays));
    }) run
opened_runs config before e (Changed t x y) left still turn paid later opens pays run =
    step_first config (record { before = before; second = t; event = Hidden opens.0; wants = opens.1; after = moved before turn; shown = Changed t x y ∷ paid })
    e later (record {
      step = (turn, opens.3.0, refl);
      shows = (refl, subst (λ (c : Option (Fsm × Fsm)). PaysAll config (link_at before.head) opens.1 c (Changed t x y ∷ paid)) opens.3.1 (left, still, opens.4, pays));
    }) run

starts_runs : (config : Config) (r : ShownRecord) (m m2 : Member) (rest : List ShownRecord) (e : SessionState) → Starts config r m m2 → Goes config m2 rest e
    → Run config m.state (r ∷ rest) e
starts_runs config r m m2 rest e s g =
    let pays : PaysAll config (link_at s.before.head) m2.wants m2.change g.paid =
    pays_on config (link_at s.before.head) m2.wants m2.change g.paid
    (subst (λ (k : Option Link). PaysAll config k m2.wants m2.change g.paid) s.link g.pays) in
    let run : Run config (moved s.before s.turn) g.later e = subst (λ (v : SessionState). Run config v g.later e) s.state g.run in
    let opened : Run config s.before (r ∷ (g.paid ++ g.later)) e = opened_runs config s.before e r m2.wants m2.change s.turn g.paid g.later s.opens pays run in
    subst (λ (v : List ShownRecord). Run config m.state (r ∷ v) e) g.parts (run_joined config m.state s.before e [] (r ∷ (g.paid ++ g.later)) s.silent opened)

-- what the record makes of it goes on: so it goes on with the record first
pub goes_to : (config : Config) (r : ShownRecord) (m m2 : Member) (rest : List ShownRecord) (e : SessionState) → Next config r m m2 → Goes config m2 rest e
    → Goes config m (r ∷ rest) e
goes_to config r m m2 rest e n g = elim n [
  | inl c ↦ record {
    paid = r ∷ g.paid;
    later = g.later;
    parts = ap (λ (v : List ShownRecord). r ∷ v) g.parts;
    pays = (
      m2.wants,
      m2.change,
      c.pays,
      pays_on config m.link m2.wants m2.change g.paid
          (subst (λ (k : Option Link). PaysAll config k m2.wants m2.change g.paid) c.link g.pays),
    );
    run = subst (λ (v : SessionState). Run config v g.later e) c.state g.run;
  }
  | inr s ↦ record { paid = []; later = r ∷ rest; parts = refl; pays = s.free; run = starts_runs config r m m2 rest e s g }
]

goes_by : (config : Config) (r : ShownRecord) (m : Member) (rest : List ShownRecord) (e : SessionState) (paid later : List ShownRecord) → paid ++ later ≡ r ∷ rest
    → PaysAll config m.link m.wants m.change paid → Run config m.state later e → (m2 : Member) × Next config r m m2 × Goes config m2 rest e
goes_by config r m rest e [] later parts pays run =
    let f : First config m.state r rest e = first_shown config m.state e r rest (subst (λ (v : List ShownRecord). Run config m.state v e) parts run) in
    let s = f.starts in
    (f.member, inr (record { free = pays; before = s.before; silent = s.silent; turn = s.turn; opens = s.opens; state = s.state; link = s.link }), f.goes)
goes_by config r m rest e (r2 ∷ paid) later parts pays run = (
  record { state = m.state; link = link_for pays.0 m.link; wants = pays.0; change = pays.1 },
  inl (record {
    pays = subst (λ (v : ShownRecord). Pays config m.link v m.wants m.change pays.0 pays.1) (heads r2 r (paid ++ later) rest parts) pays.2;
    state = refl;
    link = refl;
  }),
  record {
    paid = paid;
    later = later;
    parts = tails r2 r (paid ++ later) rest parts;
    pays = pays_for config m.link pays.0 pays.1 paid pays.3;
    run = run;
  },
)

-- it goes on with the record first: so something that the record makes of it goes on
pub goes_from : (config : Config) (r : ShownRecord) (m : Member) (rest : List ShownRecord) (e : SessionState) → Goes config m (r ∷ rest) e
    → (m2 : Member) × Next config r m m2 × Goes config m2 rest e
goes_from config r m rest e g = goes_by config r m rest e g.paid g.later g.parts g.pays g.run

free_by : (config : Config) (m : Member) (rest : List ShownRecord) (e : SessionState) (paid later : List ShownRecord) → IsFree m → paid ++ later ≡ rest
    → PaysAll config m.link m.wants m.change paid → Run config m.state later e → Run config m.state rest e
free_by config m rest e [] later free parts pays run = subst (λ (v : List ShownRecord). Run config m.state v e) parts run
free_by config m rest e (r ∷ paid) later free parts pays run =
    absurd (pays_nothing config m.link r pays.0 pays.1
    (subst (λ (ws : List Want). Pays config m.link r ws None pays.0 pays.1) free.0
    (subst (λ (c : Option (Fsm × Fsm)). Pays config m.link r m.wants c pays.0 pays.1) free.1 pays.2)))

-- what has nothing left to show goes on as runs from its state do
pub free_runs : (config : Config) (m : Member) (rest : List ShownRecord) (e : SessionState) → IsFree m → Goes config m rest e → Run config m.state rest e
free_runs config m rest e free g = free_by config m rest e g.paid g.later free g.parts g.pays g.run

pub runs_free : (config : Config) (m : Member) (rest : List ShownRecord) (e : SessionState) → IsFree m → Run config m.state rest e → Goes config m rest e
runs_free config m rest e free run = record { paid = []; later = rest; parts = refl; pays = free; run = run }

-- what covers another goes on in each way in which that does
pub cover_goes : (config : Config) (m other : Member) (rest : List ShownRecord) (e : SessionState) → Covers config m other → Goes config other rest e
    → Goes config m rest e
cover_goes config m other rest e c g = elim c [
  | inl q ↦ subst (λ (v : Member). Goes config v rest e) (sym q) g
  | inr k ↦ runs_free config m rest e k.0
      (run_joined config m.state other.state e [] rest k.2 (free_runs config other rest e k.1 g))
]

-- what a member has left to send can be met where that was so before the record
starts_met : EachOwedCanBeMet → (config : Config) (before : SessionState) (r : ShownRecord) (left : List Want) (still : Option (Fsm × Fsm)) (turn : Turn)
    → Opens config before.head r left still turn → Each (CanBeMet config (link_at before.head)) left
starts_met law config before (Received t octets) left still turn o = law before.head config t (OnMessage octets) left turn o.0
starts_met law config before (Sent t octets) left still turn o =
    each_left (CanBeMet config (link_at before.head)) config (link_at before.head) (Sent t octets) o.1 o.2 left still o.4
    (law before.head config t (Hidden o.0) o.1 turn o.3.0)
starts_met law config before (Changed t x y) left still turn o =
    each_left (CanBeMet config (link_at before.head)) config (link_at before.head) (Changed t x y) o.1 o.2 left still o.4
    (law before.head config t (Hidden o.0) o.1 turn o.3.0)

pub next_met : EachOwedCanBeMet → (config : Config) (r : ShownRecord) (m m2 : Member) → Next config r m m2 → Each (CanBeMet config m.link) m.wants
    → Each (CanBeMet config m2.link) m2.wants
next_met law config r m m2 n each = elim n [
  | inl c ↦ subst (λ (k : Option Link). Each (CanBeMet config k) m2.wants) (sym c.link)
      (each_for config m.link m2.wants (each_left (CanBeMet config m.link) config m.link r m.wants m.change m2.wants m2.change c.pays each))
  | inr s ↦ subst (λ (k : Option Link). Each (CanBeMet config k) m2.wants) (sym s.link)
      (each_for config (link_at s.before.head) m2.wants (starts_met law config s.before r m2.wants m2.change s.turn s.opens))
]
