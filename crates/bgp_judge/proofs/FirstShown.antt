-- A run that shows a record first: silence, and then a step that the record opens.
use Rattle.std.proofs.Common.{◌≡◌, ℕ, List, [], ◌∷◌, ◌++◌, Option, None, refl, sym, ap, subst}
use Rattle.bgp_prefix.specs.Shown.{ShownRecord, Received, Sent, Changed}
use Rattle.bgp_open.specs.declared.config.Config.{Config}
use Rattle.bgp_machine.specs.declared.fsm.Fsm.{Fsm}
use Rattle.bgp_machine.specs.declared.want.Want.{Want}
use Rattle.bgp_machine.specs.Run.{Taken, IsTaken, AreSteps, records_of, Run, Silent}
use Rattle.bgp_machine.specs.Shows.{Shows, PaysAll}
use Rattle.bgp_machine.specs.State.{SessionState, Turn, fsm_of, link_at, moved}
use Rattle.bgp_machine.specs.Step.{Event, Hidden, Received as OnMessage, HiddenIn, Step, change_of, hidden_change, changed}
use Rattle.bgp_judge.specs.Member.{Member, link_for}
use Rattle.bgp_judge.specs.Next.{Opens, Starts}
use Rattle.bgp_judge.specs.Stands.{Goes}
use Rattle.bgp_machine.proofs.JoinedRuns.{no_steps}
use Rattle.bgp_judge.proofs.Joining.{silent_longer}
use Rattle.bgp_judge.proofs.Paying.{pays_for}

pub heads : (a b : ShownRecord) (xs ys : List ShownRecord) → a ∷ xs ≡ b ∷ ys → a ≡ b
heads a b xs ys e = cc

pub tails : (a b : ShownRecord) (xs ys : List ShownRecord) → a ∷ xs ≡ b ∷ ys → xs ≡ ys
tails a b xs ys e = cc

no_record : (r : ShownRecord) (xs : List ShownRecord) → [] ≡ r ∷ xs → ⊥
no_record r xs e = cc

-- a step whose first record this is, and the others that it shows
pub record Opened (config : Config) (before : SessionState) (r : ShownRecord) (after : SessionState) (others : List ShownRecord) : Type 0 where
  pub turn : Turn
  pub left : List Want
  pub still : Option (Fsm × Fsm)
  pub opens : Opens config before.head r left still turn
  pub state : after ≡ moved before turn
  pub pays : PaysAll config (link_at before.head) left still others

step_opens : (config : Config) (before after : SessionState) (t : ℕ) (event : Event) (wants : List Want) (r : ShownRecord) (others : List ShownRecord)
    → Step config before t event wants after
    → Shows config (link_at before.head) event t wants (change_of event (fsm_of before.head) (fsm_of after.head)) (r ∷ others)
    → Opened config before r after others
step_opens config before after t (OnMessage octets) wants r others step shows = record {
  turn = step.0;
  left = wants;
  still = changed (fsm_of before.head) (fsm_of after.head);
  opens = subst (λ (v : ShownRecord). Opens config before.head v wants (changed (fsm_of before.head) (fsm_of after.head)) step.0) (sym shows.0)
      (step.1, ap (λ (v : SessionState). changed (fsm_of before.head) (fsm_of v.head)) step.2);
  state = step.2;
  pays = shows.1;
}
step_opens config before after t (Hidden row) wants (Received u octets) others step shows = absurd shows.1.2
step_opens config before after t (Hidden row) wants (Sent u octets) others step shows = let k = shows.1 in record {
  turn = step.0;
  left = k.0;
  still = k.1;
  opens = (
    row,
    wants,
    hidden_change row (fsm_of before.head) (fsm_of after.head),
    (
      subst (λ (v : ℕ). HiddenIn before.head config v row wants step.0) (sym shows.0) step.1,
      ap (λ (v : SessionState). hidden_change row (fsm_of before.head) (fsm_of v.head)) step.2,
    ),
    k.2,
  );
  state = step.2;
  pays = k.3;
}
step_opens config before after t (Hidden row) wants (Changed u x y) others step shows = let k = shows.1 in record {
  turn = step.0;
  left = k.0;
  still = k.1;
  opens = (
    row,
    wants,
    hidden_change row (fsm_of before.head) (fsm_of after.head),
    (
      subst (λ (v : ℕ). HiddenIn before.head config v row wants step.0) (sym shows.0) step.1,
      ap (λ (v : SessionState). hidden_change row (fsm_of before.head) (fsm_of v.head)) step.2,
    ),
    k.2,
  );
  state = step.2;
  pays = k.3;
}

abbrev pub free_at : SessionState → Member
free_at s = record { state = s; link = None; wants = []; change = None }

-- what the record makes of the state's member, and how that goes on
pub record First (config : Config) (s : SessionState) (r : ShownRecord) (rest : List ShownRecord) (e : SessionState) : Type 0 where
  pub member : Member
  pub starts : Starts config r (free_at s) member
  pub goes : Goes config member rest e

first_by : (config : Config) (x : Taken) (xs : List Taken) (origin e : SessionState) (r : ShownRecord) (rest shown : List ShownRecord)
    → Silent config origin x.before → IsTaken config x → AreSteps config x.after xs e → x.shown ≡ shown → shown ++ records_of xs ≡ r ∷ rest
    → (Silent config origin x.after → records_of xs ≡ r ∷ rest → First config origin r rest e)
    → First config origin r rest e
first_by config x xs origin e r rest [] silent taken steps is parts next = next (silent_longer config origin x silent taken is) parts
first_by config x xs origin e r rest (r2 ∷ others) silent taken steps is parts next =
    let o = step_opens config x.before x.after x.second x.event x.wants r2 others taken.step
    (subst (λ (v : List ShownRecord). Shows config (link_at x.before.head) x.event x.second x.wants
    (change_of x.event (fsm_of x.before.head) (fsm_of x.after.head)) v) is taken.shows) in
    let m : Member = record { state = x.after; link = link_for o.left (link_at x.before.head); wants = o.left; change = o.still } in
    record {
      member = m;
      starts = record {
        free = (refl, refl);
        before = x.before;
        silent = silent;
        turn = o.turn;
        opens = subst (λ (v : ShownRecord). Opens config x.before.head v o.left o.still o.turn) (heads r2 r (others ++ records_of xs) rest parts) o.opens;
        state = o.state;
        link = refl;
      };
      goes = record {
        paid = others;
        later = records_of xs;
        parts = tails r2 r (others ++ records_of xs) rest parts;
        pays = pays_for config (link_at x.before.head) o.left o.still others o.pays;
        run = record { steps = xs; are_steps = steps; shows = refl };
      };
    }

first_in : (config : Config) (xs : List Taken) (origin s e : SessionState) (r : ShownRecord) (rest : List ShownRecord) → Silent config origin s
    → AreSteps config s xs e → records_of xs ≡ r ∷ rest → First config origin r rest e
first_in config [] origin s e r rest silent steps parts = absurd (no_record r rest parts)
first_in config (x ∷ xs) origin s e r rest silent steps parts =
    first_by config x xs origin e r rest x.shown (subst (λ (v : SessionState). Silent config origin v) (sym steps.0) silent) steps.1 steps.2 refl parts
    (λ longer more. first_in config xs origin x.after e r rest longer steps.2 more)

pub first_shown : (config : Config) (s e : SessionState) (r : ShownRecord) (rest : List ShownRecord) → Run config s (r ∷ rest) e
    → First config s r rest e
first_shown config s e r rest run = first_in config run.steps s s e r rest (no_steps config s) run.are_steps run.shows
