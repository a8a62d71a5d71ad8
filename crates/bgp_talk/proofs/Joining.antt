-- Parts of a talk, one after another.
use Rattle.std.proofs.Common.{◌≡◌, ◌∙◌, ℕ, ◌+◌, ◌<◌, List, [], ◌∷◌, ◌++◌, length, ap, sym, refl, subst, append_assoc, append-nil, arith, Bool, true, false, Result, Ok, Err, IfErr}
use Rattle.std.specs.Prelude.{IsErrAnd}
use Rattle.bgp_open.specs.declared.config.Config.{Config}
use Rattle.bgp_prefix.specs.Shown.{ShownRecord}
use Rattle.bgp_speaker.specs.Choosing.{Chooses, sent_in}
use Rattle.bgp_speaker.specs.Core.{CoreState, InputValue, Failed}
use Rattle.bgp_talk.specs.Account.{Telling, Asked, Clock, Wrote, Read, ReadTold, connect_input, connection_after, turn_inputs}
use Rattle.bgp_talk.specs.Talk.{Standing, in_hand, read_room, Goes, Talks, Sends, SentSoFar, Went, Cut, Entered, StopsShort, capture_of}
use Rattle.bgp_talk.specs.CoreFacts.{is_resting}
use Rattle.bgp_talk.specs.declared.fault.SpeakFault.{SpeakFault}
use Rattle.bgp_talk.specs.declared.wire.Connection.{Connection}
use Rattle.bgp_talk.specs.declared.wire.Connection.TheVariants.{NotAsked, Stands}

pub cut_then : {X E : Type 0} (r : Result X E) (P Q : E → Type 0) → ((e : E) → P e → Q e) → IfErr r P → IfErr r Q
cut_then (Ok x) P Q step held = tt
cut_then (Err e) P Q step held = step e held

-- an error that is answered again
pub err_again : {X E : Type 0} (r : Result X E) (e : E) (P : E → Type 0) → IsErrAnd r (λ f. f ≡ e) → P e → IfErr r P
err_again (Ok x) e P is held = tt
err_again (Err f) e P is held = subst P (sym is) held

pub talks_joined : (s m e : Standing) (xs ys : List Telling) (r more : List ShownRecord)
    → Talks s xs r m → Talks m ys more e → Talks s (xs ++ ys) (r ++ more) e
talks_joined s m e [] ys r more first second =
    subst (λ (q : List ShownRecord). Talks s ys (q ++ more) e) (sym first.0)
    (subst (λ (q : Standing). Talks q ys more e) first.1 second)
talks_joined s m e (x ∷ xs) ys r more first second = (
  first.0,
  first.1,
  first.2 ++ more,
  first.3,
  talks_joined first.1 m e xs ys first.2 more first.4 second,
  ap (λ (q : List ShownRecord). q ++ more) first.5 ∙ append_assoc first.0 first.2 more,
)

-- one telling
pub one_telling : (s e : Standing) (told : Telling) (r : List ShownRecord) → Goes s told r e → Talks s (told ∷ []) r e
one_telling s e told r goes = (r, e, [], goes, (refl, refl), sym (append-nil r))

-- a step of the core
pub step_talks : (input : InputValue) (owed : List InputValue) (connection : Connection) (left : ℕ) (a b : CoreState) (second : ℕ) (r : List ShownRecord) (octets : List ℕ)
    → Chooses a input second r b → octets ≡ sent_in r
    → Goes (in_hand (input ∷ owed) [] connection left a) (Clock second) r (in_hand owed octets connection left b)
step_talks input owed connection left a b second r octets chosen sends = record {
  input = input;
  rest = owed;
  sent = refl;
  owed = refl;
  chosen = chosen;
  goes = ap (λ (o : List ℕ). in_hand owed o connection left b) sends;
}

-- nothing is sent so far
pub nothing_sent : (octets : List ℕ) → SentSoFar [] octets octets
nothing_sent octets owed left core = (refl, refl)

-- some more octets were taken
pub sent_more : (account : List Telling) (octets rest front behind : List ℕ) → SentSoFar account octets rest → rest ≡ front ++ behind → 0 < length front
    → SentSoFar (account ++ Wrote (length rest) front ∷ []) octets behind
sent_more account octets rest [] behind sent is some = absurd (omega (arith, some))
sent_more account octets rest (x ∷ xs) behind sent is some = λ owed left core.
    talks_joined _ _ _ account (Wrote (length rest) (x ∷ xs) ∷ []) [] [] (sent owed left core)
    (one_telling (in_hand owed rest Stands left core) (in_hand owed behind Stands left core) (Wrote (length rest) (x ∷ xs)) [] (record { stands = refl; whole = refl; unsent = is; goes = refl }, refl))

-- all were
pub sent_whole : (account : List Telling) (octets rest : List ℕ) → SentSoFar account octets rest → rest ≡ [] → Sends account octets true
sent_whole account octets rest sent none owed left core =
    subst (λ (o : List ℕ). Talks (in_hand owed octets Stands left core) account [] (in_hand owed o Stands left core)) none (sent owed left core)

-- and then a write took none
pub sent_part : (account : List Telling) (octets rest : List ℕ) → SentSoFar account octets rest → 0 < length rest → Sends (account ++ Wrote (length rest) [] ∷ []) octets false
sent_part account octets rest sent some owed left core =
    talks_joined _ _ _ account (Wrote (length rest) [] ∷ []) [] [] (sent owed left core)
    (one_telling (in_hand owed rest Stands left core) (in_hand (Failed ∷ owed) [] Stands left core) (Wrote (length rest) []) [] (record { stands = refl; whole = refl; some = some; goes = refl }, refl))

-- `connect` is asked
pub asked_talks : (answer : Bool) (left : ℕ) (core : CoreState)
    → Talks (in_hand [] [] NotAsked left core) (Asked answer ∷ []) [] (in_hand (connect_input answer ∷ []) [] (connection_after answer) left core)
asked_talks answer left core =
    one_telling _ _ (Asked answer) [] (record { free = (refl, refl); once = refl; goes = refl }, refl)

-- a turn is taken
pub read_talks : (room : ℕ) (told : ReadTold) (left : ℕ) (core : CoreState) → room ≡ read_room → is_resting core ≡ false
    → Talks (in_hand [] [] Stands (left + 1) core) (Read room told ∷ []) [] (in_hand (turn_inputs told) [] Stands left core)
read_talks room told left core wide awake =
    one_telling _ _ (Read room told) [] (record { free = (refl, refl); stands = refl; awake = awake; wide = wide; takes = refl; goes = refl }, refl)

-- the same, said otherwise
module _ {W C : Type 0} {tells : W → W → List Telling → Type 0} {takes : C → C → List ℕ → Type 0} {w w' : W} {k k' : C} {s : Standing} where
  pub went_to : {text : List ShownRecord → List ℕ} {e f : Standing} → e ≡ f → Went tells takes text s w k e w' k' → Went tells takes text s w k f w' k'
  went_to {text = text} is went = subst (λ (v : Standing). Went tells takes text s w k v w' k') is went

  pub went_by : {v u : Config} {e : Standing} → v ≡ u → Went tells takes (capture_of v) s w k e w' k' → Went tells takes (capture_of u) s w k e w' k'
  went_by {e = e} is went = subst (λ (v : Config). Went tells takes (capture_of v) s w k e w' k') is went

  pub cut_by : {v u : Config} {fault : SpeakFault} → v ≡ u → Cut tells takes (capture_of v) fault s w k w' k' → Cut tells takes (capture_of u) fault s w k w' k'
  cut_by {fault = fault} is cut = subst (λ (v : Config). Cut tells takes (capture_of v) fault s w k w' k') is cut

  pub cut_from : {text : List ShownRecord → List ℕ} {fault : SpeakFault} {e : Standing} → s ≡ e → Cut tells takes text fault s w k w' k' → Cut tells takes text fault e w k w' k'
  cut_from {text = text} {fault = fault} is cut = subst (λ (v : Standing). Cut tells takes text fault v w k w' k') is cut

  pub went_from : {text : List ShownRecord → List ℕ} {e f : Standing} → s ≡ e → Went tells takes text s w k f w' k' → Went tells takes text e w k f w' k'
  went_from {text = text} {f = f} is went = subst (λ (v : Standing). Went tells takes text v w k f w' k') is went

module _ {W C : Type 0}
    (tells : W → W → List Telling → Type 0) (takes : C → C → List ℕ → Type 0)
    (text : List ShownRecord → List ℕ)
    (told_joined : (a b c : W) (xs ys : List Telling) → tells a b xs → tells b c ys → tells a c (xs ++ ys))
    (took_joined : (a b c : C) (xs ys : List ℕ) → takes a b xs → takes b c ys → takes a c (xs ++ ys))
    (text_joined : (xs ys : List ShownRecord) → text (xs ++ ys) ≡ text xs ++ text ys) where
  -- what went well, and then more that did
  pub went_then : {s m e : Standing} {w w' w'' : W} {k k' k'' : C}
      → Went tells takes text s w k m w' k' → Went tells takes text m w' k' e w'' k''
      → Went tells takes text s w k e w'' k''
  went_then {s = s} {m = m} {e = e} {w = w} {w' = w'} {w'' = w''} {k = k} {k' = k'} {k'' = k''} first second = record {
    account = first.account ++ second.account;
    records = first.records ++ second.records;
    told = told_joined w w' w'' first.account second.account first.told second.told;
    talked = talks_joined s m e first.account second.account first.records second.records first.talked second.talked;
    wrote = subst (λ (o : List ℕ). takes k k'' o) (sym (text_joined first.records second.records))
        (took_joined k k' k'' (text first.records) (text second.records) first.wrote second.wrote);
  }

  -- and then a fault
  pub went_cut : {fault : SpeakFault} {s m : Standing} {w w' w'' : W} {k k' k'' : C}
      → Went tells takes text s w k m w' k' → Cut tells takes text fault m w' k' w'' k''
      → Cut tells takes text fault s w k w'' k''
  went_cut first cut = record {
    between = cut.between;
    there = cut.there;
    so_far = cut.so_far;
    went = went_then first cut.went;
    short = cut.short;
  }

  -- nothing was shown
  pub went_silent : {s e : Standing} {w w' : W} {k : C} → (account : List Telling) → takes k k (text []) → tells w w' account → Talks s account [] e
      → Went tells takes text s w k e w' k
  went_silent account wrote told talked = record { account = account; records = []; told = told; talked = talked; wrote = wrote }

  -- nothing happened
  pub went_none : {s : Standing} {w : W} {k : C} → takes k k (text []) → tells w w [] → Went tells takes text s w k s w k
  went_none wrote told = record { account = []; records = []; told = told; talked = (refl, refl); wrote = wrote }

  -- a fault, and nothing before it
  pub cut_at_once : {fault : SpeakFault} {s : Standing} {w w' : W} {k k' : C} → takes k k (text []) → tells w w []
      → StopsShort tells takes text fault s w k w' k' → Cut tells takes text fault s w k w' k'
  cut_at_once {s = s} {w = w} {k = k} wrote told short = record {
    between = s;
    there = w;
    so_far = k;
    went = record { account = []; records = []; told = told; talked = (refl, refl); wrote = wrote };
    short = short;
  }

  -- a step of the core
  pub went_entered : {input : InputValue} {a b : CoreState} {w w' : W} {k k' : C} {octets : List ℕ}
      → Entered tells takes text input a w k octets b w' k' → (owed : List InputValue) (connection : Connection) (left : ℕ)
      → Went tells takes text (in_hand (input ∷ owed) [] connection left a) w k (in_hand owed octets connection left b) w' k'
  went_entered {input = input} {a = a} {b = b} {octets = octets} entered owed connection left = record {
    account = Clock entered.second ∷ [];
    records = entered.records;
    told = entered.told;
    talked = one_telling _ _ (Clock entered.second) entered.records (step_talks input owed connection left a b entered.second entered.records octets entered.chosen entered.sends);
    wrote = entered.wrote;
  }
