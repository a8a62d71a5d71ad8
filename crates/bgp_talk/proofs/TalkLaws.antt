-- What is so of each talk over a wire: what is handed in, and what is read.
use Rattle.std.proofs.Common.{◌≡◌, ◌∙◌, ◌≢◌, ℕ, ◌+◌, ◌<◌, List, [], ◌∷◌, ◌++◌, length, ap, sym, refl, subst, append-nil, arith, Bool, true, false, IsTrue, IsFalse, ◌⊎◌, inl, inr, if◌then◌else◌}
use Rattle.std.specs.List.{AllByRecursion}
use Rattle.bgp_prefix.specs.Prefix.{PrefixBits}
use Rattle.bgp_prefix.specs.Shown.{ShownRecord}
use Rattle.bgp_speaker.specs.Choosing.{Chooses, Drives}
use Rattle.bgp_speaker.specs.Core.{InputValue, Stop, Connected, Failed}
use Rattle.bgp_talk.specs.Account.{Telling, ReadTold, Got, NothingYet, Ended, Broke, Asked, Read, Clock, Wrote, answers_of, connect_input, connection_after, turn_inputs, first_owed, owed_by, handed_by, inputs_of, reads_of}
use Rattle.bgp_talk.specs.CoreFacts.{is_idle, is_resting}
use Rattle.bgp_talk.specs.Talk.{Standing, IsFree, IsOver, Goes, Talks, closing_of, closing_owed, in_hand}
use Rattle.bgp_talk.specs.TalkLaws.{ConnectIsAskedOnce, InputsAreHandedIn, IsItsFailure, IsNoStop, NoStopBeforeTheEnd, StopIsLast, FailureStandsNext, OctetsGoFirst, TurnsAreReads, HasRoom, ReadsHaveRoom, NothingFollowsTheEnd}
use Rattle.bgp_talk.specs.declared.wire.Connection.{Connection}
use Rattle.bgp_talk.specs.declared.wire.Connection.TheVariants.{NotAsked}
use Rattle.bgp_talk.proofs.Accounts.{drives_joined, one_step}
use Rattle.bgp_talk.proofs.Resting.{failure_brings_rest}

-- ---- what is handed in

-- by one telling, and what is owed then
goes_by : (s e : Standing) (told : Telling) (records : List ShownRecord) → Goes s told records e
    → Drives s.core (handed_by s.owed told) records e.core × (owed_by s.owed told ≡ e.owed)
goes_by s e (Asked answer) records goes = (
  (goes.1, ap (λ (v : Standing). v.core) goes.0.goes),
  ap (λ (o : List InputValue). connect_input answer ∷ o) goes.0.free.0 ∙ sym (ap (λ (v : Standing). v.owed) goes.0.goes),
)
goes_by s e (Read room told) records goes = (
  (goes.1, ap (λ (v : Standing). v.core) goes.0.goes),
  ap (λ (o : List InputValue). turn_inputs told ++ o) goes.0.free.0 ∙ append-nil (turn_inputs told) ∙ sym (ap (λ (v : Standing). v.owed) goes.0.goes),
)
goes_by s e (Clock second) records goes = (
  subst (λ (o : List InputValue). Drives s.core (handed_by o (Clock second)) records e.core) (sym goes.owed)
      (one_step s.core e.core goes.input second records goes.chosen),
  ap (λ (o : List InputValue). owed_by o (Clock second)) goes.owed ∙ sym (ap (λ (v : Standing). v.owed) goes.goes),
)
goes_by s e (Wrote given []) records goes = (
  (goes.1, ap (λ (v : Standing). v.core) goes.0.goes),
  sym (ap (λ (v : Standing). v.owed) goes.0.goes),
)
goes_by s e (Wrote given (octet ∷ octets)) records goes = (
  (goes.1, ap (λ (v : Standing). v.core) goes.0.goes),
  sym (ap (λ (v : Standing). v.owed) goes.0.goes),
)

pub inputs_handed_in : InputsAreHandedIn
inputs_handed_in s e [] records talks = (talks.0, ap (λ (v : Standing). v.core) talks.1)
inputs_handed_in s e (told ∷ account) records talks =
    let by = goes_by s talks.1 told talks.0 talks.3 in
    subst (λ (r : List ShownRecord). Drives s.core (inputs_of s.owed (told ∷ account)) r e.core) (sym talks.5)
    (drives_joined s.core talks.1.core e.core (handed_by s.owed told) (inputs_of (owed_by s.owed told) account) talks.0 talks.2 by.0
    (subst (λ (o : List InputValue). Drives talks.1.core (inputs_of o account) talks.2 e.core) (sym by.1)
    (inputs_handed_in talks.1 e account talks.2 talks.4)))

abbrev NoStop : List InputValue → Type 0
NoStop owed = AllByRecursion (λ (input : InputValue). input ≢ Stop) owed

no_stop_in_turn : (told : ReadTold) (owed : List InputValue) → NoStop owed → NoStop (turn_inputs told ++ owed)
no_stop_in_turn (Got octets) owed none = (λ is. absurd (cc), (λ is. absurd (cc), none))
no_stop_in_turn NothingYet owed none = (λ is. absurd (cc), none)
no_stop_in_turn Ended owed none = (λ is. absurd (cc), (λ is. absurd (cc), none))
no_stop_in_turn Broke owed none = (λ is. absurd (cc), (λ is. absurd (cc), none))

no_stop_handed : (owed : List InputValue) (account : List Telling) → NoStop owed → AllByRecursion IsNoStop (inputs_of owed account)
no_stop_handed owed [] none = tt
no_stop_handed owed (Asked true ∷ account) none = no_stop_handed (Connected ∷ owed) account (λ is. absurd (cc), none)
no_stop_handed owed (Asked false ∷ account) none = no_stop_handed (Failed ∷ owed) account (λ is. absurd (cc), none)
no_stop_handed owed (Read room told ∷ account) none = no_stop_handed (turn_inputs told ++ owed) account (no_stop_in_turn told owed none)
no_stop_handed [] (Clock second ∷ account) none = no_stop_handed [] account tt
no_stop_handed (input ∷ owed) (Clock second ∷ account) none = (none.0, no_stop_handed owed account none.1)
no_stop_handed owed (Wrote given [] ∷ account) none = no_stop_handed (Failed ∷ owed) account (λ is. absurd (cc), none)
no_stop_handed owed (Wrote given (octet ∷ octets) ∷ account) none = no_stop_handed owed account none

no_stop_at_first : (own : List PrefixBits) (passive : Bool) → NoStop (first_owed own passive)
no_stop_at_first [] true = (λ is. absurd (cc), tt)
no_stop_at_first [] false = (λ is. absurd (cc), tt)
no_stop_at_first (prefix ∷ own) passive = (λ is. absurd (cc), no_stop_at_first own passive)

pub no_stop_before_the_end : NoStopBeforeTheEnd
no_stop_before_the_end own passive account = no_stop_handed (first_owed own passive) account (no_stop_at_first own passive)

asked_before : (answer : Bool) (k : Connection) → k ≡ connection_after answer → k ≡ NotAsked → ⊥
asked_before true k is none = absurd (cc)
asked_before false k is none = absurd (cc)

-- after the Stop: no turn is left, and the wire was asked
record IsClosing (s : Standing) : Type 0 where
  left : s.left ≡ 0
  asked : (answer : Bool) × (s.connection ≡ connection_after answer)

closing_goes : (s e : Standing) (told : Telling) (records : List ShownRecord) → IsClosing s → Goes s told records e → IsClosing e
closing_goes s e (Asked answer) records closing goes = absurd (asked_before closing.asked.0 s.connection closing.asked.1 goes.0.once)
closing_goes s e (Read room told) records closing goes =
    let takes = goes.0.takes in let none = closing.left in absurd (omega (arith, takes, none))
closing_goes s e (Clock second) records closing goes = record {
  left = ap (λ (v : Standing). v.left) goes.goes ∙ closing.left;
  asked = (closing.asked.0, ap (λ (v : Standing). v.connection) goes.goes ∙ closing.asked.1);
}
closing_goes s e (Wrote given []) records closing goes = record {
  left = ap (λ (v : Standing). v.left) goes.0.goes ∙ closing.left;
  asked = (closing.asked.0, ap (λ (v : Standing). v.connection) goes.0.goes ∙ closing.asked.1);
}
closing_goes s e (Wrote given (octet ∷ octets)) records closing goes = record {
  left = ap (λ (v : Standing). v.left) goes.0.goes ∙ closing.left;
  asked = (closing.asked.0, ap (λ (v : Standing). v.connection) goes.0.goes ∙ closing.asked.1);
}

owes_stop : (b : Bool) → IsFalse b → (if b then [] else Stop ∷ []) ≡ Stop ∷ []
owes_stop true awake = absurd (cc)
owes_stop false awake = refl

nothing_less : (n : ℕ) (xs : List ℕ) → xs ≡ [] → n < length xs → ⊥
nothing_less n xs none some = let zero : length xs ≡ 0 = ap length none in omega (arith, zero, some)

pub failure_stands_next : FailureStandsNext
failure_stands_next s e given (Asked answer) account records talks = absurd (some_of (sym (ap (λ (v : Standing). v.owed) talks.3.0.goes) ∙ talks.4.3.0.free.0))
  where
    some_of : {owed : List InputValue} → Failed ∷ owed ≡ [] → ⊥
    some_of is = absurd (cc)
failure_stands_next s e given (Read room told) account records talks = absurd (some_of (sym (ap (λ (v : Standing). v.owed) talks.3.0.goes) ∙ talks.4.3.0.free.0))
  where
    some_of : {owed : List InputValue} → Failed ∷ owed ≡ [] → ⊥
    some_of is = absurd (cc)
failure_stands_next s e given (Clock second) account records talks = (second, inputs_of s.owed account, refl, refl)
failure_stands_next s e given (Wrote more []) account records talks =
    absurd (nothing_less 0 talks.1.unsent (ap (λ (v : Standing). v.unsent) talks.3.0.goes) talks.4.3.0.some)
failure_stands_next s e given (Wrote more (octet ∷ octets)) account records talks =
    absurd (some_of _ (sym talks.4.3.0.unsent ∙ ap (λ (v : Standing). v.unsent) talks.3.0.goes))
  where
    some_of : (more : List ℕ) → octet ∷ more ≡ [] → ⊥
    some_of more is = absurd (cc)

-- ---- what is written

pub octets_go_first : OctetsGoFirst
octets_go_first s e (Asked answer) account records some talks = absurd (nothing_less 0 s.unsent talks.3.0.free.1 some)
octets_go_first s e (Read room told) account records some talks = absurd (nothing_less 0 s.unsent talks.3.0.free.1 some)
octets_go_first s e (Clock second) account records some talks = absurd (nothing_less 0 s.unsent talks.3.sent some)
octets_go_first s e (Wrote given []) account records some talks = ([], ap (λ (n : ℕ). Wrote n []) talks.3.0.whole)
octets_go_first s e (Wrote given (octet ∷ octets)) account records some talks =
    (octet ∷ octets, ap (λ (n : ℕ). Wrote n (octet ∷ octets)) talks.3.0.whole)

-- ---- what is read

reads_goes : (s e : Standing) (told : Telling) (records : List ShownRecord) → Goes s told records e → reads_of (told ∷ []) + e.left ≡ s.left
reads_goes s e (Asked answer) records goes = let same = ap (λ (v : Standing). v.left) goes.0.goes in omega (arith, same)
reads_goes s e (Read room told) records goes = let takes = goes.0.takes in omega (arith, takes)
reads_goes s e (Clock second) records goes = let same = ap (λ (v : Standing). v.left) goes.goes in omega (arith, same)
reads_goes s e (Wrote given []) records goes = let same = ap (λ (v : Standing). v.left) goes.0.goes in omega (arith, same)
reads_goes s e (Wrote given (octet ∷ octets)) records goes = let same = ap (λ (v : Standing). v.left) goes.0.goes in omega (arith, same)

pub turns_are_reads : TurnsAreReads
turns_are_reads s e [] records talks = let same = ap (λ (v : Standing). v.left) talks.1 in omega (arith, same)
turns_are_reads s e (told ∷ account) records talks =
    let first = reads_goes s talks.1 told talks.0 talks.3 in
    let rest = turns_are_reads talks.1 e account talks.2 talks.4 in
    omega (arith, first, rest)

room_goes : (s e : Standing) (told : Telling) (records : List ShownRecord) → Goes s told records e → HasRoom told
room_goes s e (Asked answer) records goes = tt
room_goes s e (Read room told) records goes = goes.0.wide
room_goes s e (Clock second) records goes = tt
room_goes s e (Wrote given octets) records goes = tt

pub reads_have_room : ReadsHaveRoom
reads_have_room s e [] records talks = tt
reads_have_room s e (told ∷ account) records talks =
    (room_goes s talks.1 told talks.0 talks.3, reads_have_room talks.1 e account talks.2 talks.4)

-- ---- the end

awake_or : (b : Bool) (left more : ℕ) → IsTrue b ⊎ (left ≡ 0) → IsFalse b → left ≡ more + 1 → ⊥
awake_or b left more (inl rests) awake takes = absurd (cc)
awake_or b left more (inr none) awake takes = omega (arith, none, takes)

none_owed : {input : InputValue} {rest : List InputValue} (owed : List InputValue) → owed ≡ [] → owed ≡ input ∷ rest → ⊥
none_owed owed none some = absurd (cc)

none_goes : (s e : Standing) (told : Telling) (records : List ShownRecord) → IsOver s → Goes s told records e → ⊥
none_goes s e (Asked answer) records over goes = asked_before over.asked.0 s.connection over.asked.1 goes.0.once
none_goes s e (Read room told) records over goes = awake_or (is_resting s.core) s.left e.left over.ends goes.0.awake goes.0.takes
none_goes s e (Clock second) records over goes = none_owed s.owed over.free.0 goes.owed
none_goes s e (Wrote given []) records over goes = nothing_less 0 s.unsent over.free.1 goes.0.some
none_goes s e (Wrote given (octet ∷ octets)) records over goes = some_of _ (sym goes.0.unsent ∙ over.free.1)
  where
    some_of : (more : List ℕ) → octet ∷ more ≡ [] → ⊥
    some_of more is = absurd (cc)

pub nothing_follows_the_end : NothingFollowsTheEnd
nothing_follows_the_end s e [] records over talks = refl
nothing_follows_the_end s e (told ∷ account) records over talks = absurd (none_goes s talks.1 told talks.0 over talks.3)

-- ---- the Stop

first_of : (owed rest more : List InputValue) (one other : InputValue) → owed ≡ one ∷ rest → owed ≡ other ∷ more → (one ≡ other) × (rest ≡ more)
first_of owed rest more one other is same = (cc, cc)

owes_more : {input : InputValue} {rest : List InputValue} (owed : List InputValue) → owed ≡ input ∷ rest → owed ≡ [] → ⊥
owes_more owed some none = absurd (cc)

sent_more : {octet : ℕ} {more : List ℕ} (unsent : List ℕ) → unsent ≡ octet ∷ more → unsent ≡ [] → ⊥
sent_more unsent some none = absurd (cc)

-- where a failure alone is owed, it is handed in, and nothing more
fails_once : (s e : Standing) (account : List Telling) (records : List ShownRecord) → IsClosing s → s.owed ≡ Failed ∷ [] → s.unsent ≡ []
    → Talks s account records e → IsFree e → (second : ℕ) × (inputs_of (Failed ∷ []) account ≡ (second, Failed) ∷ [])
fails_once s e [] records closing owed unsent talks free =
    absurd (owes_more s.owed owed (sym (ap (λ (v : Standing). v.owed) talks.1) ∙ free.0))
fails_once s e (Asked answer ∷ account) records closing owed unsent talks free =
    absurd (asked_before closing.asked.0 s.connection closing.asked.1 talks.3.0.once)
fails_once s e (Read room told ∷ account) records closing owed unsent talks free = absurd (owes_more s.owed owed talks.3.0.free.0)
fails_once s e (Wrote given [] ∷ account) records closing owed unsent talks free = absurd (nothing_less 0 s.unsent unsent talks.3.0.some)
fails_once s e (Wrote given (octet ∷ octets) ∷ account) records closing owed unsent talks free =
    absurd (sent_more s.unsent talks.3.0.unsent unsent)
fails_once s e (Clock second ∷ account) records closing owed unsent talks free =
    let first = first_of s.owed talks.3.rest [] talks.3.input Failed talks.3.owed owed in
    let more = closing_goes s talks.1 (Clock second) talks.0 closing talks.3 in
    let silent = (failure_brings_rest s.core talks.1.core second talks.0
    (subst (λ (i : InputValue). Chooses s.core i second talks.0 talks.1.core) first.0 talks.3.chosen)).1 in
    let over : IsOver talks.1 = record {
      free = (
        ap (λ (v : Standing). v.owed) talks.3.goes ∙ first.1,
        ap (λ (v : Standing). v.unsent) talks.3.goes ∙ silent,
      );
      asked = more.asked;
      ends = inr more.left;
    } in
    (second, ap (λ (t : List Telling). (second, Failed) ∷ inputs_of [] t) (nothing_follows_the_end talks.1 e account talks.2 over talks.4))

-- where octets are to be sent, they are, or their failure is handed in
fails_at_most : (s e : Standing) (account : List Telling) (records : List ShownRecord) → IsClosing s → s.owed ≡ []
    → Talks s account records e → IsFree e → IsItsFailure (inputs_of [] account)
fails_at_most s e [] records closing owed talks free = inl refl
fails_at_most s e (Asked answer ∷ account) records closing owed talks free =
    absurd (asked_before closing.asked.0 s.connection closing.asked.1 talks.3.0.once)
fails_at_most s e (Read room told ∷ account) records closing owed talks free =
    let takes = talks.3.0.takes in let none = closing.left in absurd (omega (arith, takes, none))
fails_at_most s e (Clock second ∷ account) records closing owed talks free = absurd (owes_more s.owed talks.3.owed owed)
fails_at_most s e (Wrote given [] ∷ account) records closing owed talks free =
    inr (fails_once talks.1 e account talks.2
    (closing_goes s talks.1 (Wrote given []) talks.0 closing talks.3)
    (ap (λ (v : Standing). v.owed) talks.3.0.goes ∙ ap (λ (o : List InputValue). Failed ∷ o) owed)
    (ap (λ (v : Standing). v.unsent) talks.3.0.goes) talks.4 free)
fails_at_most s e (Wrote given (octet ∷ octets) ∷ account) records closing owed talks free =
    fails_at_most talks.1 e account talks.2
    (closing_goes s talks.1 (Wrote given (octet ∷ octets)) talks.0 closing talks.3)
    (ap (λ (v : Standing). v.owed) talks.3.0.goes ∙ owed) talks.4 free

pub stop_is_last : StopIsLast
stop_is_last s e [] records over awake talks free =
    let owed : closing_owed s.core ≡ [] = sym (ap (λ (v : Standing). v.owed) talks.1) ∙ free.0 in
    absurd (owes_more (closing_owed s.core) (owes_stop (is_idle s.core) awake) owed)
stop_is_last s e (Asked answer ∷ account) records over awake talks free =
    absurd (asked_before over.asked.0 s.connection over.asked.1 talks.3.0.once)
stop_is_last s e (Read room told ∷ account) records over awake talks free =
    let takes = talks.3.0.takes in absurd (omega (arith, takes))
stop_is_last s e (Clock second ∷ account) records over awake talks free =
    let first = first_of (closing_owed s.core) talks.3.rest [] talks.3.input Stop talks.3.owed (owes_stop (is_idle s.core) awake) in (
      second,
      inputs_of [] account,
      refl,
      fails_at_most talks.1 e account talks.2
          (closing_goes (closing_of s) talks.1 (Clock second) talks.0 (record { left = refl; asked = over.asked }) talks.3)
          (ap (λ (v : Standing). v.owed) talks.3.goes ∙ first.1) talks.4 free,
    )
stop_is_last s e (Wrote given [] ∷ account) records over awake talks free = absurd (nothing_less 0 s.unsent over.free.1 talks.3.0.some)
stop_is_last s e (Wrote given (octet ∷ octets) ∷ account) records over awake talks free =
    absurd (sent_more s.unsent talks.3.0.unsent over.free.1)

-- ---- connecting

-- once it was asked, it isn't asked again
asked_no_more : (s e : Standing) (account : List Telling) (records : List ShownRecord) (answer : Bool) → s.connection ≡ connection_after answer
    → Talks s account records e → (answers_of account ≡ []) × (e.connection ≡ connection_after answer)
asked_no_more s e [] records answer asked talks = (refl, ap (λ (v : Standing). v.connection) talks.1 ∙ asked)
asked_no_more s e (Asked other ∷ account) records answer asked talks = absurd (asked_before answer s.connection asked talks.3.0.once)
asked_no_more s e (Read room told ∷ account) records answer asked talks =
    asked_no_more talks.1 e account talks.2 answer (ap (λ (v : Standing). v.connection) talks.3.0.goes ∙ asked) talks.4
asked_no_more s e (Clock second ∷ account) records answer asked talks =
    asked_no_more talks.1 e account talks.2 answer (ap (λ (v : Standing). v.connection) talks.3.goes ∙ asked) talks.4
asked_no_more s e (Wrote given [] ∷ account) records answer asked talks =
    asked_no_more talks.1 e account talks.2 answer (ap (λ (v : Standing). v.connection) talks.3.0.goes ∙ asked) talks.4
asked_no_more s e (Wrote given (octet ∷ octets) ∷ account) records answer asked talks =
    asked_no_more talks.1 e account talks.2 answer (ap (λ (v : Standing). v.connection) talks.3.0.goes ∙ asked) talks.4

abbrev NotAskedOrOnce : List Bool → Connection → Type 0
NotAskedOrOnce answers connection =
    ((answers ≡ []) × (connection ≡ NotAsked))
    ⊎ ((answer : Bool) × (answers ≡ answer ∷ []) × (connection ≡ connection_after answer))

asked_at_most : (s e : Standing) (account : List Telling) (records : List ShownRecord) → s.connection ≡ NotAsked
    → Talks s account records e → NotAskedOrOnce (answers_of account) e.connection
asked_at_most s e [] records none talks = inl (refl, ap (λ (v : Standing). v.connection) talks.1 ∙ none)
asked_at_most s e (Asked answer ∷ account) records none talks =
    let more = asked_no_more talks.1 e account talks.2 answer (ap (λ (v : Standing). v.connection) talks.3.0.goes) talks.4 in
    inr (answer, ap (λ (b : List Bool). answer ∷ b) more.0, more.1)
asked_at_most s e (Read room told ∷ account) records none talks =
    asked_at_most talks.1 e account talks.2 (ap (λ (v : Standing). v.connection) talks.3.0.goes ∙ none) talks.4
asked_at_most s e (Clock second ∷ account) records none talks =
    asked_at_most talks.1 e account talks.2 (ap (λ (v : Standing). v.connection) talks.3.goes ∙ none) talks.4
asked_at_most s e (Wrote given [] ∷ account) records none talks =
    asked_at_most talks.1 e account talks.2 (ap (λ (v : Standing). v.connection) talks.3.0.goes ∙ none) talks.4
asked_at_most s e (Wrote given (octet ∷ octets) ∷ account) records none talks =
    asked_at_most talks.1 e account talks.2 (ap (λ (v : Standing). v.connection) talks.3.0.goes ∙ none) talks.4

pub connect_is_asked_once : ConnectIsAskedOnce
connect_is_asked_once owed limit core e account records talks over =
    either (asked_at_most (in_hand owed [] NotAsked limit core) e account records refl talks)
  where
    either : NotAskedOrOnce (answers_of account) e.connection
        → (answer : Bool) × (answers_of account ≡ answer ∷ []) × (e.connection ≡ connection_after answer)
    either (inl none) = absurd (asked_before over.asked.0 e.connection over.asked.1 none.1)
    either (inr once) = once
