-- What is so of each talk over a wire: what the wire took of the octets that were sent.
use Rattle.std.proofs.Common.{◌≡◌, ◌∙◌, ℕ, ◌<◌, List, [], ◌∷◌, ◌++◌, length, ap, sym, refl, subst, append_assoc, append-nil, arith, Bool, true, false, IsTrue, IsFalse, ◌⊎◌, inl, inr, if◌then◌else◌}
use Rattle.std.specs.List.{AllByRecursion}
use Rattle.bgp_prefix.specs.Shown.{ShownRecord}
use Rattle.bgp_speaker.specs.Choosing.{Chooses, sent_in}
use Rattle.bgp_speaker.specs.Core.{InputValue, Stop, Failed}
use Rattle.bgp_talk.specs.Account.{Telling, ReadTold, Got, NothingYet, Ended, Broke, Asked, Read, Clock, Wrote, turn_inputs, taken_by, taken_of, TookIfWrote, IsCalm}
use Rattle.bgp_talk.specs.CoreFacts.{is_idle, is_resting, IsQuiet}
use Rattle.bgp_talk.specs.Talk.{Standing, IsFree, IsOver, Goes, Talks, closing_of, in_hand}
use Rattle.bgp_talk.specs.TalkLaws.{OctetsAreTaken, OctetsAreTheCores}
use Rattle.bgp_talk.specs.declared.wire.Connection.{Connection}
use Rattle.bgp_talk.specs.declared.wire.Connection.TheVariants.{NotAsked, Stands}
use Rattle.bgp_talk.proofs.Accounts.{calm_first, calm_last, sent_joined, taken_joined}
use Rattle.bgp_talk.proofs.Resting.{failure_brings_rest, rest_goes_on}

abbrev AllQuiet : List InputValue → Type 0
AllQuiet owed = AllByRecursion IsQuiet owed

-- but for the first
abbrev RestQuiet : List InputValue → Type 0
RestQuiet [] = Unit {0}
RestQuiet (input ∷ owed) = AllQuiet owed

-- While all octets are taken: where there is a connection, what is owed after octets that are to be
-- sent makes a core at rest send nothing.
abbrev IsSound : Standing → Type 0
IsSound s = s.connection ≡ Stands → AllQuiet s.owed ⊎ ((s.unsent ≡ []) × RestQuiet s.owed)

-- Once a write has failed: a failure is owed, or the core rests, and it sends nothing more.
record IsLost (s : Standing) : Type 0 where
  unsent : s.unsent ≡ []
  stands : s.connection ≡ Stands
  quiet : ((rest : List InputValue) × (s.owed ≡ Failed ∷ rest) × AllQuiet rest)
      ⊎ (IsTrue (is_resting s.core) × AllQuiet s.owed)

no_octets_here : {P : Type 0} (octet : ℕ) (more xs : List ℕ) → xs ≡ [] → xs ≡ octet ∷ more → P
no_octets_here octet more xs none some = absurd (cc)

none_short : {P : Type 0} (xs : List ℕ) → xs ≡ [] → 0 < length xs → P
none_short xs none some = let zero : length xs ≡ 0 = ap length none in absurd (omega (arith, zero, some))

not_stands : {P : Type 0} (k : Connection) → k ≡ NotAsked → k ≡ Stands → P
not_stands k one other = absurd (cc)

rest_of : {input : InputValue} {rest : List InputValue} (owed : List InputValue) → owed ≡ input ∷ rest → RestQuiet owed → AllQuiet rest
rest_of owed is quiet = subst RestQuiet is quiet

quiet_after : {input : InputValue} {rest : List InputValue} (owed : List InputValue) → owed ≡ input ∷ rest → AllQuiet owed → AllQuiet rest
quiet_after owed is quiet = (subst AllQuiet is quiet).1

turn_quiet : (told : ReadTold) → RestQuiet (turn_inputs told)
turn_quiet (Got octets) = (tt, tt)
turn_quiet NothingYet = tt
turn_quiet Ended = (tt, tt)
turn_quiet Broke = (tt, tt)

-- ---- while all octets are taken

sound_goes : (s e : Standing) (told : Telling) (records : List ShownRecord) → IsSound s → Goes s told records e → TookIfWrote told
    → IsSound e × (s.unsent ++ sent_in records ≡ taken_by told ++ e.unsent)
sound_goes s e (Asked answer) records sound goes calm = (
  λ stands. inr (ap (λ (v : Standing). v.unsent) goes.0.goes ∙ goes.0.free.1, subst RestQuiet (sym (ap (λ (v : Standing). v.owed) goes.0.goes)) tt),
  ap (λ (r : List ShownRecord). s.unsent ++ sent_in r) goes.1 ∙ append-nil s.unsent ∙ sym (ap (λ (v : Standing). v.unsent) goes.0.goes),
)
sound_goes s e (Read room told) records sound goes calm = (
  λ stands. inr (ap (λ (v : Standing). v.unsent) goes.0.goes ∙ goes.0.free.1, subst RestQuiet (sym (ap (λ (v : Standing). v.owed) goes.0.goes)) (turn_quiet told)),
  ap (λ (r : List ShownRecord). s.unsent ++ sent_in r) goes.1 ∙ append-nil s.unsent ∙ sym (ap (λ (v : Standing). v.unsent) goes.0.goes),
)
sound_goes s e (Clock second) records sound goes calm = (
  λ stands. inl (subst AllQuiet (sym (ap (λ (v : Standing). v.owed) goes.goes))
      (either (sound (sym (ap (λ (v : Standing). v.connection) goes.goes) ∙ stands)))),
  ap (λ (o : List ℕ). o ++ sent_in records) goes.sent ∙ sym (ap (λ (v : Standing). v.unsent) goes.goes),
)
  where
    either : AllQuiet s.owed ⊎ ((s.unsent ≡ []) × RestQuiet s.owed) → AllQuiet goes.rest
    either (inl all) = quiet_after s.owed goes.owed all
    either (inr rest) = rest_of s.owed goes.owed rest.1
sound_goes s e (Wrote given []) records sound goes calm = absurd calm
sound_goes s e (Wrote given (octet ∷ octets)) records sound goes calm = (
  λ stands. inl (subst AllQuiet (sym (ap (λ (v : Standing). v.owed) goes.0.goes)) (either (sound goes.0.stands))),
  ap (λ (r : List ShownRecord). s.unsent ++ sent_in r) goes.1 ∙ append-nil s.unsent ∙ goes.0.unsent,
)
  where
    either : AllQuiet s.owed ⊎ ((s.unsent ≡ []) × RestQuiet s.owed) → AllQuiet s.owed
    either (inl all) = all
    either (inr rest) = no_octets_here octet (octets ++ e.unsent) s.unsent rest.0 goes.0.unsent

breaks : (s e : Standing) (given : ℕ) (records : List ShownRecord) → IsSound s → Goes s (Wrote given []) records e → IsLost e × (sent_in records ≡ [])
breaks s e given records sound goes = (
  record {
    unsent = ap (λ (v : Standing). v.unsent) goes.0.goes;
    stands = ap (λ (v : Standing). v.connection) goes.0.goes ∙ goes.0.stands;
    quiet = inl (s.owed, ap (λ (v : Standing). v.owed) goes.0.goes, either (sound goes.0.stands));
  },
  ap sent_in goes.1,
)
  where
    either : AllQuiet s.owed ⊎ ((s.unsent ≡ []) × RestQuiet s.owed) → AllQuiet s.owed
    either (inl all) = all
    either (inr rest) = none_short s.unsent rest.0 goes.0.some

-- ---- and then

lost_goes : (s e : Standing) (told : Telling) (records : List ShownRecord) → IsLost s → Goes s told records e
    → IsLost e × (sent_in records ≡ []) × (taken_by told ≡ [])
lost_goes s e (Asked answer) records lost goes = not_stands s.connection goes.0.once lost.stands
lost_goes s e (Read room told) records lost goes = either lost.quiet
  where
    owes_none : {rest : List InputValue} (owed : List InputValue) → owed ≡ [] → owed ≡ Failed ∷ rest → ⊥
    owes_none owed none some = absurd (cc)

    rests_not : {b : Bool} → IsTrue b → IsFalse b → ⊥
    rests_not rests awake = absurd (cc)

    either : ((rest : List InputValue) × (s.owed ≡ Failed ∷ rest) × AllQuiet rest) ⊎ (IsTrue (is_resting s.core) × AllQuiet s.owed)
        → IsLost e × (sent_in records ≡ []) × (taken_by (Read room told) ≡ [])
    either (inl first) = absurd (owes_none s.owed goes.0.free.0 first.1)
    either (inr rests) = absurd (rests_not rests.0 goes.0.awake)
lost_goes s e (Clock second) records lost goes =
    let rested = either lost.quiet in (
      record {
        unsent = ap (λ (v : Standing). v.unsent) goes.goes ∙ rested.1;
        stands = ap (λ (v : Standing). v.connection) goes.goes ∙ lost.stands;
        quiet = inr (rested.0, subst AllQuiet (sym (ap (λ (v : Standing). v.owed) goes.goes)) rested.2);
      },
      rested.1,
      refl,
    )
  where
    first_of : (owed rest more : List InputValue) (one other : InputValue) → owed ≡ one ∷ rest → owed ≡ other ∷ more → (one ≡ other) × (rest ≡ more)
    first_of owed rest more one other is same = (cc, cc)

    either : ((rest : List InputValue) × (s.owed ≡ Failed ∷ rest) × AllQuiet rest) ⊎ (IsTrue (is_resting s.core) × AllQuiet s.owed)
        → IsTrue (is_resting e.core) × (sent_in records ≡ []) × AllQuiet goes.rest
    either (inl first) =
        let same = first_of s.owed goes.rest first.0 goes.input Failed goes.owed first.1 in
        let rested = failure_brings_rest s.core e.core second records
        (subst (λ (i : InputValue). Chooses s.core i second records e.core) same.0 goes.chosen) in
        (rested.0, rested.1, subst AllQuiet (sym same.1) first.2)
    either (inr rests) =
        let all = subst AllQuiet goes.owed rests.1 in
        let rested = rest_goes_on s.core e.core goes.input second records all.0 rests.0 goes.chosen in
        (rested.0, rested.1, all.1)
lost_goes s e (Wrote given []) records lost goes = none_short s.unsent lost.unsent goes.0.some
lost_goes s e (Wrote given (octet ∷ octets)) records lost goes = no_octets_here octet (octets ++ e.unsent) s.unsent lost.unsent goes.0.unsent

both_none : (xs ys : List ℕ) → xs ≡ [] → ys ≡ [] → xs ++ ys ≡ []
both_none xs ys first second = ap (λ (o : List ℕ). o ++ ys) first ∙ second

lost_talks : (s e : Standing) (account : List Telling) (records : List ShownRecord) → IsLost s → Talks s account records e
    → IsLost e × (sent_in records ≡ []) × (taken_of account ≡ [])
lost_talks s e [] records lost talks = (subst IsLost (sym talks.1) lost, ap sent_in talks.0, refl)
lost_talks s e (told ∷ account) records lost talks =
    let now = lost_goes s talks.1 told talks.0 lost talks.3 in
    let rest = lost_talks talks.1 e account talks.2 now.0 talks.4 in (
      rest.0,
      ap sent_in talks.5 ∙ sent_joined talks.0 talks.2 ∙ both_none (sent_in talks.0) (sent_in talks.2) now.1 rest.1,
      both_none (taken_by told) (taken_of account) now.2 rest.2,
    )

-- ---- all in all

-- of what was to be sent this was taken, and these are left: they are still to be sent, or a write
-- has failed, and no more is
record TookSo (s : Standing) (account : List Telling) (records : List ShownRecord) (e : Standing) : Type 0 where
  rest : List ℕ
  whole : s.unsent ++ sent_in records ≡ taken_of account ++ rest
  how : (IsSound e × (rest ≡ e.unsent)) ⊎ (IsLost e × (IsCalm account → ⊥))

took_or_none : (told : Telling) → TookIfWrote told ⊎ ((given : ℕ) × (told ≡ Wrote given []))
took_or_none (Asked answer) = inl tt
took_or_none (Read room told) = inl tt
took_or_none (Clock second) = inl tt
took_or_none (Wrote given []) = inr (given, refl)
took_or_none (Wrote given (octet ∷ octets)) = inl tt

-- one telling that took what it could, and then more
took_more : (s m e : Standing) (told : Telling) (account : List Telling) (first others : List ShownRecord)
    → TookIfWrote told → s.unsent ++ sent_in first ≡ taken_by told ++ m.unsent → TookSo m account others e
    → TookSo s (told ∷ account) (first ++ others) e
took_more s m e told account first others calm now more = record {
  rest = more.rest;
  whole = ap (λ (o : List ℕ). s.unsent ++ o) (sent_joined first others)
      ∙ sym (append_assoc s.unsent (sent_in first) (sent_in others))
      ∙ ap (λ (o : List ℕ). o ++ sent_in others) now
      ∙ append_assoc (taken_by told) m.unsent (sent_in others)
      ∙ ap (λ (o : List ℕ). taken_by told ++ o) more.whole
      ∙ sym (append_assoc (taken_by told) (taken_of account) more.rest);
  how = join more.how;
}
  where
    join : (IsSound e × (more.rest ≡ e.unsent)) ⊎ (IsLost e × (IsCalm account → ⊥))
        → (IsSound e × (more.rest ≡ e.unsent)) ⊎ (IsLost e × (IsCalm (told ∷ account) → ⊥))
    join (inl sound) = inl sound
    join (inr lost) = inr (lost.0, λ all. lost.1 all.1)

-- a write that took none, and then more
took_no_more : (s m e : Standing) (given : ℕ) (account : List Telling) (first others : List ShownRecord)
    → sent_in first ≡ [] → IsLost e × (sent_in others ≡ []) × (taken_of account ≡ [])
    → TookSo s (Wrote given [] ∷ account) (first ++ others) e
took_no_more s m e given account first others silent more = record {
  rest = s.unsent;
  whole = ap (λ (o : List ℕ). s.unsent ++ o) (sent_joined first others ∙ both_none (sent_in first) (sent_in others) silent more.1)
      ∙ append-nil s.unsent ∙ ap (λ (o : List ℕ). o ++ s.unsent) (sym more.2);
  how = inr (more.0, λ all. all.0);
}

took_so : (s e : Standing) (account : List Telling) (records : List ShownRecord) → IsSound s → Talks s account records e → TookSo s account records e
took_so s e [] records sound talks = record {
  rest = s.unsent;
  whole = ap (λ (r : List ShownRecord). s.unsent ++ sent_in r) talks.0 ∙ append-nil s.unsent;
  how = inl (subst IsSound (sym talks.1) sound, sym (ap (λ (v : Standing). v.unsent) talks.1));
}
took_so s e (told ∷ account) records sound talks =
    subst (λ (r : List ShownRecord). TookSo s (told ∷ account) r e) (sym talks.5)
    (either (λ more. took_so talks.1 e account talks.2 more talks.4) (took_or_none told))
  where
    either : (IsSound talks.1 → TookSo talks.1 account talks.2 e) → TookIfWrote told ⊎ ((given : ℕ) × (told ≡ Wrote given [])) → TookSo s (told ∷ account) (talks.0 ++ talks.2) e
    either others (inl calm) =
        let now = sound_goes s talks.1 told talks.0 sound talks.3 calm in
        took_more s talks.1 e told account talks.0 talks.2 calm now.1 (others now.0)
    either others (inr none) =
        let lost = breaks s talks.1 none.0 talks.0 sound (subst (λ (t : Telling). Goes s t talks.0 talks.1) none.1 talks.3) in
        subst (λ (t : Telling). TookSo s (t ∷ account) (talks.0 ++ talks.2) e) (sym none.1)
        (took_no_more s talks.1 e none.0 account talks.0 talks.2 lost.1 (lost_talks talks.1 e account talks.2 lost.0 talks.4))

closing_quiet : (b : Bool) → AllQuiet (if b then [] else Stop ∷ [])
closing_quiet true = tt
closing_quiet false = (tt, tt)

lost_closing : (e : Standing) → IsOver e → IsLost e → IsLost (closing_of e)
lost_closing e over lost = record {
  unsent = lost.unsent;
  stands = lost.stands;
  quiet = inr (rests lost.quiet, closing_quiet (is_idle e.core));
}
  where
    owes_none : {rest : List InputValue} (owed : List InputValue) → owed ≡ [] → owed ≡ Failed ∷ rest → ⊥
    owes_none owed none some = absurd (cc)

    rests : ((rest : List InputValue) × (e.owed ≡ Failed ∷ rest) × AllQuiet rest) ⊎ (IsTrue (is_resting e.core) × AllQuiet e.owed) → IsTrue (is_resting e.core)
    rests (inl first) = absurd (owes_none e.owed over.free.0 first.1)
    rests (inr rest) = rest.0

pub octets_are_the_cores : OctetsAreTheCores
octets_are_the_cores owed limit core e account records talks =
    let took = took_so (in_hand owed [] NotAsked limit core) e account records (λ stands. not_stands NotAsked refl stands) talks in
    (took.rest, took.whole)

pub octets_are_taken : OctetsAreTaken
octets_are_taken owed limit core e f talk closing first last talks over closes =
    either took.how
  where
    start : Standing
    start = in_hand owed [] NotAsked limit core

    took : TookSo start talk first e
    took = took_so start e talk first (λ stands. not_stands NotAsked refl stands) talks

    joined : (rest : List ℕ) → sent_in first ≡ taken_of talk ++ rest → (unsent : List ℕ) → rest ++ sent_in last ≡ taken_of closing ++ unsent
        → sent_in (first ++ last) ≡ taken_of (talk ++ closing) ++ unsent
    joined rest one unsent other =
        sent_joined first last
        ∙ ap (λ (o : List ℕ). o ++ sent_in last) one
        ∙ append_assoc (taken_of talk) rest (sent_in last)
        ∙ ap (λ (o : List ℕ). taken_of talk ++ o) other
        ∙ sym (append_assoc (taken_of talk) (taken_of closing) unsent)
        ∙ ap (λ (o : List ℕ). o ++ unsent) (sym (taken_joined talk closing))

    either : (IsSound e × (took.rest ≡ e.unsent)) ⊎ (IsLost e × (IsCalm talk → ⊥))
        → (unsent : List ℕ) × (sent_in (first ++ last) ≡ taken_of (talk ++ closing) ++ unsent) × (IsFree f → IsCalm (talk ++ closing) → unsent ≡ [])
    either (inl sound) = (
      more.rest,
      joined took.rest took.whole more.rest (ap (λ (o : List ℕ). o ++ sent_in last) sound.1 ∙ more.whole),
      λ free calm. closed free (calm_last talk closing calm) more.how,
    )
      where
        more : TookSo (closing_of e) closing last f
        more = took_so (closing_of e) f closing last (λ stands. inl (closing_quiet (is_idle e.core))) closes

        closed : IsFree f → IsCalm closing → (IsSound f × (more.rest ≡ f.unsent)) ⊎ (IsLost f × (IsCalm closing → ⊥)) → more.rest ≡ []
        closed free calm (inl sound) = sound.1 ∙ free.1
        closed free calm (inr lost) = absurd (lost.1 calm)
    either (inr lost) =
        let still = lost_talks (closing_of e) f closing last (lost_closing e over lost.0) closes in (
          took.rest,
          joined took.rest took.whole took.rest
              (ap (λ (o : List ℕ). took.rest ++ o) still.1 ∙ append-nil took.rest ∙ ap (λ (o : List ℕ). o ++ took.rest) (sym still.2)),
          λ free calm. absurd (lost.1 (calm_first talk closing calm)),
        )
