-- The core's choice on an input, from what a draft did.
use Rattle.std.proofs.Common.{◌≡◌, ℕ, List, [], ◌∷◌, ◌++◌, inl, inr, refl, sym, ap, subst, ◌∙◌, map, max, true, false, Result, Ok, Err, IfOk}
use Rattle.std.specs.BTreeMap.{is_at}
use Rattle.std.specs.List.{list_any}
use Rattle.std.specs.Set.{is_member}
use Rattle.bgp_prefix.specs.Prefix.{PrefixBits}
use Rattle.bgp_prefix.specs.PrefixOrder.{prefix_cmp, prefix_eq}
use Rattle.bgp_prefix.specs.Shown.{ShownRecord}
use Rattle.bgp_machine.specs.declared.state.Head.{Head}
use Rattle.bgp_machine.specs.declared.state.Head.TheVariants.{Idle, Connect, Active, OpenSent, OpenConfirm, Established}
use Rattle.bgp_speaker.proofs.PrefixTies.{same_tie}
use Rattle.bgp_wire.specs.Held.{Held, after_feed}
use Rattle.bgp_wire.specs.declared.header.Limit.{Limit}
use Rattle.bgp_speaker.specs.declared.draft.Draft.{Draft}
use Rattle.bgp_speaker.specs.declared.engine.Output.{Output}
use Rattle.bgp_speaker.specs.declared.input.Cue.{Cue}
use Rattle.bgp_speaker.specs.declared.input.Cue.TheVariants as cues
use Rattle.bgp_speaker.specs.declared.saying.News.TheVariants.{Announced, Withdrawn}
use Rattle.bgp_speaker.specs.Answers.{Answers, IsFreshDraft, IsShownBy, state_after}
use Rattle.bgp_speaker.specs.Choosing.{HearsBytes, Moves, SendsAt, TakesPicked, held_after, kept_after, sent_in}
use Rattle.bgp_speaker.specs.Core.{Announce, Bytes, CoreState, InputValue, IsConnected, Moment, Withdraw}
use Rattle.bgp_speaker.specs.Drafts.{DoesPicked, DoesTell, HearsWell, Shows, cue_value, moment_of}
use Rattle.bgp_speaker.specs.Shown.{shown_value}
use Rattle.bgp_speaker.specs.Pending.{routes_pending}
use Rattle.bgp_speaker.specs.Said.{announced, withdrawn}
use Rattle.bgp_speaker.proofs.Greeting.{shows_nothing}

pub if_ok : {T E : Type 0} {P Q : T → Type 0} (r : Result T E) → IfOk r P → ((x : T) → P x → Q x) → IfOk r Q
if_ok (Ok x) p f = f x p
if_ok (Err e) p f = p

-- ---- what is held

pub held_off : (head : Head) (rest : List ℕ) → (IsConnected head → ⊥) → held_after head rest ≡ []
held_off Idle rest off = refl
held_off (Connect d) rest off = refl
held_off (Active d) rest off = refl
held_off (OpenSent o) rest off = absurd (off tt)
held_off (OpenConfirm l o) rest off = absurd (off tt)
held_off (Established l o) rest off = absurd (off tt)

pub held_on : (head : Head) (rest : List ℕ) → IsConnected head → held_after head rest ≡ rest
held_on Idle rest on = absurd on
held_on (Connect d) rest on = absurd on
held_on (Active d) rest on = absurd on
held_on (OpenSent o) rest on = refl
held_on (OpenConfirm l o) rest on = refl
held_on (Established l o) rest on = refl

-- what is left of it where there is a connection, and nothing where there is none
pub holds_right : (limit : Limit) (head : Head) (held : Held) (rest : List ℕ) → held ≡ record { limit = limit; octets = held_after head rest; is_closed = false }
    → (held.limit ≡ limit) × (held.is_closed ≡ false) × ((IsConnected head → ⊥) → held.octets ≡ [])
holds_right limit head held rest is = (
  ap (λ (v : Held). v.limit) is,
  ap (λ (v : Held). v.is_closed) is,
  λ off. ap (λ (v : Held). v.octets) is ∙ held_off head rest off,
)

-- what stands in two octet lists that are equal while there is a connection
pub held_same : (head : Head) (octets rest : List ℕ) → (IsConnected head → octets ≡ rest) → held_after head octets ≡ held_after head rest
held_same Idle octets rest same = refl
held_same (Connect d) octets rest same = refl
held_same (Active d) octets rest same = refl
held_same (OpenSent o) octets rest same = same tt
held_same (OpenConfirm l o) octets rest same = same tt
held_same (Established l o) octets rest same = same tt

pub fed : (h k f : Held) (piece : List ℕ) → k ≡ h → f ≡ after_feed k piece → h.is_closed ≡ false → f.octets ≡ h.octets ++ piece
fed h k f piece same fed_is unclosed =
    ap (λ (v : Held). v.octets) fed_is ∙ (ap (λ (v : Held). (after_feed v piece).octets) same
    ∙ rw unclosed refl)

-- ---- the answer, where the steps on the input and their records are these

pub answers_so : {X : Type 0} (s s2 : CoreState) (input : InputValue) (second t : ℕ) (before d : Draft X) (out : Output X) (records : List ShownRecord) (e : Moment) (rest : List ℕ)
    → t ≡ max s.second second → IsFreshDraft s before → Shows before d records → IsShownBy d out → Moves s input t records e rest
    → s2 ≡ record { speaker = s.speaker; moment = e; kept = kept_after input s.kept; second = t; held = held_after e.session.head rest }
    → Answers s input second out s2
answers_so {X} s s2 input second t before d out records e rest later fresh shows by moves is = record {
  records = records;
  chooses = (
    e,
    rest,
    subst (λ (n : ℕ). Moves s input n records e rest) later moves,
    is ∙ ap (λ (n : ℕ). record { speaker = s.speaker; moment = e; kept = kept_after input s.kept; second = n; held = held_after e.session.head rest }) later,
  );
  records_are = ap (λ (v : _). map shown_value v.items) by.0 ∙ (shows.records_are ∙ ap (λ (v : List ShownRecord). v ++ records) fresh.records);
  octets_are = ap (λ (v : _). v.items) by.1 ∙ (shows.octets_are ∙ ap (λ (v : List ℕ). v ++ sent_in records) fresh.octets);
}

-- ---- a cue

moves_on_cue : (s : CoreState) (cue : Cue) (t : ℕ) (records : List ShownRecord) (e : Moment)
    → TakesPicked s.speaker (cue_value cue) t s.moment records e → Moves s (cue_value cue) t records e s.held
moves_on_cue s cues.Start t records e x = (x, refl)
moves_on_cue s cues.Passive t records e x = (x, refl)
moves_on_cue s cues.Stop t records e x = (x, refl)
moves_on_cue s cues.Connected t records e x = (x, refl)
moves_on_cue s cues.Failed t records e x = (x, refl)
moves_on_cue s cues.Tick t records e x = (x, refl)

kept_on_cue : (cue : Cue) (kept : List PrefixBits) → kept ≡ kept_after (cue_value cue) kept
kept_on_cue cues.Start kept = refl
kept_on_cue cues.Passive kept = refl
kept_on_cue cues.Stop kept = refl
kept_on_cue cues.Connected kept = refl
kept_on_cue cues.Failed kept = refl
kept_on_cue cues.Tick kept = refl

pub answers_cue : {X : Type 0} (s s2 : CoreState) (cue : Cue) (second t : ℕ) (before d : Draft X) (out : Output X)
    → t ≡ max s.second second → IsFreshDraft s before → DoesPicked s.moment.session.routes s.speaker t (cue_value cue) before d
    → IsShownBy d out → s2 ≡ state_after s (moment_of s.moment.session.routes d) t → Answers s (cue_value cue) second out s2
answers_cue {X} s s2 cue second t before d out later fresh x by is =
    let e = moment_of s.moment.session.routes d in
    answers_so s s2 (cue_value cue) second t before d out x.records e s.held later fresh x.shows by
    (moves_on_cue s cue t x.records e (subst (λ (m : Moment). TakesPicked s.speaker (cue_value cue) t m x.records e) fresh.moment x.takes))
    (is ∙ ap (λ (k : List PrefixBits). record { speaker = s.speaker; moment = e; kept = k; second = t; held = held_after e.session.head s.held }) (kept_on_cue cue s.kept))

-- ---- octets

-- nothing was done, and the routes stay
pub idle_moment : {X : Type 0} (s : CoreState) (d : Draft X) → routes_pending d.pending s.moment.session.routes ≡ s.moment.session.routes
    → record { session = record { head = d.head; routes = s.moment.session.routes }; sent_at = d.sent_at } ≡ moment_of s.moment.session.routes d
idle_moment s d stay = λ i. record { session = record { head = d.head; routes = sym stay i }; sent_at = d.sent_at }

routes_stay : {X : Type 0} (s : CoreState) (before : Draft X) → IsFreshDraft s before → routes_pending before.pending s.moment.session.routes ≡ s.moment.session.routes
routes_stay s before fresh = ap (λ (m : Moment). m.session.routes) fresh.moment

pub answers_off : {X : Type 0} (s s2 : CoreState) (octets : List ℕ) (second t : ℕ) (before : Draft X) (out : Output X)
    → t ≡ max s.second second → IsFreshDraft s before → (IsConnected before.head → ⊥) → IsShownBy before out
    → s2 ≡ state_after s (record { session = record { head = before.head; routes = s.moment.session.routes }; sent_at = before.sent_at }) t
    → Answers s (Bytes octets) second out s2
answers_off {X} s s2 octets second t before out later fresh off by is =
    let same = idle_moment s before (routes_stay s before fresh) ∙ fresh.moment in
    answers_so s s2 (Bytes octets) second t before before out [] s.moment s.held later fresh (shows_nothing before) by
    (inl ((λ on. off (subst (λ (m : Moment). IsConnected m.session.head) (sym fresh.moment) on)), refl, refl, refl))
    (is ∙ ap (λ (m : Moment). state_after s m t) same)

-- the core as it was taken over, and then its octets
pub taken_head : (seen after s : CoreState) (e : Moment) (t : ℕ) → seen ≡ after → after ≡ state_after s e t → seen.moment.session.head ≡ e.session.head
taken_head seen after s e t same is = ap (λ (v : CoreState). v.moment.session.head) (same ∙ is)

pub taken_speaker : (seen after s : CoreState) (e : Moment) (t : ℕ) → seen ≡ after → after ≡ state_after s e t → seen.speaker ≡ s.speaker
taken_speaker seen after s e t same is = ap (λ (v : CoreState). v.speaker) (same ∙ is)

taken_state : (seen after s : CoreState) (e : Moment) (t : ℕ) (held : Held) (octets : List ℕ) → seen ≡ after → after ≡ state_after s e t → held.octets ≡ octets
    → record seen { held = held.octets } ≡ record { speaker = s.speaker; moment = e; kept = s.kept; second = t; held = octets }
taken_state seen after s e t held octets same is left =
    ap (λ (v : CoreState). record v { held = held.octets }) (same ∙ is) ∙ ap (λ (o : List ℕ). record { speaker = s.speaker; moment = e; kept = s.kept; second = t; held = o }) left

pub answers_on : {X : Type 0} (limit : Limit) (s seen after : CoreState) (octets given : List ℕ) (second t : ℕ) (left held : Held) (before d : Draft X) (out : Output X)
    → t ≡ max s.second second → IsFreshDraft s before → IsConnected before.head → given ≡ s.held ++ octets
    → HearsWell s.moment.session.routes s.speaker s.kept t given left before d → IsShownBy d out
    → seen ≡ after → after ≡ state_after s (moment_of s.moment.session.routes d) t
    → held ≡ record { limit = limit; octets = held_after d.head left.octets; is_closed = false }
    → Answers s (Bytes octets) second out (record seen { held = held.octets })
answers_on {X} limit s seen after octets given second t left held before d out later fresh on is_given w by same is holds =
    let e = moment_of s.moment.session.routes d in
    let records = w.does.records in
    answers_so s (record seen { held = held.octets }) (Bytes octets) second t before d out records e w.rest later fresh w.does.shows by
    (inr (
      subst (λ (m : Moment). IsConnected m.session.head) fresh.moment on,
      subst (λ (o : List ℕ). HearsBytes s.speaker s.kept t s.moment o records e w.rest) is_given
          (subst (λ (m : Moment). HearsBytes s.speaker s.kept t m given records e w.rest) fresh.moment w.does.hears),
    ))
    (taken_state seen after s e t held (held_after d.head w.rest) same is
    (ap (λ (h : Held). h.octets) holds ∙ held_same d.head left.octets w.rest (λ still. ap (λ (v : Held). v.octets) (w.left still))))

-- ---- a prefix

pub members_so : (prefixes : List PrefixBits) (prefix : PrefixBits) → list_any (is_at (prefix_cmp prefix)) prefixes ≡ is_member prefix_eq prefixes prefix
members_so [] prefix = refl
members_so (p ∷ ps) prefix = rw (same_tie prefix p, members_so ps prefix) refl

-- the core after it told the peer of a prefix
pub tell_moment : {X : Type 0} (s : CoreState) (t : ℕ) (told : _) (before d : Draft X) → IsFreshDraft s before → DoesTell s.moment.session.routes s.speaker t told before d
    → record { session = record { head = d.head; routes = s.moment.session.routes }; sent_at = d.sent_at } ≡ moment_of s.moment.session.routes d
tell_moment s t told before d fresh x = idle_moment s d (x.stay ∙ routes_stay s before fresh)

-- the same prefixes are kept, and it is the same state of the session
same_state : (s : CoreState) (m e : Moment) (kept others : List PrefixBits) (t : ℕ) → m ≡ e → kept ≡ others
    → state_after (record s { kept = kept }) m t ≡ state_after (record s { kept = others }) e t
same_state s m e kept others t same is = λ i. state_after (record s { kept = is i }) (same i) t

pub answers_announce : {X : Type 0} (s s2 : CoreState) (prefix : PrefixBits) (second t : ℕ) (before d : Draft X) (out : Output X) (kept : List PrefixBits)
    → t ≡ max s.second second → IsFreshDraft s before → DoesTell s.moment.session.routes s.speaker t (Announced prefix) before d → IsShownBy d out
    → kept ≡ kept_after (Announce prefix) s.kept
    → s2 ≡ state_after (record s { kept = kept })
    (record { session = record { head = d.head; routes = s.moment.session.routes }; sent_at = d.sent_at }) t
    → Answers s (Announce prefix) second out s2
answers_announce {X} s s2 prefix second t before d out kept later fresh x by kept_is is =
    let e = moment_of s.moment.session.routes d in
    answers_so s s2 (Announce prefix) second t before d out x.records e s.held later fresh x.shows by
    (subst (λ (m : Moment). SendsAt s.speaker m.session.head (λ link. announced s.speaker link prefix) prefix t m x.records e) fresh.moment x.sends, refl)
    (is ∙ same_state s (record { session = record { head = d.head; routes = s.moment.session.routes }; sent_at = d.sent_at }) e kept (kept_after (Announce prefix) s.kept) t
    (tell_moment s t (Announced prefix) before d fresh x) kept_is)

pub answers_withdraw : {X : Type 0} (s s2 : CoreState) (prefix : PrefixBits) (second t : ℕ) (before d : Draft X) (out : Output X) (kept : List PrefixBits)
    → t ≡ max s.second second → IsFreshDraft s before → is_member prefix_eq s.kept prefix ≡ true
    → DoesTell s.moment.session.routes s.speaker t (Withdrawn prefix) before d → IsShownBy d out
    → kept ≡ kept_after (Withdraw prefix) s.kept
    → s2 ≡ state_after (record s { kept = kept })
    (record { session = record { head = d.head; routes = s.moment.session.routes }; sent_at = d.sent_at }) t
    → Answers s (Withdraw prefix) second out s2
answers_withdraw {X} s s2 prefix second t before d out kept later fresh has x by kept_is is =
    let e = moment_of s.moment.session.routes d in
    answers_so s s2 (Withdraw prefix) second t before d out x.records e s.held later fresh x.shows by
    (inl (has, subst (λ (m : Moment). SendsAt s.speaker m.session.head (λ link. withdrawn prefix) prefix t m x.records e) fresh.moment x.sends), refl)
    (is ∙ same_state s (record { session = record { head = d.head; routes = s.moment.session.routes }; sent_at = d.sent_at }) e kept (kept_after (Withdraw prefix) s.kept) t
    (tell_moment s t (Withdrawn prefix) before d fresh x) kept_is)

pub answers_unkept : {X : Type 0} (s s2 : CoreState) (prefix : PrefixBits) (second t : ℕ) (before : Draft X) (out : Output X) (kept : List PrefixBits)
    → t ≡ max s.second second → IsFreshDraft s before → is_member prefix_eq s.kept prefix ≡ false → IsShownBy before out
    → kept ≡ kept_after (Withdraw prefix) s.kept
    → s2 ≡ state_after (record s { kept = kept })
    (record { session = record { head = before.head; routes = s.moment.session.routes }; sent_at = before.sent_at }) t
    → Answers s (Withdraw prefix) second out s2
answers_unkept {X} s s2 prefix second t before out kept later fresh lacks by kept_is is =
    let same = idle_moment s before (routes_stay s before fresh) ∙ fresh.moment in
    answers_so s s2 (Withdraw prefix) second t before before out [] s.moment s.held later fresh (shows_nothing before) by
    (inr (lacks, refl, refl), refl)
    (is ∙ same_state s (record { session = record { head = before.head; routes = s.moment.session.routes }; sent_at = before.sent_at }) s.moment kept (kept_after (Withdraw prefix) s.kept) t
    same kept_is)
