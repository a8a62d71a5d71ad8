-- What a core shows on an input: at one second, whole messages and changes of known states.
use Rattle.std.proofs.Common.{◌≡◌, ◌≤◌, ◌<◌, ◌^◌, ◌+◌, ◌==◌, ◌||◌, ◌∙◌, if◌then◌else◌, Bool, true, false, ℕ, List, [], ◌∷◌, ◌++◌, inl, inr, Option, None, Some, length, map, max, refl, sym, ap, subst, arith}
use Rattle.std.specs.List.{AllByRecursion}
use Rattle.std.proofs.lemmas.Bool.{cases_lt}
use Rattle.byteorder.specs.Endian.{big_bytes}
use Rattle.bgp_prefix.specs.declared.address.Address.{Address}
use Rattle.bgp_prefix.specs.declared.address.Address.TheVariants.{V4, V6}
use Rattle.bgp_prefix.specs.declared.session.Session.{Session}
use Rattle.bgp_prefix.specs.declared.session.RouteRefresh.{RouteRefresh}
use Rattle.bgp_prefix.specs.Shown.{ShownRecord, Received, Sent, Changed, second_of}
use Rattle.bgp_open.specs.declared.link.Link.{Link}
use Rattle.bgp_wire.specs.declared.header.Limit.{Limit}
use Rattle.bgp_wire.specs.declared.header.Limit.TheVariants.{Plain, Extended}
use Rattle.bgp_wire.specs.Framing.{IsFrame}
use Rattle.bgp_wire.specs.Header.{greatest_length, header_of, length_of, limit_with, type_of}
use Rattle.bgp_machine.specs.declared.fsm.Fsm.{Fsm}
use Rattle.bgp_machine.specs.declared.fsm.Fsm.TheVariants as fsms
use Rattle.bgp_machine.specs.declared.want.Want.{Want}
use Rattle.bgp_machine.specs.Heard.{received_limit}
use Rattle.bgp_machine.specs.State.{fsm_of, link_at, number_of}
use Rattle.bgp_machine.specs.Step.{Hidden, Received as OnMessage, change_of}
use Rattle.bgp_update.specs.Changes.{RouteChanges}
use Rattle.mrt.proofs.BodyLimit.{plain_fits}
use Rattle.mrt.specs.Layout.{IsState}
use Rattle.mrt.specs.Rules.{HasOtherLength, body_limit}
use Rattle.mrt.specs.Written.{IsMessageAllowed, address_octets}
use Rattle.mrt.specs.Written.{CanBeCaptured, AreInOrder}
use Rattle.bgp_speaker.specs.declared.speaker.Speaker.{Speaker}
use Rattle.bgp_speaker.specs.Choice.{change_records, type_in}
use Rattle.bgp_speaker.specs.Choosing.{Chooses, Drives}
use Rattle.bgp_speaker.specs.Core.{CoreState, InputValue, Moment, fresh_core}
use Rattle.bgp_speaker.specs.Said.{SaysEach}
use Rattle.bgp_speaker.specs.Written.{EachRecordCanBeWritten, SecondsStayInOrder, TakesAll}
use Rattle.bgp_speaker.proofs.EachStep.{IsHeardMessage, IsKept, IsKeptOn, all_joined, chooses_kept}
use Rattle.bgp_speaker.proofs.SaidIsMeant.{said_frame}

-- ---- whole messages

-- the most octets that a message may have, of whatever type
abbrev pub most : Limit → ℕ
most limit = greatest_length limit 2

no_more_with : (long : Bool) → (if long then 65535 else 4096) ≤ 65535
no_more_with true = omega arith
no_more_with false = omega arith

no_more : (limit : Limit) (kind : ℕ) → greatest_length limit kind ≤ most limit
no_more Plain kind = omega arith
no_more Extended kind = no_more_with ((kind == 2) || (kind == 3))

pub no_less : (limit : Limit) → 4096 ≤ most limit
no_less Plain = omega arith
no_less Extended = omega arith

-- where it may be so long
pub record IsWholeMessage (limit : Limit) (octets : List ℕ) : Type 0 where
  pub header : 19 ≤ length octets
  pub fits : length octets ≤ most limit
  pub agrees : HasOtherLength limit octets → ⊥

frame_whole : (limit : Limit) (octets : List ℕ) → IsFrame limit octets → IsWholeMessage limit octets
frame_whole limit octets is = record {
  header = is.header;
  fits = elim (cases_lt (greatest_length limit (type_of (header_of octets))) (length_of (header_of octets))) [
    | inl more ↦ absurd (is.sound 2 (big_bytes 2 (length_of (header_of octets))) (inr (inl (refl, inr (inl more), refl))))
    | inr within ↦ (let n = is.whole in let top = no_more limit (type_of (header_of octets)) in omega (arith, within))
  ];
  agrees = λ other. other.2 (sym is.whole);
}

heard_whole : (limit : Limit) (octets : List ℕ) → IsHeardMessage limit octets → IsWholeMessage limit octets
heard_whole limit octets is = elim is [
  | inl frame ↦ frame_whole limit octets frame
  | inr faulty ↦ record {
    header = (let n = faulty.0 in omega arith);
    fits = (let n = faulty.0 in let least = no_less limit in omega arith);
    agrees = λ other. faulty.1 other.1;
  }
]

-- ---- what is shown at a second

abbrev pub IsShownAt : Limit → ℕ → ShownRecord → Type 0
IsShownAt limit t (Received second octets) = (second ≡ t) × IsWholeMessage limit octets
IsShownAt limit t (Sent second octets) = (second ≡ t) × IsWholeMessage limit octets
IsShownAt limit t (Changed second old new) = (second ≡ t) × IsState old × IsState new

abbrev AreShownAt : Limit → ℕ → Moment → List ShownRecord → Moment → Type 0
AreShownAt limit t m records e = AllByRecursion (IsShownAt limit t) records

number_known : (fsm : Fsm) → IsState (number_of fsm)
number_known fsms.Idle = (omega arith, omega arith)
number_known fsms.Connect = (omega arith, omega arith)
number_known fsms.Active = (omega arith, omega arith)
number_known fsms.OpenSent = (omega arith, omega arith)
number_known fsms.OpenConfirm = (omega arith, omega arith)
number_known fsms.Established = (omega arith, omega arith)

change_shown : (limit : Limit) (t : ℕ) (change : Option (Fsm × Fsm)) → AllByRecursion (IsShownAt limit t) (change_records t change)
change_shown limit t None = tt
change_shown limit t (Some change) = ((refl, number_known change.0, number_known change.1), tt)

said_shown : (limit : Limit) (speaker : Speaker) (link : Option Link) (kind : ℕ) (changes : RouteChanges) (t : ℕ) (wants : List Want) (messages : List (List ℕ))
    → SaysEach speaker link kind changes wants messages → AllByRecursion (IsShownAt limit t) (map (λ (octets : List ℕ). Sent t octets) messages)
said_shown limit speaker link kind changes t [] messages says =
    subst (λ (ms : List (List ℕ)). AllByRecursion (IsShownAt limit t) (map (λ (octets : List ℕ). Sent t octets) ms)) (sym says) tt
said_shown limit speaker link kind changes t (want ∷ wants) [] says = absurd says
said_shown limit speaker link kind changes t (want ∷ wants) (octets ∷ messages) says = (
  (refl, frame_whole limit octets (said_frame limit speaker link kind changes want octets says.0)),
  said_shown limit speaker link kind changes t wants messages says.1,
)

by_itself : (limit : Limit) (speaker : Speaker) → IsKept speaker (AreShownAt limit)
by_itself limit speaker = record {
  none = λ t m. tt;
  joined = λ t m n e xs ys p q. all_joined (IsShownAt limit t) xs ys p q;
  own = λ changes t row m e records taken x.
      subst (λ (r : List ShownRecord). AllByRecursion (IsShownAt limit t) r) (sym x.shows)
      (all_joined (IsShownAt limit t) (map (λ (octets : List ℕ). Sent t octets) x.messages) _
      (said_shown limit speaker (link_at m.session.head) 0 changes t x.wants x.messages x.acts.says)
      (change_shown limit t (change_of (Hidden row) (fsm_of m.session.head) (fsm_of x.turn.head))));
}

on_message : (speaker : Speaker) → IsKeptOn speaker (AreShownAt (received_limit speaker.config))
on_message speaker t octets m e records heard on x =
    let limit = received_limit speaker.config in
    let step = x.4 in
    subst (λ (r : List ShownRecord). AllByRecursion (IsShownAt limit t) r) (sym step.shows) (
      (refl, heard_whole limit octets heard),
      all_joined (IsShownAt limit t) (map (λ (octets : List ℕ). Sent t octets) step.messages) _
          (said_shown limit speaker (link_at m.session.head) (type_in (OnMessage octets)) _ t step.wants step.messages step.acts.says)
          (change_shown limit t (change_of (OnMessage octets) (fsm_of m.session.head) (fsm_of step.turn.head))),
    )

pub chooses_shown : (s s2 : CoreState) (input : InputValue) (second : ℕ) (records : List ShownRecord) → Chooses s input second records s2
    → AllByRecursion (IsShownAt (received_limit s.speaker.config) (max s.second second)) records
chooses_shown s s2 input second records x =
    chooses_kept s s2 (AreShownAt (received_limit s.speaker.config)) (by_itself (received_limit s.speaker.config) s.speaker) (on_message s.speaker) input second records x

-- ---- in order

from_lower : (least t : ℕ) (records : List ShownRecord) → least ≤ t → AreInOrder t records → AreInOrder least records
from_lower least t [] below order = tt
from_lower least t (shown ∷ records) below order = ((let o = order.0 in omega arith), order.1)

second_is : (limit : Limit) (t : ℕ) (shown : ShownRecord) → IsShownAt limit t shown → second_of shown ≡ t
second_is limit t (Received second octets) is = is.0
second_is limit t (Sent second octets) is = is.0
second_is limit t (Changed second old new) is = is.0

in_order : (limit : Limit) (least t : ℕ) (xs ys : List ShownRecord) → AllByRecursion (IsShownAt limit t) xs → least ≤ t → AreInOrder t ys → AreInOrder least (xs ++ ys)
in_order limit least t [] ys shown below order = from_lower least t ys below order
in_order limit least t (x ∷ xs) ys shown below order =
    let at : second_of x ≡ t = second_is limit t x shown.0 in
    (omega arith, in_order limit (second_of x) t xs ys shown.1 (omega arith) order)

pub seconds_in_order : SecondsStayInOrder
seconds_in_order s e [] records x = subst (λ (r : List ShownRecord). AreInOrder s.second r) (sym x.0) tt
seconds_in_order s e (input ∷ inputs) records x =
    let now : x.1.second ≡ max s.second input.0 = ap (λ (v : CoreState). v.second) x.3.3 in
    subst (λ (r : List ShownRecord). AreInOrder s.second r) (sym x.5)
    (in_order (received_limit s.speaker.config) s.second (max s.second input.0) x.0 x.2 (chooses_shown s x.1 input.1 input.0 x.0 x.3) (omega arith)
    (subst (λ (n : ℕ). AreInOrder n x.2) now (seconds_in_order x.1 e inputs x.2 x.4)))

-- ---- each can be written

-- 48 octets besides a message of whatever length
room_with : (peer local : Address) (refresh : RouteRefresh) (extended : Bool)
    → most (limit_with extended) + 48 ≤ body_limit (record { peer = peer; local = local; refresh = refresh; extended = extended })
unfolding body_limit
room_with peer local refresh true = omega arith
room_with peer local refresh false = omega arith

pub message_room : (session : Session) → most (limit_with session.extended) + 48 ≤ body_limit session
message_room session = room_with session.peer session.local session.refresh session.extended

address_len : (a : Address) → length (address_octets a) ≤ 16
address_len (V4 number) = let l : length (big_bytes 4 number) ≡ 4 = refl in omega arith
address_len (V6 number) = let l : length (big_bytes 16 number) ≡ 16 = refl in omega arith

states_len : (old new : ℕ) → length (big_bytes 2 old ++ big_bytes 2 new) ≡ 4
states_len old new = refl

message_allowed : (session : Session) (octets : List ℕ) → TakesAll session → IsWholeMessage (limit_with session.extended) octets → IsMessageAllowed session octets
message_allowed session octets takes whole = (whole.header, (λ may. (let not = takes.refresh in absurd (cc))), (λ may. (let not = takes.refresh in absurd (cc))), whole.agrees)

captured : (session : Session) (t : ℕ) (shown : ShownRecord) → TakesAll session → t < 2 ^ 32 → IsShownAt (limit_with session.extended) t shown → CanBeCaptured session shown
captured session t (Received second octets) takes below is = record {
  writable = (takes.family, (let p = address_len session.peer in let l = address_len session.local in let f = is.1.fits in let room = message_room session in omega arith));
  fits = record { second = (let n = is.0 in omega arith); states = tt; peer = takes.peer; local = takes.local };
  allowed = (message_allowed session octets takes is.1, λ back. back);
}
captured session t (Sent second octets) takes below is = record {
  writable = (takes.family, (let p = address_len session.peer in let l = address_len session.local in let f = is.1.fits in let room = message_room session in omega arith));
  fits = record { second = (let n = is.0 in omega arith); states = tt; peer = takes.peer; local = takes.local };
  allowed = (message_allowed session octets takes is.1, λ back. back);
}
captured session t (Changed second old new) takes below is = record {
  writable = (takes.family, (let p = address_len session.peer in let l = address_len session.local in let f = states_len old new in let room = plain_fits session in omega arith));
  fits = record {
    second = (let n = is.0 in omega arith);
    states = ((let o = is.1.1 in omega arith), (let o = is.2.1 in omega arith));
    peer = takes.peer;
    local = takes.local;
  };
  allowed = (is.1, is.2, λ back. back);
}

each_captured : (session : Session) (t : ℕ) (records : List ShownRecord) → TakesAll session → t < 2 ^ 32 → AllByRecursion (IsShownAt (limit_with session.extended) t) records
    → AllByRecursion (CanBeCaptured session) records
each_captured session t [] takes below each = tt
each_captured session t (shown ∷ records) takes below each =
    (captured session t shown takes below each.0, each_captured session t records takes below each.1)

drives_written : (session : Session) (s e : CoreState) (inputs : List (ℕ × InputValue)) (records : List ShownRecord)
    → TakesAll session → session.extended ≡ s.speaker.config.parts.session.extended → s.second < 2 ^ 32 → AllByRecursion (λ x. x.0 < 2 ^ 32) inputs → Drives s inputs records e
    → AllByRecursion (CanBeCaptured session) records
drives_written session s e [] records takes same below each x =
    subst (λ (r : List ShownRecord). AllByRecursion (CanBeCaptured session) r) (sym x.0) tt
drives_written session s e (input ∷ inputs) records takes same below each x =
    let now : x.1.second ≡ max s.second input.0 = ap (λ (v : CoreState). v.second) x.3.3 in
    let first : input.0 < 2 ^ 32 = each.0 in
    let still : max s.second input.0 < 2 ^ 32 = omega arith in
    subst (λ (r : List ShownRecord). AllByRecursion (CanBeCaptured session) r) (sym x.5)
    (all_joined (CanBeCaptured session) x.0 x.2
    (each_captured session (max s.second input.0) x.0 takes still
    (subst (λ (long : Bool). AllByRecursion (IsShownAt (limit_with long) (max s.second input.0)) x.0) (sym same) (chooses_shown s x.1 input.1 input.0 x.0 x.3)))
    (drives_written session x.1 e inputs x.2 takes (same ∙ ap (λ (v : CoreState). v.speaker.config.parts.session.extended) (sym x.3.3)) (omega arith) each.1 x.4))

pub each_written : EachRecordCanBeWritten
each_written session speaker e inputs records takes same each x =
    drives_written session (fresh_core speaker) e inputs records takes same (omega arith) each x
