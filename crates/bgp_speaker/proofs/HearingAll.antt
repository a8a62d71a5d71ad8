-- Hearing to the end: one message more, and the ways in which it ends.
use Rattle.std.proofs.Common.{◌≡◌, ◌≤◌, ℕ, false, List, [], ◌∷◌, ◌++◌, ◌⊎◌, inl, inr, length, take, refl, sym, ap, subst, ◌∙◌, append_assoc, append-nil, slice_index, slice_index_or, arith}
use Rattle.std.proofs.lemmas.List.{length-take-le, take_all}
use Rattle.std.proofs.lemmas.List.Elements.{All-nil}
use Rattle.bgp_prefix.specs.Prefix.{PrefixBits}
use Rattle.bgp_prefix.specs.Shown.{ShownRecord}
use Rattle.bgp_wire.specs.declared.header.Limit.{Limit}
use Rattle.bgp_wire.specs.Framing.{IsFrame, IsFraming, IsShort, IsFaulty}
use Rattle.bgp_wire.specs.Header.{IsSound, header_of, type_of}
use Rattle.bgp_wire.specs.Held.{Held}
use Rattle.bgp_open.specs.declared.config.Config.{Config}
use Rattle.bgp_machine.specs.declared.hearing.Heard.{Heard}
use Rattle.bgp_machine.specs.declared.hearing.Heard.TheVariants.{TooShort, ValidOpen, FaultyHeader, InvalidOpen, BadVersion, Notification, Keepalive, Update}
use Rattle.bgp_machine.specs.declared.rows.ReceivedRow.{ReceivedRow}
use Rattle.bgp_machine.specs.declared.rows.ReceivedRow.TheVariants.{Ignores, Accepts, Overlooks, Collides, Drops, NamesFault, ReportsError, Establishes, Renews, Applies}
use Rattle.bgp_machine.specs.declared.state.Head.{Head}
use Rattle.bgp_machine.specs.declared.state.Head.TheVariants.{Idle, Connect, Active, OpenSent, OpenConfirm, Established}
use Rattle.bgp_machine.specs.declared.want.Want.{Want}
use Rattle.bgp_machine.specs.Heard.{Hears, received_limit}
use Rattle.bgp_machine.specs.State.{Turn}
use Rattle.bgp_machine.specs.Step.{ReceivedIn}
use Rattle.bgp_rib.specs.Routes.{Routes}
use Rattle.bgp_speaker.specs.declared.draft.Draft.{Draft}
use Rattle.bgp_speaker.specs.declared.speaker.Speaker.{Speaker}
use Rattle.bgp_speaker.specs.Choice.{GreetsAt}
use Rattle.bgp_speaker.specs.Choosing.{AreLast, HearsBytes}
use Rattle.bgp_speaker.specs.Core.{Moment, IsConnected}
use Rattle.bgp_speaker.specs.Drafts.{DoesHear, GoesOnHearing, HearsWell, moment_of, shown_in}
use Rattle.bgp_speaker.specs.Picks.{PicksOn}
use Rattle.bgp_speaker.proofs.Drafting.{shows_joined}
use Rattle.bgp_speaker.proofs.HowCut.{frame_first, stays_deaf}

pub goes_on : {X : Type 0} (routes : Routes) (speaker : Speaker) (kept : List PrefixBits) (t : ℕ) (octets : List ℕ) (d : Draft X) → GoesOnHearing routes speaker kept t octets octets d d
goes_on routes speaker kept t octets d = record {
  records = [];
  shows = record { records_are = sym (append-nil (shown_in d)); octets_are = sym (append-nil d.octets.items) };
  hears = λ others e rest h. h;
}

pub one_more_heard : {X : Type 0} (routes : Routes) (speaker : Speaker) (kept : List PrefixBits) (t : ℕ) (octets now frame later : List ℕ) (old mid new : Draft X)
    → GoesOnHearing routes speaker kept t octets now old mid → IsConnected mid.head → IsFrame (received_limit speaker.config) frame → now ≡ frame ++ later
    → DoesHear routes speaker kept t frame mid new → GoesOnHearing routes speaker kept t octets later old new
one_more_heard routes speaker kept t octets now frame later old mid new g on is split x = record {
  records = g.records ++ (x.first ++ x.greeting);
  shows = shows_joined old mid new g.records (x.first ++ x.greeting) g.shows x.shows;
  hears = λ others e rest h.
      subst (λ (r : List ShownRecord). HearsBytes speaker kept t (moment_of routes old) octets r e rest)
      (ap (λ (r : List ShownRecord). g.records ++ r) (sym (append_assoc x.first x.greeting others)) ∙ sym (append_assoc g.records (x.first ++ x.greeting) others))
      (g.hears (x.first ++ (x.greeting ++ others)) e rest
      (subst (λ (o : List ℕ). HearsBytes speaker kept t (moment_of routes mid) o (x.first ++ (x.greeting ++ others)) e rest) (sym split)
      (frame_first speaker kept t (moment_of routes mid) x.between (moment_of routes new) e frame later rest x.first x.greeting others is on x.takes x.greets h)));
}

-- ---- the ends

pub ends_of : (limit : Limit) (rest : List ℕ) → IsShort limit rest ⊎ IsFaulty limit rest → (last : List (List ℕ)) × AreLast limit rest last
ends_of limit rest h = elim h [ inl short ↦ ([], inl (short, refl)) | inr faulty ↦ (header_of rest ∷ [], inr (faulty, refl)) ]

-- without a connection nothing more is heard
pub ends_deaf : {X : Type 0} (routes : Routes) (speaker : Speaker) (kept : List PrefixBits) (t : ℕ) (octets now : List ℕ) (held : Held) (old new : Draft X) (frames : List (List ℕ)) (rest : List ℕ)
    → GoesOnHearing routes speaker kept t octets now old new → (IsConnected new.head → ⊥) → IsFraming (received_limit speaker.config) now frames rest → HearsWell routes speaker kept t octets held old new
ends_deaf routes speaker kept t octets now held old new frames rest g off framing =
    let last = ends_of (received_limit speaker.config) rest framing.last in
    record {
      rest = rest;
      does = record {
        records = g.records;
        hears = subst (λ (r : List ShownRecord). HearsBytes speaker kept t (moment_of routes old) octets r (moment_of routes new) rest) (append-nil g.records)
            (g.hears [] (moment_of routes new) rest (record {
              messages = frames ++ last.0;
              heard = record { frames = frames; last = last.0; framing = framing; ends = last.1; are = refl };
              each = stays_deaf speaker kept t (moment_of routes new) (frames ++ last.0) off;
            }));
        shows = g.shows;
      };
      left = λ on. absurd (off on);
    }

-- less than a message is left
pub ends_short : {X : Type 0} (routes : Routes) (speaker : Speaker) (kept : List PrefixBits) (t : ℕ) (octets now : List ℕ) (held : Held) (old new : Draft X)
    → GoesOnHearing routes speaker kept t octets now old new → IsShort (received_limit speaker.config) now → held ≡ record { limit = received_limit speaker.config; octets = now; is_closed = false }
    → HearsWell routes speaker kept t octets held old new
ends_short routes speaker kept t octets now held old new g short is = record {
  rest = now;
  does = record {
    records = g.records;
    hears = subst (λ (r : List ShownRecord). HearsBytes speaker kept t (moment_of routes old) octets r (moment_of routes new) now) (append-nil g.records)
        (g.hears [] (moment_of routes new) now (record {
          messages = [];
          heard = record { frames = []; last = []; framing = record { whole = refl; each = All-nil (IsFrame (received_limit speaker.config)); last = inl short }; ends = inl (short, refl); are = refl };
          each = (refl, refl);
        }));
    shows = g.shows;
  };
  left = λ on. is;
}

-- ---- a header with a fault ends the connection

pub refused : (config : Config) (head : Head) (t : ℕ) (octets : List ℕ) (heard : Heard) (row : ReceivedRow) (wants : List Want) (turn : Turn)
    → 19 ≤ length octets → (IsSound (received_limit config) (header_of octets) → ⊥) → Hears config octets heard → PicksOn head octets heard row → ReceivedIn head t octets heard row wants turn
    → turn.head ≡ Idle
refused config head t octets TooShort row wants turn long faulty hears picks is = absurd (omega (arith, long, hears))
refused config head t octets (ValidOpen link e) row wants turn long faulty hears picks is = absurd (faulty hears.0.sound)
refused config head t octets (InvalidOpen e) row wants turn long faulty hears picks is = absurd (faulty hears.0.sound)
refused config head t octets BadVersion row wants turn long faulty hears picks is = absurd (faulty hears.0.sound)
refused config head t octets Notification row wants turn long faulty hears picks is = absurd (faulty hears.0.sound)
refused config head t octets Keepalive row wants turn long faulty hears picks is = absurd (faulty hears.sound)
refused config head t octets Update row wants turn long faulty hears picks is = absurd (faulty hears.sound)
refused config Idle t octets (FaultyHeader f) Ignores wants turn long faulty hears picks is = absurd picks
refused config Idle t octets (FaultyHeader f) Accepts wants turn long faulty hears picks is = absurd picks
refused config Idle t octets (FaultyHeader f) Overlooks wants turn long faulty hears picks is = absurd picks
refused config Idle t octets (FaultyHeader f) Collides wants turn long faulty hears picks is = absurd picks
refused config Idle t octets (FaultyHeader f) Drops wants turn long faulty hears picks is = absurd picks
refused config Idle t octets (FaultyHeader f) NamesFault wants turn long faulty hears picks is = absurd picks
refused config Idle t octets (FaultyHeader f) ReportsError wants turn long faulty hears picks is = absurd picks
refused config Idle t octets (FaultyHeader f) Establishes wants turn long faulty hears picks is = absurd picks
refused config Idle t octets (FaultyHeader f) Renews wants turn long faulty hears picks is = absurd picks
refused config Idle t octets (FaultyHeader f) (Applies families) wants turn long faulty hears picks is = absurd picks
refused config (Connect d) t octets (FaultyHeader f) Ignores wants turn long faulty hears picks is = absurd picks
refused config (Connect d) t octets (FaultyHeader f) Accepts wants turn long faulty hears picks is = absurd picks
refused config (Connect d) t octets (FaultyHeader f) Overlooks wants turn long faulty hears picks is = absurd picks
refused config (Connect d) t octets (FaultyHeader f) Collides wants turn long faulty hears picks is = absurd picks
refused config (Connect d) t octets (FaultyHeader f) Drops wants turn long faulty hears picks is = absurd picks
refused config (Connect d) t octets (FaultyHeader f) NamesFault wants turn long faulty hears picks is = absurd picks
refused config (Connect d) t octets (FaultyHeader f) ReportsError wants turn long faulty hears picks is = absurd picks
refused config (Connect d) t octets (FaultyHeader f) Establishes wants turn long faulty hears picks is = absurd picks
refused config (Connect d) t octets (FaultyHeader f) Renews wants turn long faulty hears picks is = absurd picks
refused config (Connect d) t octets (FaultyHeader f) (Applies families) wants turn long faulty hears picks is = absurd picks
refused config (Active d) t octets (FaultyHeader f) Ignores wants turn long faulty hears picks is = absurd picks
refused config (Active d) t octets (FaultyHeader f) Accepts wants turn long faulty hears picks is = absurd picks
refused config (Active d) t octets (FaultyHeader f) Overlooks wants turn long faulty hears picks is = absurd picks
refused config (Active d) t octets (FaultyHeader f) Collides wants turn long faulty hears picks is = absurd picks
refused config (Active d) t octets (FaultyHeader f) Drops wants turn long faulty hears picks is = absurd picks
refused config (Active d) t octets (FaultyHeader f) NamesFault wants turn long faulty hears picks is = absurd picks
refused config (Active d) t octets (FaultyHeader f) ReportsError wants turn long faulty hears picks is = absurd picks
refused config (Active d) t octets (FaultyHeader f) Establishes wants turn long faulty hears picks is = absurd picks
refused config (Active d) t octets (FaultyHeader f) Renews wants turn long faulty hears picks is = absurd picks
refused config (Active d) t octets (FaultyHeader f) (Applies families) wants turn long faulty hears picks is = absurd picks
refused config (OpenSent timer) t octets (FaultyHeader f) Ignores wants turn long faulty hears picks is = absurd picks
refused config (OpenSent timer) t octets (FaultyHeader f) Accepts wants turn long faulty hears picks is = absurd picks
refused config (OpenSent timer) t octets (FaultyHeader f) Overlooks wants turn long faulty hears picks is = absurd picks
refused config (OpenSent timer) t octets (FaultyHeader f) Collides wants turn long faulty hears picks is = absurd picks
refused config (OpenSent timer) t octets (FaultyHeader f) Drops wants turn long faulty hears picks is = absurd picks
refused config (OpenSent timer) t octets (FaultyHeader f) NamesFault wants turn long faulty hears picks is = ap (λ (v : Turn). v.head) is.1
refused config (OpenSent timer) t octets (FaultyHeader f) ReportsError wants turn long faulty hears picks is = absurd picks
refused config (OpenSent timer) t octets (FaultyHeader f) Establishes wants turn long faulty hears picks is = absurd picks
refused config (OpenSent timer) t octets (FaultyHeader f) Renews wants turn long faulty hears picks is = absurd picks
refused config (OpenSent timer) t octets (FaultyHeader f) (Applies families) wants turn long faulty hears picks is = absurd picks
refused config (OpenConfirm own timer) t octets (FaultyHeader f) Ignores wants turn long faulty hears picks is = absurd picks
refused config (OpenConfirm own timer) t octets (FaultyHeader f) Accepts wants turn long faulty hears picks is = absurd picks
refused config (OpenConfirm own timer) t octets (FaultyHeader f) Overlooks wants turn long faulty hears picks is = absurd picks
refused config (OpenConfirm own timer) t octets (FaultyHeader f) Collides wants turn long faulty hears picks is = absurd picks
refused config (OpenConfirm own timer) t octets (FaultyHeader f) Drops wants turn long faulty hears picks is = absurd picks
refused config (OpenConfirm own timer) t octets (FaultyHeader f) NamesFault wants turn long faulty hears picks is = ap (λ (v : Turn). v.head) is.1
refused config (OpenConfirm own timer) t octets (FaultyHeader f) ReportsError wants turn long faulty hears picks is = absurd picks
refused config (OpenConfirm own timer) t octets (FaultyHeader f) Establishes wants turn long faulty hears picks is = absurd picks
refused config (OpenConfirm own timer) t octets (FaultyHeader f) Renews wants turn long faulty hears picks is = absurd picks
refused config (OpenConfirm own timer) t octets (FaultyHeader f) (Applies families) wants turn long faulty hears picks is = absurd picks
refused config (Established own timer) t octets (FaultyHeader f) Ignores wants turn long faulty hears picks is = absurd picks
refused config (Established own timer) t octets (FaultyHeader f) Accepts wants turn long faulty hears picks is = absurd picks
refused config (Established own timer) t octets (FaultyHeader f) Overlooks wants turn long faulty hears picks is = absurd picks
refused config (Established own timer) t octets (FaultyHeader f) Collides wants turn long faulty hears picks is = absurd picks
refused config (Established own timer) t octets (FaultyHeader f) Drops wants turn long faulty hears picks is = absurd picks
refused config (Established own timer) t octets (FaultyHeader f) NamesFault wants turn long faulty hears picks is = ap (λ (v : Turn). v.head) is.1
refused config (Established own timer) t octets (FaultyHeader f) ReportsError wants turn long faulty hears picks is = absurd picks
refused config (Established own timer) t octets (FaultyHeader f) Establishes wants turn long faulty hears picks is = absurd picks
refused config (Established own timer) t octets (FaultyHeader f) Renews wants turn long faulty hears picks is = absurd picks
refused config (Established own timer) t octets (FaultyHeader f) (Applies families) wants turn long faulty hears picks is = absurd picks

pub nothing_greets : (speaker : Speaker) (kept : List PrefixBits) (t : ℕ) (old : Head) (m e : Moment) (records : List ShownRecord)
    → GreetsAt speaker kept t old Idle m records e → e ≡ m
nothing_greets speaker kept t Idle m e records x = x.1
nothing_greets speaker kept t (Connect d) m e records x = x.1
nothing_greets speaker kept t (Active d) m e records x = x.1
nothing_greets speaker kept t (OpenSent timer) m e records x = x.1
nothing_greets speaker kept t (OpenConfirm own timer) m e records x = x.1
nothing_greets speaker kept t (Established own timer) m e records x = x.1

fault_ends : {X : Type 0} (routes : Routes) (speaker : Speaker) (kept : List PrefixBits) (t : ℕ) (octets : List ℕ) (old new : Draft X)
    → 19 ≤ length octets → (IsSound (received_limit speaker.config) (header_of octets) → ⊥) → DoesHear routes speaker kept t octets old new → new.head ≡ Idle
fault_ends routes speaker kept t octets old new long faulty x =
    let takes = x.takes in
    let idle : x.between.session.head ≡ Idle = ap (λ (v : Moment). v.session.head) takes.4.acts.leaves
    ∙ refused speaker.config old.head t octets takes.0 takes.1 takes.4.wants takes.4.turn long faulty takes.2 takes.3 takes.4.is in
    let greets = subst (λ (h : Head). GreetsAt speaker kept t old.head h x.between x.greeting (moment_of routes new)) idle x.greets in
    ap (λ (v : Moment). v.session.head) (nothing_greets speaker kept t old.head x.between (moment_of routes new) x.greeting greets) ∙ idle

off_at_idle : (head : Head) → head ≡ Idle → IsConnected head → ⊥
off_at_idle head e on = subst IsConnected e on

-- a header with a fault is left
pub ends_faulty : {X : Type 0} (routes : Routes) (speaker : Speaker) (kept : List PrefixBits) (t : ℕ) (octets now header : List ℕ) (held : Held) (old mid new : Draft X)
    → GoesOnHearing routes speaker kept t octets now old mid → IsConnected mid.head → IsFaulty (received_limit speaker.config) now → header ≡ header_of now
    → 19 ≤ length header → (IsSound (received_limit speaker.config) (header_of header) → ⊥)
    → DoesHear routes speaker kept t header mid new → HearsWell routes speaker kept t octets held old new
ends_faulty routes speaker kept t octets now header held old mid new g on faulty front long unsound x = record {
  rest = now;
  does = record {
    records = g.records ++ (x.first ++ x.greeting);
    hears = subst (λ (r : List ShownRecord). HearsBytes speaker kept t (moment_of routes old) octets (g.records ++ r) (moment_of routes new) now) (ap (λ (r : List ShownRecord). x.first ++ r) (append-nil x.greeting))
        (g.hears (x.first ++ (x.greeting ++ [])) (moment_of routes new) now (record {
          messages = header ∷ [];
          heard = record {
            frames = [];
            last = header ∷ [];
            framing = record { whole = refl; each = All-nil (IsFrame (received_limit speaker.config)); last = inr faulty };
            ends = inr (faulty, ap (λ (v : List ℕ). v ∷ []) front);
            are = refl;
          };
          each = inr (on, x.first, x.between, x.greeting, moment_of routes new, [], x.takes, x.greets, (refl, refl), refl);
        }));
    shows = shows_joined old mid new g.records (x.first ++ x.greeting) g.shows x.shows;
  };
  left = λ still. absurd (off_at_idle new.head (fault_ends routes speaker kept t header mid new long unsound x) still);
}

pub held_is : (limit : Limit) (h : Held) → h.limit ≡ limit → h.is_closed ≡ false → h ≡ record { limit = limit; octets = h.octets; is_closed = false }
held_is limit h p q = λ i. record { limit = p i; octets = h.octets; is_closed = q i }

long_front : (octets : List ℕ) → 19 ≤ length octets → 19 ≤ length (take 19 octets)
long_front octets long = subst (λ (n : ℕ). 19 ≤ n) (sym (length-take-le 19 octets long)) (omega arith)

front_of_front : (octets : List ℕ) → 19 ≤ length octets → take 19 (take 19 octets) ≡ take 19 octets
front_of_front octets long = take_all 19 (take 19 octets) (subst (λ (n : ℕ). n ≤ 19) (sym (length-take-le 19 octets long)) (omega arith))

pub ends_at_fault : {X : Type 0} (routes : Routes) (speaker : Speaker) (kept : List PrefixBits) (t : ℕ) (octets now header : List ℕ) (held : Held) (old mid new : Draft X)
    → GoesOnHearing routes speaker kept t octets now old mid → IsConnected mid.head → IsFaulty (received_limit speaker.config) now → header ≡ header_of now
    → DoesHear routes speaker kept t header mid new → HearsWell routes speaker kept t octets held old new
ends_at_fault routes speaker kept t octets now header held old mid new g on faulty front x =
    ends_faulty routes speaker kept t octets now header held old mid new g on faulty front
    (subst (λ (h : List ℕ). 19 ≤ length h) (sym front) (long_front now faulty.0))
    (λ sound. faulty.1 (subst (λ (h : List ℕ). IsSound (received_limit speaker.config) h) (ap (λ (h : List ℕ). take 19 h) front ∙ front_of_front now faulty.0) sound)) x

pub kind_at : (octets header : List ℕ) → 19 ≤ length octets → header ≡ take 19 octets → slice_index_or header 18 0 ≡ type_of (header_of header)
unfolding type_of
kind_at octets header long front = ap (λ (h : List ℕ). slice_index h 18) (front ∙ (sym (front_of_front octets long) ∙ ap (λ (h : List ℕ). take 19 h) (sym front)))
