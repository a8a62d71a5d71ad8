-- What a draft shows and does, put together.
use Rattle.std.proofs.Common.{◌≡◌, ℕ, List, [], ◌∷◌, ◌++◌, Option, Result, Ok, Err, OnOk, map, refl, sym, ap, subst, ◌∙◌, append_assoc}
use Rattle.bgp_prefix.specs.Prefix.{PrefixBits}
use Rattle.bgp_prefix.specs.Shown.{ShownRecord, Received, Sent, Changed}
use Rattle.bgp_machine.specs.declared.fsm.Fsm.{Fsm}
use Rattle.bgp_machine.specs.declared.rows.HiddenRow.{HiddenRow}
use Rattle.bgp_machine.specs.declared.state.Head.{Head}
use Rattle.bgp_machine.specs.declared.step.Step.{Step}
use Rattle.bgp_machine.specs.declared.want.Want.{Want}
use Rattle.bgp_machine.specs.Listed.{IsStep, routes_turn, turn_of}
use Rattle.bgp_machine.specs.Rows.{HiddenShown}
use Rattle.bgp_machine.specs.State.{SessionState, Turn, link_at, moved, routes_by}
use Rattle.bgp_machine.specs.Want.{wants_of}
use Rattle.bgp_update.specs.Changes.{RouteChanges}
use Rattle.bgp_rib.specs.Routes.{Routes}
use Rattle.bgp_speaker.specs.declared.draft.Draft.{Draft}
use Rattle.bgp_speaker.specs.declared.pending.Pending.{Pending}
use Rattle.bgp_speaker.specs.declared.saying.News.{News}
use Rattle.bgp_speaker.specs.declared.speaker.Speaker.{Speaker}
use Rattle.bgp_wire.specs.Header.{header_of, type_of}
use Rattle.bgp_machine.specs.Listed.{no_changes}
use Rattle.bgp_speaker.specs.Choice.{Acts, change_records, sent_after}
use Rattle.bgp_speaker.specs.Core.{Moment}
use Rattle.bgp_speaker.specs.Choosing.{sent_in}
use Rattle.bgp_speaker.specs.Drafts.{DoesGreet, DoesHear, DoesOn, DoesOwn, IsChosen, moment_of, IsSaying, IsSayingOne, Performs, Shows, shown_in, news_changes}
use Rattle.bgp_speaker.specs.Shown.{shown_value}
use Rattle.bgp_speaker.specs.Pending.{routes_pending}
use Rattle.bgp_speaker.specs.Said.{Says, SaysEach}

pub on_ok : {T E P Q : Type 0} (r : Result T E) → OnOk r P → (P → Q) → OnOk r Q
on_ok (Ok x) p f = f p
on_ok (Err e) p f = p

pub sent_joined : (xs ys : List ShownRecord) → sent_in (xs ++ ys) ≡ sent_in xs ++ sent_in ys
sent_joined [] ys = refl
sent_joined (Received t octets ∷ xs) ys = sent_joined xs ys
sent_joined (Sent t octets ∷ xs) ys =
    ap (λ (v : List ℕ). octets ++ v) (sent_joined xs ys) ∙ sym (append_assoc octets (sent_in xs) (sent_in ys))
sent_joined (Changed t old new ∷ xs) ys = sent_joined xs ys

pub shows_joined : {X : Type 0} (old mid new : Draft X) (xs ys : List ShownRecord) → Shows old mid xs → Shows mid new ys → Shows old new (xs ++ ys)
shows_joined old mid new xs ys p q = record {
  records_are = q.records_are ∙ (ap (λ (v : List ShownRecord). v ++ ys) p.records_are ∙ append_assoc (shown_in old) xs ys);
  octets_are = q.octets_are ∙ (ap (λ (v : List ℕ). v ++ sent_in ys) p.octets_are
      ∙ (append_assoc old.octets.items (sent_in xs) (sent_in ys) ∙ ap (λ (v : List ℕ). old.octets.items ++ v) (sym (sent_joined xs ys))));
}

pub saying_one : {X : Type 0} (speaker : Speaker) (changes : RouteChanges) (t kind : ℕ) (want : Want) (old new : Draft X)
    → IsSayingOne speaker changes t kind want old new → IsSaying speaker changes t kind (want ∷ []) old new
saying_one speaker changes t kind want old new x =
    record { messages = x.message ∷ []; says = (x.says, refl); sent_at = x.sent_at; shows = x.shows }

pub saying_two : {X : Type 0} (speaker : Speaker) (news : Option News) (t kind : ℕ) (first second : Want) (old mid new : Draft X) → mid.head ≡ old.head
    → IsSayingOne speaker (news_changes speaker (link_at old.head) news) t kind first old mid
    → IsSayingOne speaker (news_changes speaker (link_at mid.head) news) t kind second mid new
    → IsSaying speaker (news_changes speaker (link_at old.head) news) t kind (first ∷ second ∷ []) old new
saying_two {X} speaker news t kind first second old mid new same x y = record {
  messages = x.message ∷ y.message ∷ [];
  says = (x.says, (subst (λ (h : Head). Says speaker (link_at h) kind (news_changes speaker (link_at h) news) second y.message) same y.says, refl));
  sent_at = y.sent_at;
  shows = shows_joined old mid new (Sent t x.message ∷ []) (Sent t y.message ∷ []) x.shows y.shows;
}

pub performs : {X : Type 0} (routes : Routes) (speaker : Speaker) (changes given : RouteChanges) (t kind : ℕ) (step : Step) (wants : List Want) (change : Option (Fsm × Fsm)) (turn : Turn)
    (old mid noted new : Draft X) → IsStep given step wants change turn → IsSaying speaker changes t kind (wants_of step.wants) old mid → mid.pending ≡ old.pending
    → Shows mid noted (change_records t step.change) → noted.pending ≡ mid.pending → noted.sent_at ≡ mid.sent_at
    → new.head ≡ step.after.head
    → routes_pending new.pending routes ≡ routes_by (routes_turn given step.after.routes) (routes_pending noted.pending routes)
    → new.sent_at ≡ noted.sent_at → new.records ≡ noted.records → new.octets ≡ noted.octets
    → Performs routes speaker changes t kind wants change turn old new
performs {X} routes speaker changes given t kind step wants change turn old mid noted new is say same shows kept sent head took sent_new records octets =
    let messages = say.messages in
    let both = shows_joined old mid noted (map (λ (m : List ℕ). Sent t m) messages) (change_records t step.change) say.shows shows in
    let before : SessionState = record { head = old.head; routes = routes_pending old.pending routes } in
    let routes_so : routes_pending new.pending routes ≡ routes_by (routes_turn given step.after.routes) before.routes =
    took ∙ ap (λ (p : Pending X). routes_by (routes_turn given step.after.routes) (routes_pending p routes)) (kept ∙ same) in
    let after_so : record { head = new.head; routes = routes_pending new.pending routes } ≡ moved before (turn_of given step.after) =
    (λ i. record { head = head i; routes = routes_so i }) in
    let moved_so : record { head = new.head; routes = routes_pending new.pending routes } ≡ moved before turn =
    after_so ∙ ap (λ (u : Turn). moved before u) is.ends in
    let sent_so : new.sent_at ≡ sent_after t messages old.sent_at = sent_new ∙ (sent ∙ say.sent_at) in
    record {
      messages = messages;
      acts = record {
        says = subst (λ (ws : List Want). SaysEach speaker (link_at old.head) kind changes ws messages) is.sends say.says;
        leaves = λ i. record { session = moved_so i; sent_at = sent_so i };
      };
      shows = subst (λ (c : Option (Fsm × Fsm)). Shows old new (map (λ (m : List ℕ). Sent t m) messages ++ change_records t c)) is.shows (record {
        records_are = ap (λ (v : _). map shown_value v.items) records ∙ both.records_are;
        octets_are = ap (λ (v : _). v.items) octets ∙ both.octets_are;
      });
    }

pub does_own : {X : Type 0} (routes : Routes) (speaker : Speaker) (changes : RouteChanges) (t : ℕ) (row : HiddenRow) (wants : List Want) (change : Option (Fsm × Fsm)) (turn : Turn)
    (old new : Draft X) → HiddenShown speaker.config old.head t row wants change turn
    → Performs routes speaker changes t 0 wants change turn old new → DoesOwn routes speaker changes t row old new
does_own routes speaker changes t row wants change turn old new hidden p = record {
  records = map (λ (m : List ℕ). Sent t m) p.messages ++ change_records t change;
  takes = record {
    wants = wants;
    turn = turn;
    messages = p.messages;
    is = hidden.0;
    acts = p.acts;
    shows = ap (λ (c : Option (Fsm × Fsm)). map (λ (m : List ℕ). Sent t m) p.messages ++ change_records t c) hidden.1;
  };
  shows = p.shows;
}

pub does_on : {X : Type 0} (routes : Routes) (speaker : Speaker) (t kind : ℕ) (octets : List ℕ) (step : Step) (given : RouteChanges)
    (old mid new : Draft X) → kind ≡ type_of (header_of octets) → (x : IsChosen speaker.config old.head t octets step given)
    → Shows old mid (Received t octets ∷ []) → mid.head ≡ old.head → mid.pending ≡ old.pending → mid.sent_at ≡ old.sent_at
    → Performs routes speaker no_changes t kind x.wants x.change x.turn mid new → DoesOn routes speaker t octets old new
does_on {X} routes speaker t kind octets step given old mid new kind_is x shows head pending sent p =
    let m : moment_of routes mid ≡ moment_of routes old = λ i. record { session = record { head = head i; routes = routes_pending (pending i) routes }; sent_at = sent i } in
    record {
      records = Received t octets ∷ (map (λ (v : List ℕ). Sent t v) p.messages ++ change_records t x.change);
      takes = (
        x.heard,
        x.row,
        x.hears,
        x.picks,
        record {
          wants = x.wants;
          turn = x.turn;
          messages = p.messages;
          is = x.shown.0;
          acts = subst (λ (v : Moment). Acts speaker no_changes t (type_of (header_of octets)) x.wants x.turn p.messages v (moment_of routes new)) m
              (subst (λ (k : ℕ). Acts speaker no_changes t k x.wants x.turn p.messages (moment_of routes mid) (moment_of routes new)) kind_is p.acts);
          shows = ap (λ (c : Option (Fsm × Fsm)). Received t octets ∷ (map (λ (v : List ℕ). Sent t v) p.messages ++ change_records t c)) x.shown.1;
        },
      );
      shows = shows_joined old mid new (Received t octets ∷ []) (map (λ (v : List ℕ). Sent t v) p.messages ++ change_records t x.change) shows p.shows;
    }

pub does_hear : {X : Type 0} (routes : Routes) (speaker : Speaker) (kept : List PrefixBits) (t : ℕ) (octets : List ℕ) (old mid new : Draft X)
    → DoesOn routes speaker t octets old mid → DoesGreet routes speaker kept t old.head mid new → DoesHear routes speaker kept t octets old new
does_hear routes speaker kept t octets old mid new x y = record {
  first = x.records;
  between = moment_of routes mid;
  greeting = y.records;
  takes = x.takes;
  greets = y.greets;
  shows = shows_joined old mid new x.records y.records x.shows y.shows;
}
