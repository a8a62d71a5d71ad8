-- Announcing what is kept: one prefix more, and the end.
use Rattle.std.proofs.Common.{◌≡◌, ℕ, List, [], ◌∷◌, ◌++◌, IsTrue, None, Some, inl, inr, refl, sym, ap, subst, ◌∙◌, append_assoc, append-nil}
use Rattle.bgp_prefix.specs.Prefix.{PrefixBits}
use Rattle.bgp_prefix.specs.Shown.{ShownRecord}
use Rattle.bgp_open.specs.declared.config.Config.{Config}
use Rattle.bgp_open.specs.declared.link.Link.{Link}
use Rattle.bgp_open.specs.Families.{contains}
use Rattle.bgp_machine.specs.declared.rows.HiddenRow.TheVariants.{Announces}
use Rattle.bgp_machine.specs.declared.state.Head.{Head}
use Rattle.bgp_machine.specs.declared.state.Head.TheVariants.{Idle, Connect, Active, OpenSent, OpenConfirm, Established}
use Rattle.bgp_machine.specs.declared.state.HoldTimer.{HoldTimer}
use Rattle.bgp_machine.specs.declared.want.Want.{Want}
use Rattle.bgp_machine.specs.declared.want.Want.TheVariants.{CleanUpdate}
use Rattle.bgp_machine.specs.Rows.{HiddenShown, NoStep}
use Rattle.bgp_machine.specs.State.{Turn, enters, link_at, routes_by}
use Rattle.bgp_machine.specs.Step.{HiddenIn}
use Rattle.bgp_rib.specs.Routes.{Routes}
use Rattle.bgp_update.specs.Changes.{RouteChanges}
use Rattle.bgp_speaker.specs.declared.draft.Draft.{Draft}
use Rattle.bgp_speaker.specs.declared.saying.News.{News}
use Rattle.bgp_speaker.specs.declared.saying.News.TheVariants.{Announced}
use Rattle.bgp_speaker.specs.declared.speaker.Speaker.{Speaker}
use Rattle.bgp_speaker.specs.Choice.{AnnouncesEach, GreetsAt, used}
use Rattle.bgp_speaker.specs.Core.{Moment}
use Rattle.bgp_speaker.specs.Choosing.{SendsAt}
use Rattle.bgp_speaker.specs.Drafts.{DoesGreet, DoesOwn, DoesTell, Shows, moment_of, news_changes, prefix_told, shown_in}
use Rattle.bgp_speaker.specs.Pending.{routes_pending}
use Rattle.bgp_speaker.specs.Said.{announced}
use Rattle.bgp_speaker.proofs.Drafting.{shows_joined}

-- whatever is announced from here on is announced from there on
pub record GoesOnAnnouncing {X : Type 0} (routes : Routes) (speaker : Speaker) (t : ℕ) (link : Link)
    (kept later : List PrefixBits) (old new : Draft X) : Type 0 where
  pub records : List ShownRecord
  pub shows : Shows old new records
  pub announces : (others : List ShownRecord) (e : Moment)
      → AnnouncesEach speaker t link (moment_of routes new) (used link later) others e
      → AnnouncesEach speaker t link (moment_of routes old) (used link kept) (records ++ others) e

pub shows_nothing : {X : Type 0} (d : Draft X) → Shows d d []
shows_nothing d = record { records_are = sym (append-nil (shown_in d)); octets_are = sym (append-nil d.octets.items) }

pub announces_on : {X : Type 0} (routes : Routes) (speaker : Speaker) (t : ℕ) (link : Link) (kept : List PrefixBits) (d : Draft X)
    → GoesOnAnnouncing routes speaker t link kept kept d d
announces_on routes speaker t link kept d = record { records = []; shows = shows_nothing d; announces = λ others e h. h }

-- a prefix is announced, if its family is in use, and then the others
told_first : (speaker : Speaker) (t : ℕ) (link : Link) (timer : HoldTimer) (m between e : Moment) (prefix : PrefixBits) (later : List PrefixBits) (first others : List ShownRecord)
    → SendsAt speaker (Established link timer) (λ own. announced speaker own prefix) prefix t m first between
    → AnnouncesEach speaker t link between (used link later) others e
    → AnnouncesEach speaker t link m (used link (prefix ∷ later)) (first ++ others) e
told_first speaker t link timer m between e prefix later first others sends each = elim sends [
  | inl (is, takes) ↦ rw is (first, between, others, takes, each, refl)
  | inr (not, none, stays) ↦
      rw not (subst (λ (r : List ShownRecord). AnnouncesEach speaker t link m (used link later) (r ++ others) e) (sym none)
      (subst (λ (v : Moment). AnnouncesEach speaker t link v (used link later) others e) stays each))
]

pub one_more_told : {X : Type 0} (routes : Routes) (speaker : Speaker) (t : ℕ) (link : Link) (timer : HoldTimer) (kept later : List PrefixBits) (prefix : PrefixBits) (old mid new : Draft X)
    → mid.head ≡ Established link timer
    → GoesOnAnnouncing routes speaker t link kept (prefix ∷ later) old mid
    → DoesTell routes speaker t (Announced prefix) mid new
    → GoesOnAnnouncing routes speaker t link kept later old new
one_more_told routes speaker t link timer kept later prefix old mid new at g x = record {
  records = g.records ++ x.records;
  shows = shows_joined old mid new g.records x.records g.shows x.shows;
  announces = λ others e h.
      subst (λ (r : List ShownRecord). AnnouncesEach speaker t link (moment_of routes old) (used link kept) r e) (sym (append_assoc g.records x.records others))
      (g.announces (x.records ++ others) e (told_first speaker t link timer (moment_of routes mid) (moment_of routes new) e prefix later x.records others
      (subst (λ (h : Head). SendsAt speaker h (λ own. announced speaker own prefix) prefix t (moment_of routes mid) x.records (moment_of routes new)) at x.sends) h));
}

-- ---- the row of an announcement: it may be taken in Established, and leaves all but what is sent

pub may_announce : (config : Config) (head : Head) (t : ℕ) (link : Link) (timer : HoldTimer) → head ≡ Established link timer
    → NoStep (HiddenShown config head t Announces) → ⊥
may_announce config head t link timer is none =
    let here = subst (λ (h : Head). NoStep (HiddenShown config h t Announces)) is none in
    here (CleanUpdate ∷ []) None (enters (Established link timer)) ((refl, refl), refl, tt)

turn_of_announces : (config : Config) (head : Head) (t : ℕ) (wants : List Want) (turn : Turn) → HiddenIn head config t Announces wants turn → turn ≡ enters head
turn_of_announces config Idle t wants turn x = absurd x
turn_of_announces config (Connect d) t wants turn x = absurd x
turn_of_announces config (Active d) t wants turn x = absurd x
turn_of_announces config (OpenSent timer) t wants turn x = absurd x
turn_of_announces config (OpenConfirm own timer) t wants turn x = absurd x
turn_of_announces config (Established own timer) t wants turn x = x.1

pub announces_and_stays : {X : Type 0} (routes : Routes) (speaker : Speaker) (changes : RouteChanges) (t : ℕ) (old new : Draft X)
    → DoesOwn routes speaker changes t Announces old new
    → (new.head ≡ old.head) × (routes_pending new.pending routes ≡ routes_pending old.pending routes)
announces_and_stays routes speaker changes t old new x =
    let turn = turn_of_announces speaker.config old.head t x.takes.wants x.takes.turn x.takes.is in (
      ap (λ (m : Moment). m.session.head) x.takes.acts.leaves ∙ ap (λ (u : Turn). u.head) turn,
      ap (λ (m : Moment). m.session.routes) x.takes.acts.leaves ∙ ap (λ (u : Turn). routes_by u.routes (routes_pending old.pending routes)) turn,
    )

-- ---- what is told in Established, where the family is in use

pub tells : {X : Type 0} (routes : Routes) (speaker : Speaker) (t : ℕ) (told : News) (link : Link) (timer : HoldTimer) (old new : Draft X)
    → old.head ≡ Established link timer → IsTrue (contains link.families (prefix_told told).family)
    → DoesOwn routes speaker (news_changes speaker (link_at old.head) (Some told)) t Announces old new
    → DoesTell routes speaker t told old new
tells routes speaker t told link timer old new at is x =
    let stays = announces_and_stays routes speaker (news_changes speaker (link_at old.head) (Some told)) t old new x in
    let own : DoesOwn routes speaker (news_changes speaker (Some link) (Some told)) t Announces old new =
    subst (λ (h : Head). DoesOwn routes speaker (news_changes speaker (link_at h) (Some told)) t Announces old new) at x in
    record {
      records = own.records;
      sends = subst (λ (h : Head). SendsAt speaker h (λ own. news_changes speaker (Some own) (Some told)) (prefix_told told) t (moment_of routes old) own.records (moment_of routes new)) (sym at)
          (inl (is, own.takes));
      shows = own.shows;
      head = stays.0;
      stay = stays.1;
    }

pub tells_nothing : {X : Type 0} (routes : Routes) (speaker : Speaker) (t : ℕ) (told : News) (d : Draft X)
    → SendsAt speaker d.head (λ own. news_changes speaker (Some own) (Some told)) (prefix_told told) t (moment_of routes d) [] (moment_of routes d)
    → DoesTell routes speaker t told d d
tells_nothing routes speaker t told d x = record { records = []; sends = x; shows = shows_nothing d; head = refl; stay = refl }

-- ---- the ends

pub greets_nobody : {X : Type 0} (routes : Routes) (speaker : Speaker) (kept : List PrefixBits) (t : ℕ) (before : Head) (d : Draft X)
    → GreetsAt speaker kept t before d.head (moment_of routes d) [] (moment_of routes d) → DoesGreet routes speaker kept t before d d
greets_nobody routes speaker kept t before d x = record { records = []; greets = x; shows = shows_nothing d }

pub all_announced : {X : Type 0} (routes : Routes) (speaker : Speaker) (kept : List PrefixBits) (t : ℕ) (before : Head) (own link : Link) (first timer : HoldTimer) (old new : Draft X)
    → before ≡ OpenConfirm own first → old.head ≡ Established link timer
    → GoesOnAnnouncing routes speaker t link kept [] old new → DoesGreet routes speaker kept t before old new
all_announced routes speaker kept t before own link first timer old new was is g = record {
  records = g.records;
  greets =
      subst (λ (b : Head). GreetsAt speaker kept t b old.head (moment_of routes old) g.records (moment_of routes new)) (sym was)
      (subst (λ (h : Head). GreetsAt speaker kept t (OpenConfirm own first) h (moment_of routes old) g.records (moment_of routes new)) (sym is)
      (subst (λ (r : List ShownRecord). AnnouncesEach speaker t link (moment_of routes old) (used link kept) r (moment_of routes new)) (append-nil g.records)
      (g.announces [] (moment_of routes new) (refl, refl))));
  shows = g.shows;
}
