-- An UPDATE that is sent in Established leaves the members as they are.
use Rattle.std.proofs.Common.{◌≡◌, ◌⊎◌, inl, inr, ℕ, List, [], ◌∷◌, Option, None, Some, refl, sym, ap, subst, ◌∙◌}
use Rattle.bgp_prefix.specs.Shown.{ShownRecord, Sent}
use Rattle.bgp_open.specs.declared.config.Config.{Config}
use Rattle.bgp_open.specs.declared.families.Families.{Families}
use Rattle.bgp_open.specs.declared.link.Link.{Link}
use Rattle.bgp_machine.specs.declared.fsm.Fsm.{Fsm}
use Rattle.bgp_machine.specs.declared.fsm.Fsm.TheVariants as fsms
use Rattle.bgp_machine.specs.declared.rows.HiddenRow.TheVariants.{Announces}
use Rattle.bgp_machine.specs.declared.state.Head.{Head}
use Rattle.bgp_machine.specs.declared.state.Head.TheVariants.{Established}
use Rattle.bgp_machine.specs.declared.state.HoldTimer.{HoldTimer}
use Rattle.bgp_machine.specs.declared.step.Routes.TheVariants as routes
use Rattle.bgp_machine.specs.declared.step.Step.{Step}
use Rattle.bgp_machine.specs.declared.want.Want.{Want}
use Rattle.bgp_machine.specs.declared.want.Want.TheVariants.{CleanUpdate}
use Rattle.bgp_machine.specs.declared.want.Wants.TheVariants.{Nothing, One}
use Rattle.bgp_machine.specs.Listed.{IsStep, no_changes}
use Rattle.bgp_machine.specs.Rows.{HiddenShown, IsOnly}
use Rattle.bgp_machine.specs.State.{Turn, Given, Kept, enters, fsm_of, link_at, moved}
use Rattle.bgp_machine.specs.Step.{changed}
use Rattle.bgp_machine.specs.Want.{Meets, wants_of}
use Rattle.bgp_machine.specs.Going.{shown_after, told}
use Rattle.bgp_machine.proofs.Quiet.{quiet}
use Rattle.bgp_rib.specs.Routes.{Routes, routes_without}
use Rattle.bgp_judge.specs.Image.{IsImage}
use Rattle.bgp_judge.specs.Member.{IsFree, Member, link_for}
use Rattle.bgp_judge.specs.Next.{Next, Opens, Starts}
use Rattle.bgp_judge.specs.Openings.{Keeps, ListsOpenings}
use Rattle.bgp_judge.proofs.Announced.{announced_lists}
use Rattle.bgp_compact.specs.declared.base.Base.{Base}
use Rattle.bgp_compact.specs.declared.words.Words.{Words}
use Rattle.bgp_compact.specs.Members.{IsMember}
use Rattle.bgp_compact.specs.Members.IsMember.{Front, Fallen}
use Rattle.bgp_compact.specs.Parts.{IsBase, free_member}
use Rattle.bgp_compact.specs.Standing.{IsTableOf}
use Rattle.bgp_compact.specs.Steps.{AreMade, IsAnnounced}
use Rattle.bgp_compact.proofs.Listing.{not_two, self_or_late}

module _ (config : Config) (link : Link) (timer : HoldTimer) (t : ℕ) (octets : List ℕ) (met : Meets config (Some link) CleanUpdate octets) where
  -- the step that sends routes, and what the UPDATE leaves of it
  abbrev sends : Step
  sends = record { wants = One CleanUpdate; change = None; after = record { head = Established link timer; routes = routes.Kept } }

  abbrev stays : Step
  stays = record { wants = Nothing; change = None; after = record { head = Established link timer; routes = routes.Kept } }

  only_sends : IsOnly (HiddenShown config (Established link timer) t Announces) no_changes sends
  only_sends = record {
    is = (CleanUpdate ∷ [], None, enters (Established link timer), ((refl, refl), refl, tt), record { sends = refl; shows = refl; ends = refl });
    only = λ wants change turn h. record {
      sends = sym h.0.0;
      shows = sym (h.1 ∙ ap (λ (v : Turn). changed fsms.Established (fsm_of v.head)) h.0.1);
      ends = sym h.0.1;
    };
  }

  keeps : Keeps config (Established link timer) (Sent t octets) sends [] (stays ∷ [])
  keeps = inr (
    stays,
    record { leaves = record { pays = (met, refl, refl); only = λ left still p. (sym p.1, sym p.2) }; ends = refl },
    refl,
  )

  lists : ListsOpenings config (Established link timer) (Sent t octets) no_changes (stays ∷ [])
  lists = announced_lists config (Established link timer) t (Sent t octets) sends [] (stays ∷ [])
      (met.fulfils.2.message.header, met.fulfils.2.message.type_field) refl refl only_sends keeps

  -- a member with nothing left to show stays, and becomes no other
  abbrev free : Routes → Member
  free table = record { state = record { head = Established link timer; routes = table }; link = None; wants = []; change = None }

  itself : (table : Routes) → Starts config (Sent t octets) (free table) (free table)
  itself table = record {
    free = (refl, refl);
    before = record { head = Established link timer; routes = table };
    silent = record { steps = []; are_steps = refl; shows = refl };
    turn = enters (Established link timer);
    opens = lists.each.0;
    state = refl;
    link = refl;
  }

  same_head : (h : Head) → (h ≡ Established link timer) ⊎ (Established link timer ∷ [] ≡ Established link timer ∷ h ∷ []) → h ≡ Established link timer
  same_head h (inl e) = e
  same_head h (inr e) = absurd (not_two (Established link timer) h e)

  first_of : (left : List Want) (still : Option (Fsm × Fsm)) (turn : Turn) → Opens config (Established link timer) (Sent t octets) left still turn
      → IsStep no_changes stays left still turn
  first_of left still turn o = elim (lists.every left still turn o) [ inl is ↦ is | inr none ↦ absurd none ]

  no_other : (table : Routes) (m : Member) → Starts config (Sent t octets) (free table) m → m ≡ free table
  no_other table m s =
      let q = quiet config s.silent.steps (record { head = Established link timer; routes = table }) s.before s.silent.are_steps s.silent.shows in
      let e : s.before.head ≡ Established link timer = same_head s.before.head (self_or_late config (Established link timer) s.before.head refl q.1) in
      let is : IsStep no_changes stays m.wants m.change s.turn =
      first_of m.wants m.change s.turn (subst (λ (v : Head). Opens config v (Sent t octets) m.wants m.change s.turn) e s.opens) in
      let st : m.state ≡ record { head = Established link timer; routes = table } =
      s.state ∙ ap (λ (v : Turn). moved s.before v) (sym is.ends) ∙ ap (λ (v : Routes). record { head = Established link timer; routes = v }) q.0 in
      let l : m.link ≡ None = s.link ∙ ap (λ (v : List Want). link_for v (link_at s.before.head)) (sym is.sends) in
      λ i. record { state = st i; link = l i; wants = sym is.sends i; change = sym is.shows i }

  next_itself : (table : Routes) (m : Member) → Next config (Sent t octets) (free table) m → m ≡ free table
  next_itself table m (inl c) = absurd c.pays
  next_itself table m (inr s) = no_other table m s

  none_made : (left : List Want) (still : Option (Fsm × Fsm)) (turn : Turn) → Opens config (Established link timer) (Sent t octets) left still turn
      → Kept ≡ turn.routes
  none_made left still turn o = ap (λ (v : Turn). v.routes) (first_of left still turn o).ends

-- ---- of words

module _ (config : Config) (n : Words) (base : Base) (r : ShownRecord) (is : IsBase n base) (a : IsAnnounced config n base r) where
  not_idle : n.shown ≡ fsms.Idle → ⊥
  not_idle idle = let k : fsms.Established ≡ fsms.Idle = sym (ap fsm_of a.head_is) ∙ is.name ∙ idle in cc

  alone : (wants_of n.wants ≡ []) × (changed n.shown (fsm_of n.head) ≡ None)
  alone = elim is.alone [ inl idle ↦ absurd (not_idle idle) | inr free ↦ free ]

  are_free : (table : Routes) (m : Member) → IsMember n table m → IsFree m
  are_free table m h = elim h [
    | Front d on e ↦ (ap (λ (v : Member). v.wants) e ∙ alone.0, ap (λ (v : Member). v.change) e ∙ alone.1)
    | Fallen fall has e ↦ absurd (a.none_falls fall has)
  ]

  is_free_one : (table : Routes) (m : Member) → IsTableOf n table → IsMember n table m
      → (d : Families) × (m ≡ free config a.link a.timer a.second a.octets a.meets (routes_without d table))
  is_free_one table m of h =
      let k = is.from table of m h (are_free table m h) in
      (k.0, k.2 ∙ ap (λ (v : Head). free_member v table k.0) a.head_is)

  pub announced_image : (table : Routes) → IsTableOf n table → IsImage config r (IsMember n table) (IsMember n table)
  announced_image table of = subst (λ (v : ShownRecord). IsImage config v (IsMember n table) (IsMember n table)) (sym a.sent) (record {
    sound = λ m h.
        let k = is_free_one table m of h in (
          m,
          h,
          subst (λ (v : Member). Next config (Sent a.second a.octets) v v) (sym k.1)
              (inr (itself config a.link a.timer a.second a.octets a.meets (routes_without k.0 table))),
        );
    whole = λ m m2 h next.
        let k = is_free_one table m of h in
        let e : m2 ≡ m =
        next_itself config a.link a.timer a.second a.octets a.meets (routes_without k.0 table) m2
        (subst (λ (v : Member). Next config (Sent a.second a.octets) v m2) k.1 next) ∙ sym k.1 in
        (m2, subst (IsMember n table) (sym e) h, inl refl);
  })

  pub announced_shown : n.shown ≡ shown_after n.shown (told r)
  announced_shown = sym (ap (λ (v : ShownRecord). shown_after n.shown (told v)) a.sent)

  pub announced_made : {X : Type 0} → AreMade {X = X} config n r None
  announced_made = inr (
    base,
    is,
    record {
      some = λ s. let no : ⊥ = cc in absurd no;
      all = λ left still turn others families o given.
          let opens = subst (λ (v : ShownRecord). Opens config (Established a.link a.timer) v left still turn) a.sent
          (subst (λ (v : Head). Opens config v r left still turn) a.head_is o) in
          let k : Kept ≡ Given others families = none_made config a.link a.timer a.second a.octets a.meets left still turn opens ∙ given in
          let no : ⊥ = cc in absurd no;
    },
  )
