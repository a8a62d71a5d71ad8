-- From an image to what a tracker owes: over any set of members, with no code.
use Rattle.std.proofs.Common.{◌≡◌, ◌↔◌, inl, inr, List, [], ◌∷◌, ◌++◌, Bool, true, false, if◌then◌else◌, refl, sym, ap, subst, ◌∙◌, append_assoc, append-nil}
use Rattle.bgp_prefix.specs.Shown.{ShownRecord}
use Rattle.bgp_open.specs.declared.config.Config.{Config}
use Rattle.bgp_machine.specs.declared.fsm.Fsm.{Fsm}
use Rattle.bgp_machine.specs.declared.fsm.Fsm.TheVariants as fsms
use Rattle.bgp_machine.specs.declared.state.Head.{Head}
use Rattle.bgp_machine.specs.declared.state.Head.TheVariants.{Idle, Connect, Active, OpenSent, OpenConfirm, Established}
use Rattle.bgp_machine.specs.Lists.{Has, Each}
use Rattle.bgp_machine.specs.Owed.{CanBeMet, EachOwedCanBeMet}
use Rattle.bgp_machine.specs.Run.{Run, Silent, End, end_of, IsComplete, Begins}
use Rattle.bgp_machine.specs.Shows.{PaysAll}
use Rattle.bgp_machine.specs.State.{SessionState, fresh_state, fsm_of}
use Rattle.bgp_machine.proofs.Quiet.{quiet}
use Rattle.bgp_machine.specs.Rows.{silent_heads}
use Rattle.bgp_judge.specs.Image.{IsImage}
use Rattle.bgp_judge.specs.Member.{Member, IsFree, fresh_member}
use Rattle.bgp_judge.specs.Stands.{Goes, StandFor}
use Rattle.bgp_machine.proofs.JoinedRuns.{no_steps}
use Rattle.bgp_judge.proofs.Paying.{can_pay}
use Rattle.bgp_judge.proofs.OneRecordMore.{goes_to, goes_from, free_runs, runs_free, cover_goes, next_met}

-- the fresh member stands for no record
pub fresh_stands : (config : Config) (Is : Member → Type 0) → Is fresh_member → ((m : Member) → Is m → m ≡ fresh_member) → StandFor config Is []
fresh_stands config Is fresh only = record {
  goes_on = λ rest e. (
    λ x. subst (λ (v : Member). Run config v.state rest e) (only x.0 x.1)
        (free_runs config x.0 rest e (ap (λ (v : Member). v.wants) (only x.0 x.1), ap (λ (v : Member). v.change) (only x.0 x.1)) x.2),
    λ run. (fresh_member, fresh, runs_free config fresh_member rest e (refl, refl) run),
  );
  can_be_met = λ m is. subst (λ (v : Member). Each (CanBeMet config v.link) v.wants) (sym (only m is)) tt;
}

-- the image under a record stands for the records and that one
pub image_stands : EachOwedCanBeMet → (config : Config) (IsOld IsNew : Member → Type 0) (records : List ShownRecord) (r : ShownRecord)
    → IsImage config r IsOld IsNew → StandFor config IsOld records → StandFor config IsNew (records ++ r ∷ [])
image_stands law config IsOld IsNew records r image stand = record {
  goes_on = λ rest e. (
    λ x. let k = image.sound x.0 x.1 in
        subst (λ (v : List ShownRecord). Run config fresh_state v e) (sym (append_assoc records (r ∷ []) rest))
        ((stand.goes_on (r ∷ rest) e).0 (k.0, k.1, goes_to config r k.0 x.0 rest e k.2 x.2)),
    λ run.
        let x = (stand.goes_on (r ∷ rest) e).1 (subst (λ (v : List ShownRecord). Run config fresh_state v e) (append_assoc records (r ∷ []) rest) run) in
        let y = goes_from config r x.0 rest e x.2 in
        let z = image.whole x.0 y.0 x.1 y.1 in
        (z.0, z.1, cover_goes config z.0 y.0 rest e z.2 y.2),
  );
  can_be_met = λ m2 is. let k = image.sound m2 is in next_met law config r k.0 m2 k.2 (stand.can_be_met k.0 k.1);
}

-- a member can always go on
pub can_go : (config : Config) (m : Member) → Each (CanBeMet config m.link) m.wants → (rest : List ShownRecord) × Goes config m rest m.state
can_go config m each =
    let k = can_pay config m.link m.wants m.change each in
    (k.0 ++ [], record { paid = k.0; later = []; parts = refl; pays = k.1; run = no_steps config m.state })

-- where there is a member the records begin a run, and only there
pub begins_from : (config : Config) (Is : Member → Type 0) (records : List ShownRecord) (m : Member) → StandFor config Is records → Is m → Begins config records
begins_from config Is records m stand is =
    let k = can_go config m (stand.can_be_met m is) in (k.0, m.state, (stand.goes_on k.0 m.state).0 (m, is, k.1))

pub member_from : (config : Config) (Is : Member → Type 0) (records : List ShownRecord) → StandFor config Is records → Begins config records → (m : Member) × Is m
member_from config Is records stand begins = let x = (stand.goes_on begins.0 begins.1).1 begins.2 in (x.0, x.1)

-- steps that show nothing leave the end as it is
one_name : (x b : Head) (f : Fsm) → fsm_of x ≡ f → Has (λ h. h ≡ b) (x ∷ []) → fsm_of b ≡ f
one_name x b f p h = elim h [ inl e ↦ ap fsm_of (sym e) ∙ p | inr z ↦ absurd z ]

two_names : (x y b : Head) (f : Fsm) → fsm_of x ≡ f → fsm_of y ≡ f → Has (λ h. h ≡ b) (x ∷ y ∷ []) → fsm_of b ≡ f
two_names x y b f p q h = elim h [ inl e ↦ ap fsm_of (sym e) ∙ p | inr k ↦ one_name y b f q k ]

either_name : (may : Bool) (x y b : Head) (f : Fsm) → fsm_of x ≡ f → fsm_of y ≡ f → Has (λ h. h ≡ b) (if may then x ∷ y ∷ [] else x ∷ []) → fsm_of b ≡ f
either_name true x y b f p q h = two_names x y b f p q h
either_name false x y b f p q h = one_name x b f p h

name_by : (config : Config) (a b : Head) → Has (λ h. h ≡ b) (silent_heads config a) → fsm_of b ≡ fsm_of a
name_by config Idle b h = one_name Idle b fsms.Idle refl h
name_by config (Connect true) b h = two_names (Connect false) (Connect true) b fsms.Connect refl refl h
name_by config (Connect false) b h = either_name config.parts.delay_open (Connect false) (Connect true) b fsms.Connect refl refl h
name_by config (Active true) b h = one_name (Active true) b fsms.Active refl h
name_by config (Active false) b h = either_name config.parts.delay_open (Active false) (Active true) b fsms.Active refl refl h
name_by config (OpenSent timer) b h = one_name (OpenSent timer) b fsms.OpenSent refl h
name_by config (OpenConfirm link timer) b h = one_name (OpenConfirm link timer) b fsms.OpenConfirm refl h
name_by config (Established link timer) b h = one_name (Established link timer) b fsms.Established refl h

pub silent_end : (config : Config) (s e : SessionState) → Silent config s e → end_of e ≡ end_of s
silent_end config s e silent =
    let q = quiet config silent.steps s e silent.are_steps silent.shows in
    λ i. record { fsm = name_by config s.head e.head q.1 i; routes = q.0 i }

nothing_left : (config : Config) (m : Member) (e : SessionState) (paid later : List ShownRecord) → paid ++ later ≡ []
    → PaysAll config m.link m.wants m.change paid → Run config m.state later e → IsFree m × Silent config m.state e
nothing_left config m e [] later parts pays run = (pays, subst (λ (v : List ShownRecord). Run config m.state v e) parts run)
nothing_left config m e (r ∷ paid) later parts pays run = absurd (let k : ⊥ = cc in k)

-- the possible ends are those of the members that have nothing left to show
pub ends_so : (config : Config) (Is : Member → Type 0) (records : List ShownRecord) → StandFor config Is records → (end : End)
    → IsComplete config records end ↔ ((m : Member) × Is m × IsFree m × (end_of m.state ≡ end))
ends_so config Is records stand end = (
  λ k. let x = (stand.goes_on [] k.0).1 (subst (λ (v : List ShownRecord). Run config fresh_state v k.0) (sym (append-nil records)) k.1) in
      let g = x.2 in
      let z = nothing_left config x.0 k.0 g.paid g.later g.parts g.pays g.run in
      (x.0, x.1, z.0, sym (silent_end config x.0.state k.0 z.1) ∙ k.2),
  λ k. (
    k.0.state,
    subst (λ (v : List ShownRecord). Run config fresh_state v k.0.state) (append-nil records)
        ((stand.goes_on [] k.0.state).0 (k.0, k.1, runs_free config k.0 [] k.0.state k.2 (no_steps config k.0.state))),
    k.3,
  ),
)
