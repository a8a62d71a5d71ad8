-- What lists of whole members stand for.
use Rattle.std.proofs.Common.{◌≡◌, ◌↔◌, inl, inr, List, [], ◌∷◌, ◌++◌, refl, sym, subst, ◌∙◌}
use Rattle.bgp_prefix.specs.Shown.{ShownRecord}
use Rattle.bgp_open.specs.declared.config.Config.{Config}
use Rattle.bgp_machine.specs.Owed.{EachOwedCanBeMet}
use Rattle.bgp_machine.specs.Run.{Begins}
use Rattle.bgp_judge.specs.declared.member.PlainMember.{PlainMember}
use Rattle.bgp_judge.specs.Image.{IsImage}
use Rattle.bgp_judge.specs.Member.{Member, fresh_member}
use Rattle.bgp_judge.specs.Next.{Next}
use Rattle.bgp_judge.specs.Plain.{member_value, Among, AreApart}
use Rattle.bgp_judge.specs.Stands.{StandFor}
use Rattle.bgp_judge.proofs.NextMembers.{is_image}
use Rattle.bgp_judge.proofs.Standing.{fresh_stands, image_stands, begins_from, member_from}

pub fresh_list : {A : Type 0} (config : Config) (items : List (PlainMember A)) (x : PlainMember A) → items ≡ x ∷ [] → member_value x ≡ fresh_member
    → StandFor config (Among items) []
fresh_list config items x e fresh =
    subst (λ (v : List (PlainMember _)). StandFor config (Among v) []) (sym e)
    (fresh_stands config (Among (x ∷ [])) (inl fresh) (λ m among. elim among [ inl k ↦ sym k ∙ fresh | inr z ↦ absurd z ]))

-- one member is apart
pub one_apart : {A : Type 0} (items : List (PlainMember A)) (x : PlainMember A) → items ≡ x ∷ [] → AreApart items
one_apart items x e = subst (λ (v : List (PlainMember _)). AreApart v) (sym e) (λ h. h, tt)

-- what the record makes of all members stands for one record more
pub next_stands : {A : Type 0} → EachOwedCanBeMet → (own config : Config) (records : List ShownRecord) (r : ShownRecord) (old listed new : List (PlainMember A)) → own ≡ config
    → listed ≡ old
    → ((m2 : Member) → Among new m2 ↔ ((m : Member) × Among listed m × Next own r m m2)) → StandFor config (Among old) records
    → StandFor config (Among new) (records ++ r ∷ [])
next_stands law own config records r old listed new e l next stand =
    image_stands law config (Among old) (Among new) records r
    (subst (λ (c : Config). IsImage c r (Among old) (Among new)) e
    (subst (λ (v : List (PlainMember _)). IsImage own r (Among v) (Among new)) l (is_image own r listed new next))) stand

first_among : {A : Type 0} (xs : List (PlainMember A)) → (xs ≡ [] → ⊥) → (m : Member) × Among xs m
first_among [] some = absurd (some refl)
first_among (x ∷ xs) some = (member_value x, inl refl)

none_among : {A : Type 0} (xs : List (PlainMember A)) (m : Member) → xs ≡ [] → Among xs m → ⊥
none_among xs m e h = subst (λ (v : List (PlainMember _)). Among v m) e h

-- there is a member exactly where the records begin a run
pub begin_where : {A : Type 0} (config : Config) (records : List ShownRecord) (members : List (PlainMember A)) → StandFor config (Among members) records
    → ((members ≡ [] → ⊥) → Begins config records) × (Begins config records → members ≡ [] → ⊥)
begin_where config records members stand = (
  λ some. let k = first_among members some in begins_from config (Among members) records k.0 stand k.1,
  λ begins e. let k = member_from config (Among members) records stand begins in none_among members k.0 e k.1,
)
