-- Members of objects of verdicts have nothing hidden.
use Rattle.std.proofs.Common.{◌≡◌, ◌++◌, ◌∷◌, ℕ, Bool, true, false, List, [], Option, None, Some, IsUtf8, codes, if◌then◌else◌, length, nat_lt, refl, subst, sym, inl, inr}
use Rattle.std.specs.List.{list_any}
use Rattle.std.specs.Str.{chars}
use Rattle.std.proofs.lemmas.Str.{chars-append, utf8_lossy-IsUtf8}
use Rattle.json.specs.Json.{Json, string}
use Rattle.mrt.specs.declared.record.Endpoints.{Endpoints}
use Rattle.bgp_machine.specs.State.{number_of as state_number}
use Rattle.bgp_machine.specs.declared.fsm.Fsm.{Fsm}
use Rattle.bgp_open.specs.declared.families.Families.{Families}
use Rattle.bgp_why.specs.NotWhole.{unfit_text}
use Rattle.bgp_why.specs.declared.place.Place.{Place}
use Rattle.bgp_why.specs.declared.whole.NotWhole.{NotWhole}
use Rattle.bgp_why.specs.declared.whole.NotWhole.TheVariants.{Faulty, BelowHeader, OtherCount}
use Rattle.bgp_json_values.specs.Objects.{array_of}
use Rattle.bgp_json_values.specs.Times.{time_members}
use Rattle.bgp_json_verdicts.specs.At.{at_members, dated_members, number_members, place_members, since_members}
use Rattle.bgp_json_verdicts.specs.Objects.{family_texts, first_members, state_member, text_behind, text_json}
use Rattle.bgp_json_verdicts.specs.declared.at.At.{At}
use Rattle.bgp_verdict_laws.specs.Laws.{IsMarkedIfAny}
use Rattle.bgp_visible_laws.specs.Visible.{IsVisible, is_control}
use Rattle.bgp_visible_laws.proofs.JsonTexts.{AreTexts, HaveTexts, as_key, as_readable, field, of_both, of_number, of_text}
use Rattle.bgp_visible_laws.proofs.JsonValues.{if_texts, of_address, of_time}
use Rattle.bgp_visible_laws.proofs.Texts.{state_visible}
use Rattle.bgp_visible_laws.proofs.Visible.{IsReadable, is_word, neither, word}

-- ---- texts

-- what is UTF-8 stays as it is
pub of_given : (text : List ℕ) → IsVisible text → AreTexts (text_json text)
of_given text visible = subst IsReadable (sym (utf8_lossy-IsUtf8 text visible.utf8)) (as_readable visible)

any_back : (xs ys : List ℕ) → list_any is_control (xs ++ ys) ≡ false → list_any is_control ys ≡ false
any_back [] ys none = none
any_back (x ∷ xs) ys none = any_back xs ys (neither (is_control x) (list_any is_control (xs ++ ys)) none).1

-- what stands behind two octets of ASCII
back_visible : (a b : ℕ) (said : List ℕ) → is_word (a ∷ b ∷ []) ≡ true → IsVisible (a ∷ b ∷ said) → IsUtf8 said → IsVisible said
back_visible a b said is visible utf8 =
    let parted : chars (a ∷ b ∷ said) ≡ chars (a ∷ b ∷ []) ++ chars said = chars-append (a ∷ b ∷ []) said (word (a ∷ b ∷ []) is).utf8 in
    record {
      utf8 = utf8;
      shown = any_back (chars (a ∷ b ∷ [])) (chars said) (subst (λ (cs : List ℕ). list_any is_control cs ≡ false) parted visible.shown);
    }

behind_mark : (a b : ℕ) (name said : List ℕ) → is_word name ≡ true → IsVisible said → HaveTexts (text_behind 2 name (a ∷ b ∷ said))
behind_mark a b name said is visible = if_texts (nat_lt 2 (length (a ∷ b ∷ said))) ((name, text_json said) ∷ []) [] (as_key name is, of_given said visible, tt) tt

pub of_behind : (a b : ℕ) (name text : List ℕ) → is_word (a ∷ b ∷ []) ≡ true → is_word name ≡ true → IsMarkedIfAny (a ∷ b ∷ []) text → IsVisible text
    → HaveTexts (text_behind 2 name text)
of_behind a b name text mark is (inl none) visible = subst (λ (t : List ℕ). HaveTexts (text_behind 2 name t)) (sym none) tt
of_behind a b name text mark is (inr m) visible =
    subst (λ (t : List ℕ). HaveTexts (text_behind 2 name t)) (sym m.is_its)
    (behind_mark a b name m.said is (back_visible a b m.said mark (subst IsVisible m.is_its visible) m.utf8))

pub unfit_word : (why : NotWhole) → is_word (unfit_text why) ≡ true
unfit_word (Faulty errors) = refl
unfit_word BelowHeader = refl
unfit_word OtherCount = refl

-- ---- numbers and places

pub of_some : (name : List ℕ) → is_word name ≡ true → (number : Option ℕ) → HaveTexts (number_members name number)
of_some name is None = tt
of_some name is (Some number) = field name is (of_number number) tt

pub of_place : (place : Place) → HaveTexts (place_members place)
of_place place =
    field (codes "record") refl (of_number place.number)
    (of_both (number_members (codes "packet") place.packet) (time_members place.second place.micro) (of_some (codes "packet") refl place.packet)
    (of_time place.second place.micro))

of_dated : (is_dated : Bool) → HaveTexts (dated_members is_dated)
of_dated true = field (codes "dated") refl tt tt
of_dated false = tt

pub of_at : (at : At) → HaveTexts (at_members at)
of_at at = of_both (place_members at.place) (dated_members at.is_dated) (of_place at.place) (of_dated at.is_dated)

pub of_since : (since : Option At) → HaveTexts (since_members since)
of_since None = tt
of_since (Some at) = of_at at

pub of_first : (first : Option Endpoints) → HaveTexts (first_members first)
of_first None = tt
of_first (Some ends) = field (codes "first") refl (field (codes "peer") refl (of_address ends.peer) (field (codes "local") refl (of_address ends.local) tt)) tt

-- ---- states and families

-- a state, and other members
pub with_state : (state : Fsm) (ms : List (List ℕ × Json)) → HaveTexts ms → HaveTexts (state_member state ∷ ms)
with_state state ms each = field (codes "state") refl (of_text (state_visible (state_number state))) each

of_words : (v4 v6 : Bool) → AreTexts (array_of string ((if v4 then codes "v4" ∷ [] else []) ++ (if v6 then codes "v6" ∷ [] else [])))
of_words false false = tt
of_words true false = (of_text (word (codes "v4") refl), tt)
of_words false true = (of_text (word (codes "v6") refl), tt)
of_words true true = (of_text (word (codes "v4") refl), (of_text (word (codes "v6") refl), tt))

pub of_families : (families : Families) → AreTexts (array_of string (family_texts families))
of_families families = of_words families.v4 families.v6
