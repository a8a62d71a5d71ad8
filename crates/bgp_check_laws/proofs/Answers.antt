-- Verdicts are read from their objects, but for a yes.
use Rattle.std.proofs.Common.{◌≡◌, ◌∙◌, ◌++◌, ◌<◌, ◌^◌, ℕ, Bool, true, false, List, [], ◌∷◌, Option, None, Some, IsUtf8, append-nil, codes, refl, sym, ap, ap₂}
use Rattle.std.proofs.lemmas.Str.{utf8_lossy-IsUtf8}
use Rattle.json.specs.Json.{Json, string}
use Rattle.bgp_check.specs.declared.not_judged.NotJudged.{NotJudged}
use Rattle.bgp_why.specs.Endpoint.{endpoint_text}
use Rattle.bgp_why.specs.declared.endpoint.Endpoint.{Endpoint}
use Rattle.bgp_why.specs.declared.place.Place.{Place}
use Rattle.bgp_json.specs.Object.{typed}
use Rattle.bgp_json_values.specs.Objects.{number_of}
use Rattle.bgp_json_values.specs.Texts.{address_json}
use Rattle.bgp_json_check.specs.Members.{deed_members, end_members, flag_members, known_members}
use Rattle.bgp_json_check.specs.declared.member.JudgedEnd.{JudgedEnd}
use Rattle.bgp_check_text.specs.End.{as_text, end_text, part_by, part_end_text}
use Rattle.bgp_check_text.specs.Text.{deed_if, no_line, not_judged_line, place_when, unfinished_line, why_text}
use Rattle.bgp_check_text.specs.declared.end.EndName.{EndName}
use Rattle.bgp_check_lines.specs.Values.{answer_json, judged_end, unjudged_json, unnamed_end, unnamed_line, unnamed_text}
use Rattle.bgp_verdict_laws.proofs.Reading.{behind}
use Rattle.bgp_verdict_laws.proofs.Shapes.{IsMade, having, joined, nothing}
use Rattle.bgp_verdict_laws.proofs.Times.{micro_json, number_json, when_back, when_in}
use Rattle.bgp_list_laws.proofs.Ended.{lacking}
use Rattle.bgp_list_laws.proofs.Endpoints.{as_in, endpoint_back, endpoint_in}
use Rattle.bgp_check_laws.proofs.Members.{deed_json, deed_made, end_made, end_values, flag_json, flag_made, known_made, pair_back, part_json, place_back, place_in, record_json}
use Rattle.bgp_check_laws.proofs.Reading.{Kind, Verdict, group, keys_behind, kind_named, name, own_text, part_in, plain_by, text_by, unnamed_by, values_back, values_of, verdict_in}

-- ---- an object by the values of its keys

pub keyed : (kind : Kind) (values : List (Option Json)) (ms : List (List ℕ × Json)) (rest : List Json) → kind_named (name kind) ≡ kind
    → ((j : Json) (js : List Json) → text_by kind j js ≡ plain_by kind (values_of kind j)) → IsMade (keys_behind kind) values ms
    → own_text (typed (name kind) ms) rest ≡ plain_by kind (Some (string (name kind)) ∷ values)
unfolding own_text
keyed kind values ms rest is by made_of =
    let j = typed (name kind) ms in
    ap (λ (k : Kind). text_by k j rest) is ∙ by j rest ∙ ap (plain_by kind) (values_back kind values ms made_of)

pub answered : (values : List (Option Json)) (ms : List (List ℕ × Json)) (rest : List Json) → IsMade (keys_behind Verdict) values ms
    → own_text (typed (codes "verdict") ms) rest ≡ verdict_in (Some (string (codes "verdict")) ∷ values) (group rest)
unfolding own_text
answered values ms rest made_of = ap (λ (os : List (Option Json)). verdict_in os (group rest)) (values_back Verdict values ms made_of)

-- keys without a value, behind others
abbrev pub nones : List (List ℕ) → List (Option Json)
nones [] = []
nones (key ∷ keys) = None ∷ nones keys

none_made : (keys : List (List ℕ)) → IsMade keys (nones keys) []
none_made [] = nothing
none_made (key ∷ keys) = lacking key (none_made keys)

pub padded : {keys : List (List ℕ)} {values : List (Option Json)} {ms : List (List ℕ × Json)} (more : List (List ℕ)) → IsMade keys values ms
    → IsMade (keys ++ more) (values ++ nones more) ms
padded {ms = ms} more made_of =
    let both = joined made_of (none_made more) in
    record { is = sym (append-nil ms) ∙ both.is; long = both.long }

-- ---- an end, and where it stands

as_back : (number : Option ℕ) → as_in (number_json number) ≡ as_text number
as_back None = refl
as_back (Some number) = refl

part_back : (part : Option (ℕ × ℕ)) → part_in (part_json part) ≡ part_by part
part_back None = refl
part_back (Some part) = ap (λ (t : List ℕ). codes ", " ++ t) (pair_back part)

pub end_back : (name : EndName)
    → endpoint_in (Some (address_json name.end.address)) (number_json name.end.port) ++ (codes " (" ++ (as_in (number_json name.as_number) ++ (part_in (part_json name.part) ++ codes ")")))
    ≡ end_text name
unfolding end_text
end_back name =
    ap₂ (λ (e n : List ℕ). e ++ (codes " (" ++ (n ++ (part_in (part_json name.part) ++ codes ")")))) (endpoint_back name.end) (as_back name.as_number)
    ∙ ap (λ (p : List ℕ). endpoint_text name.end ++ (codes " (" ++ (as_text name.as_number ++ (p ++ codes ")")))) (part_back name.part)

unnamed_back : (end : Endpoint) (part : Option (ℕ × ℕ)) → unnamed_by (part_json part) (endpoint_in (Some (address_json end.address)) (number_json end.port)) ≡ unnamed_text end part
unfolding part_end_text
unnamed_back end None = endpoint_back end
unnamed_back end (Some part) =
    ap₂ (λ (e p : List ℕ). e ++ (codes " (" ++ (p ++ codes ")"))) (endpoint_back end) (pair_back part)

place_when_back : (place : Place) → place.second < 2 ^ 64
    → place_in (record_json place.number) (number_json place.packet) ++ (codes ", " ++ (when_in (Some (number_of place.second)) (micro_json place.micro) ++ codes " UTC: "))
    ≡ place_when place
unfolding place_when
place_when_back place small =
    ap₂ (λ (p w : List ℕ). p ++ (codes ", " ++ (w ++ codes " UTC: "))) (place_back place.number place.packet) (when_back place.second place.micro small)

-- ---- a no

deed_back : (deed : List ℕ) → IsUtf8 deed → behind (codes " ") (deed_json deed) ≡ deed_if deed
deed_back [] is = refl
deed_back (x ∷ deed) is = ap (λ (t : List ℕ). codes " " ++ t) (utf8_lossy-IsUtf8 (x ∷ deed) is)

module _ (judged : ℕ) (rest : List Json) where
  pub no_reads : (place : Place) (name : EndName) (deed : List ℕ) → place.second < 2 ^ 64 → IsUtf8 deed
      → own_text (answer_json judged (codes "no") (known_members place ++ (end_members (judged_end name) ++ deed_members deed))) rest ≡ no_line place name deed
  unfolding no_line
  no_reads place name deed small utf8 =
      answered _ _ rest (having (codes "judged") (number_of judged) (having (codes "answer") (string (codes "no")) (joined (known_made place) (joined (end_made (judged_end name))
      (lacking (codes "peer_as") (lacking (codes "peer_as_not") (lacking (codes "reached") (lacking (codes "before") (lacking (codes "with_routes") (lacking (codes "as_left_out")
      (padded (codes "why" ∷ []) (deed_made deed))))))))))))
      ∙ ap₂ (λ (p e : List ℕ). codes "no at " ++ (p ++ (e ++ (behind (codes " ") (deed_json deed) ++ codes "\n")))) (place_when_back place small) (end_back name)
      ∙ ap (λ (d : List ℕ). codes "no at " ++ (place_when place ++ (end_text name ++ (d ++ codes "\n")))) (deed_back deed utf8)

  -- ---- what is unfinished

  pub unfinished_reads : (place : Place) (name : EndName) → place.second < 2 ^ 64
      → own_text (answer_json judged (codes "unfinished") (known_members place ++ end_members (judged_end name))) rest ≡ unfinished_line place name
  unfolding unfinished_line
  unfinished_reads place name small =
      answered _ _ rest (having (codes "judged") (number_of judged) (having (codes "answer") (string (codes "unfinished")) (joined (known_made place)
      (padded (codes "peer_as" ∷ codes "peer_as_not" ∷ codes "reached" ∷ codes "before" ∷ codes "with_routes" ∷ codes "as_left_out" ∷ codes "deed" ∷ codes "why" ∷ [])
      (end_made (judged_end name))))))
      ∙ ap₂ (λ (p e : List ℕ). codes "unfinished after " ++ (p ++ (e ++ codes " has not done what is due\n"))) (place_when_back place small) (end_back name)

  -- ---- what isn't judged

  unjudged_made : (end : JudgedEnd) (is_left_out : Bool) (why : List ℕ) → IsMade (keys_behind Verdict)
      (Some (number_of judged) ∷ Some (string (codes "not judged")) ∷ None ∷ None ∷ None ∷ None ∷ (end_values end ++ None ∷ None ∷ None ∷ None ∷ None ∷ flag_json is_left_out ∷ None
      ∷ Some (string why) ∷ []))
      ((codes "judged", number_of judged) ∷ (codes "answer", string (codes "not judged")) ∷ (end_members end ++ (flag_members (codes "as_left_out") is_left_out
      ++ (codes "why", string why) ∷ [])))
  unjudged_made end is_left_out why =
      having (codes "judged") (number_of judged) (having (codes "answer") (string (codes "not judged")) (lacking (codes "record") (lacking (codes "packet") (lacking (codes "second")
      (lacking (codes "micro") (joined (end_made end) (lacking (codes "peer_as") (lacking (codes "peer_as_not") (lacking (codes "reached") (lacking (codes "before")
      (lacking (codes "with_routes") (joined (flag_made (codes "as_left_out") is_left_out) (lacking (codes "deed") (having (codes "why") (string why) nothing))))))))))))))

  pub unjudged_reads : (name : EndName) (why : NotJudged) → own_text (unjudged_json judged (judged_end name) false (why_text why)) rest ≡ not_judged_line name why
  unfolding not_judged_line
  unjudged_reads name why =
      answered _ _ rest (unjudged_made (judged_end name) false (why_text why))
      ∙ ap (λ (e : List ℕ). codes "not judged: " ++ (e ++ (codes ": " ++ (why_text why ++ codes "\n")))) (end_back name)

  pub unnamed_reads : (end : Endpoint) (part : Option (ℕ × ℕ)) (why : List ℕ) → own_text (unjudged_json judged (unnamed_end end part) true why) rest ≡ unnamed_line end part why
  unfolding unnamed_line
  unnamed_reads end part why =
      answered _ _ rest (unjudged_made (unnamed_end end part) true why)
      ∙ ap (λ (e : List ℕ). codes "not judged: " ++ (e ++ (codes ": " ++ (why ++ codes "\n")))) (unnamed_back end part)
