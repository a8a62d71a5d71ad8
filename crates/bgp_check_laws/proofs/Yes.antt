-- A yes is read from its objects: the verdict, its possible ends, those before, and their routes.
use Rattle.std.proofs.Common.{◌≡◌, ◌∙◌, ◌++◌, ◌+◌, ◌==◌, ℕ, Bool, true, false, not, List, [], ◌∷◌, All, Option, None, Some, append_assoc, codes, length, map, refl, suc, ap, ap₂, if◌then◌else◌}
use Rattle.std.specs.Bool.{⊤}
use Rattle.std.specs.Fmt.{decimal}
use Rattle.std.specs.List.{flat_map}
use Rattle.std.proofs.lemmas.Grind.{flat_map-append}
use Rattle.std.proofs.lemmas.List.Elements.{All-head, All-tail}
use Rattle.json.specs.Json.{Json, string}
use Rattle.bgp_path.specs.Path.{PathValue}
use Rattle.bgp_update.specs.declared.destination.Destination.{Destination}
use Rattle.bgp_machine.specs.Run.{End}
use Rattle.bgp_machine.specs.State.{number_of as state_number}
use Rattle.bgp_names.specs.States.{state_name}
use Rattle.bgp_check.specs.declared.peer_as.PeerAs.{PeerAs}
use Rattle.bgp_check.specs.declared.peer_as.PeerAs.TheVariants as peers
use Rattle.bgp_json_values.specs.Objects.{array_of, number_of, object_of}
use Rattle.bgp_json_verdicts.specs.Objects.{family_texts}
use Rattle.bgp_json_verdicts.specs.RouteJson.{route_members}
use Rattle.bgp_json_check.specs.Objects.{before_end_members, before_json as before_objects, befores_json, end_json, ending_members, judged_json, numbered_json, route_json, routes_json, yes_json, yes_members}
use Rattle.bgp_tool.specs.VerdictText as tool
use Rattle.bgp_check_text.specs.End.{end_text}
use Rattle.bgp_check_text.specs.Reached.{ReachedValue}
use Rattle.bgp_check_text.specs.States.{all_routes, before_line, before_routes, or_state, route_line, routes_if, routes_text, state_line, state_routes, state_text, states_text}
use Rattle.bgp_check_text.specs.Text.{peer_text, yes_line, yes_lines}
use Rattle.bgp_check_text.specs.declared.end.EndName.{EndName}
use Rattle.bgp_check_lines.specs.Values.{judged_end}
use Rattle.bgp_json_laws.proofs.Lookups.{paired_back}
use Rattle.bgp_verdict_laws.proofs.Reading.{at}
use Rattle.bgp_verdict_laws.proofs.Reading.{plain as reason_plain}
use Rattle.bgp_verdict_laws.proofs.Routes.{route_reads}
use Rattle.bgp_verdict_laws.proofs.Shapes.{having, joined, nothing}
use Rattle.bgp_verdict_laws.proofs.Times.{is_so, number_back, said}
use Rattle.bgp_list_laws.proofs.Ended.{lacking}
use Rattle.bgp_check_laws.specs.Ranges.{AreEndings, FitsPeer, IsEnding, IsReached, IsRoute}
use Rattle.bgp_check_laws.proofs.Members.{before_json, before_made, end_made, end_values, flag_back, flag_json, flag_made, other_peer_json, peer_json, peer_made}
use Rattle.bgp_check_laws.proofs.Reading.{BeforeLine, EndLine, Kind, Verdict, as_route, disabled_in, ends_in, group, group_line, in_group, is_end, keys_behind, kind_of, or_state_in, own_text, peer_in, state_in, states_in, text_by, text_in, values_back, values_of}
use Rattle.bgp_check_laws.proofs.Reading as kinds
use Rattle.bgp_check_laws.proofs.States.{disabled_back, end_state_back}
use Rattle.bgp_check_laws.proofs.Answers.{answered, end_back, padded}

-- ---- objects that belong to a yes

abbrev pub AreInGroup : List Json → Type 0
AreInGroup [] = ⊤
AreInGroup (j ∷ js) = (in_group (kind_of j) ≡ true) × AreInGroup js

both_in : (js ks : List Json) → AreInGroup js → AreInGroup ks → AreInGroup (js ++ ks)
both_in [] ks first second = second
both_in (j ∷ js) ks first second = (first.0, both_in js ks first.1 second)

grouped : (js rest : List Json) → AreInGroup js → group rest ≡ [] → group (js ++ rest) ≡ js
grouped [] rest are none = none
grouped (j ∷ js) rest are none =
    let is = are.0 in
    rw is (ap (λ (l : List Json). j ∷ l) (grouped js rest are.1 none))

-- nothing is read of them by themselves
silent_by : (kind : Kind) (j : Json) (js : List Json) → in_group kind ≡ true → text_by kind j js ≡ []
silent_by EndLine j js is = refl
silent_by BeforeLine j js is = refl
silent_by kinds.RouteLine j js is = refl
silent_by kinds.RouteBefore j js is = refl
silent_by kinds.Verdict j js is = cc
silent_by kinds.Passed j js is = cc
silent_by kinds.Incomplete j js is = cc
silent_by kinds.NotRead j js is = cc
silent_by kinds.InMade j js is = cc
silent_by kinds.One j js is = cc
silent_by kinds.Another j js is = cc
silent_by kinds.Every j js is = cc
silent_by kinds.Late j js is = cc
silent_by kinds.Repeat j js is = cc
silent_by kinds.OpenAtEnd j js is = cc
silent_by kinds.Ended j js is = cc
silent_by kinds.CutShort j js is = cc
silent_by kinds.Nothing j js is = cc
silent_by kinds.Summary j js is = cc
silent_by kinds.Connection j js is = cc
silent_by kinds.Session j js is = cc
silent_by kinds.Refused j js is = cc
silent_by kinds.OfReason j js is = cc

silent : (js rest : List Json) → AreInGroup js → text_in (js ++ rest) ≡ text_in rest
unfolding own_text
silent [] rest are = refl
silent (j ∷ js) rest are = ap₂ ◌++◌ (silent_by (kind_of j) j (js ++ rest) are.0) (silent js rest are.1)

-- ---- those of an end

module _ (judged : ℕ) where
  abbrev end_object : ℕ → End → Json
  end_object number e =
      judged_json (codes "end") judged (ending_members number e.fsm e.routes.disabled (length e.routes.entries))

  abbrev before_object : ℕ → End → Json
  before_object number e =
      judged_json (codes "end_before") judged (before_end_members number e.routes.disabled (length e.routes.entries))

  routes_in : (number : ℕ) (routes : List (Destination × PathValue)) → AreInGroup (map (route_json (codes "route") judged number) routes)
  routes_in number [] = tt
  routes_in number (r ∷ routes) = (refl, routes_in number routes)

  befores_routes_in : (number : ℕ) (routes : List (Destination × PathValue)) → AreInGroup (map (route_json (codes "route_before") judged number) routes)
  befores_routes_in number [] = tt
  befores_routes_in number (r ∷ routes) = (refl, befores_routes_in number routes)

  asked_in : (routes : Bool) (number : ℕ) (entries : List (Destination × PathValue)) → AreInGroup (routes_json routes (codes "route") judged number entries)
  asked_in true number entries = routes_in number entries
  asked_in false number entries = tt

  ends_are_in : (routes : Bool) (number : ℕ) (ends : List End) → AreInGroup (numbered_json (end_json routes judged) number ends)
  ends_are_in routes number [] = tt
  ends_are_in routes number (e ∷ ends) =
      both_in (end_json routes judged number e) (numbered_json (end_json routes judged) (number + 1) ends) (refl, asked_in routes number e.routes.entries)
      (ends_are_in routes (number + 1) ends)

  each_before_in : (number : ℕ) (ends : List End) → AreInGroup (numbered_json (before_objects true judged) number ends)
  each_before_in number [] = tt
  each_before_in number (e ∷ ends) =
      both_in (before_objects true judged number e) (numbered_json (before_objects true judged) (number + 1) ends) (refl, befores_routes_in number e.routes.entries)
      (each_before_in (number + 1) ends)

  befores_in : (routes : Bool) (before : List End) → AreInGroup (befores_json routes judged before)
  befores_in true before = each_before_in 1 before
  befores_in false before = tt

  abbrev pub group_of : Bool → List End → List End → List Json
  group_of routes ends before = numbered_json (end_json routes judged) 1 ends ++ befores_json routes judged before

  group_in : (routes : Bool) (ends before : List End) → AreInGroup (group_of routes ends before)
  group_in routes ends before = both_in (numbered_json (end_json routes judged) 1 ends) (befores_json routes judged before) (ends_are_in routes 1 ends) (befores_in routes before)

  -- ---- the ends among them

  abbrev end_objects : ℕ → List End → List Json
  end_objects number [] = []
  end_objects number (e ∷ ends) = end_object number e ∷ end_objects (number + 1) ends

  no_ends : (number : ℕ) (routes : List (Destination × PathValue)) (rest : List Json) → ends_in (map (route_json (codes "route") judged number) routes ++ rest) ≡ ends_in rest
  no_ends number [] rest = refl
  no_ends number (r ∷ routes) rest = no_ends number routes rest

  no_ends_before : (number : ℕ) (routes : List (Destination × PathValue)) (rest : List Json) → ends_in (map (route_json (codes "route_before") judged number) routes ++ rest) ≡ ends_in rest
  no_ends_before number [] rest = refl
  no_ends_before number (r ∷ routes) rest = no_ends_before number routes rest

  no_ends_asked : (asked : Bool) (number : ℕ) (routes : List (Destination × PathValue)) (rest : List Json)
      → ends_in (routes_json asked (codes "route") judged number routes ++ rest) ≡ ends_in rest
  no_ends_asked true number routes rest = no_ends number routes rest
  no_ends_asked false number routes rest = refl

  none_before : (number : ℕ) (ends : List End) → ends_in (numbered_json (before_objects true judged) number ends) ≡ []
  none_before number [] = refl
  none_before number (e ∷ ends) =
      no_ends_before number e.routes.entries (numbered_json (before_objects true judged) (number + 1) ends) ∙ none_before (number + 1) ends

  none_of_befores : (routes : Bool) (before : List End) → ends_in (befores_json routes judged before) ≡ []
  none_of_befores true before = none_before 1 before
  none_of_befores false before = refl

  ends_found : (routes : Bool) (number : ℕ) (ends : List End) (rest : List Json) → ends_in rest ≡ []
      → ends_in (numbered_json (end_json routes judged) number ends ++ rest) ≡ end_objects number ends
  ends_found routes number [] rest none = none
  ends_found routes number (e ∷ ends) rest none =
      let more = numbered_json (end_json routes judged) (number + 1) ends in
      ap (λ (l : List Json). end_object number e ∷ ends_in l) (append_assoc (routes_json routes (codes "route") judged number e.routes.entries) more rest)
      ∙ ap (λ (l : List Json). end_object number e ∷ l) (no_ends_asked routes number e.routes.entries (more ++ rest) ∙ ends_found routes (number + 1) ends rest none)

  pub ends_of_group : (routes : Bool) (ends before : List End) → ends_in (group_of routes ends before) ≡ end_objects 1 ends
  ends_of_group routes ends before = ends_found routes 1 ends (befores_json routes judged before) (none_of_befores routes before)

  count_back : (number : ℕ) (ends : List End) → length (end_objects number ends) ≡ length ends
  count_back number [] = refl
  count_back number (e ∷ ends) = ap suc (count_back (number + 1) ends)

  -- ---- the verdict's values

  module _ (routes : Bool) (name : EndName) (peer : PeerAs) (reached : ReachedValue) where
    abbrev pub yes_values : List (Option Json)
    yes_values =
        Some (string (codes "verdict")) ∷ Some (number_of judged) ∷ Some (string (codes "yes")) ∷ None ∷ None ∷ None ∷ None
        ∷ (end_values (judged_end name) ++ peer_json peer ∷ other_peer_json peer ∷ Some (string (state_name reached.highest)) ∷ before_json reached.counts ∷ flag_json routes
        ∷ None ∷ None ∷ None ∷ [])

    yes_read : (rest : List Json)
        → own_text (judged_json (codes "verdict") judged (yes_members (judged_end name) peer reached.highest reached.counts routes)) rest ≡ kinds.verdict_in yes_values (group rest)
    yes_read rest =
        answered _ _ rest (having (codes "judged") (number_of judged) (having (codes "answer") (string (codes "yes")) (lacking (codes "record") (lacking (codes "packet")
        (lacking (codes "second") (lacking (codes "micro") (joined (end_made (judged_end name)) (joined (peer_made peer) (having (codes "reached") (string (state_name reached.highest))
        (joined (before_made reached.counts) (padded (codes "as_left_out" ∷ codes "deed" ∷ codes "why" ∷ []) (flag_made (codes "with_routes") routes))))))))))))

    -- ---- the states of its ends

    module _ (is : IsReached reached) where
      state_found : (number : ℕ) (e : End) → state_in yes_values (values_of EndLine (end_object number e)) ≡ state_text reached e
      state_found number e =
          ap (state_in yes_values)
          (values_back EndLine _ _ (having (codes "judged") (number_of judged) (having (codes "end") (number_of number) (having (codes "state") (string (state_name (state_number e.fsm)))
          (having (codes "disabled") (array_of string (family_texts e.routes.disabled)) (having (codes "routes") (number_of (length e.routes.entries)) nothing))))))
          ∙ end_state_back reached e is.highest

      or_found : (number : ℕ) (ends : List End) → flat_map (or_state_in yes_values) (end_objects number ends) ≡ flat_map (or_state reached) ends
      or_found number [] = refl
      or_found number (e ∷ ends) = ap₂ (λ (s t : List ℕ). (codes ", or " ++ s) ++ t) (state_found number e) (or_found (number + 1) ends)

      states_found : (ends : List End) → states_in yes_values (end_objects 1 ends) ≡ states_text reached ends
      states_found [] = refl
      states_found (e ∷ ends) = ap₂ ◌++◌ (state_found 1 e) (or_found 2 ends)

      -- ---- routes

      route_back : (number : ℕ) (r : Destination × PathValue) → IsRoute r → codes "  " ++ reason_plain (route_json (codes "route") judged number r) ≡ route_line r
      unfolding route_line tool.route_line
      route_back number r one = ap (λ (t : List ℕ). codes "  " ++ t) (route_reads r.1 record { judged = judged; end = number } r.0 one.filled)

      before_route_back : (several : Bool) (number : ℕ) (r : Destination × PathValue) → IsRoute r
          → group_line several yes_values (route_json (codes "route_before") judged number r) ≡ route_line r
      before_route_back several number r one =
          ap (λ (ms : List (List ℕ × Json)). codes "  " ++ reason_plain (object_of ((codes "type", string (codes "route")) ∷ ms)))
          (paired_back ((codes "judged", number_of judged) ∷ (codes "end", number_of number) ∷ route_members r.0 r.1))
          ∙ route_back number r one

      routes_back : (several : Bool) (number : ℕ) (routes : List (Destination × PathValue)) → All IsRoute routes
          → flat_map (group_line several yes_values) (map (route_json (codes "route") judged number) routes) ≡ flat_map route_line routes
      routes_back several number [] all = refl
      routes_back several number (r ∷ routes) all =
          ap₂ ◌++◌ (route_back number r (All-head IsRoute r routes all)) (routes_back several number routes (All-tail IsRoute r routes all))

      before_routes_back : (several : Bool) (number : ℕ) (routes : List (Destination × PathValue)) → All IsRoute routes
          → flat_map (group_line several yes_values) (map (route_json (codes "route_before") judged number) routes) ≡ flat_map route_line routes
      before_routes_back several number [] all = refl
      before_routes_back several number (r ∷ routes) all =
          ap₂ ◌++◌ (before_route_back several number r (All-head IsRoute r routes all)) (before_routes_back several number routes (All-tail IsRoute r routes all))

      -- ---- an end with its routes, and an end before

      abbrev lines_by : Bool → End → List ℕ
      lines_by several e = (if several then state_line reached e else []) ++ routes_text e

      head_back : (several : Bool) (number : ℕ) (e : End) → group_line several yes_values (end_object number e) ≡ (if several then state_line reached e else [])
      unfolding state_line
      head_back true number e = ap (λ (s : List ℕ). codes "  " ++ (s ++ codes "\n")) (state_found number e)
      head_back false number e = refl

      ends_back : (several : Bool) (number : ℕ) (ends : List End) → All IsEnding ends
          → flat_map (group_line several yes_values) (numbered_json (end_json true judged) number ends) ≡ flat_map (lines_by several) ends
      ends_back several number [] all = refl
      ends_back several number (e ∷ ends) all =
          let one = All-head IsEnding e ends all in
          flat_map-append (group_line several yes_values) (end_json true judged number e) (numbered_json (end_json true judged) (number + 1) ends)
          ∙ ap₂ ◌++◌ (ap₂ ◌++◌ (head_back several number e) (routes_back several number e.routes.entries one.routes))
          (ends_back several (number + 1) ends (All-tail IsEnding e ends all))

      before_head_back : (several : Bool) (number : ℕ) (e : End) → group_line several yes_values (before_object number e) ≡ before_line e.routes.disabled (length e.routes.entries)
      unfolding before_line
      before_head_back several number e =
          ap (λ (os : List (Option Json)). codes "  before that" ++ (disabled_in (at os 3) ++ (codes ", routes from its peer: " ++ (said (at os 4) ++ codes "\n"))))
          (values_back BeforeLine _ _ (having (codes "judged") (number_of judged) (having (codes "end") (number_of number)
          (having (codes "disabled") (array_of string (family_texts e.routes.disabled)) (having (codes "routes") (number_of (length e.routes.entries)) nothing)))))
          ∙ ap (λ (d : List ℕ). codes "  before that" ++ (d ++ (codes ", routes from its peer: " ++ (decimal (length e.routes.entries) ++ codes "\n")))) (disabled_back e.routes.disabled)

      befores_back : (several : Bool) (number : ℕ) (before : List End) → All IsEnding before
          → flat_map (group_line several yes_values) (numbered_json (before_objects true judged) number before) ≡ flat_map before_routes before
      befores_back several number [] all = refl
      befores_back several number (e ∷ before) all =
          let one = All-head IsEnding e before all in
          flat_map-append (group_line several yes_values) (before_objects true judged number e) (numbered_json (before_objects true judged) (number + 1) before)
          ∙ ap₂ ◌++◌ (ap₂ ◌++◌ (before_head_back several number e) (before_routes_back several number e.routes.entries one.routes))
          (befores_back several (number + 1) before (All-tail IsEnding e before all))

      -- ---- all of them

      each_by : (is_one : Bool) (ends : List End) → flat_map (lines_by (not is_one)) ends ≡ (if is_one then flat_map routes_text ends else flat_map (state_routes reached) ends)
      each_by true ends = refl
      each_by false ends = refl

      all_back : (ends : List End) → All IsEnding ends
          → flat_map (group_line (not (length ends == 1)) yes_values) (group_of true ends reached.before) ≡ all_routes reached ends
      all_back ends all =
          let several = not (length ends == 1) in
          flat_map-append (group_line several yes_values) (numbered_json (end_json true judged) 1 ends) (befores_json true judged reached.before)
          ∙ ap₂ ◌++◌ (ends_back several 1 ends all ∙ each_by (length ends == 1) ends) (befores_back several 1 reached.before is.before.each)

  -- ---- the whole

  peer_back : (peer : PeerAs) → FitsPeer peer → peer_in (peer_json peer) (other_peer_json peer) ≡ peer_text peer
  peer_back peers.Any fits = refl
  peer_back (peers.Is number) fits = refl
  peer_back (peers.OtherThan number) fits =
      ap (λ (n : ℕ). peer_text (peers.OtherThan n)) (number_back number fits)

  routes_back_if : (routes : Bool) (name : EndName) (peer : PeerAs) (reached : ReachedValue) (ends : List End) → IsReached reached → All IsEnding ends
      → (if routes then flat_map (group_line (not (length ends == 1)) (yes_values routes name peer reached)) (group_of routes ends reached.before) else []) ≡ routes_if routes reached ends
  routes_back_if true name peer reached ends is all = all_back true name peer reached is ends all
  routes_back_if false name peer reached ends is all = refl

  module _ (routes : Bool) (name : EndName) (peer : PeerAs) (reached : ReachedValue) (ends : List End) (is : IsReached reached) (are : AreEndings ends) (fits : FitsPeer peer) where
    abbrev objects : List Json
    objects = group_of routes ends reached.before

    abbrev values : List (Option Json)
    values = yes_values routes name peer reached

    -- by the ends among the objects, by how many they are, and by whether routes are asked for
    abbrev text_with : List Json → ℕ → Bool → List ℕ
    text_with es count asked =
        (codes "yes: " ++ (kinds.end_in values ++ (peer_in (peer_json peer) (other_peer_json peer) ++ (codes ": " ++ (states_in values es ++ codes "\n")))))
        ++ (if asked then flat_map (group_line (not (count == 1)) values) objects else [])

    with_ends : text_with (ends_in objects) (length (ends_in objects)) (is_so (flag_json routes)) ≡ text_with (end_objects 1 ends) (length ends) routes
    with_ends =
        ap₂ (λ (es : List Json) (asked : Bool). text_with es (length es) asked) (ends_of_group routes ends reached.before) (flag_back routes)
        ∙ ap (λ (n : ℕ). text_with (end_objects 1 ends) n routes) (count_back 1 ends)

    head_reads : codes "yes: " ++ (kinds.end_in values ++ (peer_in (peer_json peer) (other_peer_json peer) ++ (codes ": " ++ (states_in values (end_objects 1 ends) ++ codes "\n"))))
        ≡ yes_line name peer reached ends
    unfolding yes_line
    head_reads =
        ap₂ (λ (e p : List ℕ). codes "yes: " ++ (e ++ (p ++ (codes ": " ++ (states_in values (end_objects 1 ends) ++ codes "\n"))))) (end_back name) (peer_back peer fits)
        ∙ ap (λ (s : List ℕ). codes "yes: " ++ (end_text name ++ (peer_text peer ++ (codes ": " ++ (s ++ codes "\n"))))) (states_found routes name peer reached is ends)

    group_reads : kinds.verdict_in values objects ≡ yes_lines routes name peer reached ends
    group_reads = with_ends ∙ ap₂ ◌++◌ head_reads (routes_back_if routes name peer reached ends is are.each)

    pub yes_reads : (rest : List Json) → group rest ≡ []
        → text_in (yes_json routes judged (judged_end name) peer reached.highest reached.counts ends reached.before ++ rest)
        ≡ yes_lines routes name peer reached ends ++ text_in rest
    yes_reads rest none =
        let are_in = group_in routes ends reached.before in
        ap₂ ◌++◌ (yes_read routes name peer reached (objects ++ rest) ∙ ap (kinds.verdict_in values) (grouped objects rest are_in none) ∙ group_reads) (silent objects rest are_in)
