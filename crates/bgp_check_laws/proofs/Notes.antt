-- What is said beside a verdict is read from its objects, and what is said of a whole file.
use Rattle.std.proofs.Common.{◌≡◌, ◌∙◌, ◌++◌, ◌<◌, ◌^◌, ℕ, Bool, true, false, List, [], ◌∷◌, Option, None, IsUtf8, append_assoc, codes, nat_lt, refl, ap, ap₂, if◌then◌else◌}
use Rattle.std.specs.Fmt.{decimal}
use Rattle.std.specs.Str.Lossy.{utf8_lossy}
use Rattle.std.proofs.lemmas.Str.{utf8_lossy-IsUtf8}
use Rattle.json.specs.Json.{Json, string}
use Rattle.bgp_clock.specs.When.{short_text}
use Rattle.bgp_ended.specs.EndedLine.{ended_stretch_line}
use Rattle.bgp_ended.specs.Stretch.{EndedStretchValue}
use Rattle.bgp_ended.specs.Values.{EndedValue}
use Rattle.bgp_values.specs.declared.opens.Direction.{Direction}
use Rattle.bgp_why.specs.Place.{place_text}
use Rattle.bgp_why.specs.declared.endpoint.Endpoint.{Endpoint}
use Rattle.bgp_why.specs.declared.place.Place.{Place}
use Rattle.bgp_json.specs.Object.{typed}
use Rattle.bgp_json_values.specs.Objects.{number_of}
use Rattle.bgp_json_verdicts.specs.At.{at_of}
use Rattle.bgp_json_verdicts.specs.Objects.{text_json}
use Rattle.bgp_json_check.specs.Members.{direction_word}
use Rattle.bgp_json_check.specs.Objects.{ended_json, in_made_members, judged_json}
use Rattle.bgp_check_text.specs.JudgeLine.{addresses_text, asked_text, choices_text, command_text, judge_line, needs_text, refresh_text}
use Rattle.bgp_check_text.specs.Tally.{tally_line}
use Rattle.bgp_check_text.specs.Unshown.{behind_note, end_name, passed_note, short_note}
use Rattle.bgp_check_text.specs.declared.options.JudgeOptions.{JudgeOptions}
use Rattle.bgp_check_text.specs.declared.tally.Tally.{Tally}
use Rattle.bgp_check_lines.specs.Values.{all_orders_line, another_order_line, cut_short_line, direction_member, if_some, in_made_order_line, late_line, later_answer, no_record_line, nothing_at_line, one_order_line, open_line, place_of, tally_json}
use Rattle.bgp_verdict_laws.proofs.Shapes.{having, joined, nothing}
use Rattle.bgp_verdict_laws.proofs.Times.{number_back, place_made}
use Rattle.bgp_list_laws.specs.Ranges.{IsHow}
use Rattle.bgp_list_laws.proofs.Ended.{how_back, how_made}
use Rattle.bgp_list_laws.proofs.Endpoints.{endpoint_made}
use Rattle.bgp_check_laws.proofs.Members.{flag_made, known_made, moment_back, place_back}
use Rattle.bgp_check_laws.proofs.Reading.{Another, CutShort, Ended, Every, InMade, Incomplete, Late, NotRead, Nothing, One, OpenAtEnd, Passed, Repeat, Summary, own_text, text_in}
use Rattle.bgp_check_laws.proofs.Answers.{keyed}
use Rattle.bgp_check_laws.proofs.Commands.{command_visible}

-- ---- if there is something to tell

pub if_reads : (count : ℕ) (json : Json) (text : List ℕ) (rest : List Json) → own_text json rest ≡ text
    → text_in (if_some count json ++ rest) ≡ (if nat_lt 0 count then text else []) ++ text_in rest
if_reads count json text rest own = by (nat_lt 0 count) where
  by : (b : Bool) → text_in ((if b then json ∷ [] else []) ++ rest) ≡ (if b then text else []) ++ text_in rest
  by true = ap (λ (t : List ℕ). t ++ text_in rest) own
  by false = refl

module _ (judged : ℕ) (rest : List Json) where
  pub passed_reads : (direction : Direction) (count : ℕ)
      → text_in (if_some count (judged_json (codes "refresh_not_judged") judged (direction_member direction ∷ (codes "count", number_of count) ∷ [])) ++ rest)
      ≡ passed_note (direction_word direction) count ++ text_in rest
  unfolding passed_note
  passed_reads direction count =
      if_reads count _ _ rest (keyed Passed _ _ rest refl (λ j js. refl) (having (codes "judged") (number_of judged) (having (codes "direction") (string (direction_word direction))
      (having (codes "count") (number_of count) nothing))))

  pub incomplete_reads : (direction : Direction) (count : ℕ)
      → text_in (if_some count (judged_json (codes "incomplete") judged (direction_member direction ∷ (codes "octets", number_of count) ∷ [])) ++ rest)
      ≡ short_note (direction_word direction) count ++ text_in rest
  unfolding short_note
  incomplete_reads direction count =
      if_reads count _ _ rest (keyed Incomplete _ _ rest refl (λ j js. refl) (having (codes "judged") (number_of judged) (having (codes "direction") (string (direction_word direction))
      (having (codes "octets") (number_of count) nothing))))

  pub not_read_reads : (direction : Direction) (at count : ℕ) (is_refresh : Bool)
      → text_in (if_some count (judged_json (codes "not_read") judged (direction_member direction ∷ (codes "behind", string (end_name is_refresh)) ∷ (codes "at", number_of at)
      ∷ (codes "octets", number_of count) ∷ [])) ++ rest)
      ≡ behind_note (direction_word direction) at count is_refresh ++ text_in rest
  unfolding behind_note
  not_read_reads direction at count is_refresh =
      if_reads count _ _ rest (keyed NotRead _ _ rest refl (λ j js. refl) (having (codes "judged") (number_of judged) (having (codes "direction") (string (direction_word direction))
      (having (codes "behind") (string (end_name is_refresh)) (having (codes "at") (number_of at) (having (codes "octets") (number_of count) nothing))))))

  -- ---- orders

  pub in_made_reads : (first : ℕ) (deed : List ℕ) (place : Place) → place.second < 2 ^ 64 → IsUtf8 deed
      → own_text (judged_json (codes "in_made_order") judged (in_made_members (at_of first place) deed)) rest ≡ in_made_order_line first deed place
  unfolding in_made_order_line
  in_made_reads first deed place small utf8 =
      keyed InMade _ _ rest refl (λ j js. refl) (having (codes "judged") (number_of judged) (joined (known_made place) (joined (flag_made (codes "dated") (at_of first place).is_dated)
      (having (codes "deed") (text_json deed) nothing))))
      ∙ ap₂ (λ (p t : List ℕ). codes "  in the order of bgp import, " ++ (p ++ (codes ", " ++ (t ++ (codes ": " ++ (utf8_lossy deed ++ codes "\n"))))))
      (place_back place.number place.packet) (moment_back first place.second place.micro small)
      ∙ ap (λ (d : List ℕ). codes "  in the order of bgp import, " ++ (place_text place ++ (codes ", " ++ (short_text first place.second place.micro ++ (codes ": " ++ (d ++ codes "\n"))))))
      (utf8_lossy-IsUtf8 deed utf8)

  pub one_reads : (count : ℕ) → count < 2 ^ 64 → own_text (judged_json (codes "one_order") judged ((codes "delayed", number_of count) ∷ [])) rest ≡ one_order_line count
  one_reads count small =
      keyed One _ _ rest refl (λ j js. refl) (having (codes "judged") (number_of judged) (having (codes "delayed") (number_of count) nothing))
      ∙ ap one_order_line (number_back count small)

  pub another_reads : own_text (judged_json (codes "another_order") judged []) rest ≡ another_order_line
  another_reads = keyed Another _ _ rest refl (λ j js. refl) (having (codes "judged") (number_of judged) nothing)

  pub all_reads : own_text (judged_json (codes "all_orders") judged []) rest ≡ all_orders_line
  all_reads = keyed Every _ _ rest refl (λ j js. refl) (having (codes "judged") (number_of judged) nothing)

  pub late_reads : (within : ℕ) (is_yes : Bool) → within < 2 ^ 64
      → own_text (judged_json (codes "late") judged ((codes "within", number_of within) ∷ (codes "answer", string (later_answer is_yes)) ∷ [])) rest ≡ late_line within is_yes
  late_reads within true small =
      keyed Late _ _ rest refl (λ j js. refl) (having (codes "judged") (number_of judged) (having (codes "within") (number_of within) (having (codes "answer") (string (codes "yes")) nothing)))
      ∙ ap (λ (n : ℕ). late_line n true) (number_back within small)
  late_reads within false small =
      keyed Late _ _ rest refl (λ j js. refl) (having (codes "judged") (number_of judged) (having (codes "within") (number_of within) (having (codes "answer") (string (codes "unfinished")) nothing)))
      ∙ ap (λ (n : ℕ). late_line n false) (number_back within small)

  -- ---- how a session ended

  pub ended_reads : (first number : ℕ) (micro : Option ℕ) (by : Endpoint) (ended : EndedStretchValue) → ended.second < 2 ^ 64 → IsHow ended.how
      → own_text (ended_json judged (at_of first (place_of number micro ended)) by ended.how) rest ≡ ended_stretch_line first number micro by ended
  unfolding ended_stretch_line
  ended_reads first number micro by ended small is =
      let at = at_of first (place_of number micro ended) in
      let any : EndedValue = record { moment = record { packet = number; second = ended.second; micro = micro }; by = ended.by; how = ended.how } in
      keyed Ended _ _ rest refl (λ j js. refl) (having (codes "judged") (number_of judged) (joined (place_made at.place) (joined (flag_made (codes "dated") at.is_dated)
      (joined (endpoint_made (codes "by") (codes "by_port") by) (how_made ended.how)))))
      ∙ ap₂ (λ (t w : List ℕ). codes "  ended at record " ++ (decimal number ++ (codes ", " ++ (t ++ w)))) (moment_back first ended.second micro small) (how_back by any ended.how is)

  pub open_reads : own_text (judged_json (codes "open_at_end") judged []) rest ≡ open_line
  open_reads = keyed OpenAtEnd _ _ rest refl (λ j js. refl) (having (codes "judged") (number_of judged) nothing)

  -- ---- the command

  command_back : (options : JudgeOptions) → codes "  repeat: " ++ (command_text options ++ codes " FILE\n") ≡ judge_line options
  unfolding command_text judge_line
  command_back options =
      let needs = needs_text options.config in
      let addresses = addresses_text options.config.parts.session in
      let choices = choices_text options.config in
      let refresh = refresh_text options in
      let asked = asked_text options.asked in
      let last = codes " FILE\n" in
      ap (λ (t : List ℕ). codes "  repeat: bgp judge" ++ t) (
      append_assoc needs (addresses ++ (choices ++ (refresh ++ asked))) last
      ∙ ap (λ (t : List ℕ). needs ++ t) (append_assoc addresses (choices ++ (refresh ++ asked)) last
      ∙ ap (λ (t : List ℕ). addresses ++ t) (append_assoc choices (refresh ++ asked) last
      ∙ ap (λ (t : List ℕ). choices ++ t) (append_assoc refresh asked last)))
      )

  pub repeat_reads : (options : JudgeOptions)
      → own_text (judged_json (codes "repeat") judged ((codes "command", text_json (command_text options)) ∷ [])) rest ≡ judge_line options
  repeat_reads options =
      keyed Repeat _ _ rest refl (λ j js. refl) (having (codes "judged") (number_of judged) (having (codes "command") (text_json (command_text options)) nothing))
      ∙ ap (λ (t : List ℕ). codes "  repeat: " ++ (t ++ codes " FILE\n")) (utf8_lossy-IsUtf8 (command_text options) (command_visible options).utf8)
      ∙ command_back options

-- ---- the whole file

module _ (rest : List Json) where
  pub cut_reads : (packet : ℕ) → packet < 2 ^ 64 → own_text (typed (codes "cut_short") ((codes "packet", number_of packet) ∷ [])) rest ≡ cut_short_line packet
  cut_reads packet small =
      keyed CutShort _ _ rest refl (λ j js. refl) (having (codes "packet") (number_of packet) nothing) ∙ ap cut_short_line (number_back packet small)

  pub nothing_reads : (port : ℕ) → port < 2 ^ 64 → own_text (typed (codes "nothing") ((codes "port", number_of port) ∷ [])) rest ≡ nothing_at_line port
  nothing_reads port small =
      keyed Nothing _ _ rest refl (λ j js. refl) (having (codes "port") (number_of port) nothing) ∙ ap nothing_at_line (number_back port small)

  pub none_reads : own_text (typed (codes "nothing") []) rest ≡ no_record_line
  none_reads = keyed Nothing (None ∷ []) [] rest refl (λ j js. refl) record { is = refl; long = refl }

  pub summary_reads : (tally : Tally) → own_text (tally_json tally) rest ≡ tally_line tally
  unfolding tally_line
  summary_reads tally =
      keyed Summary _ _ rest refl (λ j js. refl) (having (codes "ends") _ (having (codes "yes") (number_of tally.yes) (having (codes "no") (number_of tally.no)
      (having (codes "unfinished") (number_of tally.unfinished) (having (codes "not_judged") (number_of tally.not_judged) (having (codes "refused") (number_of tally.refused) nothing))))))
