-- The words of `judge FILE` with the options that it has to have spell that command.
use Rattle.std.proofs.Common.{◌≡◌, ◌∙◌, List, [], ◌∷◌, Some, None, refl, sym, ap, ap₂, true, false, not, codes}
use Rattle.std.specs.Prelude.{fold, slice_get, unwrap_or}
use Rattle.clap.specs.Words.{Kinds, Row, Rule, Text, fault_of, first_of, subcommand_of}
use Rattle.clap.specs.Kinds.{or_else}
use Rattle.clap.specs.Faults.{check_fault, defaults_fault, level_fault, settle_fault, step_fault, turn_fault}
use Rattle.clap.specs.Walk.{Held, Step, Walk, after_step, finished, idle, nothing_held, option, plain_word, settled, walk_from, walked}
use Rattle.clap.specs.Simple.{Shape, built, names_of, new_shape}
use Rattle.clap.proofs.OnLiterals.{clap_on_literals}
use Rattle.bgp_prefix.specs.Notation.{IsAddressText}
use Rattle.bgp_prefix.specs.declared.session.RouteRefresh.TheVariants as refreshes
use Rattle.bgp_open.specs.RouteOffer.{nothing}
use Rattle.bgp_open.specs.declared.config.ConfigParts.{ConfigParts}
use Rattle.bgp_words.specs.Words.{program_words}
use Rattle.bgp_words.specs.Values.{IsFamiliesText, IsHoldText, IsIdentifierText, IsPortText, IsPositiveText, IsSecondsText, is_given}
use Rattle.bgp_words.specs.Settings.{AreParts}
use Rattle.bgp_words.specs.Recording.{AreRecordingOptions, refresh_told, usual_recording}
use Rattle.bgp_import.specs.declared.options.RecordingOptions.{RecordingOptions}
use Rattle.bgp_words.proofs.SameParts.{same_recording}
use Rattle.bgp_words.proofs.PlainWords.{IsPlainWord, Passes, met_plain, none_wrong, pass, pass_none}

-- the parts of a configuration, as `judge` is told of them
abbrev pub AreJudged : ConfigParts → List Row → Type 0
AreJudged parts rows = AreParts parts (refresh_told (not (is_given (codes "no-refresh") rows)) rows) rows

-- what `judge` reads, once the program is built
abbrev judge_shape : Shape
judge_shape = unwrap_or (slice_get (built program_words).subs 1) (new_shape [])

abbrev pub rules : List Rule
rules = judge_shape.rules

-- an option waits for its value
abbrev asked : Text → List Row → Held
asked id rows = record { rows = rows; pending = Some (id, []); skip = 0 }

abbrev asking : Text → List Row → Walk
asking id rows =
    record { held = asked id rows; waiting = option id; position = 1; is_trailing = false; stopped = None }

-- it has its value, which isn't yet among the rows
abbrev answered : Text → Text → List Row → Held
answered id value rows = record { rows = rows; pending = Some (id, value ∷ []); skip = 0 }

module _ (v : Text) (is : IsPlainWord v) (id : Text) (known : List Row) where
  abbrev value_met : Held × Step
  value_met = plain_word rules (option id) v (asked id known)

  value_walked : walked rules [] (asking id known) v ≡ after_step rules v (asking id known) value_met.0 value_met.1
  unfolding clap_on_literals
  value_walked = ap (λ (m : Held × Step). after_step rules v (asking id known) m.0 m.1) (met_plain rules (option id) v is (asked id known) 1)

  value_fault : turn_fault judge_shape [] (asking id known) v ≡ or_else [] (step_fault judge_shape 1 value_met.0 value_met.1)
  unfolding clap_on_literals
  value_fault = ap₂ or_else (none_wrong rules (option id) v is (asked id known) judge_shape.args_override_self)
      (ap (λ (m : Held × Step). step_fault judge_shape 1 m.0 m.1) (met_plain rules (option id) v is (asked id known) 1))

  pub pass_option : (h : Held) (word : Text) (words : List Text) (to : Walk) → turn_fault judge_shape [] (walk_from h) word ≡ []
      → walked rules [] (walk_from h) word ≡ asking id known
      → after_step rules v (asking id known) value_met.0 value_met.1 ≡ walk_from (answered id v known)
      → step_fault judge_shape 1 value_met.0 value_met.1 ≡ [] → Passes judge_shape (walk_from (answered id v known)) words to
      → Passes judge_shape (walk_from h) (word ∷ v ∷ words) to
  pass_option h word words to none asks answers fits rest =
      pass judge_shape (walk_from h) (asking id known) to word (v ∷ words) none asks
      (pass judge_shape (asking id known) (walk_from (answered id v known)) to v words (value_fault ∙ fits) (value_walked ∙ answers) rest)

module _ (file : Text) (is : IsPlainWord file) (h : Held) where
  file_walked : walked rules [] (walk_from h) file ≡ after_step rules file (walk_from h) (plain_word rules idle file h).0 (plain_word rules idle file h).1
  unfolding clap_on_literals
  file_walked = ap (λ (m : Held × Step). after_step rules file (walk_from h) m.0 m.1) (met_plain rules idle file is h 1)

  file_fault : turn_fault judge_shape [] (walk_from h) file ≡ or_else [] (step_fault judge_shape 1 (plain_word rules idle file h).0 (plain_word rules idle file h).1)
  unfolding clap_on_literals
  file_fault = ap₂ or_else (none_wrong rules idle file is h judge_shape.args_override_self)
      (ap (λ (m : Held × Step). step_fault judge_shape 1 m.0 m.1) (met_plain rules idle file is h 1))

  pub pass_file : (to : Walk) → after_step rules file (walk_from h) (plain_word rules idle file h).0 (plain_word rules idle file h).1 ≡ to
      → step_fault judge_shape 1 (plain_word rules idle file h).0 (plain_word rules idle file h).1 ≡ []
      → Passes judge_shape (walk_from h) (file ∷ []) to
  pass_file to walks fits =
      pass judge_shape (walk_from h) to to file [] (file_fault ∙ fits) (file_walked ∙ walks) (pass_none judge_shape to)

-- what is left to find at the end
abbrev end_fault : Walk → Kinds
end_fault to = or_else [] (or_else (settle_fault rules judge_shape.args_override_self to.held)
    (or_else (defaults_fault (settled rules to.held).rows rules) (check_fault judge_shape (finished rules to.held) false)))

level_passes : (words : List Text) (to : Walk) → Passes judge_shape (walk_from nothing_held) words to → end_fault to ≡ []
    → level_fault judge_shape [] nothing_held words false [] ≡ []
level_passes words to passes none = ap₂ (λ (kinds : Kinds) (w : Walk). or_else kinds (end_fault w)) passes.faultless passes.leads ∙ none

module _ (name local_as peer_as local_id local peer file : Text) (local_as_plain : IsPlainWord local_as) (peer_as_plain : IsPlainWord peer_as)
    (local_id_plain : IsPlainWord local_id) (local_plain : IsPlainWord local) (peer_plain : IsPlainWord peer) (file_plain : IsPlainWord file) where
  abbrev options : List Text
  options = codes "--local-as" ∷ local_as ∷ codes "--peer-as" ∷ peer_as ∷ codes "--local-id" ∷ local_id
      ∷ codes "--local" ∷ local ∷ codes "--peer" ∷ peer ∷ file ∷ []

  abbrev first : Held
  first = answered (codes "local-as") local_as []

  abbrev second : Held
  second = answered (codes "peer-as") peer_as (settled rules first).rows

  abbrev third : Held
  third = answered (codes "local-id") local_id (settled rules second).rows

  abbrev fourth : Held
  fourth = answered (codes "local") local (settled rules third).rows

  abbrev fifth : Held
  fifth = answered (codes "peer") peer (settled rules fourth).rows

  abbrev pub last : Walk
  last = after_step rules file (walk_from fifth) (plain_word rules idle file fifth).0 (plain_word rules idle file fifth).1

  passes : Passes judge_shape (walk_from nothing_held) options last
  unfolding clap_on_literals
  passes =
      pass_option local_as local_as_plain (codes "local-as") [] nothing_held (codes "--local-as") _ last refl refl refl refl
      (pass_option peer_as peer_as_plain (codes "peer-as") (settled rules first).rows first (codes "--peer-as") _ last refl refl refl refl
      (pass_option local_id local_id_plain (codes "local-id") (settled rules second).rows second (codes "--local-id") _ last refl refl refl refl
      (pass_option local local_plain (codes "local") (settled rules third).rows third (codes "--local") _ last refl refl refl refl
      (pass_option peer peer_plain (codes "peer") (settled rules fourth).rows fourth (codes "--peer") _ last refl refl refl refl
      (pass_file file file_plain fifth last refl refl)))))

  at_end : end_fault last ≡ []
  unfolding clap_on_literals
  at_end = refl

  whole_passes : fault_of program_words (name ∷ codes "judge" ∷ options)
      ≡ level_fault (built program_words).top (names_of (built program_words)) nothing_held (codes "judge" ∷ options) true
      (level_fault judge_shape [] nothing_held options false [])
  unfolding clap_on_literals
  whole_passes = refl

  none_above : level_fault (built program_words).top (names_of (built program_words)) nothing_held (codes "judge" ∷ options) true [] ≡ []
  unfolding clap_on_literals
  none_above = refl

  pub faultless : fault_of program_words (name ∷ codes "judge" ∷ options) ≡ []
  faultless = whole_passes
      ∙ ap (level_fault (built program_words).top (names_of (built program_words)) nothing_held (codes "judge" ∷ options) true)
      (level_passes options last passes at_end) ∙ none_above

  -- what is found
  abbrev pub found_rows : List Row
  found_rows = finished rules last.held

  names_walk : subcommand_of program_words (name ∷ codes "judge" ∷ options)
      ≡ Some (codes "judge", finished rules (fold (walked rules []) (walk_from nothing_held) options).held)
  unfolding clap_on_literals
  names_walk = refl

  pub named_judge : subcommand_of program_words (name ∷ codes "judge" ∷ options) ≡ Some (codes "judge", found_rows)
  named_judge = names_walk ∙ ap (λ (w : Walk). Some (codes "judge", finished rules w.held)) passes.leads

  pub parts_found : (parts : ConfigParts) → IsPositiveText local_as parts.local_as → IsPositiveText peer_as parts.peer_as
      → IsIdentifierText local_id parts.local_id → IsAddressText local parts.session.local → IsAddressText peer parts.session.peer
      → parts.session.refresh ≡ refreshes.Refused → parts.session.extended ≡ false → IsHoldText (codes "90") parts.hold → IsPositiveText (codes "240") parts.large_hold
      → IsFamiliesText (codes "v4") parts.families → parts.as4 ≡ true → parts.delay_open ≡ false → parts.offers ≡ nothing → AreJudged parts found_rows
  unfolding clap_on_literals
  parts_found parts own other id here there refresh extended hold large families as4 delay offers = record {
    local_as = own;
    peer_as = other;
    local_id = id;
    hold = hold;
    families = families;
    as4 = as4;
    delay_open = delay;
    large_hold = large;
    session = record { peer = there; local = here; refresh = refresh; extended = extended };
    offers = offers;
  }

  pub parts_told : (parts : ConfigParts) → AreJudged parts found_rows → IsPositiveText local_as parts.local_as × IsPositiveText peer_as parts.peer_as
      × IsIdentifierText local_id parts.local_id × IsAddressText local parts.session.local × IsAddressText peer parts.session.peer
      × (parts.session.refresh ≡ refreshes.Refused) × (parts.session.extended ≡ false) × IsHoldText (codes "90") parts.hold × IsPositiveText (codes "240") parts.large_hold
      × IsFamiliesText (codes "v4") parts.families × (parts.as4 ≡ true) × (parts.delay_open ≡ false) × (parts.offers ≡ nothing)
  unfolding clap_on_literals
  parts_told parts are = (
    are.local_as,
    are.peer_as,
    are.local_id,
    are.session.local,
    are.session.peer,
    are.session.refresh,
    are.session.extended,
    are.hold,
    are.large_hold,
    are.families,
    are.as4,
    are.delay_open,
    are.offers,
  )

  pub file_found : first_of (codes "FILE") found_rows ≡ Some file
  unfolding clap_on_literals
  file_found = refl

  -- neither the reason nor JSON is wanted
  pub unexplained : is_given (codes "explain") found_rows ≡ false
  unfolding clap_on_literals
  unexplained = refl

  pub in_text : is_given (codes "json") found_rows ≡ false
  unfolding clap_on_literals
  in_text = refl

  -- what isn't told of a recording
  pub usual_found : IsPortText (codes "179") 179 → IsSecondsText (codes "10") 10 → AreRecordingOptions usual_recording found_rows
  unfolding clap_on_literals
  usual_found port within = record { port = port; local_port = refl; connection = refl; within = within }

  pub usual_told : (recording : RecordingOptions) → AreRecordingOptions recording found_rows → recording ≡ usual_recording
  unfolding clap_on_literals
  usual_told recording are =
      same_recording recording usual_recording (sym are.port.0.1) are.local_port are.connection (sym are.within.0.1)
