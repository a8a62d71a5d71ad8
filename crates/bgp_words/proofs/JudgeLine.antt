-- A line of words that is `judge` with a configuration and a file.
use Rattle.std.proofs.Common.{rules, ◌≡◌, ◌∙◌, Bool, List, [], Some, arith, refl, sym, ap, ap₂, subst, inl, inr, codes, true, false}
use Rattle.std.specs.Prelude.{slice_get, unwrap_or}
use Rattle.std.proofs.lemmas.Option.{same_Some}
use Rattle.clap.specs.Words.{Row, Text, fault_of, first_of, subcommand_of}
use Rattle.bgp_open.specs.declared.config.Config.{Config}
use Rattle.bgp_open.specs.declared.config.ConfigParts.{ConfigParts}
use Rattle.bgp_open.specs.declared.families.Families.{Families}
use Rattle.bgp_words.specs.Judge.{IsJudge, IsJudgeLine, IsJudgeOf, reporting_told}
use Rattle.bgp_words.specs.Recording.{AreRecordingOptions, usual_recording}
use Rattle.bgp_import.specs.declared.options.RecordingOptions.{RecordingOptions}
use Rattle.bgp_words.specs.Spelled.{IsUsed, Names, NamesBy, NamesJudge}
use Rattle.bgp_words.specs.Values.{IsFamiliesText, IsHoldText, IsPortText, IsPositiveText, IsSecondsText, is_given}
use Rattle.bgp_words.specs.Words.{program_words}
use Rattle.bgp_words.specs.declared.judge.Reporting.{Reporting}
use Rattle.bgp_words.specs.declared.words.Command.{Command}
use Rattle.bgp_words.specs.declared.words.Command.TheVariants.{Decode, Capture, Judge, Import, List as Listing, Check, Speak, Pair}
use Rattle.bgp_words.proofs.NamedCommand.{two_names}
use Rattle.bgp_words.proofs.PlainWords.{plain}
use Rattle.bgp_words.proofs.SpelledJudge.{AreJudged, faultless, file_found, found_rows, in_text, named_judge, parts_found, parts_told, unexplained, usual_found, usual_told}

-- what is reported
abbrev pub told : Bool → Bool → Reporting
told explain json = record { explain = explain; json = json }

-- the values of what isn't told
ninety : IsHoldText (codes "90") 90
ninety = (
  search rules,
  omega arith,
  λ bad. elim bad [
    | inl one ↦ absurd (omega (arith, one))
    | inr two ↦ absurd (omega (arith, two))
  ],
)

two_hundred_forty : IsPositiveText (codes "240") 240
two_hundred_forty = (search rules, omega arith, λ zero. absurd (omega (arith, zero)))

port_179 : IsPortText (codes "179") 179
port_179 = (search rules, omega arith, λ zero. absurd (omega (arith, zero)))

seconds_10 : IsSecondsText (codes "10") 10
seconds_10 = (search rules, omega arith)

no_v6 : codes "v4" ≡ codes "v6" → ⊥
no_v6 same = let bad : 52 ≡ 54 = ap (λ (t : Text). unwrap_or (slice_get t 1) 0) same in absurd (omega (arith, bad))

no_both : codes "v4" ≡ codes "both" → ⊥
no_both same = let bad : 52 ≡ 111 = ap (λ (t : Text). unwrap_or (slice_get t 1) 0) same in absurd (omega (arith, bad))

only_v4 : (families : Families) → IsFamiliesText (codes "v4") families → families ≡ record { v4 = true; v6 = false }
only_v4 families is = elim is [
  | inl v4 ↦ v4.1
  | inr other ↦ elim other [
    | inl v6 ↦ absurd (no_v6 v6.0)
    | inr both ↦ absurd (no_both both.0)
  ]
]

module _ (words : List Text) (parts : ConfigParts) (file : Text) (line : IsJudgeLine words parts file) where
  abbrev rows : List Row
  rows = found_rows line.name line.local_as line.peer_as line.local_id line.local line.peer file (plain line.local_as line.no_flags.0)
      (plain line.peer_as line.no_flags.1) (plain line.local_id line.no_flags.2) (plain line.local line.no_flags.3)
      (plain line.peer line.no_flags.4) (plain file line.no_flags.5)

  used : subcommand_of program_words words ≡ Some (codes "judge", rows)
  used = ap (subcommand_of program_words) line.spelled ∙ named_judge line.name line.local_as line.peer_as line.local_id line.local
      line.peer file (plain line.local_as line.no_flags.0) (plain line.peer_as line.no_flags.1) (plain line.local_id line.no_flags.2)
      (plain line.local line.no_flags.3) (plain line.peer line.no_flags.4) (plain file line.no_flags.5)

  pub spelled_right : fault_of program_words words ≡ []
  spelled_right = ap (fault_of program_words) line.spelled ∙ faultless line.name line.local_as line.peer_as line.local_id line.local
      line.peer file (plain line.local_as line.no_flags.0) (plain line.peer_as line.no_flags.1) (plain line.local_id line.no_flags.2)
      (plain line.local line.no_flags.3) (plain line.peer line.no_flags.4) (plain file line.no_flags.5)

  there : first_of (codes "FILE") rows ≡ Some file
  there = file_found line.name line.local_as line.peer_as line.local_id line.local line.peer file (plain line.local_as line.no_flags.0)
      (plain line.peer_as line.no_flags.1) (plain line.local_id line.no_flags.2) (plain line.local line.no_flags.3)
      (plain line.peer line.no_flags.4) (plain file line.no_flags.5)

  are_parts : AreJudged parts rows
  are_parts = parts_found line.name line.local_as line.peer_as line.local_id line.local line.peer file
      (plain line.local_as line.no_flags.0) (plain line.peer_as line.no_flags.1) (plain line.local_id line.no_flags.2)
      (plain line.local line.no_flags.3) (plain line.peer line.no_flags.4) (plain file line.no_flags.5) parts
      line.as_numbers.0 line.as_numbers.1 line.identifier line.ends.0 line.ends.1 line.refresh line.extended
      (subst (IsHoldText (codes "90")) (sym line.holds.0) ninety)
      (subst (IsPositiveText (codes "240")) (sym line.holds.1) two_hundred_forty)
      (inl (refl, line.families)) line.flags.0 line.flags.1 line.offers

  usual : AreRecordingOptions usual_recording rows
  usual = usual_found line.name line.local_as line.peer_as line.local_id line.local line.peer file
      (plain line.local_as line.no_flags.0) (plain line.peer_as line.no_flags.1) (plain line.local_id line.no_flags.2)
      (plain line.local line.no_flags.3) (plain line.peer line.no_flags.4) (plain file line.no_flags.5)
      port_179 seconds_10

  is_usual : (recording : RecordingOptions) → AreRecordingOptions recording rows → recording ≡ usual_recording
  is_usual recording are = usual_told line.name line.local_as line.peer_as line.local_id line.local line.peer file
      (plain line.local_as line.no_flags.0) (plain line.peer_as line.no_flags.1) (plain line.local_id line.no_flags.2)
      (plain line.local line.no_flags.3) (plain line.peer line.no_flags.4) (plain file line.no_flags.5) recording are

  no_reason : is_given (codes "explain") rows ≡ false
  no_reason = unexplained line.name line.local_as line.peer_as line.local_id line.local line.peer file
      (plain line.local_as line.no_flags.0) (plain line.peer_as line.no_flags.1) (plain line.local_id line.no_flags.2)
      (plain line.local line.no_flags.3) (plain line.peer line.no_flags.4) (plain file line.no_flags.5)

  no_json : is_given (codes "json") rows ≡ false
  no_json = in_text line.name line.local_as line.peer_as line.local_id line.local line.peer file
      (plain line.local_as line.no_flags.0) (plain line.peer_as line.no_flags.1) (plain line.local_id line.no_flags.2)
      (plain line.local line.no_flags.3) (plain line.peer line.no_flags.4) (plain file line.no_flags.5)

  nothing_told : reporting_told rows ≡ record { explain = false; json = false }
  nothing_told = ap₂ (λ (e j : Bool). told e j) no_reason no_json

  of_judging : (command : Command) → NamesBy (codes "judge") rows command → IsJudgeOf words command
  of_judging (Decode form extended f) is = two_names (codes "judge") (codes "decode") (λ e. omega (arith, e)) is.0
  of_judging (Capture form session recording f) is = two_names (codes "judge") (codes "decode") (λ e. omega (arith, e)) is.0
  of_judging (Import session recording f out) is = two_names (codes "judge") (codes "import") (λ e. omega (arith, e)) is.0
  of_judging (Listing port json f) is = two_names (codes "judge") (codes "list") (λ e. omega (arith, e)) is.0
  of_judging (Check checking f) is = two_names (codes "judge") (codes "check") (λ e. omega (arith, e)) is.0
  of_judging (Speak config speaking f) is = two_names (codes "judge") (codes "speak") (λ e. omega (arith, e)) is.0
  of_judging (Pair f) is = two_names (codes "judge") (codes "pair") (λ e. omega (arith, e)) is.0
  of_judging (Judge config recording reporting f) is =
      let tells = parts_told line.name line.local_as line.peer_as line.local_id line.local line.peer file
      (plain line.local_as line.no_flags.0) (plain line.peer_as line.no_flags.1) (plain line.local_id line.no_flags.2)
      (plain line.local line.no_flags.3) (plain line.peer line.no_flags.4) (plain file line.no_flags.5) config.parts is.1.0 in (
        subst (IsJudgeLine words config.parts) (same_Some _ _ (sym there ∙ is.1.3)) (record {
          name = line.name;
          local_as = line.local_as;
          peer_as = line.peer_as;
          local_id = line.local_id;
          local = line.local;
          peer = line.peer;
          spelled = line.spelled;
          no_flags = line.no_flags;
          as_numbers = (tells.0, tells.1);
          identifier = tells.2;
          ends = (tells.3, tells.4);
          refresh = tells.5;
          extended = tells.6;
          holds = (sym tells.7.0.1, sym tells.8.0.1);
          families = only_v4 config.parts.families tells.9;
          flags = (tells.10, tells.11);
          offers = tells.12;
        }),
        is_usual recording is.1.1,
        is.1.2 ∙ nothing_told,
      )

  pub judge_of_line : (command : Command) → Names (subcommand_of program_words words) command → IsJudgeOf words command
  judge_of_line command names = of_judging command (subst (λ u. Names u command) used names)

-- such a line of a configuration names it
pub names_judge : (words : List Text) (config : Config) (file : Text) → IsJudgeLine words config.parts file
    → NamesJudge config usual_recording (told false false) file (subcommand_of program_words words)
names_judge words config file line =
    subst (IsUsed (codes "judge") (IsJudge config usual_recording (told false false) file)) (sym (used words config.parts file line))
    (refl, (are_parts words config.parts file line, usual words config.parts file line, sym (nothing_told words config.parts file line), there words config.parts file line))
