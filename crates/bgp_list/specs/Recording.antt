-- What listing a recording writes and answers.
use Rattle.std.specs.Prelude.{◌≡◌, ◌⊎◌, ◌+◌, ◌++◌, ℕ, Bool, List, [], Option, None, Some}
use Rattle.std.specs.Prelude.{IfSome, MatchResult, Result, length, map, max}
use Rattle.std.specs.List.{AllByRecursion, Contains, flat_map}
use Rattle.std.specs.List.Sorted.{IsStrictlySortedBy}
use Rattle.std.specs.Map.{keys_of}
use Rattle.std.specs.Option.{option_or}
use Rattle.std.specs.Ordering.{nat_cmp}
use Rattle.std.specs.Result.{result_err, result_unwrap_or}
use Rattle.packets.specs.Packet.{Recorded}
use Rattle.mrt.specs.declared.sink.Sink as sinks
use Rattle.bgp_text.specs.Lines.{Writes}
use Rattle.bgp_text.specs.declared.lines.Lines.{Lines}
use Rattle.bgp_tool.specs.Answer.{IsWritten}
use Rattle.bgp_import.specs.Refusals.{cause_of}
use Rattle.bgp_import.specs.declared.refusal.Cause.{Cause}
use Rattle.bgp_import.specs.declared.refusal.Cause.TheVariants as causes
use Rattle.bgp_import.specs.declared.refusal.Refusal.{Refusal}
use Rattle.bgp_import.specs.declared.refusal.Refusal.TheVariants as refusals
use Rattle.bgp_import.specs.Places.{HasAll}
use Rattle.bgp_import.specs.Reading.{IsMemory, IsReadTo, cut_short_at, failures_of, looked_at}
use Rattle.bgp_import.specs.Talks.{HoldsEach}
use Rattle.bgp_import.specs.Wrapped.{AreCounted}
use Rattle.bgp_import.specs.declared.talks.Talks.{Talks}
use Rattle.bgp_list.specs.Firsts.{firsts_after, with_first}
use Rattle.bgp_list.specs.Forms.{IsInForm, line_in, refused_in}
use Rattle.bgp_list.specs.Lines.{IsLineAt, LineValue, refusal_in}
use Rattle.bgp_list.specs.declared.form.ListForm.{ListForm}
use Rattle.bgp_list.specs.declared.form.ListForm.TheVariants.{Text}
use Rattle.bgp_list.specs.declared.listed.ListedRecording.{ListedRecording}

-- ---- the lines, each with the packet at which it stands

abbrev pub lines_in : ListForm → List (ℕ × LineValue) → List ℕ
lines_in form lines = flat_map (λ (l : ℕ × LineValue). line_in form l.1) lines

abbrev pub lines_text : List (ℕ × LineValue) → List ℕ
lines_text = lines_in Text

-- each line of JSON is one value
abbrev pub AreInForm : ListForm → List (ℕ × LineValue) → Type 0
AreInForm form lines =
    AllByRecursion (λ (l : ℕ × LineValue). IsInForm form (line_in form l.1)) lines

abbrev pub refusals_in : List (ℕ × LineValue) → List (Option Refusal)
refusals_in lines = map (λ (l : ℕ × LineValue). refusal_in l.1) lines

-- Of what is held of these packets these lines are told, in the order of their places, and all of
-- it, if all is held.
pub record AreLinesOf {Z : Type 0} (port : ℕ) (packets : List Recorded) (talks : Talks Z)
    (last_packet : ℕ) (lines : List LineValue) : Type 0 where
  pub placed : List (ℕ × LineValue)
  pub are : map (λ (l : ℕ × LineValue). l.1) placed ≡ lines
  pub told : AllByRecursion
      (λ (l : ℕ × LineValue). IsLineAt port packets last_packet l.0 l.1) placed
  pub rise : IsStrictlySortedBy nat_cmp (keys_of placed)
  pub all : HoldsEach port packets talks → HasAll port packets (Contains (keys_of placed))

-- These lines were put in this form, or none where there was no memory for them.
abbrev pub PutsInForm : {E T : Type 0} {sink : sinks.Ghosts T} → Result (Unit {0}) E → ListForm
    → Lines T sink → Lines T sink → List LineValue → Type 0
PutsInForm result form old new list =
    MatchResult result
    (λ _. Writes old new (flat_map (line_in form) list)
    × AllByRecursion (λ line. IsInForm form (line_in form line)) list)
    (λ _. Writes old new [])

-- The lines of the packets' connections were put in this form, in the order of their places, and
-- of the refusals in them those of each number the first were added; or none, where there was no
-- memory for a list of them.
pub record PutsLines {T : Type 0} {sink : sinks.Ghosts T} (port : ℕ) (form : ListForm)
    (packets : List Recorded) (last_packet : ℕ) (places : List ℕ) (lines lines' : Lines T sink)
    (firsts firsts' : List (Option Refusal)) : Type 0 where
  pub put : List (ℕ × LineValue)
  pub told : AllByRecursion
      (λ (l : ℕ × LineValue). IsLineAt port packets last_packet l.0 l.1) put
  pub are_places : keys_of put ≡ places
  pub wrote : Writes lines lines' (lines_in form put)
  pub in_form : AreInForm form put
  pub added : firsts' ≡ firsts_after firsts (refusals_in put)

pub record PutsAll {T : Type 0} {sink : sinks.Ghosts T} {Z : Type 0} (port : ℕ) (form : ListForm)
    (packets : List Recorded) (talks : Talks Z) (last_packet : ℕ) (lines lines' : Lines T sink)
    (firsts firsts' : List (Option Refusal)) (answer : Result ℕ Refusal) : Type 0 where
  pub places : List ℕ
  pub rise : IsStrictlySortedBy nat_cmp places
  pub puts : PutsLines port form packets last_packet places lines lines' firsts firsts'
  pub lacks : (result_err answer ≡ None)
      ⊎ (result_err answer ≡ Some (refusals.Memory last_packet))
  pub none : (result_err answer ≡ None) ⊎ (places ≡ [])
  pub count : result_unwrap_or answer 0 ≡ length places
  pub all : result_err answer ≡ None → HoldsEach port packets talks
      → HasAll port packets (Contains places)

-- ---- all of it

-- what is told of the file, where that is refused
abbrev pub file_in : ListForm → Option Refusal → List ℕ
file_in form None = []
file_in form (Some refusal) = refused_in form refusal

abbrev pub IsFileInForm : ListForm → Option Refusal → Type 0
IsFileInForm form refusal = IfSome refusal (λ r. IsInForm form (refused_in form r))

abbrev pub cause_status : Cause → ℕ
cause_status causes.Recording = 3
cause_status causes.Memory = 4
cause_status causes.Device = 5

abbrev pub status_of : Option Refusal → ℕ
status_of None = 0
status_of (Some refusal) = cause_status (cause_of refusal)

-- over both refusals: where a device failed, or memory, not all was listed
abbrev pub status_over : Option Refusal → Option Refusal → ℕ
status_over stopped lacking = max (status_of stopped) (status_of lacking)

-- These packets are read, up to the end, or to where the file was cut short, or to what keeps it
-- from being read on; the source counts one failure more where that is a device that failed. Of
-- them these lines are told, in the order of their places: all, unless memory was refused; then why
-- the file can't be read on, if it can't, and that there was no memory for a list of the lines, if
-- there was none, and so no line. All of that was written, if the sink didn't fail.
pub record ListsRecording {S T : Type 0} (gives : S → S → List ℕ → Type 0) (has_ended : S → Bool)
    (takes : T → T → List ℕ → Type 0) (source_failures : S → ℕ) (failures : T → ℕ) (port : ℕ)
    (form : ListForm) (source source' : S) (sink sink' : T) (listed : ListedRecording)
    : Type 0 where
  pub packets : List Recorded
  pub short : Bool
  pub stopped : Option Refusal
  pub read : IsReadTo gives has_ended source source' packets short stopped
  pub counted : source_failures source' ≡ source_failures source + failures_of stopped
  pub lacking : Option Refusal
  pub lacks : (lacking ≡ None)
      ⊎ (lacking ≡ Some (refusals.Memory (looked_at packets stopped)))
  pub lines : List (ℕ × LineValue)
  pub told : AllByRecursion
      (λ (l : ℕ × LineValue). IsLineAt port packets (looked_at packets stopped) l.0 l.1) lines
  pub rise : IsStrictlySortedBy nat_cmp (keys_of lines)
  pub none : (lacking ≡ None) ⊎ (lines ≡ [])
  pub all : lacking ≡ None → ¬ IsMemory stopped
      → HasAll port packets (Contains (keys_of lines))
  pub is_port : listed.port ≡ port
  pub are_lines : listed.lines ≡ length lines
  pub are_packets : listed.packets ≡ looked_at packets stopped
  pub are_wrapped : stopped ≡ None → AreCounted packets listed.wrapped
  pub is_cut_short : listed.cut_short ≡ cut_short_at (looked_at packets stopped) short stopped
  pub is_refusal : listed.refusal ≡ option_or stopped lacking
  pub are_refusals : listed.refusals.items
      ≡ with_first (with_first (firsts_after [] (refusals_in lines)) stopped) lacking
  pub in_form : AreInForm form lines × IsFileInForm form stopped × IsFileInForm form lacking
  pub written : IsWritten takes failures
      (lines_in form lines ++ (file_in form stopped ++ file_in form lacking))
      (status_over stopped lacking) sink sink' listed.status
