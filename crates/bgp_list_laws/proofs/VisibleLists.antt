-- Lines of a list in JSON have no control characters but the line feed at their end.
use Rattle.std.proofs.Common.{◌++◌, ℕ, List, [], ◌∷◌, All, Option, None, Some, append-nil, codes, refl, subst, sym, inl, inr}
use Rattle.std.proofs.lemmas.List.Elements.{All-cons, All-head, All-nil, All-tail}
use Rattle.mrt.specs.declared.fault.CaptureFault.{CaptureFault}
use Rattle.mrt_sessions.specs.Counts.{counts_in}
use Rattle.mrt_sessions.specs.File.{Located}
use Rattle.mrt_sessions.specs.Sessions.{records_between, sessions_in}
use Rattle.mrt_sessions.specs.declared.addresses.Addresses.{Addresses}
use Rattle.bgp_import.specs.declared.refusal.Refusal.{Refusal}
use Rattle.bgp_json.specs.Others.{capture_json}
use Rattle.bgp_list.specs.ConnectionJson.{addresses_members, opening_members, outlined_members, refused_json, refused_members}
use Rattle.bgp_list.specs.Forms.{fault_in, line_json, session_in, sessions_in_form, stopped_in}
use Rattle.bgp_list.specs.Lines.{LineValue, Octets, Refused, AllRefused}
use Rattle.bgp_list.specs.Recording.{file_in, lines_in}
use Rattle.bgp_list.specs.SessionJson.{addresses_members as session_addresses, counts_members, seconds_members, session_json}
use Rattle.bgp_list.specs.declared.form.ListForm.TheVariants.{Json as AsJson}
use Rattle.bgp_list_laws.specs.Ranges.{IsLine}
use Rattle.bgp_list_laws.specs.Visible.{CapturesAreVisible, LinesAreVisible, ListsAreVisible, RefusalsAreVisible, SessionsAreVisible}
use Rattle.bgp_list_laws.proofs.VisibleMembers.{of_addresses, of_opening, of_outlined, of_refused, of_session}
use Rattle.bgp_visible_laws.specs.Visible.{AreVisibleLines, IsVisibleLine}
use Rattle.bgp_visible_laws.proofs.JsonLines.{line_of, refusal_texts, typed_texts}
use Rattle.bgp_visible_laws.proofs.JsonTexts.{AreTexts, of_both}
use Rattle.bgp_visible_laws.proofs.Printed.{all_of, all_of_both, no_lines, one_more}
use Rattle.bgp_visible_laws.proofs.Refusals.{recording_texts}

-- ---- of a recording

pub line_texts : (line : LineValue) → IsLine line → AreTexts (line_json line)
line_texts (Octets session opening outline first second) is =
    typed_texts (codes "connection") refl (opening_members session opening ++ outlined_members session opening outline first second)
    (of_both (opening_members session opening) (outlined_members session opening outline first second) (of_opening session opening)
    (of_outlined session opening outline first second is.1))
line_texts (Refused session opening refusal) is =
    typed_texts (codes "connection") refl (opening_members session opening ++ refused_members refusal)
    (of_both (opening_members session opening) (refused_members refusal) (of_opening session opening) (of_refused refusal))
line_texts (AllRefused addresses refusal) is =
    typed_texts (codes "session") refl (addresses_members addresses ++ refused_members refusal)
    (of_both (addresses_members addresses) (refused_members refusal) (of_addresses addresses) (of_refused refusal))

pub lines_visible : LinesAreVisible
lines_visible line is = line_of (line_json line) _ refl (line_texts line is)

pub refused_texts : (refusal : Refusal) → AreTexts (refused_json refusal)
refused_texts refusal = recording_texts refusal None

pub refusals_visible : RefusalsAreVisible
refusals_visible refusal = line_of (refused_json refusal) _ refl (refused_texts refusal)

file_visible : (refusal : Option Refusal) → AreVisibleLines (file_in AsJson refusal)
file_visible None = no_lines
file_visible (Some refusal) = subst AreVisibleLines (append-nil _) (one_more (refusals_visible refusal) no_lines)

all_visible : (lines : List (ℕ × LineValue)) → All (λ (l : ℕ × LineValue). IsLine l.1) lines → AreVisibleLines (lines_in AsJson lines)
all_visible [] all = no_lines
all_visible (l ∷ lines) all =
    one_more (lines_visible l.1 (All-head (λ (l : ℕ × LineValue). IsLine l.1) l lines all)) (all_visible lines (All-tail (λ (l : ℕ × LineValue). IsLine l.1) l lines all))

pub lists_visible : ListsAreVisible
lists_visible listed is =
    all_of_both (all_visible listed.lines is.lines) (all_of_both (file_visible listed.stopped) (file_visible listed.lacking))

-- ---- of a capture

pub session_texts : (addresses : Addresses) (named : List Located) → AreTexts (session_json addresses named)
session_texts addresses named =
    typed_texts (codes "session") refl (session_addresses addresses ++ (counts_members (counts_in named) ++ seconds_members named)) (of_session addresses named)

pub sessions_visible : SessionsAreVisible
sessions_visible addresses named = line_of (session_json addresses named) _ refl (session_texts addresses named)

stopped_visible : (fault : CaptureFault) → IsVisibleLine (stopped_in AsJson fault)
stopped_visible fault = line_of (capture_json fault) _ refl (refusal_texts fault)

fault_visible : (fault : Option CaptureFault) → AreVisibleLines (fault_in AsJson fault)
fault_visible None = no_lines
fault_visible (Some fault) = subst AreVisibleLines (append-nil _) (one_more (stopped_visible fault) no_lines)

each_session : (named : List Located) (list : List Addresses) → All (λ addresses. IsVisibleLine (session_in AsJson addresses (records_between addresses named))) list
each_session named [] = All-nil _
each_session named (addresses ∷ list) =
    All-cons (λ a. IsVisibleLine (session_in AsJson a (records_between a named))) addresses list (sessions_visible addresses (records_between addresses named)) (each_session named list)

all_sessions : (named : List Located) → AreVisibleLines (sessions_in_form AsJson named)
all_sessions named = all_of (λ addresses. session_in AsJson addresses (records_between addresses named)) (sessions_in named) (each_session named (sessions_in named))

pub captures_visible : CapturesAreVisible
captures_visible octets text ending count fault (inl lists) =
    all_of_both (subst AreVisibleLines (sym lists.0.is_text) (all_sessions lists.0.named)) (fault_visible fault)
captures_visible octets text ending count fault (inr none) = all_of_both (subst AreVisibleLines (sym none.0) no_lines) (fault_visible fault)
