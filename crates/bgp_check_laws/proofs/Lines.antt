-- Each line is read from its objects: so lines with the same objects have one text.
use Rattle.std.proofs.Common.{◌≡◌, ◌∙◌, ◌++◌, ℕ, Bool, true, false, List, [], ◌∷◌, All, append-nil, append_assoc, codes, nat_lt, refl, sym, ap, ap₂, if◌then◌else◌}
use Rattle.std.specs.Fmt.{decimal}
use Rattle.std.specs.List.{flat_map}
use Rattle.std.proofs.lemmas.List.Elements.{All-head, All-tail}
use Rattle.json.specs.Json.{Json}
use Rattle.mrt.specs.Fault.{fault_name, fault_number}
use Rattle.mrt.specs.declared.fault.CaptureFault.{CaptureFault}
use Rattle.mrt_sessions.specs.File.{Located}
use Rattle.mrt_sessions.specs.declared.addresses.Addresses.{Addresses}
use Rattle.bgp_import.specs.declared.refusal.Refusal.{Refusal}
use Rattle.bgp_json.specs.Others.{capture_json}
use Rattle.bgp_json_verdicts.specs.Lines as verdicts
use Rattle.bgp_json_verdicts.specs.Lines.{ReasonValue, TheRecord, TheMessage, TheData, IsUnfit, AnotherAs, TheState, LastReceived, Possible, InAnotherOrder, OtherOrdersUnknown, SentAlready, Note, Records, Ignored, OtherSessions, OtherKinds, reason_text}
use Rattle.bgp_json_verdicts.specs.Objects as objects
use Rattle.bgp_json_verdicts.specs.declared.telling.Counts.{Counts}
use Rattle.bgp_list.specs.ConnectionJson.{refused_json}
use Rattle.bgp_list.specs.Connections.{refused_text}
use Rattle.bgp_list.specs.Forms.{line_json}
use Rattle.bgp_list.specs.Lines.{LineValue, Octets, Refused as RefusedConnection, AllRefused, line_text}
use Rattle.bgp_list.specs.SessionJson.{session_json}
use Rattle.bgp_list.specs.Sessions as sessions
use Rattle.bgp_list.specs.Sessions.{session_line}
use Rattle.bgp_check_lines.specs.Values.{CheckValue, IsYes, IsNo, IsUnfinished, IsUnjudged, IsUnnamed, Explains, PassesOver, IsIncomplete, IsNotRead, InMadeOrder, OneOrder, AnotherOrder, AllOrders, IsLate, IsEnded, IsOpen, Repeats, Lists, HasSession, RefusesFile, RefusesCapture, IsCutShort, NothingAt, NoRecord, Counts as Counted, counted_with, if_some, objects_from, value_objects, value_text}
use Rattle.bgp_verdict_laws.specs.Laws.{IsReason}
use Rattle.bgp_verdict_laws.proofs.Lines.{line_reads as reason_line_reads}
use Rattle.bgp_list_laws.specs.Laws.{AreRecords}
use Rattle.bgp_list_laws.specs.Ranges.{IsLine as IsListed}
use Rattle.bgp_list_laws.proofs.Causes.{capture_cause_back}
use Rattle.bgp_list_laws.proofs.Lines.{line_reads as listed_reads, refused_text_back}
use Rattle.bgp_list_laws.proofs.Sessions.{session_reads}
use Rattle.bgp_check_laws.specs.Laws.{LinesAreDetermined, ObjectsAreDetermined}
use Rattle.bgp_check_laws.specs.Ranges.{IsLine, IsOfReason}
use Rattle.bgp_check_laws.proofs.Answers.{no_reads, unfinished_reads, unjudged_reads, unnamed_reads}
use Rattle.bgp_check_laws.proofs.Notes.{all_reads, another_reads, cut_reads, ended_reads, in_made_reads, incomplete_reads, late_reads, none_reads, not_read_reads, nothing_reads, one_reads, open_reads, passed_reads, repeat_reads, summary_reads}
use Rattle.bgp_check_laws.proofs.Reading.{group, own_text, text_in}
use Rattle.bgp_check_laws.proofs.Yes.{yes_reads}

-- ---- lines of a list, and what is refused

module _ (rest : List Json) where
  own_listed : (line : LineValue) → IsListed line → own_text (line_json line) rest ≡ line_text line
  unfolding own_text
  own_listed (Octets session opening outline first second) is = listed_reads (Octets session opening outline first second) is
  own_listed (RefusedConnection session opening refusal) is = listed_reads (RefusedConnection session opening refusal) is
  own_listed (AllRefused addresses refusal) is = listed_reads (AllRefused addresses refusal) is

  own_session : (addresses : Addresses) (named : List Located) → AreRecords named → own_text (session_json addresses named) rest ≡ session_line addresses named
  unfolding own_text
  own_session addresses named are = session_reads addresses named are

  own_refused : (refusal : Refusal) → own_text (refused_json refusal) rest ≡ refused_text refusal
  unfolding own_text
  own_refused refusal = refused_text_back refusal

  own_fault : (fault : CaptureFault) → own_text (capture_json fault) rest ≡ sessions.refused_text fault
  unfolding own_text sessions.refused_text
  own_fault fault =
      ap (λ (c : List ℕ). codes "refused at octet " ++ (decimal fault.offset ++ (codes ": " ++ (decimal (fault_number fault.kind) ++ (codes " " ++ (fault_name fault.kind ++ (codes ", "
      ++ (c ++ codes "\n"))))))))
      (capture_cause_back fault.kind)

-- ---- lines of a reason

abbrev reason_json : Counts → ReasonValue → Json
reason_json counts reason = objects.line_json counts (verdicts.Reasons reason)

own_reason : (counts : Counts) (reason : ReasonValue) (rest : List Json) → IsReason reason → own_text (reason_json counts reason) rest ≡ verdicts.line_text (verdicts.Reasons reason)
unfolding own_text
own_reason counts (TheRecord place local deed) rest is = reason_line_reads counts (verdicts.Reasons (TheRecord place local deed)) is
own_reason counts (TheMessage text) rest is = reason_line_reads counts (verdicts.Reasons (TheMessage text)) is
own_reason counts (TheData text) rest is = reason_line_reads counts (verdicts.Reasons (TheData text)) is
own_reason counts (IsUnfit why) rest is = reason_line_reads counts (verdicts.Reasons (IsUnfit why)) is
own_reason counts (AnotherAs number) rest is = reason_line_reads counts (verdicts.Reasons (AnotherAs number)) is
own_reason counts (TheState state since) rest is = reason_line_reads counts (verdicts.Reasons (TheState state since)) is
own_reason counts (LastReceived at name asked) rest is = reason_line_reads counts (verdicts.Reasons (LastReceived at name asked)) is
own_reason counts (Possible is_owed is_next is_first item but) rest is = reason_line_reads counts (verdicts.Reasons (Possible is_owed is_next is_first item but)) is
own_reason counts (InAnotherOrder item) rest is = reason_line_reads counts (verdicts.Reasons (InAnotherOrder item)) is
own_reason counts OtherOrdersUnknown rest is = reason_line_reads counts (verdicts.Reasons OtherOrdersUnknown) is
own_reason counts (SentAlready code subcode at) rest is = reason_line_reads counts (verdicts.Reasons (SentAlready code subcode at)) is
own_reason counts (Note text) rest is = reason_line_reads counts (verdicts.Reasons (Note text)) is
own_reason counts (Records received sent changes) rest is = reason_line_reads counts (verdicts.Reasons (Records received sent changes)) is
own_reason counts (Ignored count) rest is = reason_line_reads counts (verdicts.Reasons (Ignored count)) is
own_reason counts (OtherSessions count first) rest is = reason_line_reads counts (verdicts.Reasons (OtherSessions count first)) is
own_reason counts (OtherKinds count) rest is = reason_line_reads counts (verdicts.Reasons (OtherKinds count)) is

own_explained : (counts : Counts) (line : verdicts.LineValue) (rest : List Json) → IsOfReason line → own_text (objects.line_json counts line) rest ≡ verdicts.line_text line
own_explained counts (verdicts.Opens session opening) rest is = absurd is
own_explained counts (verdicts.Answers answer) rest is = absurd is
own_explained counts (verdicts.Ends state disabled) rest is = absurd is
own_explained counts (verdicts.HasRoute destination path) rest is = absurd is
own_explained counts (verdicts.Reasons reason) rest is = own_reason counts reason rest is.0
own_explained counts (verdicts.RefusesCapture fault) rest is = absurd is
own_explained counts (verdicts.Refuses refusal) rest is = absurd is

explained_reads : (counts : Counts) (lines : List verdicts.LineValue) (rest : List Json) → All IsOfReason lines
    → text_in (objects.objects_from counts lines ++ rest) ≡ flat_map verdicts.line_text lines ++ text_in rest
explained_reads counts [] rest are = refl
explained_reads counts (line ∷ lines) rest are =
    let next = objects.counted_with counts line in
    ap₂ ◌++◌ (own_explained next line (objects.objects_from next lines ++ rest) (All-head IsOfReason line lines are))
    (explained_reads next lines rest (All-tail IsOfReason line lines are))
    ∙ sym (append_assoc (verdicts.line_text line) (flat_map verdicts.line_text lines) (text_in rest))

-- ---- a line begins no group

reason_heads : (counts : Counts) (reason : ReasonValue) (rest : List Json) → group (reason_json counts reason ∷ rest) ≡ []
reason_heads counts (TheRecord place local deed) rest = refl
reason_heads counts (TheMessage text) rest = refl
reason_heads counts (TheData text) rest = refl
reason_heads counts (IsUnfit why) rest = refl
reason_heads counts (AnotherAs number) rest = refl
reason_heads counts (TheState state since) rest = refl
reason_heads counts (LastReceived at name asked) rest = refl
reason_heads counts (Possible is_owed is_next is_first item but) rest = refl
reason_heads counts (InAnotherOrder item) rest = refl
reason_heads counts OtherOrdersUnknown rest = refl
reason_heads counts (SentAlready code subcode at) rest = refl
reason_heads counts (Note text) rest = refl
reason_heads counts (Records received sent changes) rest = refl
reason_heads counts (Ignored count) rest = refl
reason_heads counts (OtherSessions count first) rest = refl
reason_heads counts (OtherKinds count) rest = refl

explained_heads : (counts : Counts) (lines : List verdicts.LineValue) (rest : List Json) → All IsOfReason lines → group rest ≡ []
    → group (objects.objects_from counts lines ++ rest) ≡ []
explained_heads counts [] rest are none = none
explained_heads counts (line ∷ lines) rest are none =
    let next = objects.counted_with counts line in
    of_line line (objects.objects_from next lines ++ rest) (All-head IsOfReason line lines are)
  where
    of_line : (line : verdicts.LineValue) (more : List Json) → IsOfReason line → group (objects.line_json (objects.counted_with counts line) line ∷ more) ≡ []
    of_line (verdicts.Opens session opening) more is = absurd is
    of_line (verdicts.Answers answer) more is = absurd is
    of_line (verdicts.Ends state disabled) more is = absurd is
    of_line (verdicts.HasRoute destination path) more is = absurd is
    of_line (verdicts.Reasons reason) more is = reason_heads counts reason more
    of_line (verdicts.RefusesCapture fault) more is = absurd is
    of_line (verdicts.Refuses refusal) more is = absurd is

if_heads : (count : ℕ) (json : Json) (rest : List Json) → ((more : List Json) → group (json ∷ more) ≡ []) → group rest ≡ [] → group (if_some count json ++ rest) ≡ []
if_heads count json rest head none = by (nat_lt 0 count) where
  by : (b : Bool) → group ((if b then json ∷ [] else []) ++ rest) ≡ []
  by true = head rest
  by false = none

listed_heads : (line : LineValue) (rest : List Json) → group (line_json line ∷ rest) ≡ []
listed_heads (Octets session opening outline first second) rest = refl
listed_heads (RefusedConnection session opening refusal) rest = refl
listed_heads (AllRefused addresses refusal) rest = refl

heads : (judged : ℕ) (line : CheckValue) (rest : List Json) → IsLine line → group rest ≡ [] → group (value_objects judged line ++ rest) ≡ []
heads judged (IsYes routes name peer reached ends) rest is none = refl
heads judged (IsNo place name deed) rest is none = refl
heads judged (IsUnfinished place name) rest is none = refl
heads judged (IsUnjudged name why) rest is none = refl
heads judged (IsUnnamed end part why) rest is none = refl
heads judged (Explains lines) rest is none = explained_heads (objects.counts_behind judged) lines rest is none
heads judged (PassesOver direction count) rest is none = if_heads count _ rest (λ more. refl) none
heads judged (IsIncomplete direction count) rest is none = if_heads count _ rest (λ more. refl) none
heads judged (IsNotRead direction at count is_refresh) rest is none = if_heads count _ rest (λ more. refl) none
heads judged (InMadeOrder first deed place) rest is none = refl
heads judged (OneOrder count) rest is none = refl
heads judged AnotherOrder rest is none = refl
heads judged AllOrders rest is none = refl
heads judged (IsLate within is_yes) rest is none = refl
heads judged (IsEnded first number micro by ended) rest is none = refl
heads judged IsOpen rest is none = refl
heads judged (Repeats options) rest is none = refl
heads judged (Lists line) rest is none = listed_heads line rest
heads judged (HasSession addresses named) rest is none = refl
heads judged (RefusesFile refusal) rest is none = refl
heads judged (RefusesCapture fault) rest is none = refl
heads judged (IsCutShort packet) rest is none = refl
heads judged (NothingAt port) rest is none = refl
heads judged NoRecord rest is none = refl
heads judged (Counted tally) rest is none = refl

-- ---- each line

one_object : (json : Json) (text : List ℕ) (rest : List Json) → own_text json rest ≡ text → text_in (json ∷ rest) ≡ text ++ text_in rest
one_object json text rest own = ap (λ (t : List ℕ). t ++ text_in rest) own

pub reads : (judged : ℕ) (line : CheckValue) (rest : List Json) → IsLine line → group rest ≡ [] → text_in (value_objects judged line ++ rest) ≡ value_text line ++ text_in rest
unfolding value_text
reads judged (IsYes routes name peer reached ends) rest is none = yes_reads judged routes name peer reached ends is.2 is.3 is.1 rest none
reads judged (IsNo place name deed) rest is none = one_object _ _ rest (no_reads judged rest place name deed is.0.2 is.2)
reads judged (IsUnfinished place name) rest is none = one_object _ _ rest (unfinished_reads judged rest place name is.0.2)
reads judged (IsUnjudged name why) rest is none = one_object _ _ rest (unjudged_reads judged rest name why)
reads judged (IsUnnamed end part why) rest is none = one_object _ _ rest (unnamed_reads judged rest end part why)
reads judged (Explains lines) rest is none = explained_reads (objects.counts_behind judged) lines rest is
reads judged (PassesOver direction count) rest is none = passed_reads judged rest direction count
reads judged (IsIncomplete direction count) rest is none = incomplete_reads judged rest direction count
reads judged (IsNotRead direction at count is_refresh) rest is none = not_read_reads judged rest direction at count is_refresh
reads judged (InMadeOrder first deed place) rest is none = one_object _ _ rest (in_made_reads judged rest first deed place is.0.2 is.1)
reads judged (OneOrder count) rest is none = one_object _ _ rest (one_reads judged rest count is)
reads judged AnotherOrder rest is none = one_object _ _ rest (another_reads judged rest)
reads judged AllOrders rest is none = one_object _ _ rest (all_reads judged rest)
reads judged (IsLate within is_yes) rest is none = one_object _ _ rest (late_reads judged rest within is_yes is)
reads judged (IsEnded first number micro by ended) rest is none = one_object _ _ rest (ended_reads judged rest first number micro by ended is.1 is.3)
reads judged IsOpen rest is none = one_object _ _ rest (open_reads judged rest)
reads judged (Repeats options) rest is none = one_object _ _ rest (repeat_reads judged rest options)
reads judged (Lists line) rest is none = one_object _ _ rest (own_listed rest line is)
reads judged (HasSession addresses named) rest is none = one_object _ _ rest (own_session rest addresses named is)
reads judged (RefusesFile refusal) rest is none = one_object _ _ rest (own_refused rest refusal)
reads judged (RefusesCapture fault) rest is none = one_object _ _ rest (own_fault rest fault)
reads judged (IsCutShort packet) rest is none = one_object _ _ rest (cut_reads rest packet is)
reads judged (NothingAt port) rest is none = one_object _ _ rest (nothing_reads rest port is)
reads judged NoRecord rest is none = one_object _ _ rest (none_reads rest)
reads judged (Counted tally) rest is none = one_object _ _ rest (summary_reads rest tally)

-- so lines with the same objects have one text
alone : (judged : ℕ) (line : CheckValue) → IsLine line → text_in (value_objects judged line) ≡ value_text line
alone judged line is =
    ap text_in (sym (append-nil (value_objects judged line))) ∙ reads judged line [] is refl ∙ append-nil (value_text line)

pub same_lines : LinesAreDetermined
same_lines judged also line other is too e = sym (alone judged line is) ∙ ap text_in e ∙ alone also other too

-- ---- all lines

all_heads : (judged : ℕ) (lines : List CheckValue) → All IsLine lines → group (objects_from judged lines) ≡ []
all_heads judged [] are = refl
all_heads judged (line ∷ lines) are =
    let next = counted_with judged line in
    heads next line (objects_from next lines) (All-head IsLine line lines are) (all_heads next lines (All-tail IsLine line lines are))

all_read : (judged : ℕ) (lines : List CheckValue) → All IsLine lines → text_in (objects_from judged lines) ≡ flat_map value_text lines
all_read judged [] are = refl
all_read judged (line ∷ lines) are =
    let next = counted_with judged line in
    let rest = objects_from next lines in
    let tail = All-tail IsLine line lines are in
    reads next line rest (All-head IsLine line lines are) (all_heads next lines tail) ∙ ap (λ (t : List ℕ). value_text line ++ t) (all_read next lines tail)

pub same_objects : ObjectsAreDetermined
same_objects lines others are too e = sym (all_read 0 lines are.each) ∙ ap text_in e ∙ all_read 0 others too.each
