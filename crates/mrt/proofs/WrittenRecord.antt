-- A record that is written reads as what was to be written.
use Rattle.std.proofs.Common.{◌≡◌, ◌∙◌, ℕ, ◌+◌, ◌*◌, ◌<◌, ◌≤◌, ◌^◌, ◌≢◌, List, [], ◌++◌, length, drop, refl, sym, ap, subst, arith, inl, inr, Option, None, Some, ◌⊎◌}
use Rattle.byteorder.specs.Endian.{big_bytes, big_number}
use Rattle.byteorder.specs.Numbers.{big_number-reads_back}
use Rattle.bgp_prefix.specs.Shown.{ShownRecord, Received, Sent, Changed, second_of}
use Rattle.bgp_prefix.specs.Address.{family_of, IsAddress}
use Rattle.bgp_prefix.specs.declared.family.Family.{Family}
use Rattle.bgp_prefix.specs.declared.address.Address.{Address}
use Rattle.bgp_prefix.specs.declared.address.Address.TheVariants.{V4, V6}
use Rattle.bgp_prefix.specs.declared.session.Session.{Session}
use Rattle.bgp_prefix.specs.declared.session.RouteRefresh.TheVariants as refreshes
use Rattle.mrt.specs.declared.fault.FaultKind.TheVariants as kinds
use Rattle.mrt.specs.declared.layout.Form.{Form}
use Rattle.mrt.specs.declared.layout.Form.TheVariants as forms
use Rattle.mrt.specs.Layout.{Header, header_in, body_of, address_len, second_in, kind_in, subtype_in, count_in, form_of, afi_at, afi_in, local_at, content_at, address_in, peer_in, local_in, content_in, LacksFields, old_state_in, new_state_in, shown_in, IsState, IsBgp4mp}
use Rattle.mrt.specs.Rules.{Judgement, Holds, FirstSays, IsJudged, content_rules, OfSession, Refused, HasBadState, body_limit}
use Rattle.mrt.specs.Found.{place_with, IsJudgedBy}
use Rattle.mrt.specs.Written.{subtype_for, afi_for, address_octets, content_for, header_octets, number_octets, body_octets, record_octets, IsAllowed, IsWritable, FitsFields, AreStates}
use Rattle.mrt.specs.CaptureLaws.{ReadsBack}
use Rattle.mrt.specs.RefreshLaws.{IsRefresh}
use Rattle.mrt.proofs.WrittenBody.{length-body}
use Rattle.mrt.proofs.BodyLimit.{is_bounded}
use Rattle.mrt.proofs.Places.{header_front, body_front, whole_record, judged_piece, judged_record}

-- ---- the header

length-header : (second subtype count : ℕ) → length (header_octets second subtype count) ≡ 12
unfolding header_octets
length-header second subtype count = refl

abbrev header_with : ℕ → ℕ → ℕ → Header
header_with second subtype count = record { second = second; kind = 16; subtype = subtype; count = count }

header_written : (second subtype count : ℕ) → second < 2 ^ 32 → subtype < 2 ^ 16 → count < 2 ^ 32 → header_in (header_octets second subtype count) ≡ header_with second subtype count
unfolding header_octets second_in kind_in subtype_in count_in
header_written second subtype count s t c =
    let first = big_number-reads_back 4 second (big_bytes 2 16 ++ (big_bytes 2 subtype ++ big_bytes 4 count)) s in
    let third = big_number-reads_back 2 subtype (big_bytes 4 count) t in
    let fourth = big_number-reads_back 4 count [] c in
    λ i. record { second = first i; kind = 16; subtype = third i; count = fourth i }

-- ---- the fields, by family

-- what a body is read as
record Reads (header : Header) (body : List ℕ) (peer local : Address) (content : List ℕ) : Type 0 where
  there : ¬ LacksFields header body
  peer_is : peer_in header body ≡ peer
  local_is : local_in header body ≡ local
  content_is : content_in header body ≡ content

abbrev body4 : ℕ → ℕ → ℕ → ℕ → List ℕ → List ℕ
body4 peer_as local_as peer local content = number_octets peer_as local_as 1 ++ (big_bytes 4 peer ++ (big_bytes 4 local ++ content))

abbrev body6 : ℕ → ℕ → ℕ → ℕ → List ℕ → List ℕ
body6 peer_as local_as peer local content = number_octets peer_as local_as 2 ++ (big_bytes 16 peer ++ (big_bytes 16 local ++ content))

afi4 : (header : Header) (pa la p l : ℕ) (content : List ℕ) → afi_at header ≡ 10 → afi_in header (body4 pa la p l content) ≡ 1
unfolding afi_in number_octets
afi4 header pa la p l content at = subst (λ (n : ℕ). big_number 2 (drop n (body4 pa la p l content)) ≡ 1) (sym at) refl

afi6 : (header : Header) (pa la p l : ℕ) (content : List ℕ) → afi_at header ≡ 10 → afi_in header (body6 pa la p l content) ≡ 2
unfolding afi_in number_octets
afi6 header pa la p l content at = subst (λ (n : ℕ). big_number 2 (drop n (body6 pa la p l content)) ≡ 2) (sym at) refl

peer4 : (pa la p l : ℕ) (content : List ℕ) → p < 2 ^ 32 → address_in 1 (drop 12 (body4 pa la p l content)) ≡ V4 p
unfolding address_in number_octets
peer4 pa la p l content fits = ap (λ (n : ℕ). V4 n) (big_number-reads_back 4 p (big_bytes 4 l ++ content) fits)

local4 : (pa la p l : ℕ) (content : List ℕ) → l < 2 ^ 32 → address_in 1 (drop 16 (body4 pa la p l content)) ≡ V4 l
unfolding address_in number_octets
local4 pa la p l content fits = ap (λ (n : ℕ). V4 n) (big_number-reads_back 4 l content fits)

content4 : (pa la p l : ℕ) (content : List ℕ) → drop 20 (body4 pa la p l content) ≡ content
unfolding number_octets
content4 pa la p l content = refl

length4 : (pa la p l : ℕ) (content : List ℕ) → length (body4 pa la p l content) ≡ 20 + length content
unfolding number_octets
length4 pa la p l content = omega arith

peer6 : (pa la p l : ℕ) (content : List ℕ) → p < 2 ^ 128 → address_in 2 (drop 12 (body6 pa la p l content)) ≡ V6 p
unfolding address_in number_octets
peer6 pa la p l content fits = ap (λ (n : ℕ). V6 n) (big_number-reads_back 16 p (big_bytes 16 l ++ content) fits)

local6 : (pa la p l : ℕ) (content : List ℕ) → l < 2 ^ 128 → address_in 2 (drop 28 (body6 pa la p l content)) ≡ V6 l
unfolding address_in number_octets
local6 pa la p l content fits = ap (λ (n : ℕ). V6 n) (big_number-reads_back 16 l content fits)

content6 : (pa la p l : ℕ) (content : List ℕ) → drop 44 (body6 pa la p l content) ≡ content
unfolding number_octets
content6 pa la p l content = refl

length6 : (pa la p l : ℕ) (content : List ℕ) → length (body6 pa la p l content) ≡ 44 + length content
unfolding number_octets
length6 pa la p l content = omega arith

-- where the fields stand
reads_at : (header : Header) (body : List ℕ) (afi wide : ℕ) (peer local : Address) (content : List ℕ) → afi_at header ≡ 10 → afi_in header body ≡ afi
    → (afi ≡ 1) ⊎ (afi ≡ 2) → content_at header body ≡ 12 + 2 * wide → local_at header body ≡ 12 + wide → length body ≡ 12 + 2 * wide + length content
    → address_in afi (drop 12 body) ≡ peer → address_in afi (drop (12 + wide) body) ≡ local → drop (12 + 2 * wide) body ≡ content
    → Reads header body peer local content
reads_at header body afi wide peer local content at is known end begin len first second last = record {
  there = λ lacks. elim lacks [
    | inl short ↦ absurd (omega (arith, short))
    | inr others ↦ elim others [
      | inl unknown ↦ elim known [
        | inl one ↦ unknown.0 (is ∙ one)
        | inr two ↦ unknown.1 (is ∙ two)
      ]
      | inr short ↦ absurd (omega (arith, short))
    ]
  ];
  peer_is = ap (λ (a : ℕ). address_in a (drop (afi_at header + 2) body)) is ∙ ap (λ (n : ℕ). address_in afi (drop n body)) (let twelve : afi_at header + 2 ≡ 12 = omega arith in twelve) ∙ first;
  local_is = ap (λ (a : ℕ). address_in a (drop (local_at header body) body)) is ∙ ap (λ (n : ℕ). address_in afi (drop n body)) begin ∙ second;
  content_is = ap (λ (n : ℕ). drop n body) end ∙ last;
}

reads4 : (header : Header) (pa la p l : ℕ) (content : List ℕ) → afi_at header ≡ 10 → p < 2 ^ 32 → l < 2 ^ 32
    → Reads header (body4 pa la p l content) (V4 p) (V4 l) content
reads4 header pa la p l content at pf lf =
    let is = afi4 header pa la p l content at in
    reads_at header (body4 pa la p l content) 1 4 (V4 p) (V4 l) content at is (inl refl)
    (ap (λ (a : ℕ). afi_at header + 2 + 2 * address_len a) is ∙ omega arith)
    (ap (λ (a : ℕ). afi_at header + 2 + address_len a) is ∙ omega arith)
    (length4 pa la p l content) (peer4 pa la p l content pf) (local4 pa la p l content lf) (content4 pa la p l content)

reads6 : (header : Header) (pa la p l : ℕ) (content : List ℕ) → afi_at header ≡ 10 → p < 2 ^ 128 → l < 2 ^ 128
    → Reads header (body6 pa la p l content) (V6 p) (V6 l) content
reads6 header pa la p l content at pf lf =
    let is = afi6 header pa la p l content at in
    reads_at header (body6 pa la p l content) 2 16 (V6 p) (V6 l) content at is (inr refl)
    (ap (λ (a : ℕ). afi_at header + 2 + 2 * address_len a) is ∙ omega arith)
    (ap (λ (a : ℕ). afi_at header + 2 + address_len a) is ∙ omega arith)
    (length6 pa la p l content) (peer6 pa la p l content pf) (local6 pa la p l content lf) (content6 pa la p l content)

number_of : Family → ℕ
number_of Family.V4 = 0
number_of Family.V6 = 1

-- the body of a session whose addresses are of one family
reads_addresses : (header : Header) (pa la : ℕ) (peer local : Address) (content : List ℕ) → afi_at header ≡ 10 → family_of peer ≡ family_of local → IsAddress peer → IsAddress local
    → Reads header (number_octets pa la (afi_for peer) ++ (address_octets peer ++ (address_octets local ++ content))) peer local content
reads_addresses header pa la (V4 p) (V4 l) content at same pf lf = reads4 header pa la p l content at pf lf
reads_addresses header pa la (V4 p) (V6 l) content at same pf lf = absurd (cc)
reads_addresses header pa la (V6 p) (V4 l) content at same pf lf = absurd (cc)
reads_addresses header pa la (V6 p) (V6 l) content at same pf lf = reads6 header pa la p l content at pf lf

-- ---- the content

abbrev form_number : Option Form → ℕ
form_number None = 0
form_number (Some forms.Change) = 1
form_number (Some forms.Received) = 2
form_number (Some forms.Sent) = 3
form_number (Some forms.AddPath) = 4

apart : (n : ℕ) (one other : Option Form) → form_number one ≡ n → form_number other ≢ n → one ≡ other → ⊥
apart n one other is other_is same = other_is (sym (ap form_number same) ∙ is)

abbrev header_for : ShownRecord → ℕ → Header
header_for shown count = header_with (second_of shown) (subtype_for shown) count

old_written : (old new : ℕ) → old < 2 ^ 16 → old_state_in (big_bytes 2 old ++ big_bytes 2 new) ≡ old
unfolding old_state_in
old_written old new fits = big_number-reads_back 2 old (big_bytes 2 new) fits

new_written : (old new : ℕ) → new < 2 ^ 16 → new_state_in (big_bytes 2 old ++ big_bytes 2 new) ≡ new
unfolding new_state_in
new_written old new fits = big_number-reads_back 2 new [] fits

no_bad_state : (old new : ℕ) → old < 2 ^ 16 → new < 2 ^ 16 → IsState old → IsState new → ¬ HasBadState (big_bytes 2 old ++ big_bytes 2 new)
no_bad_state old new of nf known also bad = elim (bad.1) [
  | inl not_old ↦ not_old (subst IsState (sym (old_written old new of)) known)
  | inr not_new ↦ not_new (subst IsState (sym (new_written old new nf)) also)
]

allowed : (session : Session) (last : Option ℕ) (shown : ShownRecord) (body : List ℕ) (count : ℕ) → AreStates shown → IsAllowed session last shown
    → FirstSays (Holds session last (place_with (header_for shown count) body (content_for shown))) content_rules OfSession
allowed session last (Changed second old new) body count fits ok =
    let message : (Some forms.Change ≡ Some forms.Received) ⊎ (Some forms.Change ≡ Some forms.Sent) → ⊥ =
    (λ m. elim m [ inl e ↦ apart 1 (Some forms.Change) (Some forms.Received) refl (omega arith) e | inr e ↦ apart 1 (Some forms.Change) (Some forms.Sent) refl (omega arith) e ]) in
    inr (
      λ e. apart 1 (Some forms.Change) (Some forms.AddPath) refl (omega arith) e,
      inr (
        λ e. e.1 refl,
        inr (
          λ e. no_bad_state old new fits.0 fits.1 ok.0 ok.1 e.1,
          inr (λ e. message e.0, inr (λ e. message e.0, inr (λ e. message e.0, inr (λ e. message e.0, inr (ok.2, inl (tt, refl)))))),
        ),
      ),
    )
allowed session last (Received second octets) body count fits ok =
    let whole = ok.0.0 in
    inr (
      λ e. apart 2 (Some forms.Received) (Some forms.AddPath) refl (omega arith) e,
      inr (
        λ e. apart 2 (Some forms.Received) (Some forms.Change) refl (omega arith) e.0,
        inr (
          λ e. apart 2 (Some forms.Received) (Some forms.Change) refl (omega arith) e.0,
          inr (λ e. absurd (omega (arith, e.1)), inr (λ e. ok.0.1 e.2 e.1, inr (λ e. ok.0.2 e.2 e.1, inr (λ e. ok.0.3 e.1, inr (ok.1, inl (tt, refl)))))),
        ),
      ),
    )
allowed session last (Sent second octets) body count fits ok =
    let whole = ok.0.0 in
    inr (
      λ e. apart 3 (Some forms.Sent) (Some forms.AddPath) refl (omega arith) e,
      inr (
        λ e. apart 3 (Some forms.Sent) (Some forms.Change) refl (omega arith) e.0,
        inr (
          λ e. apart 3 (Some forms.Sent) (Some forms.Change) refl (omega arith) e.0,
          inr (λ e. absurd (omega (arith, e.1)), inr (λ e. ok.0.1 e.2 e.1, inr (λ e. ok.0.2 e.2 e.1, inr (λ e. ok.0.3 e.1, inr (ok.1, inl (tt, refl)))))),
        ),
      ),
    )

shows : (shown : ShownRecord) (count : ℕ) → AreStates shown → shown_in (header_for shown count) (content_for shown) ≡ shown
shows (Changed second old new) count fits =
    let first = old_written old new fits.0 in
    let other = new_written old new fits.1 in
    λ i. Changed second (first i) (other i)
shows (Received second octets) count fits = refl
shows (Sent second octets) count fits = refl

wide : (shown : ShownRecord) (count : ℕ) → afi_at (header_for shown count) ≡ 10
wide (Changed second old new) count = refl
wide (Received second octets) count = refl
wide (Sent second octets) count = refl

known_form : (shown : ShownRecord) → form_of (subtype_for shown) ≡ None → ⊥
known_form (Changed second old new) e = apart 1 (Some forms.Change) None refl (omega arith) e
known_form (Received second octets) e = apart 2 (Some forms.Received) None refl (omega arith) e
known_form (Sent second octets) e = apart 3 (Some forms.Sent) None refl (omega arith) e

small : (shown : ShownRecord) → subtype_for shown < 2 ^ 16
small (Changed second old new) = omega arith
small (Received second octets) = omega arith
small (Sent second octets) = omega arith

-- ---- the record

judged_body : (session : Session) (last : Option ℕ) (shown : ShownRecord) (judgement : Judgement) (header : Header) (body : List ℕ) → Reads header body session.peer session.local (content_for shown)
    → (form_of header.subtype ≡ None → ⊥)
    → FirstSays (Holds session last (place_with header body (content_for shown))) content_rules judgement → IsJudgedBy session last header body judgement
judged_body session last shown judgement header body reads known says =
    inr (
      known,
      inr (
        reads.there,
        inr (
          λ other. elim other [ inl peer ↦ peer reads.peer_is | inr local ↦ local reads.local_is ],
          subst (λ (o : List ℕ). FirstSays (Holds session last (place_with header body o)) content_rules judgement) (sym reads.content_is) says,
        ),
      ),
    )

-- the content of a record that is written is judged so
abbrev pub SaysOfContent : Session → Option ℕ → ShownRecord → Judgement → Type 0
SaysOfContent session last shown judgement =
    (body : List ℕ) (count : ℕ) → FirstSays (Holds session last (place_with (header_for shown count) body (content_for shown))) content_rules judgement

-- what a written record is: its header, its body and what is judged
record IsWrittenAs (session : Session) (pa la : ℕ) (shown : ShownRecord) (front body : List ℕ) : Type 0 where
  len : length front ≡ 12
  header : header_in front ≡ header_for shown (length body)
  count : length body ≡ (header_in front).count
  kind : IsBgp4mp (header_in front).kind
  short : (header_in front).count ≤ body_limit session
  reads : Reads (header_for shown (length body)) body session.peer session.local (content_for shown)

written_as : (session : Session) (pa la : ℕ) (shown : ShownRecord) → IsWritable session shown → FitsFields session shown
    → let body = body_octets session pa la shown in
    IsWrittenAs session pa la shown (header_octets (second_of shown) (subtype_for shown) (length body)) body
unfolding body_octets
written_as session pa la shown writable fits =
    let body = body_octets session pa la shown in
    let count = length body in
    let front = header_octets (second_of shown) (subtype_for shown) count in
    let short : count ≤ body_limit session = (let counted = length-body session pa la shown in omega (arith, writable.1)) in
    let header : header_in front ≡ header_for shown count = header_written (second_of shown) (subtype_for shown) count fits.second (small shown) (let bounded = is_bounded session in omega arith) in
    record {
      len = length-header (second_of shown) (subtype_for shown) count;
      header = header;
      count = ap (λ (h : Header). h.count) (sym header);
      kind = inl (ap (λ (h : Header). h.kind) header);
      short = subst (λ (h : Header). h.count ≤ body_limit session) (sym header) short;
      reads = reads_addresses (header_for shown count) pa la session.peer session.local (content_for shown) (wide shown count) writable.0 fits.peer fits.local;
    }

written_body : (session : Session) (pa la : ℕ) (last : Option ℕ) (shown : ShownRecord) (judgement : Judgement) (front body : List ℕ) → IsWrittenAs session pa la shown front body
    → SaysOfContent session last shown judgement → IsJudgedBy session last (header_in front) body judgement
written_body session pa la last shown judgement front body is says =
    subst (λ (h : Header). IsJudgedBy session last h body judgement) (sym is.header)
    (judged_body session last shown judgement (header_for shown (length body)) body is.reads (known_form shown) (says body (length body)))

-- a place where a record is written, whatever follows
pub judged_written : (session : Session) (pa la : ℕ) (last : Option ℕ) (shown : ShownRecord) (judgement : Judgement) (more : List ℕ) → IsWritable session shown → FitsFields session shown
    → SaysOfContent session last shown judgement → IsJudged session last (record_octets session pa la shown ++ more) judgement
judged_written session pa la last shown judgement more writable fits says =
    let body = body_octets session pa la shown in
    let front = header_octets (second_of shown) (subtype_for shown) (length body) in
    let is = written_as session pa la shown writable fits in
    judged_record session last judgement front body more is.len is.kind is.short is.count (written_body session pa la last shown judgement front body is says)

pub reads_back : ReadsBack
reads_back session pa la shown last writable fits ok =
    let body = body_octets session pa la shown in
    let count = length body in
    let front = header_octets (second_of shown) (subtype_for shown) count in
    let is = written_as session pa la shown writable fits in
    let head = header_front front body is.len in
    let rest = body_front front body is.len is.count in (
      record {
        whole = whole_record front body is.len is.count;
        judged = judged_piece session last OfSession front body is.len is.kind is.short is.count
            (written_body session pa la last shown OfSession front body is (λ b n. allowed session last shown b n fits.states ok));
      },
      ap (λ (h : Header). shown_in h (content_in h (body_of (front ++ body)))) (head ∙ is.header)
          ∙ ap (λ (b : List ℕ). shown_in (header_for shown count) (content_in (header_for shown count) b)) rest
          ∙ ap (λ (o : List ℕ). shown_in (header_for shown count) o) is.reads.content_is
          ∙ shows shown count fits.states,
    )

-- ---- a ROUTE-REFRESH that is refused

pub says_refused : (session : Session) (last : Option ℕ) (shown : ShownRecord) → session.refresh ≡ refreshes.Refused → IsRefresh shown
    → SaysOfContent session last shown (Refused kinds.RouteRefresh)
says_refused session last (Changed second old new) refused is body count = absurd is
says_refused session last (Received second octets) refused is body count =
    inr (
      λ e. apart 2 (Some forms.Received) (Some forms.AddPath) refl (omega arith) e,
      inr (
        λ e. apart 2 (Some forms.Received) (Some forms.Change) refl (omega arith) e.0,
        inr (
          λ e. apart 2 (Some forms.Received) (Some forms.Change) refl (omega arith) e.0,
          inr (λ e. absurd (omega (arith, e.1, is.0)), inl ((inl refl, is, refused), refl)),
        ),
      ),
    )
says_refused session last (Sent second octets) refused is body count =
    inr (
      λ e. apart 3 (Some forms.Sent) (Some forms.AddPath) refl (omega arith) e,
      inr (
        λ e. apart 3 (Some forms.Sent) (Some forms.Change) refl (omega arith) e.0,
        inr (
          λ e. apart 3 (Some forms.Sent) (Some forms.Change) refl (omega arith) e.0,
          inr (λ e. absurd (omega (arith, e.1, is.0)), inl ((inr refl, is, refused), refl)),
        ),
      ),
    )
