-- A record of a session, as it is judged.
use Rattle.std.proofs.Common.{◌≡◌, ◌∙◌, ◌↔◌, ◌⊎◌, ℕ, Bool, true, false, List, [], ◌∷◌, Option, None, Some, drop, refl, sym, ap, subst, inl, inr}
use Rattle.bgp_prefix.specs.Shown.{ShownRecord}
use Rattle.bgp_prefix.specs.declared.session.RouteRefresh.TheVariants as refreshes
use Rattle.bgp_prefix.specs.declared.session.Session.{Session}
use Rattle.mrt.specs.Capture.{shown_of}
use Rattle.mrt.specs.Found.{IsFound, IsJudgedBy, shown_as}
use Rattle.mrt.specs.Layout.{Header, body_of, content_in, form_of, header_of, shown_in}
use Rattle.mrt.specs.Rules.{FirstSays, Holds, Judgement, Rule, judgement_of, place_of, record_rules}
use Rattle.mrt.specs.Rules as rules
use Rattle.mrt.specs.declared.judging.Found.{Found}
use Rattle.mrt.specs.declared.layout.Form.{Form}
use Rattle.mrt.specs.declared.layout.Form.TheVariants as forms
use Rattle.mrt_sessions.specs.declared.addresses.Addresses.{Addresses}
use Rattle.mrt_sessions.specs.declared.lengths.ExtendedMessages.{ExtendedMessages}
use Rattle.mrt_sessions.specs.Reading.{IsJudgedHere, may_be_extended}
use Rattle.mrt_sessions.specs.ReadsAs.{IsJudgedOf}

abbrev pub session_with : Addresses → Bool → Session
session_with addresses extended = record { peer = addresses.peer; local = addresses.local; refresh = refreshes.NotOffered; extended = extended }

-- ---- of any session

as_place : (session : Session) (last : Option ℕ) (octets : List ℕ) (judgement : Judgement) → IsJudgedBy session last (header_of octets) (body_of octets) judgement
    → IsJudgedOf session last octets judgement
as_place session last octets judgement says = says

pub judged_of : (session : Session) (last : Option ℕ) (octets : List ℕ) (judgement : Judgement) (header : Header) (body : List ℕ)
    → header ≡ header_of octets → body ≡ body_of octets → IsJudgedBy session last header body judgement → IsJudgedOf session last octets judgement
judged_of session last octets judgement header body same its says =
    as_place session last octets judgement
    (subst (λ (h : Header). IsJudgedBy session last h (body_of octets) judgement) same
    (subst (λ (o : List ℕ). IsJudgedBy session last header o judgement) its says))

pub shows_here : (octets : List ℕ) (header : Header) (body : List ℕ) (found : Found) (shown : ShownRecord) → header ≡ header_of octets → body ≡ body_of octets
    → IsFound header body found → shown ≡ shown_as found.second found.shows (drop found.content_at body) → shown ≡ shown_of octets
shows_here octets header body found shown same its is shows =
    shows
    ∙ ap (λ (n : ℕ). shown_as n found.shows (drop found.content_at body)) is.second
    ∙ ap (λ (n : ℕ). shown_as header.second found.shows (drop n body)) is.content_at
    ∙ is.shown
    ∙ ap (λ (h : Header). shown_in h (content_in h body)) same
    ∙ ap (λ (b : List ℕ). shown_in (header_of octets) (content_in (header_of octets) b)) its

-- of the rules that hold one is the first
one_first : (H : Rule → Type 0) (list : List Rule) (judgement other : Judgement) → FirstSays H list judgement → FirstSays H list other → judgement ≡ other
one_first H [] judgement other says also = absurd says
one_first H (rule ∷ later) judgement other (inl here) (inl there) = here.1 ∙ sym there.1
one_first H (rule ∷ later) judgement other (inl here) (inr there) = absurd (there.0 here.0)
one_first H (rule ∷ later) judgement other (inr here) (inl there) = absurd (here.0 there.0)
one_first H (rule ∷ later) judgement other (inr here) (inr there) = one_first H later judgement other here.1 there.1

pub one_judgement : (session : Session) (last : Option ℕ) (octets : List ℕ) (judgement other : Judgement) → IsJudgedOf session last octets judgement
    → IsJudgedOf session last octets other → judgement ≡ other
one_judgement session last octets judgement other says also = one_first (Holds session last (place_of octets)) record_rules judgement other says also

-- one of the rules says it
pub which_says : (H : Rule → Type 0) (list : List Rule) (judgement : Judgement) → FirstSays H list judgement → (rule : Rule) × H rule × (judgement ≡ judgement_of rule)
which_says H [] judgement says = absurd says
which_says H (rule ∷ later) judgement (inl here) = (rule, here.0, here.1)
which_says H (rule ∷ later) judgement (inr there) = which_says H later judgement there.1

-- ---- by the limit of its direction

pub judged_here : (addresses : Addresses) (extended : ExtendedMessages) (last : Option ℕ) (octets : List ℕ) (judgement : Judgement) (header : Header) (long : Bool)
    → header ≡ header_of octets → long ≡ may_be_extended extended (form_of header.subtype)
    → IsJudgedOf (session_with addresses long) last octets judgement → IsJudgedHere addresses extended last octets judgement
judged_here addresses extended last octets judgement header long same is says =
    let limit : long ≡ may_be_extended extended (form_of (header_of octets).subtype) = is ∙ ap (λ (h : Header). may_be_extended extended (form_of h.subtype)) same in
    subst (λ (b : Bool). IsJudgedOf (session_with addresses b) last octets judgement) limit says

-- ---- as a session all of whose messages may be extended ones

abbrev AllAlike : (Rule → Type 0) → (Rule → Type 0) → List Rule → Type 0
AllAlike H K [] = Unit {0}
AllAlike H K (rule ∷ later) = (H rule ↔ K rule) × AllAlike H K later

-- where each rule holds of both alike, both say the same
says_alike : (H K : Rule → Type 0) (list : List Rule) (judgement : Judgement) → AllAlike H K list → FirstSays H list judgement → FirstSays K list judgement
says_alike H K [] judgement alike says = says
says_alike H K (rule ∷ later) judgement alike (inl here) = inl (alike.0.0 here.0, here.1)
says_alike H K (rule ∷ later) judgement alike (inr there) = inr ((λ k. there.0 (alike.0.1 k)), says_alike H K later judgement alike.1 there.1)

both : {X : Type 0} → X ↔ X
both = ((λ x. x), (λ x. x))

-- of what is no message the limit of messages isn't asked
not_asked : (addresses : Addresses) (last : Option ℕ) (octets : List ℕ) (judgement : Judgement) → (rules.IsMessage (place_of octets) → ⊥)
    → IsJudgedOf (session_with addresses false) last octets judgement → IsJudgedOf (session_with addresses true) last octets judgement
not_asked addresses last octets judgement none says =
    says_alike (Holds (session_with addresses false) last (place_of octets)) (Holds (session_with addresses true) last (place_of octets)) record_rules judgement
    (both, (both, (both, (both, (both, (both, (both, (both, (both, (((λ other. absurd (none other.0)), (λ other. absurd (none other.0))), (both, (both, tt)))))))))))) says

abbrev all : ExtendedMessages
all = record { received = true; sent = true }

no_message : (o : Option Form) → may_be_extended all o ≡ false → (o ≡ Some forms.Received) ⊎ (o ≡ Some forms.Sent) → ⊥
no_message None is (inl e) = cc
no_message None is (inr e) = cc
no_message (Some forms.Change) is (inl e) = cc
no_message (Some forms.Change) is (inr e) = cc
no_message (Some forms.Received) is e = cc
no_message (Some forms.Sent) is e = cc
no_message (Some forms.AddPath) is (inl e) = cc
no_message (Some forms.AddPath) is (inr e) = cc

by_limit : (addresses : Addresses) (last : Option ℕ) (octets : List ℕ) (judgement : Judgement) (long : Bool) → may_be_extended all (form_of (header_of octets).subtype) ≡ long
    → IsJudgedOf (session_with addresses long) last octets judgement → IsJudgedOf (session_with addresses true) last octets judgement
by_limit addresses last octets judgement true is says = says
by_limit addresses last octets judgement false is says = not_asked addresses last octets judgement (no_message (form_of (header_of octets).subtype) is) says

pub as_extended : (addresses : Addresses) (last : Option ℕ) (octets : List ℕ) (judgement : Judgement) → IsJudgedHere addresses all last octets judgement
    → IsJudgedOf (session_with addresses true) last octets judgement
as_extended addresses last octets judgement says = by_limit addresses last octets judgement (may_be_extended all (form_of (header_of octets).subtype)) refl says
