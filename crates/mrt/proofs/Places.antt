-- How a place of a capture is judged of which a front is known.
use Rattle.std.proofs.Common.{◌≡◌, ◌∙◌, ℕ, ◌+◌, ◌<◌, ◌≤◌, List, [], ◌++◌, length, take, drop, refl, sym, ap, subst, arith, inl, inr, append_assoc, append-nil, length-append, Bool, IsTrue, Option}
use Rattle.std.proofs.Math.Seq.{take-append_seam, drop-append_seam}
use Rattle.bgp_prefix.specs.declared.session.Session.{Session}
use Rattle.mrt.specs.declared.fault.FaultKind.TheVariants as kinds
use Rattle.mrt.specs.declared.judging.Found.{Found}
use Rattle.mrt.specs.Layout.{Header, header_in, header_of, body_of, content_in, IsRecord, IsBgp4mp}
use Rattle.mrt.specs.Rules.{Judgement, Holds, FirstSays, rules, IsJudged, Skipped, Refused, body_limit}
use Rattle.mrt.specs.Capture.{IsBegun}
use Rattle.mrt.specs.Found.{IsJudgedBy, IsFound, shown_as}
use Rattle.mrt.specs.Reading.{IsFoundIn, IsRefused}

take_front : (front rest : List ℕ) → length front ≡ 12 → take 12 (front ++ rest) ≡ front
take_front front rest len = ap (λ (n : ℕ). take n (front ++ rest)) (sym len) ∙ take-append_seam front rest

drop_front : (front rest : List ℕ) → length front ≡ 12 → drop 12 (front ++ rest) ≡ rest
drop_front front rest len = ap (λ (n : ℕ). drop n (front ++ rest)) (sym len) ∙ drop-append_seam front rest

pub header_front : (front rest : List ℕ) → length front ≡ 12 → header_of (front ++ rest) ≡ header_in front
header_front front rest len = ap header_in (take_front front rest len)

take_all_of : (body more : List ℕ) (n : ℕ) → length body ≡ n → take n (body ++ more) ≡ body
take_all_of body more n len = ap (λ (k : ℕ). take k (body ++ more)) (sym len) ∙ take-append_seam body more

body_behind : (front body more : List ℕ) → length front ≡ 12 → length body ≡ (header_in front).count
    → body_of (front ++ (body ++ more)) ≡ body
body_behind front body more len count =
    ap (λ (rest : List ℕ). take (header_of (front ++ (body ++ more))).count rest) (drop_front front (body ++ more) len)
    ∙ take_all_of body more (header_of (front ++ (body ++ more))).count
    (count ∙ ap (λ (h : Header). h.count) (sym (header_front front (body ++ more) len)))

pub body_front : (front body : List ℕ) → length front ≡ 12 → length body ≡ (header_in front).count → body_of (front ++ body) ≡ body
body_front front body len count =
    ap (λ (rest : List ℕ). body_of (front ++ rest)) (sym (append-nil body)) ∙ body_behind front body [] len count

with_header : (session : Session) (last : Option ℕ) (judgement : Judgement) (front rest : List ℕ) → length front ≡ 12
    → (let body = body_of (front ++ rest) in
    FirstSays (Holds session last (record { left = length (front ++ rest); header = header_in front; body = body; content = content_in (header_in front) body }))
    rules judgement)
    → IsJudged session last (front ++ rest) judgement
with_header session last judgement front rest len judged =
    subst (λ (h : Header). let body = body_of (front ++ rest) in
    FirstSays (Holds session last (record { left = length (front ++ rest); header = h; body = body; content = content_in h body }))
    rules judgement)
    (sym (header_front front rest len)) judged

-- a whole record of type BGP4MP, with whatever stands behind it
pub judged_record : (session : Session) (last : Option ℕ) (judgement : Judgement) (front body more : List ℕ)
    → length front ≡ 12 → IsBgp4mp (header_in front).kind → (header_in front).count ≤ body_limit session
    → length body ≡ (header_in front).count → IsJudgedBy session last (header_in front) body judgement
    → IsJudged session last ((front ++ body) ++ more) judgement
judged_record session last judgement front body more len kind count whole judged =
    rw (append_assoc front body more) (with_header session last judgement front (body ++ more) len
    (let behind = body_behind front body more len whole in
    let many : length (front ++ (body ++ more)) ≡ 12 + (length body + length more) =
    length-append front (body ++ more) ∙ ap (λ (n : ℕ). n + length (body ++ more)) len ∙ ap (λ (n : ℕ). 12 + n) (length-append body more) in
    subst (λ (b : List ℕ).
    FirstSays (Holds session last (record { left = length (front ++ (body ++ more)); header = header_in front; body = b; content = content_in (header_in front) b }))
    rules judgement)
    (sym behind)
    (inr (
      λ none. absurd (omega arith),
      inr (
        λ cut. absurd (omega arith),
        inr (
          λ other. other.0 kind,
          inr (
            λ other. other kind,
            inr (λ long. absurd (omega arith), inr (λ cut. absurd (omega arith), judged)),
          ),
        ),
      ),
    ))))

pub judged_piece : (session : Session) (last : Option ℕ) (judgement : Judgement) (front body : List ℕ)
    → length front ≡ 12 → IsBgp4mp (header_in front).kind → (header_in front).count ≤ body_limit session
    → length body ≡ (header_in front).count → IsJudgedBy session last (header_in front) body judgement
    → IsJudged session last (front ++ body) judgement
judged_piece session last judgement front body len kind count whole judged =
    subst (λ (o : List ℕ). IsJudged session last o judgement) (append-nil (front ++ body))
    (judged_record session last judgement front body [] len kind count whole judged)

pub whole_record : (front body : List ℕ) → length front ≡ 12 → length body ≡ (header_in front).count → IsRecord (front ++ body)
whole_record front body len whole =
    let many = length-append front body in
    let count = ap (λ (h : Header). h.count) (header_front front body len) in
    record { header = omega arith; whole = omega arith }

pub other_type : (session : Session) (last : Option ℕ) (front body : List ℕ) → length front ≡ 12 → (¬ IsBgp4mp (header_in front).kind)
    → length body ≡ (header_in front).count → IsJudged session last (front ++ body) Skipped
other_type session last front body len kind whole =
    let many = length-append front body in
    with_header session last Skipped front body len
    (inr (λ none. absurd (omega arith), inr (λ cut. absurd (omega arith), inr (λ other. absurd (omega (arith, other.1)), inl (kind, refl)))))

pub cut_other : (session : Session) (last : Option ℕ) (front body : List ℕ) → length front ≡ 12 → (¬ IsBgp4mp (header_in front).kind)
    → length body < (header_in front).count → IsJudged session last (front ++ body) (Refused kinds.Truncated)
cut_other session last front body len kind cut =
    let many = length-append front body in
    with_header session last (Refused kinds.Truncated) front body len
    (inr (λ none. absurd (omega arith), inr (λ short. absurd (omega arith), inl ((kind, omega arith), refl))))

pub cut_body : (session : Session) (last : Option ℕ) (front body : List ℕ) → length front ≡ 12 → IsBgp4mp (header_in front).kind
    → (header_in front).count ≤ body_limit session → length body < (header_in front).count → IsJudged session last (front ++ body) (Refused kinds.Truncated)
cut_body session last front body len kind count cut =
    let many = length-append front body in
    with_header session last (Refused kinds.Truncated) front body len
    (inr (
      λ none. absurd (omega arith),
      inr (
        λ short. absurd (omega arith),
        inr (
          λ other. other.0 kind,
          inr (
            λ other. other kind,
            inr (λ long. absurd (omega arith), inl (omega arith, refl)),
          ),
        ),
      ),
    ))

pub long_body : (session : Session) (last : Option ℕ) (front more : List ℕ) → length front ≡ 12 → IsBgp4mp (header_in front).kind
    → body_limit session < (header_in front).count → IsJudged session last (front ++ more) (Refused kinds.TooLong)
long_body session last front more len kind long =
    let many = length-append front more in
    with_header session last (Refused kinds.TooLong) front more len
    (inr (λ none. absurd (omega arith), inr (λ short. absurd (omega arith), inr (λ other. other.0 kind, inr (λ other. other kind, inl (long, refl))))))

pub cut_header : (session : Session) (last : Option ℕ) (front : List ℕ) → 0 < length front → length front < 12
    → IsJudged session last front (Refused kinds.Truncated)
cut_header session last front some short = inr (λ none. absurd (omega arith), inl (short, refl))

-- a record that has begun: of another type, and of a body that isn't too long
pub begun_other : (session : Session) (front body : List ℕ) → length front ≡ 12 → (¬ IsBgp4mp (header_in front).kind) → length body < (header_in front).count
    → IsBegun session (front ++ body)
begun_other session front body len kind cut =
    let same = header_front front body len in
    let count = ap (λ (h : Header). h.count) same in
    let many = length-append front body in
    inr (omega arith, λ long. kind (subst (λ (h : Header). IsBgp4mp h.kind) same long.0))

pub begun_body : (session : Session) (front body : List ℕ) → length front ≡ 12 → (header_in front).count ≤ body_limit session
    → length body < (header_in front).count → IsBegun session (front ++ body)
begun_body session front body len fits cut =
    let same = header_front front body len in
    let count = ap (λ (h : Header). h.count) same in
    let many = length-append front body in
    inr (omega arith, λ long. absurd (omega (arith, long.1)))

-- what is refused where nothing follows is refused where the source has ended
pub refused_at_end : (session : Session) (last : Option ℕ) (octets : List ℕ) (ended : Bool) → IsTrue ended
    → IsJudged session last octets (Refused kinds.Truncated) → IsRefused session last octets ended kinds.Truncated
refused_at_end session last octets ended is judged more none =
    subst (λ (o : List ℕ). IsJudged session last o (Refused kinds.Truncated)) (sym (ap (λ (m : List ℕ). octets ++ m) (none is) ∙ append-nil octets)) judged

-- what was found of a body was found of the record
pub found_as : (header also : Header) (body whole : List ℕ) (found : Found) → also ≡ header → whole ≡ body → IsFound header body found → IsFound also whole found
found_as header also body whole found same held is =
    subst (λ (h : Header). IsFound h whole found) (sym same) (subst (λ (b : List ℕ). IsFound header b found) (sym held) is)

pub found_in : (front body buffer : List ℕ) (found : Found) → length front ≡ 12 → length body ≡ (header_in front).count
    → found.count ≤ length buffer → take found.count buffer ≡ body → IsFound (header_in front) body found → IsFoundIn (front ++ body) buffer found
found_in front body buffer found len whole fits held is =
    let behind = body_front front body len whole in
    let there = found_as _ _ _ _ found (header_front front body len) behind is in
    let many = length-append front body in record {
      count = omega (arith, is.count);
      fits = fits;
      body = held ∙ sym behind;
      content_at = there.content_at;
      within = omega (arith, is.count, is.within);
      second = there.second;
      micro = there.micro;
      shown = ap (λ (n : ℕ). shown_as n found.shows (content_in (header_of (front ++ body)) (body_of (front ++ body)))) there.second ∙ there.shown;
    }
