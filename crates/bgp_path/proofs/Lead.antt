-- The front of a path that counts n: there is one, and the function gives it.
use Rattle.std.proofs.Common.{◌≡◌, ℕ, ◌+◌, ◌-◌, ◌<◌, ◌≤◌, List, [], ◌∷◌, ◌++◌, length, take, All, refl, sym, ap, subst, ◌∙◌, ◌↔◌, arith, inl, inr}
use Rattle.std.proofs.lemmas.Bool.{cases_lt, ne_eqb, lt-ltb, le-ltb}
use Rattle.std.proofs.lemmas.List.{length-take-le}
use Rattle.std.proofs.lemmas.List.Sums.{sum_by-append, sum_by-cons}
use Rattle.std.proofs.lemmas.List.Elements.{All-head, All-tail}
use Rattle.bgp_path.specs.declared.as_path.SegmentKind.{SegmentKind}
use Rattle.bgp_path.specs.declared.as_path.SegmentKind.TheVariants.{Set, Sequence}
use Rattle.bgp_path.specs.AsPath.{PathSegment, IsPathSegment, weight_of, weight, count_of, leading_part, merge_of, IsCut, IsLeadingPart}

weight_some_of : (kind : SegmentKind) (numbers : List ℕ) → 1 ≤ length numbers → 1 ≤ weight_of kind numbers
weight_some_of Set numbers some = omega arith
weight_some_of Sequence numbers some = some

weight_some : (s : PathSegment) → IsPathSegment s → 1 ≤ weight s
weight_some s h = weight_some_of s.kind s.numbers h.some

-- ---- the three cases of the function

lead_none : (path : List PathSegment) → leading_part path 0 ≡ []
lead_none [] = refl
lead_none (s ∷ others) = refl

lead_cut : (s : PathSegment) (others : List PathSegment) (n : ℕ) → 1 ≤ n → n < weight s
    → leading_part (s ∷ others) n ≡ record { kind = s.kind; numbers = take n s.numbers } ∷ []
lead_cut s others n some short = rw (ne_eqb n 0 (λ e. absurd (omega arith)), lt-ltb n (weight s) short) refl

lead_whole : (s : PathSegment) (others : List PathSegment) (n : ℕ) → 1 ≤ n → weight s ≤ n
    → leading_part (s ∷ others) n ≡ s ∷ leading_part others (n - weight s)
lead_whole s others n some long = rw (ne_eqb n 0 (λ e. absurd (omega arith)), le-ltb n (weight s) long) refl

-- ---- what is such a part is the function's

cut_only : (next cut : List PathSegment) (n : ℕ) → IsCut next cut → count_of cut ≡ n → cut ≡ leading_part next n
cut_only next cut n (inl none) count =
    let zero_is : n ≡ 0 = sym count ∙ ap count_of none in
    rw (none, zero_is) (sym (lead_none next))
cut_only next cut n (inr h) count =
    let numbers = h.0 in
    let k = h.2 in
    let piece : PathSegment = record { kind = Sequence; numbers = take k numbers } in
    let n_is : n ≡ k = omega (arith, sym count ∙ ap count_of h.6, sum_by-cons weight piece [], length-take-le k numbers (omega (arith, h.5))) in
    rw (h.6, h.3, n_is) (sym (lead_cut record { kind = Sequence; numbers = numbers } h.1 k h.4 h.5))

lead_only : (whole next cut : List PathSegment) (n : ℕ) → All IsPathSegment (whole ++ next) → IsCut next cut
    → count_of (whole ++ cut) ≡ n → whole ++ cut ≡ leading_part (whole ++ next) n
lead_only [] next cut n each last count = cut_only next cut n last count
lead_only (s ∷ whole) next cut n each last count =
    let some = weight_some s (All-head IsPathSegment s (whole ++ next) each) in
    let sum : weight s + count_of (whole ++ cut) ≡ n = sym (sum_by-cons weight s (whole ++ cut)) ∙ count in
    let left : n - weight s ≡ count_of (whole ++ cut) = omega arith in
    let more = lead_only whole next cut (count_of (whole ++ cut)) (All-tail IsPathSegment s (whole ++ next) each) last refl in
    rw (lead_whole s (whole ++ next) n (omega arith) (omega arith), left) (ap (λ (t : List PathSegment). s ∷ t) more)

-- ---- the function's is such a part

lead_is_cut : (kind : SegmentKind) (numbers : List ℕ) (others : List PathSegment) (n : ℕ) → 1 ≤ n → n < weight_of kind numbers
    → IsLeadingPart (record { kind = kind; numbers = numbers } ∷ others) n (record { kind = kind; numbers = take n numbers } ∷ [])
lead_is_cut Set numbers others n some short = absurd (omega arith)
lead_is_cut Sequence numbers others n some short =
    let piece : PathSegment = record { kind = Sequence; numbers = take n numbers } in
    record {
      whole = [];
      next = record { kind = Sequence; numbers = numbers } ∷ others;
      cut = piece ∷ [];
      front = refl;
      parts = refl;
      last = inr (numbers, others, n, refl, some, short, refl);
      count = omega (arith, sum_by-cons weight piece [], length-take-le n numbers (omega arith));
    }

lead_is : (path : List PathSegment) (n : ℕ) → All IsPathSegment path → n ≤ count_of path → IsLeadingPart path n (leading_part path n)
lead_is [] n each within = record { whole = []; next = []; cut = []; front = refl; parts = refl; last = inl refl; count = omega arith }
lead_is (s ∷ others) n each within = elim (cases_lt n 1) [
  | inl none ↦
      let zero_is : n ≡ 0 = omega arith in
      rw zero_is record { whole = []; next = s ∷ others; cut = []; front = refl; parts = refl; last = inl refl; count = refl }
  | inr some ↦ elim (cases_lt n (weight s)) [
    | inl short ↦
        subst (IsLeadingPart (s ∷ others) n) (sym (lead_cut s others n some short)) (lead_is_cut s.kind s.numbers others n some short)
    | inr long ↦
        let left = n - weight s in
        let more = lead_is others left (All-tail IsPathSegment s others each) (omega (arith, sum_by-cons weight s others)) in
        let part = leading_part others left in
        subst (IsLeadingPart (s ∷ others) n) (sym (lead_whole s others n some long)) record {
          whole = s ∷ more.whole;
          next = more.next;
          cut = more.cut;
          front = ap (λ (t : List PathSegment). s ∷ t) more.front;
          parts = ap (λ (t : List PathSegment). s ∷ t) more.parts;
          last = more.last;
          count = omega (arith, sum_by-cons weight s part, more.count);
        }
  ]
]

pub one_lead : (path part : List PathSegment) (n : ℕ) → All IsPathSegment path → n ≤ count_of path → IsLeadingPart path n part ↔ (part ≡ leading_part path n)
one_lead path part n each within = (
  λ h.
      let only = lead_only h.whole h.next h.cut n (subst (All IsPathSegment) h.front each) h.last (ap count_of (sym h.parts) ∙ h.count) in
      h.parts ∙ only ∙ ap (λ (p : List PathSegment). leading_part p n) (sym h.front),
  λ e. subst (IsLeadingPart path n) (sym e) (lead_is path n each within),
)

pub merged_count : (path as4 : List PathSegment) → All IsPathSegment path → count_of (merge_of path as4) ≡ count_of path
merged_count path as4 each = elim (cases_lt (count_of path) (count_of as4)) [
  | inl fewer ↦ rw (lt-ltb (count_of path) (count_of as4) fewer) refl
  | inr enough ↦
      let n = count_of path - count_of as4 in
      let lead = (lead_is path n each (omega arith)).count in
      rw (le-ltb (count_of path) (count_of as4) enough) (omega (arith, sum_by-append weight (leading_part path n) as4, lead))
]
