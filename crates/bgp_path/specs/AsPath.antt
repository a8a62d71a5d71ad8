-- AS paths (RFC 4271, 4.3 b), and how AS_PATH and AS4_PATH become one path (RFC 6793, 4.2.3).
use Rattle.std.specs.Prelude.{◌≡◌, ℕ, ◌-◌, ◌^◌, ◌<◌, ◌≤◌, ◌==◌, nat_lt, if◌then◌else◌, List, []}
use Rattle.std.specs.Prelude.{◌∷◌, ◌++◌, length, take, sum_by, All, ◌⊎◌, ◌↔◌}
use Rattle.bgp_path.specs.declared.as_path.SegmentKind.{SegmentKind}
use Rattle.bgp_path.specs.declared.as_path.SegmentKind.TheVariants.{Set, Sequence}

-- a path segment: a sequence or a set, and its AS numbers in wire order
pub record PathSegment : Type 0 where
  pub kind : SegmentKind
  pub numbers : List ℕ

-- it has 1 to 255 numbers, as many as its count octet can say, each of at most four octets
pub record IsPathSegment (s : PathSegment) : Type 0 where
  pub some : 1 ≤ length s.numbers
  pub room : length s.numbers ≤ 255
  pub fits : All (λ number. number < 2 ^ 32) s.numbers

-- each number of a sequence counts one, and a set counts one (RFC 4271, 9.1.2.2 a)
abbrev pub weight_of : SegmentKind → List ℕ → ℕ
weight_of Set numbers = 1
weight_of Sequence numbers = length numbers

abbrev pub weight : PathSegment → ℕ
weight s = weight_of s.kind s.numbers

-- how many AS numbers a path counts
abbrev pub count_of : List PathSegment → ℕ
count_of path = sum_by weight path

-- the front of the path that counts n: a set is taken whole, and a sequence may be cut
abbrev pub leading_part : List PathSegment → ℕ → List PathSegment
leading_part [] n = []
leading_part (s ∷ others) n =
    if n == 0 then []
    else (if nat_lt n (weight s)
    then record { kind = s.kind; numbers = take n s.numbers } ∷ []
    else s ∷ leading_part others (n - weight s))

-- the path of AS_PATH and AS4_PATH: an AS4_PATH that counts more is ignored, and else it follows as
-- much of the front of AS_PATH as it lacks (RFC 6793, 4.2.3)
abbrev pub merge_of : List PathSegment → List PathSegment → List PathSegment
merge_of path as4 =
    if nat_lt (count_of path) (count_of as4)
    then path
    else leading_part path (count_of path - count_of as4) ++ as4

-- `cut` is nothing, or some numbers, not all, from the front of the sequence that stands next
abbrev pub IsCut : List PathSegment → List PathSegment → Type 0
IsCut next cut =
    (cut ≡ [])
    ⊎ ((numbers : List ℕ) × (others : List PathSegment) × (k : ℕ)
    × (next ≡ record { kind = Sequence; numbers = numbers } ∷ others)
    × (1 ≤ k) × (k < length numbers)
    × (cut ≡ record { kind = Sequence; numbers = take k numbers } ∷ []))

-- a part is the front of a path, in which at most the last segment is cut, and counts n
pub record IsLeadingPart (path : List PathSegment) (n : ℕ) (part : List PathSegment) : Type 0 where
  pub whole : List PathSegment
  pub next : List PathSegment
  pub cut : List PathSegment
  pub front : path ≡ whole ++ next
  pub parts : part ≡ whole ++ cut
  pub last : IsCut next cut
  pub count : count_of part ≡ n

-- up to what a path counts there is one such part of each count
abbrev pub HasOneLeadingPart : Type 0
HasOneLeadingPart =
    (path part : List PathSegment) (n : ℕ) → All IsPathSegment path → n ≤ count_of path
    → IsLeadingPart path n part ↔ (part ≡ leading_part path n)

-- the merged path counts as many AS numbers as AS_PATH
abbrev pub MergeKeepsTheCount : Type 0
MergeKeepsTheCount =
    (path as4 : List PathSegment) → All IsPathSegment path
    → count_of (merge_of path as4) ≡ count_of path
