-- Octets split in one way into triplets and a rest that is cut short, and that is how they are read.
use Rattle.std.proofs.Common.{◌≡◌, ◌↔◌, ◌∙◌, ℕ, zero, suc, ◌<◌, ◌≤◌, List, [], ◌∷◌, ◌++◌, length, take, drop, slice_index}
use Rattle.std.proofs.Common.{refl, sym, ap, subst, arith, append_assoc, append-nil, length-append, length-drop, inl, inr}
use Rattle.std.proofs.lemmas.Bool.{le-leb, lt-leb, cases_lt}
use Rattle.std.proofs.lemmas.List.{length-take-le, take-append-drop}
use Rattle.std.proofs.Math.Seq.{take-append_seam, drop-append_seam}
use Rattle.std.specs.Prelude.{nat_le, if◌then◌else◌}
use Rattle.bgp_open.specs.Triplet.{Triplet, triplet_octets, triplets_octets, IsCutTriplet, IsWhole, triplets_in, triplets_of}

-- any bound does that is no less than the count of octets
enough : (f g : ℕ) (octets : List ℕ) → length octets ≤ f → length octets ≤ g
    → triplets_in f octets ≡ triplets_in g octets
enough zero zero octets m n = refl
enough zero (suc g) [] m n = refl
enough zero (suc g) (code ∷ rest) m n = absurd (omega arith)
enough (suc f) zero [] m n = refl
enough (suc f) zero (code ∷ rest) m n = absurd (omega arith)
enough (suc f) (suc g) [] m n = refl
enough (suc f) (suc g) (code ∷ []) m n = refl
enough (suc f) (suc g) (code ∷ count ∷ rest) m n =
    let short : length (drop count rest) ≤ length rest = omega (arith, length-drop count rest) in
    let same = enough f g (drop count rest) (omega arith) (omega arith) in
    ap (λ (ts : List Triplet). if nat_le count (length rest) then (record { code = code; value = take count rest }) ∷ ts else []) same

-- a whole triplet at the front is read, and then what stands behind it
pub triplets_of-whole : (code count : ℕ) (rest : List ℕ) → count ≤ length rest
    → triplets_of (code ∷ count ∷ rest) ≡ record { code = code; value = take count rest } ∷ triplets_of (drop count rest)
unfolding triplets_of
triplets_of-whole code count rest whole =
    let short : length (drop count rest) ≤ length rest = omega (arith, length-drop count rest) in
    let same = enough (suc (length rest)) (length (drop count rest)) (drop count rest) (omega arith) (omega arith) in
    rw (le-leb count (length rest) whole) (ap (λ (ts : List Triplet). record { code = code; value = take count rest } ∷ ts) same)

-- nothing is read of what is cut short
pub triplets_of-cut : (octets : List ℕ) → IsCutTriplet octets → triplets_of octets ≡ []
unfolding triplets_of
triplets_of-cut [] cut = refl
triplets_of-cut (code ∷ []) cut = refl
triplets_of-cut (code ∷ count ∷ rest) cut = rw (lt-leb count (length rest) cut) refl

-- the same by places
pub read_front : (octets : List ℕ) → 2 ≤ length octets → slice_index octets 1 ≤ length (drop 2 octets)
    → triplets_of octets ≡ record { code = slice_index octets 0; value = take (slice_index octets 1) (drop 2 octets) } ∷ triplets_of (drop (slice_index octets 1) (drop 2 octets))
read_front [] long whole = absurd (omega arith)
read_front (code ∷ []) long whole = absurd (omega arith)
read_front (code ∷ count ∷ rest) long whole = triplets_of-whole code count rest whole

pub spelled_front : (octets : List ℕ) → 2 ≤ length octets → slice_index octets 1 ≤ length (drop 2 octets)
    → octets ≡ triplet_octets (record { code = slice_index octets 0; value = take (slice_index octets 1) (drop 2 octets) }) ++ drop (slice_index octets 1) (drop 2 octets)
spelled_front [] long whole = absurd (omega arith)
spelled_front (code ∷ []) long whole = absurd (omega arith)
spelled_front (code ∷ count ∷ rest) long whole =
    rw (length-take-le count rest whole) (ap (λ (xs : List ℕ). code ∷ count ∷ xs) (sym (take-append-drop count rest)))

pub read_short : (octets : List ℕ) → length octets < 2 → triplets_of octets ≡ []
unfolding triplets_of
read_short [] short = refl
read_short (code ∷ []) short = refl
read_short (code ∷ count ∷ rest) short = absurd (omega arith)

pub read_cut : (octets : List ℕ) → 2 ≤ length octets → length (drop 2 octets) < slice_index octets 1 → triplets_of octets ≡ []
read_cut [] long cut = absurd (omega arith)
read_cut (code ∷ []) long cut = absurd (omega arith)
read_cut (code ∷ count ∷ rest) long cut = triplets_of-cut (code ∷ count ∷ rest) cut

pub triplets_of_nothing : triplets_of [] ≡ []
unfolding triplets_of
triplets_of_nothing = refl

-- what stands behind a first list is the same if the whole is
same_behind : (xs ys zs : List ℕ) → xs ++ ys ≡ xs ++ zs → ys ≡ zs
same_behind xs ys zs same =
    sym (drop-append_seam xs ys) ∙ ap (λ (us : List ℕ). drop (length xs) us) same ∙ drop-append_seam xs zs

-- octets are whole exactly where what stands behind their first triplet is
pub whole_behind : (triplet : Triplet) (octets behind : List ℕ) → triplets_of octets ≡ triplet ∷ triplets_of behind
    → octets ≡ triplet_octets triplet ++ behind → (IsWhole behind ↔ IsWhole octets)
whole_behind triplet octets behind read front = (
  λ whole. rw read (ap (λ (us : List ℕ). triplet_octets triplet ++ us) whole ∙ sym front),
  λ whole. same_behind (triplet_octets triplet) (triplets_octets (triplets_of behind)) behind ((rw read at whole) ∙ front),
)

-- what octets hold is their triplets and then what is cut short
reads_in : (most : ℕ) (octets : List ℕ) → length octets ≤ most
    → (cut : List ℕ) × (octets ≡ triplets_octets (triplets_of octets) ++ cut) × IsCutTriplet cut
reads_in most [] within = ([], rw triplets_of_nothing refl, tt)
reads_in most (code ∷ []) within = (code ∷ [], rw (triplets_of-cut (code ∷ []) tt) refl, tt)
reads_in zero (code ∷ count ∷ rest) within = absurd (omega arith)
reads_in (suc most) (code ∷ count ∷ rest) within = elim (cases_lt (length rest) count) [
  | inl cut ↦ (code ∷ count ∷ rest, rw (triplets_of-cut (code ∷ count ∷ rest) cut) refl, cut)
  | inr whole ↦
      let short : length (drop count rest) ≤ most = omega (arith, length-drop count rest) in
      let behind = reads_in most (drop count rest) short in
      let front = spelled_front (code ∷ count ∷ rest) (omega arith) whole in
      let triplet : Triplet = record { code = code; value = take count rest } in
      (behind.0, front ∙ ap (λ (us : List ℕ). triplet_octets triplet ++ us) behind.1 ∙ sym (append_assoc (triplet_octets triplet) (triplets_octets (triplets_of (drop count rest))) behind.0) ∙ sym (ap (λ (ts : List Triplet). triplets_octets ts ++ behind.0) (triplets_of-whole code count rest whole)), behind.2)
]

pub reads : (octets : List ℕ) → (cut : List ℕ) × (octets ≡ triplets_octets (triplets_of octets) ++ cut) × IsCutTriplet cut
reads octets = reads_in (length octets) octets (omega arith)

-- two lists of one length, each before a rest
same_parts : (xs ys us vs : List ℕ) → length xs ≡ length ys → xs ++ us ≡ ys ++ vs → (xs ≡ ys) × (us ≡ vs)
same_parts xs ys us vs count same =
    let front = ap (λ (ws : List ℕ). take (length xs) ws) same in
    let back = ap (λ (ws : List ℕ). drop (length xs) ws) same in (
      sym (take-append_seam xs us) ∙ front ∙ rw count (take-append_seam ys vs),
      sym (drop-append_seam xs us) ∙ back ∙ rw count (drop-append_seam ys vs),
    )

same_triplet : (triplet other : Triplet) → triplet.code ≡ other.code → triplet.value ≡ other.value → triplet ≡ other
same_triplet triplet other code value =
    ap (λ (n : ℕ). let t : Triplet = record { code = n; value = triplet.value } in t) code
    ∙ ap (λ (v : List ℕ). let t : Triplet = record { code = other.code; value = v } in t) value

-- a triplet at the front isn't cut short
front_is_whole : (triplet : Triplet) (behind : List ℕ) → IsCutTriplet (triplet_octets triplet ++ behind) → ⊥
front_is_whole triplet behind cut = absurd (omega (arith, length-append triplet.value behind))

first_is_same : (triplet other : Triplet) (us vs : List ℕ) → triplet_octets triplet ++ us ≡ triplet_octets other ++ vs → (triplet ≡ other) × (us ≡ vs)
first_is_same triplet other us vs same =
    let code : triplet.code ≡ other.code = cc in
    let count : length triplet.value ≡ length other.value = cc in
    let behind : triplet.value ++ us ≡ other.value ++ vs = cc in
    let parts = same_parts triplet.value other.value us vs count behind in
    (same_triplet triplet other code parts.0, parts.1)

-- octets are triplets and a rest that is cut short in one way
pub one_split : (triplets others : List Triplet) (cut rest : List ℕ) → triplets_octets triplets ++ cut ≡ triplets_octets others ++ rest
    → IsCutTriplet cut → IsCutTriplet rest → triplets ≡ others
one_split [] [] cut rest same c r = refl
one_split [] (other ∷ others) cut rest same c r =
    absurd (front_is_whole other (triplets_octets others ++ rest) (subst IsCutTriplet (same ∙ append_assoc (triplet_octets other) (triplets_octets others) rest) c))
one_split (triplet ∷ triplets) [] cut rest same c r =
    absurd (front_is_whole triplet (triplets_octets triplets ++ cut) (subst IsCutTriplet (sym same ∙ append_assoc (triplet_octets triplet) (triplets_octets triplets) cut) r))
one_split (triplet ∷ triplets) (other ∷ others) cut rest same c r =
    let first = first_is_same triplet other (triplets_octets triplets ++ cut) (triplets_octets others ++ rest)
    (sym (append_assoc (triplet_octets triplet) (triplets_octets triplets) cut) ∙ same ∙ append_assoc (triplet_octets other) (triplets_octets others) rest) in
    let behind = one_split triplets others cut rest first.1 c r in
    ap (λ (t : Triplet). t ∷ triplets) first.0 ∙ ap (λ (ts : List Triplet). other ∷ ts) behind

-- what was spelled is read
pub reads_back : (triplets : List Triplet) → triplets_of (triplets_octets triplets) ≡ triplets
reads_back triplets =
    let read = reads (triplets_octets triplets) in
    sym (one_split triplets (triplets_of (triplets_octets triplets)) [] read.0 (append-nil (triplets_octets triplets) ∙ read.1) tt read.2)

-- octets are whole where some triplets spell them
pub is_whole-triplet_octets : (octets : List ℕ) → (IsWhole octets ↔ ((triplets : List Triplet) × (octets ≡ triplets_octets triplets)))
is_whole-triplet_octets octets = (
  λ whole. (triplets_of octets, sym whole),
  λ spelling. rw spelling.1 (ap (λ (ts : List Triplet). triplets_octets ts) (reads_back spelling.0)),
)
