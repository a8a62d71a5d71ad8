-- How much is shown of a text from the wire, and a room for the front of a text.
use Rattle.std.specs.Prelude.{◌≡◌, ◌++◌, ◌&&◌, ℕ, Bool, List, [], if◌then◌else◌, nat_le, nat_lt}
use Rattle.std.specs.Prelude.{codes, length, slice_index, take}
use Rattle.std.proofs.Common.{◌∙◌, ap, sym, append-nil, append_assoc}

-- the octet goes on with a character of UTF-8 that an earlier one begins (RFC 3629, 3)
abbrev pub goes_on : ℕ → Bool
goes_on octet = nat_le 128 octet && nat_le octet 191

-- How many octets are shown of a text that is too long: 200, or fewer if a character would be
-- cut, which has four octets at the most.
abbrev pub shown_count : List ℕ → ℕ
shown_count text =
    if goes_on (slice_index text 200)
    then (if goes_on (slice_index text 199)
    then (if goes_on (slice_index text 198) then 197 else 198)
    else 199)
    else 200

-- a text of 200 octets at the most, or the front of a longer one
unfoldable pub cut : List ℕ → List ℕ
cut text =
    if nat_lt 200 (length text) then take (shown_count text) text ++ codes " .." else text

-- whatever it has taken of which it kept the front, it keeps the front of that and of these octets
abbrev pub Keeps : List ℕ → List ℕ → List ℕ → Type 0
Keeps old new octets = (all : List ℕ) → old ≡ take 256 all → new ≡ take 256 (all ++ octets)

-- from a state to itself it took nothing
pub keeps_nothing : (a : List ℕ) → Keeps a a []
keeps_nothing a all front = front ∙ ap (take 256) (sym (append-nil all))

-- what it took, and then more, it took in all
pub keeps_joined : (a b c xs ys : List ℕ) → Keeps a b xs → Keeps b c ys → Keeps a c (xs ++ ys)
keeps_joined a b c xs ys first second all front =
    second (all ++ xs) (first all front) ∙ ap (take 256) (append_assoc all xs ys)
