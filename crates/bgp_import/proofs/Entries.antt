-- The records of entries, one after another.
use Rattle.std.proofs.Common.{◌≡◌, ◌∙◌, ◌+◌, ◌<◌, ℕ, List, [], ◌∷◌, ◌++◌, ap, sym, subst, append-nil, append_assoc, add-one, drop, length, get_or, Option, None, Some, arith}
use Rattle.std.proofs.Math.Seq.{drop-cons}
use Rattle.std.specs.List.{AllByRecursion}
use Rattle.bgp_prefix.specs.declared.session.Session.{Session}
use Rattle.mrt.specs.Sink.{TakesBeginning}
use Rattle.mrt.specs.Written.{record_octets}
use Rattle.mrt.proofs.Parts.{begins_first, begins_behind}
use Rattle.streams.specs.declared.passed.Side.{Side}
use Rattle.bgp_recording.specs.declared.entry.Entry.{Entry}
use Rattle.bgp_import.specs.AsNumber.{IsAsNumber}
use Rattle.bgp_import.specs.Captures.{entries_octets, shown_by, message_from, IsAsNumberOf, IsAsNumberBy, counted, made_by, put_off}
use Rattle.bgp_import.specs.declared.capture.AsNumbers.{AsNumbers}

module _ (entries : List Entry) (i : ℕ) (d : Entry) (within : i < length entries) where
  -- the one at the index
  abbrev pub here : Entry
  here = get_or entries i d

  -- those from it on
  pub from_here : drop i entries ≡ here ∷ drop (i + 1) entries
  from_here = rw add-one (drop-cons entries i d within)

  -- what holds of those from the index on, holds of the one there and of those behind it
  pub here_and_behind : (P : Entry → Type 0) → AllByRecursion P (drop i entries) → P here × AllByRecursion P (drop (i + 1) entries)
  here_and_behind P all = subst (λ (q : List Entry). AllByRecursion P q) from_here all

  -- so many octets were taken, and those of the rest follow them: as are those of the record there
  octets_here : (s : Session) (n : AsNumbers) (taken whole : List ℕ) → whole ≡ taken ++ entries_octets s n (drop i entries)
      → whole ≡ taken ++ (record_octets s n.peer n.local (shown_by here) ++ entries_octets s n (drop (i + 1) entries))
  octets_here s n taken whole so_far = so_far ∙ ap (λ (q : List Entry). taken ++ entries_octets s n q) from_here

  -- where the record there was written, those behind it follow
  pub written_here : {S : Type 0} (takes : S → S → List ℕ → Type 0)
      (joined : (a b c : S) (xs ys : List ℕ) → takes a b xs → takes b c ys → takes a c (xs ++ ys)) (s : Session) (n : AsNumbers) (taken whole : List ℕ) (a b c : S)
      → whole ≡ taken ++ entries_octets s n (drop i entries) → takes a b taken → takes b c (record_octets s n.peer n.local (shown_by here))
      → (more : List ℕ) × takes a c more × (whole ≡ more ++ entries_octets s n (drop (i + 1) entries))
  written_here takes joined s n taken whole a b c so_far took wrote = (
    taken ++ record_octets s n.peer n.local (shown_by here),
    joined a b c taken (record_octets s n.peer n.local (shown_by here)) took wrote,
    octets_here s n taken whole so_far
        ∙ sym (append_assoc taken (record_octets s n.peer n.local (shown_by here)) (entries_octets s n (drop (i + 1) entries))),
  )

  -- where the record there was begun, a beginning of all was written
  pub begun_here : {S : Type 0} (takes : S → S → List ℕ → Type 0)
      (joined : (a b c : S) (xs ys : List ℕ) → takes a b xs → takes b c ys → takes a c (xs ++ ys)) (s : Session) (n : AsNumbers) (taken whole : List ℕ) (a b c : S)
      → whole ≡ taken ++ entries_octets s n (drop i entries) → takes a b taken → TakesBeginning takes b c (record_octets s n.peer n.local (shown_by here))
      → TakesBeginning takes a c whole
  begun_here takes joined s n taken whole a b c so_far took begun =
      subst (TakesBeginning takes a c) (sym (octets_here s n taken whole so_far))
      (begins_behind takes joined a b c taken _ took (begins_first takes joined b c _ (entries_octets s n (drop (i + 1) entries)) begun))

  -- the number of the message there is that of all from there on
  pub number_here : (side : Side) (octets : List ℕ) (number : ℕ) → message_from side here ≡ Some octets → IsAsNumber octets number → IsAsNumberOf side (drop i entries) number
  number_here side octets number message is =
      subst (λ (q : List Entry). IsAsNumberOf side q number) (sym from_here)
      (subst (λ (m : Option (List ℕ)). IsAsNumberBy m (IsAsNumberOf side (drop (i + 1) entries) number) number) (sym message) is)

  -- where there is none, it is that of those behind it
  pub number_behind : (side : Side) (number : ℕ) → message_from side here ≡ None → IsAsNumberOf side (drop (i + 1) entries) number → IsAsNumberOf side (drop i entries) number
  number_behind side number none is =
      subst (λ (q : List Entry). IsAsNumberOf side q number) (sym from_here)
      (subst (λ (m : Option (List ℕ)). IsAsNumberBy m (IsAsNumberOf side (drop (i + 1) entries) number) number) (sym none) is)

  -- what is counted so far, with the one there
  pub counts_here : (made count total now next : ℕ) → count + put_off made (drop i entries) ≡ total
      → now ≡ counted made here.packet (shown_by here) → next ≡ made_by made here.packet (shown_by here)
      → (count + now) + put_off next (drop (i + 1) entries) ≡ total
  counts_here made count total now next so_far is_now is_next =
      let first : put_off made (drop i entries) ≡ counted made here.packet (shown_by here) + put_off (made_by made here.packet (shown_by here)) (drop (i + 1) entries) = ap (put_off made) from_here in
      let later : put_off next (drop (i + 1) entries) ≡ put_off (made_by made here.packet (shown_by here)) (drop (i + 1) entries) = ap (λ (m : ℕ). put_off m (drop (i + 1) entries)) is_next in
      omega (arith, so_far, first, is_now, later)

some_entry : (entries : List Entry) (i : ℕ) → i < length entries → Entry
some_entry [] i within = absurd (omega (arith, within))
some_entry (e ∷ later) i within = e

-- what holds of those from the index on, holds of those behind the one there
pub all_behind : (entries : List Entry) (i : ℕ) → i < length entries → (P : Entry → Type 0) → AllByRecursion P (drop i entries) → AllByRecursion P (drop (i + 1) entries)
all_behind entries i within P all = (here_and_behind entries i (some_entry entries i within) within P all).1

-- none are left
pub octets_all : (s : Session) (n : AsNumbers) (left : List Entry) (taken whole : List ℕ) → left ≡ [] → whole ≡ taken ++ entries_octets s n left → whole ≡ taken
octets_all s n left taken whole none so_far =
    so_far ∙ ap (λ (q : List Entry). taken ++ entries_octets s n q) none ∙ append-nil taken
