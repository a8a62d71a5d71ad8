-- What stands at a block, by its head and what is left behind that.
use Rattle.std.proofs.Common.{IsTrue, ◌≡◌, ◌≤◌, ◌<◌, ◌∙◌, ◌==◌, ◌+◌, ◌-◌, ◌%◌, ◌++◌, ◌||◌, not, Bool, true, false, ℕ, List, [], ◌∷◌, length, take, drop, refl, sym, ap, subst, arith, nat_lt, if◌then◌else◌, length-append, append_assoc, append-nil, lit≤, Option, None, Some, Ok, inl, inr}
use Rattle.std.proofs.lemmas.Bool.{cond_both, cond-true, cond-false, lt-ltb, le-ltb, eq-eqb, ltb-false, eqb-true}
use Rattle.std.proofs.lemmas.List.{drop-take, take-take}
use Rattle.packets.specs.declared.order.Order.{Order}
use Rattle.packets.specs.declared.order.Order.TheVariants.{Big, Little}
use Rattle.packets.specs.declared.blocks.BlockKind.{BlockKind}
use Rattle.packets.specs.declared.blocks.BlockKind.TheVariants as blocks
use Rattle.packets.specs.declared.blocks.Interface.{Interface}
use Rattle.packets.specs.declared.fault.FaultKind.{FaultKind}
use Rattle.packets.specs.declared.fault.FaultKind.TheVariants as kinds
use Rattle.packets.specs.declared.progress.Format.TheVariants as formats
use Rattle.packets.specs.declared.reading.Found.{Found}
use Rattle.packets.specs.declared.reading.Read.{Read}
use Rattle.packets.specs.declared.reading.Read.TheVariants as reads
use Rattle.packets.specs.Context.{Context, Blocks}
use Rattle.packets.specs.Judgement.{Judgement, End, Refused, Passed, Told, IsLonger}
use Rattle.packets.specs.Order.{number_in}
use Rattle.packets.specs.Pcapng.{is_section, section_order, block_order, block_kind, block_len, kind_of, least_len, has_bad_len, is_too_long, interface_in, enhanced_in, enhanced_by}
use Rattle.packets.specs.Pcapng.{described, whole_block, end_len, ended_block, left_block, sized_block, ordered_block, block_at}
use Rattle.packets.specs.Reading.{IsReadAs, IsRestRead, IsBegunAs, IsPassedOver, section_context, judgement_of, recorded_in, told_as}
use Rattle.packets.proofs.Longer.{Holds, left_holds, longer}
use Rattle.packets.proofs.Placing.{is_zero, front_of, behind_front}

-- ---- the head

pub block_short : (section : Option Order) (interfaces : List Interface) (octets : List ℕ) → 0 < length octets → length octets < 12
    → block_at section interfaces octets ≡ Refused kinds.Truncated
block_short section interfaces octets some few =
    cond-false (length octets == 0) End _ (is_zero (length octets) some)
    ∙ cond-true (nat_lt (length octets) 12) (Refused kinds.Truncated) _ (lt-ltb (length octets) 12 few)

pub block_front : (section : Option Order) (interfaces : List Interface) (head left : List ℕ) → length head ≡ 12
    → block_at section interfaces (head ++ left) ≡ ordered_block (block_order section head) interfaces head left
block_front section interfaces head left many =
    let len = length-append head left in
    cond-false (length (head ++ left) == 0) End _ (is_zero (length (head ++ left)) (omega arith))
    ∙ cond-false (nat_lt (length (head ++ left)) 12) (Refused kinds.Truncated) _ (le-ltb (length (head ++ left)) 12 (omega arith))
    ∙ ap (λ (o : List ℕ). ordered_block (block_order section o) interfaces o (drop 12 (head ++ left))) (front_of head left 12 many)
    ∙ ap (λ (o : List ℕ). ordered_block (block_order section head) interfaces head o) (behind_front head left 12 many)

-- behind a head that tells this order
block_behind : (section : Option Order) (interfaces : List Interface) (order : Order) (head octets more : List ℕ) → length head ≡ 12
    → Some order ≡ block_order section head
    → block_at section interfaces ((head ++ octets) ++ more) ≡ sized_block order interfaces (block_kind order head) (block_len order head) head (octets ++ more)
block_behind section interfaces order head octets more many is =
    ap (λ (o : List ℕ). block_at section interfaces o) (append_assoc head octets more)
    ∙ block_front section interfaces head (octets ++ more) many
    ∙ ap (λ (o : Option Order). ordered_block o interfaces head (octets ++ more)) (sym is)

pub without_order : (section : Option Order) (interfaces : List Interface) (head more : List ℕ) → length head ≡ 12 → None ≡ block_order section head
    → block_at section interfaces ((head ++ []) ++ more) ≡ Refused kinds.Format
without_order section interfaces head more many is =
    ap (λ (o : List ℕ). block_at section interfaces (o ++ more)) (append-nil head)
    ∙ block_front section interfaces head more many
    ∙ ap (λ (o : Option Order). ordered_block o interfaces head more) (sym is)

pub of_bad_len : (section : Option Order) (interfaces : List Interface) (order : Order) (head more : List ℕ) (kind : BlockKind) (len : ℕ) → length head ≡ 12
    → Some order ≡ block_order section head → kind ≡ block_kind order head → len ≡ block_len order head → has_bad_len kind len ≡ true
    → block_at section interfaces ((head ++ []) ++ more) ≡ Refused kinds.Block
of_bad_len section interfaces order head more kind len many is kind_is len_is bad =
    block_behind section interfaces order head [] more many is
    ∙ ap (λ (k : BlockKind). sized_block order interfaces k (block_len order head) head more) (sym kind_is)
    ∙ ap (λ (n : ℕ). sized_block order interfaces kind n head more) (sym len_is)
    ∙ cond-true (has_bad_len kind len) (Refused kinds.Block) _ bad

pub of_too_long : (section : Option Order) (interfaces : List Interface) (order : Order) (head more : List ℕ) (kind : BlockKind) (len : ℕ) → length head ≡ 12
    → Some order ≡ block_order section head → kind ≡ block_kind order head → len ≡ block_len order head → has_bad_len kind len ≡ false → is_too_long kind len ≡ true
    → block_at section interfaces ((head ++ []) ++ more) ≡ Refused kinds.TooLong
of_too_long section interfaces order head more kind len many is kind_is len_is good long =
    block_behind section interfaces order head [] more many is
    ∙ ap (λ (k : BlockKind). sized_block order interfaces k (block_len order head) head more) (sym kind_is)
    ∙ ap (λ (n : ℕ). sized_block order interfaces kind n head more) (sym len_is)
    ∙ cond-false (has_bad_len kind len) (Refused kinds.Block) _ good
    ∙ cond-true (is_too_long kind len) (Refused kinds.TooLong) _ long

of_good_len : (section : Option Order) (interfaces : List Interface) (order : Order) (head octets more : List ℕ) (kind : BlockKind) (len : ℕ) → length head ≡ 12
    → Some order ≡ block_order section head → kind ≡ block_kind order head → len ≡ block_len order head → has_bad_len kind len ≡ false → is_too_long kind len ≡ false
    → block_at section interfaces ((head ++ octets) ++ more) ≡ left_block order interfaces kind len head (octets ++ more)
of_good_len section interfaces order head octets more kind len many is kind_is len_is good short =
    block_behind section interfaces order head octets more many is
    ∙ ap (λ (k : BlockKind). sized_block order interfaces k (block_len order head) head (octets ++ more)) (sym kind_is)
    ∙ ap (λ (n : ℕ). sized_block order interfaces kind n head (octets ++ more)) (sym len_is)
    ∙ cond-false (has_bad_len kind len) (Refused kinds.Block) _ good
    ∙ cond-false (is_too_long kind len) (Refused kinds.TooLong) _ short

pub as_rest_read : (section : Option Order) (interfaces : List Interface) (order : Order) (head octets : List ℕ) (kind : BlockKind) (len : ℕ) (context : Context) (ended : Bool)
    (buffer : List ℕ) (read : Read) → length head ≡ 12 → Some order ≡ block_order section head → kind ≡ block_kind order head → len ≡ block_len order head
    → has_bad_len kind len ≡ false → is_too_long kind len ≡ false → IsRestRead order interfaces kind len head context octets ended buffer read
    → IsReadAs (block_at section interfaces) context (head ++ octets) ended buffer read
as_rest_read section interfaces order head octets kind len context ended buffer read many is kind_is len_is good short rest more told =
    let both = length-append head octets in
    of_good_len section interfaces order head octets more kind len many is kind_is len_is good short
    ∙ rest.0 more told
    ∙ ap (λ (n : ℕ). judgement_of n context buffer read) (omega arith)

pub as_rest_begun : (section : Option Order) (interfaces : List Interface) (order : Order) (head taken : List ℕ) (kind : BlockKind) (len : ℕ) → length head ≡ 12
    → Some order ≡ block_order section head → kind ≡ block_kind order head → len ≡ block_len order head
    → has_bad_len kind len ≡ false → is_too_long kind len ≡ false → 12 + length taken < len
    → IsBegunAs (block_at section interfaces) (head ++ taken)
as_rest_begun section interfaces order head taken kind len many is kind_is len_is good short fewer more =
    let both = length-append head taken in
    subst (λ (j : Judgement). IsLonger (length (head ++ taken)) j)
    (sym (of_good_len section interfaces order head taken more kind len many is kind_is len_is good short))
    (left_holds (λ (j : Judgement). IsLonger (length (head ++ taken)) j) order interfaces kind len head (taken ++ more) (longer (length (head ++ taken)) len (omega arith)))

-- ---- lengths

pub least_is : (kind : BlockKind) (len : ℕ) → has_bad_len kind len ≡ false → (len % 4 ≡ 0) × (least_len kind ≤ len)
least_is kind len good = by_test (len % 4 == 0) refl
  where
    by_test : (b : Bool) → (len % 4 == 0) ≡ b → (len % 4 ≡ 0) × (least_len kind ≤ len)
    by_test true whole =
        (eqb-true (len % 4) 0 whole, ltb-false len (least_len kind) (ap (λ (b : Bool). not b || nat_lt len (least_len kind)) (sym whole) ∙ good))
    by_test false part = absurd (cc (ap (λ (b : Bool). not b || nat_lt len (least_len kind)) (sym part) ∙ good))

-- ---- what is left behind the head

pub not_truncated : (ended : Bool) → kinds.Block ≡ kinds.Truncated → IsTrue ended
not_truncated ended is = absurd (cc)

pub refused_rest : (order : Order) (interfaces : List Interface) (kind : BlockKind) (len : ℕ) (head : List ℕ) (context : Context) (octets : List ℕ) (ended : Bool) (buffer : List ℕ)
    (fault : FaultKind) → IsPassedOver order head len octets ended (Some fault) → IsRestRead order interfaces kind len head context octets ended buffer (reads.Refused fault)
refused_rest order interfaces kind len head context octets ended buffer fault over = (
  λ more told. elim over [
    | inl cut ↦
        let none = told tt cut.2 in
        let all = ap length (ap (λ (o : List ℕ). octets ++ o) none ∙ append-nil octets) in
        cond-true (nat_lt (length (octets ++ more)) (len - 12)) (Refused kinds.Truncated) _ (lt-ltb (length (octets ++ more)) (len - 12) (omega (arith, cut.1)))
        ∙ ap Refused (sym cut.0)
    | inr other ↦
        let both = length-append octets more in
        cond-false (nat_lt (length (octets ++ more)) (len - 12)) (Refused kinds.Truncated) _ (le-ltb (length (octets ++ more)) (len - 12) (omega (arith, other.1)))
        ∙ ap (λ (o : List ℕ). ended_block order interfaces kind len head o) (front_of octets more (len - 12) (omega (arith, other.1)))
        ∙ other_end order interfaces kind len head octets other.2
        ∙ ap Refused (sym other.0)
  ],
  λ truncated. elim over [
    | inl cut ↦ cut.2
    | inr other ↦ not_truncated ended (sym other.0 ∙ truncated)
  ],
)
  where
    other_end : (order : Order) (interfaces : List Interface) (kind : BlockKind) (len : ℕ) (head rest : List ℕ) → (end_len order head rest ≡ len → ⊥)
        → ended_block order interfaces kind len head rest ≡ Refused kinds.Block
    other_end order interfaces kind len head rest differs = by_test (end_len order head rest == len) refl
      where
        by_test : (b : Bool) → (end_len order head rest == len) ≡ b → ended_block order interfaces kind len head rest ≡ Refused kinds.Block
        by_test true same = absurd (differs (eqb-true (end_len order head rest) len same))
        by_test false other = cond-true (not (end_len order head rest == len)) (Refused kinds.Block) _ (ap not other)

-- all of a block was passed over
whole_rest : (order : Order) (interfaces : List Interface) (kind : BlockKind) (len : ℕ) (head octets more : List ℕ) (ended : Bool) → IsPassedOver order head len octets ended None
    → left_block order interfaces kind len head (octets ++ more) ≡ whole_block order interfaces kind len head octets
whole_rest order interfaces kind len head octets more ended over =
    let both = length-append octets more in
    cond-false (nat_lt (length (octets ++ more)) (len - 12)) (Refused kinds.Truncated) _ (le-ltb (length (octets ++ more)) (len - 12) (omega (arith, over.0)))
    ∙ ap (λ (o : List ℕ). ended_block order interfaces kind len head o) (front_of octets more (len - 12) (omega (arith, over.0)))
    ∙ cond-false (not (end_len order head octets == len)) (Refused kinds.Block) _ (ap not (eq-eqb (end_len order head octets) len over.1))

-- ---- a whole block

pub other_read : (order : Order) (interfaces : List Interface) (len : ℕ) (head octets : List ℕ) (ended : Bool) (buffer : List ℕ) → IsPassedOver order head len octets ended None
    → IsRestRead order interfaces blocks.Other len head (Blocks order interfaces) octets ended buffer reads.Skipped
other_read order interfaces len head octets ended buffer over = (
  λ more told.
      whole_rest order interfaces blocks.Other len head octets more ended over
      ∙ ap (λ (n : ℕ). Passed n (Blocks order interfaces)) (sym over.0),
  omega arith,
)

pub timeless_read : (order : Order) (interfaces : List Interface) (len : ℕ) (head octets : List ℕ) (ended : Bool) (buffer : List ℕ) → IsPassedOver order head len octets ended None
    → IsRestRead order interfaces blocks.Timeless len head (Blocks order interfaces) octets ended buffer (reads.Refused kinds.Block)
timeless_read order interfaces len head octets ended buffer over =
    (λ more told. whole_rest order interfaces blocks.Timeless len head octets more ended over, not_truncated ended)

pub interface_read : (order : Order) (interfaces : List Interface) (len : ℕ) (head octets : List ℕ) (ended : Bool) (buffer : List ℕ) (interface : Interface)
    → IsPassedOver order head len octets ended None → Some interface ≡ interface_in order head octets
    → IsRestRead order interfaces blocks.Interface len head (Blocks order interfaces) octets ended buffer (reads.Described interface)
interface_read order interfaces len head octets ended buffer interface over is = (
  λ more told.
      whole_rest order interfaces blocks.Interface len head octets more ended over
      ∙ ap (λ (i : Option Interface). described order interfaces len i) (sym is)
      ∙ ap (λ (n : ℕ). Passed n (Blocks order (interfaces ++ interface ∷ []))) (sym over.0),
  omega arith,
)

pub no_interface_read : (order : Order) (interfaces : List Interface) (len : ℕ) (head octets : List ℕ) (ended : Bool) (buffer : List ℕ)
    → IsPassedOver order head len octets ended None → None ≡ interface_in order head octets
    → IsRestRead order interfaces blocks.Interface len head (Blocks order interfaces) octets ended buffer (reads.Refused kinds.Block)
no_interface_read order interfaces len head octets ended buffer over is = (
  λ more told.
      whole_rest order interfaces blocks.Interface len head octets more ended over
      ∙ ap (λ (i : Option Interface). described order interfaces len i) (sym is),
  not_truncated ended,
)

-- a number of two octets at the front
pub number_front : (order : Order) (front rest : List ℕ) → 2 ≤ length front → number_in order 2 (front ++ rest) ≡ number_in order 2 front
number_front order [] rest long = absurd (omega (arith, long))
number_front order (a ∷ []) rest long = absurd (omega (arith, long))
number_front Big (a ∷ b ∷ front) rest long = refl
number_front Little (a ∷ b ∷ front) rest long = refl

pub section_read : (order : Order) (interfaces : List Interface) (len : ℕ) (head : List ℕ) (context : Context) (octets : List ℕ) (ended : Bool) (buffer : List ℕ)
    → IsPassedOver order head len octets ended None → number_in order 2 octets ≡ 1
    → IsRestRead order interfaces blocks.Section len head context octets ended buffer (reads.Opened (formats.Pcapng order))
section_read order interfaces len head context octets ended buffer over is = (
  λ more told.
      whole_rest order interfaces blocks.Section len head octets more ended over
      ∙ cond-false (not (number_in order 2 octets == 1)) (Refused kinds.Format) (Passed len (Blocks order [])) (ap not (eq-eqb (number_in order 2 octets) 1 is))
      ∙ ap (λ (n : ℕ). Passed n (Blocks order [])) (sym over.0),
  omega arith,
)

pub version_read : (order : Order) (interfaces : List Interface) (len : ℕ) (head : List ℕ) (context : Context) (octets : List ℕ) (ended : Bool) (buffer : List ℕ)
    → IsPassedOver order head len octets ended None → (number_in order 2 octets ≡ 1 → ⊥)
    → IsRestRead order interfaces blocks.Section len head context octets ended buffer (reads.Refused kinds.Format)
version_read order interfaces len head context octets ended buffer over differs = (
  λ more told.
      whole_rest order interfaces blocks.Section len head octets more ended over
      ∙ by_test (number_in order 2 octets == 1) refl,
  λ truncated. absurd (cc),
)
  where
    by_test : (b : Bool) → (number_in order 2 octets == 1) ≡ b → whole_block order interfaces blocks.Section len head octets ≡ Refused kinds.Format
    by_test true same = absurd (differs (eqb-true (number_in order 2 octets) 1 same))
    by_test false other = cond-true (not (number_in order 2 octets == 1)) (Refused kinds.Format) (Passed len (Blocks order [])) (ap not other)

-- octets in a front of the buffer are in the buffer
in_front : (at count most : ℕ) (buffer : List ℕ) → at + count ≤ most → take count (drop at (take most buffer)) ≡ take count (drop at buffer)
in_front at count most buffer within =
    ap (λ (n : ℕ). take count (drop at (take n buffer))) (omega arith)
    ∙ ap (λ (o : List ℕ). take count o) (drop-take at (most - at) buffer)
    ∙ take-take count (most - at) (drop at buffer) (omega arith)

pub enhanced_read : (order : Order) (interfaces : List Interface) (len : ℕ) (head octets : List ℕ) (ended : Bool) (buffer : List ℕ) (found : Found)
    → IsPassedOver order head len octets ended None → take (len - 12) buffer ≡ octets → length octets ≤ length buffer → found.at + found.count ≤ length octets
    → told_as (12 + length octets) octets (Ok found) ≡ enhanced_by interfaces (12 + length octets) (enhanced_in order head octets) octets
    → IsRestRead order interfaces blocks.Enhanced len head (Blocks order interfaces) octets ended buffer (reads.Packet found)
enhanced_read order interfaces len head octets ended buffer found over held room within is = (
  λ more told.
      whole_rest order interfaces blocks.Enhanced len head octets more ended over
      ∙ ap (λ (n : ℕ). enhanced_by interfaces n (enhanced_in order head octets) octets) (sym over.0)
      ∙ sym is
      ∙ ap (λ (o : List ℕ). Told (12 + length octets) (recorded_in found o)) (sym held)
      ∙ ap (λ (o : List ℕ). Told (12 + length octets) (record { second = found.second; micro = found.micro; link_type = found.link_type; octets = o; wire_count = found.wire_count }))
      (in_front found.at found.count (len - 12) buffer (omega (arith, over.0))),
  (omega arith, omega arith),
)

-- a block that isn't a Section Header is in a section
pub context_of_other : (section : Option Order) (interfaces : List Interface) (order : Order) (head : List ℕ) (kind : BlockKind)
    → Some order ≡ block_order section head → kind ≡ block_kind order head → (kind ≡ blocks.Section → ⊥) → section_context section interfaces ≡ Blocks order interfaces
context_of_other section interfaces order head kind told kind_is differs = by_test (is_section head) refl
  where
    of_section : (found : Option Order) → Some order ≡ found → section_context found interfaces ≡ Blocks order interfaces
    of_section found same = ap (λ (o : Option Order). section_context o interfaces) (sym same)

    by_test : (b : Bool) → is_section head ≡ b → section_context section interfaces ≡ Blocks order interfaces
    by_test true is = absurd (differs (kind_is ∙ cond-true (is_section head) blocks.Section (kind_of (number_in order 4 head)) is))
    by_test false is = of_section section (told ∙ cond-false (is_section head) (section_order head) section is)

pub other_rest : (order : Order) (interfaces : List Interface) (kind known : BlockKind) (len : ℕ) (head : List ℕ) (context : Context) (octets : List ℕ) (ended : Bool)
    (buffer : List ℕ) (read : Read) → kind ≡ known → (known ≡ blocks.Section → ⊥) → ((kind ≡ blocks.Section → ⊥) → context ≡ Blocks order interfaces)
    → IsRestRead order interfaces known len head (Blocks order interfaces) octets ended buffer read
    → IsRestRead order interfaces kind len head context octets ended buffer read
other_rest order interfaces kind known len head context octets ended buffer read is differs behind rest =
    subst (λ (x : Context). IsRestRead order interfaces kind len head x octets ended buffer read) (sym (behind (λ e. differs (sym is ∙ e))))
    (subst (λ (k : BlockKind). IsRestRead order interfaces k len head (Blocks order interfaces) octets ended buffer read) (sym is) rest)

-- ---- the least length

least_12 : (kind : BlockKind) → 12 ≤ least_len kind
least_12 blocks.Section = lit≤ tt
least_12 blocks.Interface = lit≤ tt
least_12 blocks.Timeless = lit≤ tt
least_12 blocks.Enhanced = lit≤ tt
least_12 blocks.Other = lit≤ tt

ordered_holds : (P : Judgement → Type 0) (found : Option Order) (interfaces : List Interface) (head left : List ℕ) → ((len : ℕ) → 12 ≤ len → Holds P len)
    → P (ordered_block found interfaces head left)
ordered_holds P None interfaces head left all = (all 12 (lit≤ tt)).refused kinds.Format refl
ordered_holds P (Some order) interfaces head left all =
    let kind = block_kind order head in
    let len = block_len order head in
    cond_both (has_bad_len kind len) (Refused kinds.Block) (if is_too_long kind len then Refused kinds.TooLong else left_block order interfaces kind len head left)
    P (λ h. (all 12 (lit≤ tt)).refused kinds.Block refl)
    (λ good. cond_both (is_too_long kind len) (Refused kinds.TooLong) (left_block order interfaces kind len head left) P (λ h. (all 12 (lit≤ tt)).refused kinds.TooLong refl)
    (λ h. left_holds P order interfaces kind len head left (all len (let least = least_is kind len good in let some = least_12 kind in omega (arith, least.1)))))

pub block_holds : (P : Judgement → Type 0) (section : Option Order) (interfaces : List Interface) (octets : List ℕ) → ((len : ℕ) → 12 ≤ len → Holds P len)
    → P (block_at section interfaces octets)
block_holds P section interfaces octets all =
    cond_both (length octets == 0) End _ P (λ h. (all 12 (lit≤ tt)).ended)
    (λ h. cond_both (nat_lt (length octets) 12) (Refused kinds.Truncated) _ P (λ h. (all 12 (lit≤ tt)).refused kinds.Truncated refl)
    (λ h. ordered_holds P (block_order section (take 12 octets)) interfaces (take 12 octets) (drop 12 octets) all))

pub block_head_begun : (section : Option Order) (interfaces : List Interface) (taken : List ℕ) → length taken < 12 → IsBegunAs (block_at section interfaces) taken
block_head_begun section interfaces taken fewer more =
    block_holds (λ (j : Judgement). IsLonger (length taken) j) section interfaces (taken ++ more) (λ len least. longer (length taken) len (omega arith))
