-- All that there is to tell of is told.
use Rattle.std.proofs.Common.{◌≡◌, ◌∙◌, ◌<◌, ℕ, zero, suc, List, [], ◌∷◌, length, get_or, inl, inr, refl, sym, ap, subst, arith}
use Rattle.std.specs.List.{AllByRecursion, Contains}
use Rattle.std.specs.Map.{keys_of}
use Rattle.packets.specs.Packet.{Recorded}
use Rattle.segments.specs.declared.fault.PacketFault.{PacketFault}
use Rattle.segments.specs.declared.found.Addresses.{Addresses}
use Rattle.streams.specs.Choice.{OpensAs, first_packet}
use Rattle.streams.specs.Passed.{Segment}
use Rattle.streams.specs.declared.connection.Opening.{Opening}
use Rattle.bgp_prefix.specs.declared.session.Session.{Session}
use Rattle.bgp_import.specs.Selecting.{AreTaken}
use Rattle.bgp_import.specs.declared.refusal.Refusal.{Refusal}
use Rattle.bgp_import.specs.declared.refusal.Refusal.TheVariants as refusals
use Rattle.bgp_import.specs.Pairs.{AreOrdered, selection_of, session_of}
use Rattle.bgp_import.specs.Places.{IsNumber, connection_in}
use Rattle.bgp_import.specs.Reading.{AreKnown}
use Rattle.bgp_import.specs.Talks.{IsRefusedAt}
use Rattle.bgp_import.proofs.Alone.{alone, apart, none_at_refusal, one_place, refused_alone, same_taken, taken_not_refused}
use Rattle.bgp_import.proofs.ListedSoFar.{place_of}
use Rattle.bgp_check_tool.specs.Alone.{EachConnectionIsTold, EachRefusalIsTold, HasBlockOf}
use Rattle.bgp_check_tool.specs.declared.options.CheckOptions.{CheckOptions}
use Rattle.bgp_check_tool.specs.Blocks.{AllRefused, Block, BothEnds, OneEnd, Refused}
use Rattle.bgp_check_tool.specs.Places.{IsToldAt, IsToldOfOne}

-- ---- lists

at_index : {X : Type 0} (P : X → Type 0) (xs : List X) (k : ℕ) (d : X) → AllByRecursion P xs → k < length xs → P (get_or xs k d)
at_index P [] k d all lt = absurd (omega (arith, lt))
at_index P (x ∷ xs) zero d all lt = all.0
at_index P (x ∷ xs) (suc k) d all lt = at_index P xs k d all.1 (omega (arith, lt))

of_one : {X : Type 0} (P : X → Type 0) (xs : List X) (x : X) → AllByRecursion P xs → Contains xs x → P x
of_one P xs x all (k, lt, is) = subst P is (at_index P xs k x all lt)

-- what stands at a key
keyed : {X : Type 0} (es : List (ℕ × X)) (k place : ℕ) → k < length (keys_of es) → get_or (keys_of es) k place ≡ place → (v : X) × Contains es (place, v)
keyed [] k place lt is = absurd (omega (arith, lt))
keyed {X} (e ∷ es) zero place lt is = (e.1, (0, omega arith, ap (λ (n : ℕ). (n, e.1)) is))
keyed (e ∷ es) (suc k) place lt is =
    let (v, (j, below, there)) = keyed es k place (omega (arith, lt)) is in
    (v, (suc j, omega (arith, below), there))

-- ---- all are told

module _ (options : CheckOptions) (last_packet : ℕ) (packets : List Recorded) (blocks : List (ℕ × Block)) (known : AreKnown packets) where
  -- a connection and the block at its first packet
  block_of_one : (q : Addresses) (segments : List Segment) (number place : ℕ) (session : Session) (opening : Opening) (block : Block) → AreOrdered q
      → AreTaken (selection_of q options.port) 0 packets segments → IsNumber segments number → place ≡ first_packet (connection_in segments number)
      → IsToldOfOne options packets last_packet place session opening block
      → (opening.number ≡ number) × OpensAs (connection_in segments number) opening × (session ≡ session_of q)
  block_of_one q segments number place session opening block is taken is_number there told =
      let its = place_of told.segments opening.number opening refl told.has.opens in
      let same = alone options.port packets told.addresses q told.segments segments opening.number number told.has.ordered is told.has.taken taken told.has.number is_number
      (sym its ∙ sym told.is_place ∙ there) in (
        same.2,
        subst (λ (n : ℕ). OpensAs (connection_in segments n) opening) same.2
            (subst (λ (s : List Segment). OpensAs (connection_in s opening.number) opening) same.1 told.has.opens),
        told.is_session ∙ ap session_of same.0,
      )

  has_block : (q : Addresses) (segments : List Segment) (number place : ℕ) (block : Block) → AreOrdered q → AreTaken (selection_of q options.port) 0 packets segments
      → IsNumber segments number → place ≡ first_packet (connection_in segments number) → Contains blocks (place, block)
      → IsToldAt options packets last_packet place block → HasBlockOf blocks q segments number
  has_block q segments number place (BothEnds session opening outline first second opener other) is taken is_number there among told =
      let (same, opens, its) = block_of_one q segments number place session opening _ is taken is_number there told in
      record { place = place; block = _; among = among; opening = opening; is_number = same; opens = opens; is = (its, refl) }
  has_block q segments number place (OneEnd session opening outline first second) is taken is_number there among told =
      let (same, opens, its) = block_of_one q segments number place session opening _ is taken is_number there told in
      record { place = place; block = _; among = among; opening = opening; is_number = same; opens = opens; is = (its, refl) }
  has_block q segments number place (Refused session opening refusal) is taken is_number there among told =
      let (same, opens, its) = block_of_one q segments number place session opening _ is taken is_number there told in
      record { place = place; block = _; among = among; opening = opening; is_number = same; opens = opens; is = (its, refl) }
  has_block q segments number place (AllRefused addresses refusal) is taken is_number there among told =
      absurd (apart options.port packets known q addresses segments number place told.fault is told.ordered taken is_number told.refused (sym there))

  -- a connection doesn't begin where a packet is refused
  not_one : (q : Addresses) (fault : PacketFault) (place : ℕ) (session : Session) (opening : Opening) (block : Block) → AreOrdered q → IsRefusedAt options.port packets q fault place
      → IsToldOfOne options packets last_packet place session opening block → ⊥
  not_one q fault place session opening block is refused told =
      none_at_refusal options.port place packets told.addresses q told.segments opening fault known is told.has refused (sym told.is_place)

  refused_block : (q : Addresses) (fault : PacketFault) (place : ℕ) (block : Block) → AreOrdered q → IsRefusedAt options.port packets q fault place
      → IsToldAt options packets last_packet place block → block ≡ AllRefused q (refusals.Packet fault place)
  refused_block q fault place (BothEnds session opening outline first second opener other) is refused told = absurd (not_one q fault place session opening _ is refused told)
  refused_block q fault place (OneEnd session opening outline first second) is refused told = absurd (not_one q fault place session opening _ is refused told)
  refused_block q fault place (Refused session opening refusal) is refused told = absurd (not_one q fault place session opening _ is refused told)
  refused_block q fault place (AllRefused addresses refusal) is refused told =
      let same = refused_alone options.port packets known addresses q told.fault fault place told.ordered is told.refused refused in
      ap (λ (r : Refusal). AllRefused addresses r) (told.is ∙ ap (λ (f : PacketFault). refusals.Packet f place) same.1)
      ∙ ap (λ (a : Addresses). AllRefused a (refusals.Packet fault place)) same.0

pub each_connection : EachConnectionIsTold
each_connection options last_packet packets blocks known told all q segments number is taken is_number = elim (all q is) [
  | inl theirs ↦
      let same : theirs.segments ≡ segments = same_taken (selection_of q options.port) 0 packets theirs.segments segments theirs.taken taken in
      let there = theirs.each number (subst (λ (s : List Segment). IsNumber s number) (sym same) is_number) in
      let place = first_packet (connection_in theirs.segments number) in
      let (block, among) = keyed blocks there.0 place there.1 there.2 in
      has_block options last_packet packets blocks known q segments number place block is taken is_number
      (ap (λ (s : List Segment). first_packet (connection_in s number)) same) among
      (of_one (λ (b : ℕ × Block). IsToldAt options packets last_packet b.0 b.1) blocks (place, block) told among)
  | inr refused ↦ absurd (taken_not_refused (selection_of q options.port) refused.refused.front refused.refused.later packets refused.refused.packet segments refused.fault
      refused.refused.whole taken refused.refused.refused)
]

pub each_refusal : EachRefusalIsTold
each_refusal options last_packet packets blocks known told all q fault place is refused = elim (all q is) [
  | inl theirs ↦ absurd (taken_not_refused (selection_of q options.port) refused.front refused.later packets refused.packet theirs.segments fault refused.whole theirs.taken refused.refused)
  | inr theirs ↦
      let same : theirs.place ≡ place = one_place options.port packets q theirs.fault fault theirs.place place theirs.refused refused in
      let there : Contains (keys_of blocks) place = subst (λ (n : ℕ). Contains (keys_of blocks) n) same theirs.is_place in
      let (block, among) = keyed blocks there.0 place there.1 there.2 in
      let its = of_one (λ (b : ℕ × Block). IsToldAt options packets last_packet b.0 b.1) blocks (place, block) told among in
      subst (λ (b : Block). Contains blocks (place, b)) (refused_block options last_packet packets blocks known q fault place block is refused its) among
]
