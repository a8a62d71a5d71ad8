-- What is held of a recording's packets, with a packet more.
use Rattle.std.proofs.Common.{◌≡◌, ◌≢◌, ◌∙◌, ◌⊎◌, ◌+◌, ◌++◌, ℕ, Bool, true, false, List, [], ◌∷◌, length, reverse, Option, None, Some, Ok, Err, refl, sym, ap, subst, arith, inl, inr, append_assoc, append-nil}
use Rattle.std.specs.Option.{option_or}
use Rattle.std.specs.Ordering.{is_eq}
use Rattle.packets.specs.Packet.{Recorded}
use Rattle.segments.specs.Conversation.{IsSelected}
use Rattle.segments.specs.Found.{found_in}
use Rattle.segments.specs.Segment.{finding_of, CutHeader, Finding, Fragment, NoPorts, Nothing, TcpSegment, UnknownLink, Whole}
use Rattle.segments.specs.contracts.found.AddressesOrd.TheImpl as order
use Rattle.segments.specs.declared.conversation.Conversation.{Conversation}
use Rattle.segments.specs.declared.fault.PacketFault.{PacketFault}
use Rattle.segments.specs.declared.found.Addresses.{Addresses}
use Rattle.segments.specs.declared.found.Found.{Found}
use Rattle.segments.specs.declared.found.Found.TheVariants as variants
use Rattle.streams.specs.Held.{HoldsConnections}
use Rattle.streams.specs.Passed.{Segment}
use Rattle.streams.specs.declared.connections.Connections.{Connections}
use Rattle.streams.specs.declared.passed.Side.{Side}
use Rattle.bgp_import.specs.Selecting.{AreTaken, HasPart, IsPacketRefused, IsSentBy, conversation_of, passed_of}
use Rattle.bgp_import.specs.declared.selection.Selection.{Selection}
use Rattle.bgp_import.proofs.InOrder.{in_order}
use Rattle.bgp_import.proofs.Taken.{found_so, last_first, one_more}
use Rattle.bgp_import.specs.Pairs.{AreOrdered, addresses_in, addresses_of, ordered, selection_of}
use Rattle.bgp_import.specs.Talks.{AreHeld, Changes, HoldsAll, HoldsBy, HoldsEach, HoldsSome, HoldsTalk, IsFresh, IsLinkKnown, IsRefusedAt, IsRefusedBy, KeepsOthers, TakesSegment, talk_at}
use Rattle.bgp_import.specs.declared.talk.Talk.{Talk}
use Rattle.bgp_import.specs.declared.talks.Talks.{Talks}
use Rattle.bgp_import.proofs.AddressOrder.{apart, one_way, ordered_is, tied}

-- ---- a packet of other addresses has nothing of these

selected_none : (port : ℕ) (q : Addresses) (finding : Finding) → AreOrdered q → ((link_type : ℕ) → finding ≢ UnknownLink link_type)
    → ((a : Addresses) → addresses_in finding ≡ Some a → q ≢ ordered a) → IsSelected (conversation_of (selection_of q port)) finding (Ok None)
selected_none port q Nothing is known other = refl
selected_none port q (UnknownLink link_type) is known other = absurd (known link_type refl)
selected_none port q (Fragment a) is known other = inr ((λ between. other a refl (one_way q a is between)), refl)
selected_none port q (NoPorts a) is known other = inr ((λ between. other a refl (one_way q a is between)), refl)
selected_none port q (CutHeader ends) is known other = inr ((λ are. other (addresses_of ends) refl (one_way q (addresses_of ends) is are.0)), refl)
selected_none port q (Whole segment) is known other = inr ((λ are. other (addresses_of segment.ends) refl (one_way q (addresses_of segment.ends) is are.0)), refl)

pub no_part : (port number : ℕ) (q : Addresses) (packet : Recorded) → AreOrdered q → ((link_type : ℕ) → found_in packet.link_type packet.octets ≢ UnknownLink link_type)
    → ((a : Addresses) → addresses_in (found_in packet.link_type packet.octets) ≡ Some a → q ≢ ordered a) → HasPart (selection_of q port) number packet []
no_part port number q packet is known other = record {
  found = None;
  is_found = selected_none port q (found_in packet.link_type packet.octets) is known other;
  is_part = refl;
}

some_is : (a b : Addresses) → Some a ≡ Some b → a ≡ b
some_is a b e = cc

not_link : (finding : Finding) (a : Addresses) → addresses_in finding ≡ Some a → (link_type : ℕ) → finding ≢ UnknownLink link_type
not_link finding a e link_type link = let k : None ≡ Some a = sym (ap addresses_in link) ∙ e in cc

-- of a packet between these addresses no others have a part
pub no_other : (port number : ℕ) (q own : Addresses) (packet : Recorded) → AreOrdered q
    → (a : Addresses) → addresses_in (found_in packet.link_type packet.octets) ≡ Some a → own ≡ ordered a → q ≢ own
    → HasPart (selection_of q port) number packet []
no_other port number q own packet is a has own_is other =
    no_part port number q packet is (not_link _ a has)
    (λ b also same. other (same ∙ ap ordered (some_is b a (sym also ∙ has)) ∙ sym own_is))

-- ---- two addresses

module _ (port : ℕ) (packets : List Recorded) (packet : Recorded) (q : Addresses) where
  counted : (part : List Segment) → HasPart (selection_of q port) (length packets + 1) packet part → HasPart (selection_of q port) (0 + length packets + 1) packet part
  counted part has = subst (λ (n : ℕ). HasPart (selection_of q port) n packet part) (omega arith) has

  grown_taken : (segments : List Segment) → AreTaken (selection_of q port) 0 packets segments → HasPart (selection_of q port) (length packets + 1) packet []
      → AreTaken (selection_of q port) 0 (packets ++ packet ∷ []) segments
  grown_taken segments taken has =
      subst (λ (s : List Segment). AreTaken (selection_of q port) 0 (packets ++ packet ∷ []) s) (append-nil segments)
      (one_more (selection_of q port) 0 packets segments packet [] taken (counted [] has))

  grown_refused : (fault : PacketFault) (number : ℕ) → IsRefusedAt port packets q fault number → IsRefusedAt port (packets ++ packet ∷ []) q fault number
  grown_refused fault number h = record {
    front = h.front;
    packet = h.packet;
    later = h.later ++ packet ∷ [];
    segments = h.segments;
    whole = ap (λ (l : List Recorded). l ++ packet ∷ []) h.whole ∙ append_assoc h.front (h.packet ∷ h.later) (packet ∷ []);
    taken = h.taken;
    refused = h.refused;
    is = h.is;
  }

  grown : {Z : Type 0} (connections : Connections Z) (refusal : Option (PacketFault × ℕ)) → HoldsBy port packets q connections refusal
      → HasPart (selection_of q port) (length packets + 1) packet [] → HoldsBy port (packets ++ packet ∷ []) q connections refusal
  grown connections None h has = record { segments = h.segments; taken = grown_taken h.segments h.taken has; holds = h.holds }
  grown connections (Some r) h has = grown_refused r.0 r.1 h

  -- its segment is taken
  with_segment : {Z : Type 0} (before after : Connections Z) (refusal : Option (PacketFault × ℕ)) (s : Segment) → HoldsBy port packets q before refusal
      → HasPart (selection_of q port) (length packets + 1) packet (s ∷ [])
      → ((earlier : List Segment) → HoldsConnections earlier before → HoldsConnections (s ∷ earlier) after) → HoldsBy port (packets ++ packet ∷ []) q after refusal
  with_segment before after None s h has on = record {
    segments = h.segments ++ s ∷ [];
    taken = one_more (selection_of q port) 0 packets h.segments packet (s ∷ []) h.taken (counted (s ∷ []) has);
    holds = subst (λ (l : List Segment). HoldsConnections l after) (last_first (selection_of q port) (length packets + 1) packet h.segments (s ∷ []) has)
        (on (reverse h.segments) h.holds);
  }
  with_segment before after (Some r) s h has on = grown_refused r.0 r.1 h

  -- it is refused
  with_refusal : {Z : Type 0} (before after : Connections Z) (refusal : Option (PacketFault × ℕ)) (fault : PacketFault) (number : ℕ) → HoldsBy port packets q before refusal
      → IsPacketRefused (selection_of q port) packet fault → number ≡ length packets + 1
      → HoldsBy port (packets ++ packet ∷ []) q after (option_or refusal (Some (fault, number)))
  with_refusal before after None fault number h refused is = record {
    front = packets;
    packet = packet;
    later = [];
    segments = h.segments;
    whole = refl;
    taken = h.taken;
    refused = refused;
    is = is;
  }
  with_refusal before after (Some r) fault number h refused is = grown_refused r.0 r.1 h

fresh_by : {Z : Type 0} (port : ℕ) (packets : List Recorded) (q : Addresses) (connections : Connections Z) (refusal : Option (PacketFault × ℕ)) → refusal ≡ None
    → HoldsConnections [] connections → AreTaken (selection_of q port) 0 packets [] → HoldsBy port packets q connections refusal
fresh_by {Z} port packets q connections refusal none holds taken =
    subst (λ (r : Option (PacketFault × ℕ)). HoldsBy port packets q connections r) (sym none) (record { segments = []; taken = taken; holds = holds })

-- what was held of these addresses before
held_before : {Z : Type 0} (port : ℕ) (packets : List Recorded) (old : Talks Z) (q : Addresses) (before : Talk Z) → HoldsEach port packets old → AreOrdered q
    → ((talk_at old q ≡ Some before) ⊎ ((talk_at old q ≡ None) × IsFresh before)) → HoldsTalk port packets q before
held_before port packets old q before h is (inl was) = (h.right.each q before was).1
held_before port packets old q before h is (inr was) = fresh_by port packets q before.connections before.refusal was.1.1 was.1.0 (h.none q is was.0)

-- ---- all of them

by_bool : (b : Bool) → (b ≡ true) ⊎ (b ≡ false)
by_bool true = inl refl
by_bool false = inr refl

tie : (a b : Addresses) → (is_eq (order.ghosts.cmp a b) ≡ true) ⊎ (is_eq (order.ghosts.cmp a b) ≡ false)
tie a b = by_bool (is_eq (order.ghosts.cmp a b))

none_some : {X : Type 0} (x : X) → None ≡ Some x → ⊥
none_some x e = cc

talk_is : {Z : Type 0} (a b : Talk Z) → Some a ≡ Some b → a ≡ b
talk_is a b e = cc

module _ {Z : Type 0} (port : ℕ) (packets : List Recorded) (packet : Recorded) where
  -- nothing of the packet is taken
  pub nothing_taken : (talks : Talks Z) → HoldsEach port packets talks → ((q : Addresses) → AreOrdered q → HasPart (selection_of q port) (length packets + 1) packet [])
      → HoldsEach port (packets ++ packet ∷ []) talks
  nothing_taken talks h parts = record {
    right = record {
      is_port = h.right.is_port;
      each = λ q talk is. let (o, holds) = h.right.each q talk is in (o, grown port packets packet q talk.connections talk.refusal holds (parts q o));
    };
    none = λ q o is. grown_taken port packets packet q [] (h.none q o is) (parts q o);
  }

  -- what is held of these addresses is another
  changed : (old new : Talks Z) (own : Addresses) (after : Talk Z) → HoldsEach port packets old → new.port ≡ old.port → AreOrdered own
      → ((q : Addresses) → AreOrdered q → q ≢ own → HasPart (selection_of q port) (length packets + 1) packet []) → KeepsOthers old new own
      → talk_at new own ≡ Some after → HoldsTalk port (packets ++ packet ∷ []) own after → HoldsEach port (packets ++ packet ∷ []) new
  changed old new own after h same_port own_is parts keeps is holds = record {
    right = record {
      is_port = same_port ∙ h.right.is_port;
      each = λ q talk there. elim (tie own q) [
        | inl e ↦
            let same : own ≡ q = tied own q e in
            let its : after ≡ talk = talk_is after talk (sym is ∙ subst (λ (x : Addresses). talk_at new x ≡ Some talk) (sym same) there) in (
              subst AreOrdered same own_is,
              subst (λ (x : Addresses). HoldsTalk port (packets ++ packet ∷ []) x talk) same (subst (λ (t : Talk Z). HoldsTalk port (packets ++ packet ∷ []) own t) its holds),
            )
        | inr f ↦
            let (o, held) = h.right.each q talk (sym (keeps q f) ∙ there) in
            (o, grown port packets packet q talk.connections talk.refusal held (parts q o (λ e. apart own q f (sym e))))
      ];
    };
    none = λ q o there. elim (tie own q) [
      | inl e ↦ absurd (none_some after (sym there ∙ subst (λ (x : Addresses). talk_at new x ≡ Some after) (tied own q e) is))
      | inr f ↦ grown_taken port packets packet q [] (h.none q o (sym (keeps q f) ∙ there)) (parts q o (λ e. apart own q f (sym e)))
    ];
  }

  module _ (old new : Talks Z) (own : Addresses) (h : HoldsEach port packets old) (same_port : new.port ≡ old.port) (a : Addresses)
      (has : addresses_in (found_in packet.link_type packet.octets) ≡ Some a) (own_is : own ≡ ordered a) where
    in_order_own : AreOrdered own
    in_order_own = subst AreOrdered (sym own_is) (ordered_is a)

    others : (q : Addresses) → AreOrdered q → q ≢ own → HasPart (selection_of q port) (length packets + 1) packet []
    others q o other = no_other port (length packets + 1) q own packet o a has own_is other

    pub segment_taken : (s : Segment) → HasPart (selection_of own port) (length packets + 1) packet (s ∷ []) → Changes (TakesSegment s) old new own
        → HoldsEach port (packets ++ packet ∷ []) new
    segment_taken s part c =
        let held = held_before port packets old own c.before h in_order_own c.was in
        changed old new own c.after h same_port in_order_own others c.others c.is
        (subst (λ (r : Option (PacketFault × ℕ)). HoldsBy port (packets ++ packet ∷ []) own c.after.connections r) (sym c.by.0)
        (with_segment port packets packet own c.before.connections c.after.connections c.before.refusal s held part c.by.1))

    pub refused_taken : (fault : PacketFault) (number : ℕ) → number ≡ length packets + 1 → IsPacketRefused (selection_of own port) packet fault
        → Changes (IsRefusedBy fault number) old new own → HoldsEach port (packets ++ packet ∷ []) new
    refused_taken fault number is refused c =
        let held = held_before port packets old own c.before h in_order_own c.was in
        changed old new own c.after h same_port in_order_own others c.others c.is
        (subst (λ (r : Option (PacketFault × ℕ)). HoldsBy port (packets ++ packet ∷ []) own c.after.connections r) (sym c.by.1)
        (with_refusal port packets packet own c.before.connections c.after.connections c.before.refusal fault number held refused is))

  -- nothing of a packet between these addresses is of their session
  pub none_of_own : (talks : Talks Z) (own a : Addresses) → HoldsEach port packets talks → addresses_in (found_in packet.link_type packet.octets) ≡ Some a → own ≡ ordered a
      → HasPart (selection_of own port) (length packets + 1) packet [] → HoldsEach port (packets ++ packet ∷ []) talks
  none_of_own talks own a h has own_is part = nothing_taken talks h (λ q o. elim (tie own q) [
    | inl e ↦ subst (λ (x : Addresses). HasPart (selection_of x port) (length packets + 1) packet []) (tied own q e) part
    | inr f ↦ no_other port (length packets + 1) q own packet o a has own_is (λ e. apart own q f (sym e))
  ])

-- ---- memory is refused

pub lost : {Z : Type 0} (port : ℕ) (packets : List Recorded) (old mid new : Talks Z) (own : Addresses) → HoldsEach port packets old → KeepsOthers old mid own → new.port ≡ old.port
    → KeepsOthers mid new own → talk_at new own ≡ None → HoldsSome port packets new
lost port packets old mid new own h keeps same_port keeps_on gone = record {
  is_port = same_port ∙ h.right.is_port;
  each = λ q talk there. elim (tie own q) [
    | inl e ↦ absurd (none_some talk (sym gone ∙ subst (λ (x : Addresses). talk_at new x ≡ Some talk) (sym (tied own q e)) there))
    | inr f ↦ h.right.each q talk (sym (keeps_on q f ∙ keeps q f) ∙ there)
  ];
}

-- ---- what is told of them

pub are_held : {Z : Type 0} (port : ℕ) (packets : List Recorded) (q : Addresses) (connections : Connections Z) → HoldsAll port packets q connections → AreHeld connections
are_held port packets q connections h = record {
  segments = reverse h.segments;
  holds = h.holds;
  order = in_order (selection_of q port) packets h.segments h.taken;
}

-- ---- what was found in a packet of these addresses

module _ (selection : Selection) (own : Addresses) (port : ℕ) (same : selection ≡ selection_of own port) (packet : Recorded) (conversation : Conversation) (finding : Finding)
    (meant : conversation ≡ conversation_of selection) (found : finding ≡ found_in packet.link_type packet.octets) where
  part_at : (number n : ℕ) (part : List Segment) → number ≡ n → HasPart selection number packet part → HasPart (selection_of own port) n packet part
  part_at number n part is has =
      subst (λ (k : ℕ). HasPart (selection_of own port) k packet part) is (subst (λ (s : Selection). HasPart s number packet part) same has)

  pub part_of_segment : (number n : ℕ) (segment : TcpSegment) (side : Side) (s : Segment) → number ≡ n → IsSelected conversation finding (Ok (Some segment))
      → IsSentBy selection segment.ends (Some side) → s ≡ passed_of number packet segment side → HasPart (selection_of own port) n packet (s ∷ [])
  part_of_segment number n segment side s is selected sent its = part_at number n (s ∷ []) is (record {
    found = Some segment;
    is_found = found_so selection packet conversation finding (Ok (Some segment)) selected meant found;
    is_part = (Some side, sent, ap (λ (x : Segment). x ∷ []) its);
  })

  pub part_of_nobody : (n : ℕ) (segment : TcpSegment) → IsSelected conversation finding (Ok (Some segment)) → IsSentBy selection segment.ends None
      → HasPart (selection_of own port) n packet []
  part_of_nobody n segment selected sent = part_at n n [] refl (record {
    found = Some segment;
    is_found = found_so selection packet conversation finding (Ok (Some segment)) selected meant found;
    is_part = (None, sent, refl);
  })

  pub part_of_none : (n : ℕ) → IsSelected conversation finding (Ok None) → HasPart (selection_of own port) n packet []
  part_of_none n selected = part_at n n [] refl (record {
    found = None;
    is_found = found_so selection packet conversation finding (Ok None) selected meant found;
    is_part = refl;
  })

  pub refused_of : (fault : PacketFault) → IsSelected conversation finding (Err fault) → IsPacketRefused (selection_of own port) packet fault
  refused_of fault selected = subst (λ (s : Selection). IsPacketRefused s packet fault) same (found_so selection packet conversation finding (Err fault) selected meant found)

-- ---- a packet without addresses

link_is : (a b : ℕ) → UnknownLink a ≡ UnknownLink b → a ≡ b
link_is a b e = cc

found_link : (f : Found) (link_type : ℕ) → finding_of f ≡ UnknownLink link_type → f ≡ variants.UnknownLink link_type
found_link variants.Nothing link_type e = absurd cc
found_link (variants.UnknownLink other) link_type e = ap variants.UnknownLink (link_is other link_type e)
found_link (variants.Fragment a) link_type e = absurd cc
found_link (variants.NoPorts a) link_type e = absurd cc
found_link (variants.CutHeader ends) link_type e = absurd cc
found_link (variants.Segment s) link_type e = absurd cc

none_is : (a : Addresses) → None ≡ Some a → ⊥
none_is a e = cc

pub is_known : (packet : Recorded) (f : Found) → finding_of f ≡ found_in packet.link_type packet.octets → ((link_type : ℕ) → f ≢ variants.UnknownLink link_type)
    → IsLinkKnown packet
is_known packet f found known link_type link = known link_type (found_link f link_type (found ∙ link))

pub no_addresses : {Z : Type 0} (port : ℕ) (packets : List Recorded) (packet : Recorded) (talks : Talks Z) (f : Found) → finding_of f ≡ found_in packet.link_type packet.octets
    → ((link_type : ℕ) → f ≢ variants.UnknownLink link_type) → (o : Option Addresses) → o ≡ addresses_in (finding_of f) → o ≡ None → HoldsEach port packets talks
    → HoldsEach port (packets ++ packet ∷ []) talks
no_addresses port packets packet talks f found known o its none h =
    let without : addresses_in (found_in packet.link_type packet.octets) ≡ None = sym (ap addresses_in found) ∙ sym its ∙ none in
    nothing_taken port packets packet talks h (λ q is.
    no_part port (length packets + 1) q packet is (is_known packet f found known) (λ a has same. none_is a (sym without ∙ has)))
