-- What becomes of a recording is one thing.
use Rattle.std.proofs.Common.{◌≡◌, ◌∙◌, ◌+◌, ◌++◌, ℕ, suc, Bool, true, false, List, [], ◌∷◌, Option, Result, Ok, Err, length, reverse, refl, sym, ap, subst, inl, inr}
use Rattle.std.proofs.lemmas.Option.{none-some, same_Some}
use Rattle.packets.specs.Context.{Start}
use Rattle.packets.specs.Packet.{Recorded}
use Rattle.packets.specs.Recording.{Ending, Fault as EndsAt, Whole, CutShort, IsRead, end_by}
use Rattle.packets.specs.RecordingLaws.{SomeReading, OneReading}
use Rattle.packets.specs.declared.fault.FaultKind.{FaultKind}
use Rattle.segments.specs.Conversation.{Answer}
use Rattle.segments.specs.Found.{found_in}
use Rattle.segments.specs.Segment.{TcpSegment}
use Rattle.segments.specs.declared.fault.PacketFault.{PacketFault}
use Rattle.streams.specs.Choice.{IsAnswered, IsRefused, chosen_of, numbered_one, refusal_of}
use Rattle.streams.specs.Connections.{numbered}
use Rattle.streams.specs.Passed.{Segment}
use Rattle.streams.specs.declared.connection.Connection.{Connection}
use Rattle.streams.specs.declared.fault.Fault.{Fault}
use Rattle.bgp_import.proofs.Once.{one_selected, same_taken}
use Rattle.bgp_import.specs.Importing.{HasRefusedPacket, IsConnectionRefused, IsFileRefused, IsFirstRefusal, IsImported}
use Rattle.bgp_import.specs.OneAnswer.{FirstRefusalsAreOne, NoneIsImportedAndRefused}
use Rattle.bgp_import.specs.Selecting.{AreTaken, HasPart, IsPacketRefused, conversation_of}
use Rattle.bgp_import.specs.declared.importing.Import.{Import}
use Rattle.bgp_import.specs.declared.note.Notes.{Notes}
use Rattle.bgp_import.specs.declared.refusal.Refusal.{Refusal}
use Rattle.bgp_import.specs.declared.refusal.Refusal.TheVariants as refusals
use Rattle.bgp_import.specs.declared.selection.Selection.{Selection}

-- ---- a packet

abbrev ok_answer : Option TcpSegment → Answer
ok_answer found = Ok found

abbrev err_answer : PacketFault → Answer
err_answer fault = Err fault

not_both : (selection : Selection) (number : ℕ) (packet : Recorded) (part : List Segment) (fault : PacketFault)
    → HasPart selection number packet part → IsPacketRefused selection packet fault → ⊥
not_both selection number packet part fault has refused =
    let bad : ok_answer has.found ≡ err_answer fault =
    one_selected (conversation_of selection) (found_in packet.link_type packet.octets) (ok_answer has.found) (err_answer fault) has.is_found refused in absurd (cc)

fault_is : (f g : PacketFault) → err_answer f ≡ err_answer g → f ≡ g
fault_is f g e = cc

one_fault : (selection : Selection) (p q : Recorded) (f g : PacketFault) → p ≡ q → IsPacketRefused selection p f → IsPacketRefused selection q g → f ≡ g
one_fault selection p q f g same hp hq =
    fault_is f g (one_selected (conversation_of selection) (found_in p.link_type p.octets) (err_answer f) (err_answer g) hp
    (subst (λ (r : Recorded). IsPacketRefused selection r g) (sym same) hq))

-- ---- packets

head_is : (x y : Recorded) (xs ys : List Recorded) → x ∷ xs ≡ y ∷ ys → x ≡ y
head_is x y xs ys e = cc

tail_is : (x y : Recorded) (xs ys : List Recorded) → x ∷ xs ≡ y ∷ ys → xs ≡ ys
tail_is x y xs ys e = cc

-- of packets that are all taken none is refused
none_refused : (selection : Selection) (before : ℕ) (front : List Recorded) (packet : Recorded) (later : List Recorded) (segments : List Segment) (fault : PacketFault)
    → AreTaken selection before (front ++ packet ∷ later) segments → IsPacketRefused selection packet fault → ⊥
none_refused selection before [] packet later segments fault (part, others, has, rest, is) refused =
    not_both selection (before + 1) packet part fault has refused
none_refused selection before (first ∷ front) packet later segments fault (part, others, has, rest, is) refused =
    none_refused selection (before + 1) front packet later others fault rest refused

-- the first that is refused is one, and so is its fault
one_front : (selection : Selection) (before : ℕ) (a b : List Recorded) (p q : Recorded) (l m : List Recorded) (s t : List Segment) (f g : PacketFault)
    → a ++ p ∷ l ≡ b ++ q ∷ m → AreTaken selection before a s → AreTaken selection before b t
    → IsPacketRefused selection p f → IsPacketRefused selection q g → (length a ≡ length b) × (f ≡ g)
one_front selection before [] [] p q l m s t f g e ha hb hp hq = (refl, one_fault selection p q f g (head_is p q l m e) hp hq)
one_front selection before [] (y ∷ b) p q l m s t f g e ha (part, others, has, rest, is) hp hq =
    absurd (not_both selection (before + 1) y part f has (subst (λ (r : Recorded). IsPacketRefused selection r f) (head_is p y l (b ++ q ∷ m) e) hp))
one_front selection before (x ∷ a) [] p q l m s t f g e (part, others, has, rest, is) hb hp hq =
    absurd (not_both selection (before + 1) x part g has (subst (λ (r : Recorded). IsPacketRefused selection r g) (sym (head_is x q (a ++ p ∷ l) m e)) hq))
one_front selection before (x ∷ a) (y ∷ b) p q l m s t f g e (part, others, has, rest, is) (part', others', has', rest', is') hp hq =
    let same = one_front selection (before + 1) a b p q l m others others' f g (tail_is x y (a ++ p ∷ l) (b ++ q ∷ m) e) rest rest' hp hq in
    (ap suc same.0, same.1)

-- ---- a connection

abbrev ok_number : ℕ → Result ℕ Fault
ok_number n = Ok n

abbrev err_number : Fault → Result ℕ Fault
err_number fault = Err fault

number_is : (a b : ℕ) → ok_number a ≡ ok_number b → a ≡ b
number_is a b e = cc

choice_is : (f g : Fault) → err_number f ≡ err_number g → f ≡ g
choice_is f g e = cc

module _ (number : Option ℕ) (count : ℕ) (connections : List (List Segment)) where
  not_chosen : (n : ℕ) (f : Fault) → chosen_of number count connections ≡ ok_number n → chosen_of number count connections ≡ err_number f → ⊥
  not_chosen n f e g = let bad : ok_number n ≡ err_number f = sym e ∙ g in absurd (cc)

  not_answered : (connection : Connection) (f : Fault) → IsAnswered number count connections connection → IsRefused number count connections f → ⊥
  not_answered connection f h (inl e) = not_chosen connection.number f h.chosen e
  not_answered connection f h (inr (n, e, r)) =
      let same : connection.number ≡ n = number_is connection.number n (sym h.chosen ∙ e) in
      none-some f (sym h.fine ∙ ap (λ (k : ℕ). refusal_of (numbered_one connections k)) same ∙ r)

  one_refused : (f g : Fault) → IsRefused number count connections f → IsRefused number count connections g → f ≡ g
  one_refused f g (inl e) (inl h) = choice_is f g (sym e ∙ h)
  one_refused f g (inl e) (inr (n, h, r)) = absurd (not_chosen n f h e)
  one_refused f g (inr (n, e, r)) (inl h) = absurd (not_chosen n g e h)
  one_refused f g (inr (n, e, r)) (inr (k, h, s)) =
      same_Some f g (sym r ∙ ap (λ (i : ℕ). refusal_of (numbered_one connections i)) (number_is n k (sym e ∙ h)) ∙ s)

-- ---- a recording

then_more : (a : List Recorded) (p : Recorded) (l : List Recorded) → (a ++ p ∷ []) ++ l ≡ a ++ p ∷ l
then_more [] p l = refl
then_more (x ∷ a) p l = ap (λ (r : List Recorded). x ∷ r) (then_more a p l)

kind_is : (a b : FaultKind) → EndsAt a ≡ EndsAt b → a ≡ b
kind_is a b e = cc

no_end : (kind : FaultKind) (cut : Bool) → EndsAt kind ≡ end_by cut → ⊥
no_end kind true e = let bad : EndsAt kind ≡ CutShort = e in absurd (cc)
no_end kind false e = let bad : EndsAt kind ≡ Whole = e in absurd (cc)

module _ (some : SomeReading) (one : OneReading) (wanted : Import) (recording : List ℕ) where
  -- the packets of a recording of which one is refused
  refused_reading : (refusal : Refusal) (h : HasRefusedPacket wanted.selection recording refusal)
      → (later : List Recorded) × (ending : Ending) × IsRead Start recording (h.packets ++ h.packet ∷ later) ending
  refused_reading refusal h =
      let (later, ending, read) = some h.after h.behind in (
        later,
        ending,
        subst (λ (octets : List ℕ). IsRead Start octets (h.packets ++ h.packet ∷ later) ending) (sym h.whole)
            (subst (λ (packets : List Recorded). IsRead Start (h.front ++ h.behind) packets ending) (then_more h.packets h.packet later)
            (h.read h.behind later ending read)),
      )

  not_taken : (packets : List Recorded) (ending : Ending) (segments : List Segment) (refusal : Refusal)
      → IsRead Start recording packets ending → AreTaken wanted.selection 0 packets segments → HasRefusedPacket wanted.selection recording refusal → ⊥
  not_taken packets ending segments refusal read taken h =
      let (later, other, also) = refused_reading refusal h in
      let same = (one Start recording packets (h.packets ++ h.packet ∷ later) ending other read also).0 in
      none_refused wanted.selection 0 h.packets h.packet later segments h.fault
      (subst (λ (p : List Recorded). AreTaken wanted.selection 0 p segments) same taken) h.refused

  not_file : (packets : List Recorded) (cut : Bool) (refusal : Refusal) → IsRead Start recording packets (end_by cut) → IsFileRefused wanted.selection recording refusal → ⊥
  not_file packets cut refusal read h = no_end h.kind cut (one Start recording h.packets packets (EndsAt h.kind) (end_by cut) h.first read).1

  by_files : (a b : Refusal) → IsFileRefused wanted.selection recording a → IsFileRefused wanted.selection recording b → a ≡ b
  by_files a b h k =
      let same = one Start recording h.packets k.packets (EndsAt h.kind) (EndsAt k.kind) h.first k.first in
      h.is ∙ ap (λ (kind : FaultKind). refusals.File (record { kind = kind; packet = length h.packets + 1 })) (kind_is h.kind k.kind same.1)
      ∙ ap (λ (packets : List Recorded). refusals.File (record { kind = k.kind; packet = length packets + 1 })) same.0 ∙ sym k.is

  by_packets : (a b : Refusal) → HasRefusedPacket wanted.selection recording a → HasRefusedPacket wanted.selection recording b → a ≡ b
  by_packets a b h k =
      let (later, ending, read) = refused_reading a h in
      let (more, other, also) = refused_reading b k in
      let packets = (one Start recording (h.packets ++ h.packet ∷ later) (k.packets ++ k.packet ∷ more) ending other read also).0 in
      let same = one_front wanted.selection 0 h.packets k.packets h.packet k.packet later more h.segments k.segments h.fault k.fault packets h.taken k.taken h.refused k.refused in
      h.is ∙ ap (λ (n : ℕ). refusals.Packet h.fault (n + 1)) same.0 ∙ ap (λ (f : PacketFault). refusals.Packet f (length k.packets + 1)) same.1 ∙ sym k.is

  -- the connections that are asked for are those of the same packets
  same_connections : (packets others : List Recorded) (cut also : Bool) (segments more : List Segment) → IsRead Start recording packets (end_by cut) → IsRead Start recording others (end_by also)
      → AreTaken wanted.selection 0 packets segments → AreTaken wanted.selection 0 others more → (length packets ≡ length others) × (segments ≡ more)
  same_connections packets others cut also segments more read too taken rest =
      let same = (one Start recording packets others (end_by cut) (end_by also) read too).0 in (
        ap (λ (p : List Recorded). length p) same,
        same_taken wanted.selection 0 others segments more (subst (λ (p : List Recorded). AreTaken wanted.selection 0 p segments) same taken) rest,
      )

  by_connections : (a b : Refusal) → IsConnectionRefused wanted recording a → IsConnectionRefused wanted recording b → a ≡ b
  by_connections a b h k =
      let same = same_connections h.packets k.packets h.cut k.cut h.segments k.segments h.spells k.spells h.taken k.taken in
      let refused = subst (λ (n : ℕ). IsRefused wanted.connection n (numbered (reverse k.segments)) h.fault) same.0
      (subst (λ (s : List Segment). IsRefused wanted.connection (length h.packets) (numbered (reverse s)) h.fault) same.1 h.refused) in
      h.is ∙ ap (λ (f : Fault). refusals.Connection f) (one_refused wanted.connection (length k.packets) (numbered (reverse k.segments)) h.fault k.fault refused k.refused) ∙ sym k.is

  one_refusal : (a b : Refusal) → IsFirstRefusal wanted recording a → IsFirstRefusal wanted recording b → a ≡ b
  one_refusal a b (inl (inl h)) (inl (inl k)) = by_files a b h k
  one_refusal a b (inl (inl h)) (inl (inr k)) = absurd (not_taken h.packets (EndsAt h.kind) h.segments b h.first h.taken k)
  one_refusal a b (inl (inl h)) (inr k) = absurd (not_file k.packets k.cut a k.spells h)
  one_refusal a b (inl (inr h)) (inl (inl k)) = absurd (not_taken k.packets (EndsAt k.kind) k.segments a k.first k.taken h)
  one_refusal a b (inl (inr h)) (inl (inr k)) = by_packets a b h k
  one_refusal a b (inl (inr h)) (inr k) = absurd (not_taken k.packets (end_by k.cut) k.segments a k.spells k.taken h)
  one_refusal a b (inr h) (inl (inl k)) = absurd (not_file h.packets h.cut b h.spells k)
  one_refusal a b (inr h) (inl (inr k)) = absurd (not_taken h.packets (end_by h.cut) h.segments b h.spells h.taken k)
  one_refusal a b (inr h) (inr k) = by_connections a b h k

  not_refused : (octets : List ℕ) (notes : Notes) (refusal : Refusal) → IsImported wanted recording octets notes → IsFirstRefusal wanted recording refusal → ⊥
  not_refused octets notes refusal h (inl (inl k)) = not_file h.packets h.cut refusal h.spells k
  not_refused octets notes refusal h (inl (inr k)) =
      not_taken h.packets (end_by h.cut) h.is_connection.segments refusal h.spells h.is_connection.taken k
  not_refused octets notes refusal h (inr k) =
      let same = same_connections h.packets k.packets h.cut k.cut h.is_connection.segments k.segments h.spells k.spells h.is_connection.taken k.taken in
      let answered = subst (λ (n : ℕ). IsAnswered wanted.connection n (numbered (reverse k.segments)) h.connection) same.0
      (subst (λ (s : List Segment). IsAnswered wanted.connection (length h.packets) (numbered (reverse s)) h.connection) same.1 h.is_connection.answered) in
      not_answered wanted.connection (length k.packets) (numbered (reverse k.segments)) h.connection k.fault answered k.refused

pub first_refusals_are_one : SomeReading → OneReading → FirstRefusalsAreOne
first_refusals_are_one some one wanted recording a b h k = one_refusal some one wanted recording a b h k

pub none_is_imported_and_refused : SomeReading → OneReading → NoneIsImportedAndRefused
none_is_imported_and_refused some one wanted recording octets notes refusal h k = not_refused some one wanted recording octets notes refusal h k
