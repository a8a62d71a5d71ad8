-- The first NOTIFICATION of messages and one more.
use Rattle.std.proofs.Common.{◌≡◌, ◌∙◌, ◌<◌, ◌≤◌, ◌+◌, ◌++◌, ℕ, List, [], ◌∷◌, Option, None, Some, take, get_or, length, refl, sym, ap, subst, arith, append_assoc}
use Rattle.std.proofs.lemmas.List.{map_more, take_all}
use Rattle.std.specs.List.{AllByRecursion}
use Rattle.streams.specs.declared.passed.Side.{Side}
use Rattle.bgp_recording.proofs.Lists.{all_append, all_weaker}
use Rattle.bgp_recording.specs.declared.message.Message.{Message}
use Rattle.bgp_ended.specs.Notified.{HasFirst, IsNotice, IsOfFirst, Notifies, Said, said_as, said_by}
use Rattle.bgp_ended.specs.Values.{EndedValue}

-- that of the one more, where there is none before it
pub next_alone : (before : List Said) (said : Said) (next : EndedValue) → HasFirst before None → Notifies said next → IsOfFirst (before ++ said ∷ []) next
next_alone before said next none notifies = record {
  before = before;
  first = said;
  after = [];
  whole = refl;
  notifies = notifies;
  is_earlier = all_weaker (λ other. ¬ IsNotice other) (λ other. IsNotice other → said.message.packet < other.message.packet) (λ other no is. absurd (no is)) before none;
  isnt_later = tt;
}

module _ (before : List Said) (said : Said) (first next : EndedValue) (has : IsOfFirst before first) (notifies : Notifies said next) where
  packet_first : first.moment.packet ≡ has.first.message.packet
  packet_first = ap (λ e. e.moment.packet) has.notifies.tells

  packet_next : next.moment.packet ≡ said.message.packet
  packet_next = ap (λ e. e.moment.packet) notifies.tells

  -- that of the one more, where its packet is the earlier one
  pub next_earlier : next.moment.packet < first.moment.packet → IsOfFirst (before ++ said ∷ []) next
  next_earlier less =
      let is_less : said.message.packet < has.first.message.packet = omega (arith, less, packet_first, packet_next) in
      let Earlier : Said → Type 0 = λ other. IsNotice other → said.message.packet < other.message.packet in
      record {
        before = before;
        first = said;
        after = [];
        whole = refl;
        notifies = notifies;
        is_earlier = subst (AllByRecursion Earlier) (sym has.whole)
            (all_append Earlier has.before (has.first ∷ has.after)
            (all_weaker (λ other. IsNotice other → has.first.message.packet < other.message.packet) Earlier (λ other later is. let l = later is in omega (arith, l, is_less)) has.before has.is_earlier) (
              (λ is. is_less),
              all_weaker (λ other. IsNotice other → has.first.message.packet ≤ other.message.packet) Earlier (λ other later is. let l = later is in omega (arith, l, is_less)) has.after has.isnt_later,
            ));
        isnt_later = tt;
      }

  -- else that of those before
  pub first_stays : first.moment.packet ≤ next.moment.packet → IsOfFirst (before ++ said ∷ []) first
  first_stays at_most =
      let isnt_less : has.first.message.packet ≤ said.message.packet = omega (arith, at_most, packet_first, packet_next) in
      record {
        before = has.before;
        first = has.first;
        after = has.after ++ said ∷ [];
        whole = ap (λ (list : List Said). list ++ said ∷ []) has.whole ∙ append_assoc has.before (has.first ∷ has.after) (said ∷ []);
        notifies = has.notifies;
        is_earlier = has.is_earlier;
        isnt_later = all_append (λ other. IsNotice other → has.first.message.packet ≤ other.message.packet) has.after (said ∷ []) has.isnt_later ((λ is. isnt_less), tt);
      }

-- one more, which is none
pub none_more : (before : List Said) (said : Said) (first : Option EndedValue) → HasFirst before first → ¬ IsNotice said → HasFirst (before ++ said ∷ []) first
none_more before said None none isnt = all_append (λ other. ¬ IsNotice other) before (said ∷ []) none (isnt, tt)
none_more before said (Some first) has isnt = record {
  before = has.before;
  first = has.first;
  after = has.after ++ said ∷ [];
  whole = ap (λ (list : List Said). list ++ said ∷ []) has.whole ∙ append_assoc has.before (has.first ∷ has.after) (said ∷ []);
  notifies = has.notifies;
  is_earlier = has.is_earlier;
  isnt_later = all_append (λ other. IsNotice other → has.first.message.packet ≤ other.message.packet) has.after (said ∷ []) has.isnt_later ((λ is. absurd (isnt is)), tt);
}

-- ---- of messages that are gone through

module _ (before : List Said) (by : Side) (messages : List Message) (i : ℕ) where
  -- those up to the index and the next one
  pub one_on : (d : Message) → i < length messages
      → before ++ said_by by (take (i + 1) messages) ≡ before ++ said_by by (take i messages) ++ said_as by (get_or messages i d) ∷ []
  one_on d within =
      ap (λ (list : List Said). before ++ list) (map_more (said_as by) messages i d within)
      ∙ sym (append_assoc before (said_by by (take i messages)) (said_as by (get_or messages i d) ∷ []))

  pub all_gone : length messages ≤ i → before ++ said_by by (take i messages) ≡ before ++ said_by by messages
  all_gone at_most = ap (λ (list : List Message). before ++ said_by by list) (take_all i messages at_most)
