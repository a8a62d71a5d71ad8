-- What a print knows of all orders, and that two know the same.
use Rattle.std.proofs.Common.{◌≡◌, ◌∙◌, ℕ, zero, suc, List, [], ◌∷◌, Option, IsSomeAnd, refl, sym, ap, subst}
use Rattle.std.specs.List.{slice_get}
use Rattle.packets.specs.Packet.{Recorded}
use Rattle.streams.specs.Passed.{Segment}
use Rattle.bgp_open.specs.declared.config.Config.{Config}
use Rattle.bgp_machine.specs.Lists.{Has}
use Rattle.bgp_machine.specs.Run.{End, IsComplete}
use Rattle.bgp_recording.specs.declared.entry.Entry.{Entry}
use Rattle.bgp_recording.specs.declared.message.Message.{Message}
use Rattle.bgp_recording.specs.Captured.{records_of}
use Rattle.bgp_recording.specs.Pieces.{framings_of}
use Rattle.bgp_judge.specs.Verdict.{HasOneVerdict}
use Rattle.bgp_orders.specs.Connections.{NoOrderExplains}
use Rattle.bgp_orders.specs.Entries.{RunsOfEntriesAreWhole}
use Rattle.bgp_orders.specs.Explained.{HasOneVerdictOver, IsWhole}
use Rattle.bgp_orders.specs.Explained as orders
use Rattle.bgp_orders.specs.WholeWays.{CanHaveEnded}
use Rattle.bgp_orders.specs.declared.connection.OverOrders.{OverOrders}
use Rattle.bgp_orders.specs.declared.connection.OverOrders.TheVariants as over
use Rattle.bgp_orders.specs.declared.connection.Unexplained.{Unexplained}
use Rattle.bgp_import.specs.Selecting.{AreTaken}
use Rattle.bgp_import.specs.declared.importing.Import.{Import}
use Rattle.bgp_recording_tool.specs.Connections.{IsOverAll, IsYesOfAnother}
use Rattle.bgp_recording_tool.specs.Headline.{IsByNoOrder}
use Rattle.bgp_recording_tool.proofs.SameWays.{packet_there}
use Rattle.bgp_way_ends.specs.EveryEnd.{WayYesListsEveryEnd}
use Rattle.bgp_way_ends.specs.Starts.{TwoStartsEndAll}
use Rattle.bgp_order_laws.specs.OneAnswer.{Answer, IsSo, NoAt, Unfinished, Yes}
use Rattle.bgp_order_laws.proofs.Lists.{first_of, of_each, one_list}
use Rattle.bgp_order_laws.proofs.Moved.{Place, clock, one_over, same, whole_in}
use Rattle.bgp_order_laws.proofs.Yeses.{all_ends}

-- the first message that no order explains, with this packet
pub record NoneAt (config : Config) (wanted : Import) (packets : List Recorded) (segments : List Segment) (number : Option ℕ) (packet : ℕ) : Type 0 where
  pub first : Unexplained
  pub is : first.packet ≡ packet
  pub over_all : IsOverAll config wanted packets segments number (over.No first)

-- the entries of a way, of which the ends are listed; or what holds over all orders
abbrev pub Known : Config → Import → List Recorded → List Segment → Option ℕ → Answer → Type 0
Known config wanted packets segments number (Yes ends) =
    (entries : List Entry) × IsYesOfAnother config wanted packets segments number entries ends
Known config wanted packets segments number (NoAt packet) = NoneAt config wanted packets segments number packet
Known config wanted packets segments number Unfinished = IsOverAll config wanted packets segments number over.Unfinished

-- ---- packets of messages

one_packet : (packet other place : ℕ) (ms : List Message) → IsSomeAnd (slice_get ms place) (λ m. m.packet ≡ packet) → IsSomeAnd (slice_get ms place) (λ m. m.packet ≡ other)
    → packet ≡ other
one_packet packet other place [] is also = absurd is
one_packet packet other zero (m ∷ ms) is also = sym is ∙ also
one_packet packet other (suc place) (m ∷ ms) is also = one_packet packet other place ms is also

count_is : (a b : ℕ) → orders.No a ≡ orders.No b → a ≡ b
count_is a b e = cc

no_yes : (count : ℕ) → orders.Yes ≡ orders.No count → ⊥
no_yes count e = cc

no_unfinished : (count : ℕ) → orders.Unfinished ≡ orders.No count → ⊥
no_unfinished count e = cc

yes_unfinished : orders.Yes ≡ orders.Unfinished → ⊥
yes_unfinished e = cc

module _ (runs : RunsOfEntriesAreWhole) (config : Config) (wanted : Import) (packets : List Recorded) (segments : List Segment) (number : Option ℕ) where
  -- where what is known of all orders is told
  abbrev pub place_of : (verdict : OverOrders) → IsOverAll config wanted packets segments number verdict → Place wanted packets segments number
  place_of verdict is = record { connection = is.connection; chosen = is.chosen; exchange = is.over_all.exchange; tells = is.over_all.tells }

  abbrev pub place_in : (entries : List Entry) (ends : List End) → IsYesOfAnother config wanted packets segments number entries ends → Place wanted packets segments number
  place_in entries ends is = record { connection = is.connection; chosen = is.chosen; exchange = is.yes.of.exchange; tells = is.yes.of.tells }

  -- some end is that of a way
  pub some_whole : (entries : List Entry) (ends : List End) (is : IsYesOfAnother config wanted packets segments number entries ends)
      → (e : End) × IsWhole config wanted.within is.yes.of.exchange e
  some_whole entries ends is =
      let first = first_of ends is.yes.is.0 in
      let complete = of_each (IsComplete config (records_of entries)) ends first.0 is.yes.is.1.each first.1 in
      (first.0, runs config wanted.within is.yes.of.exchange entries first.0 is.yes.of.of complete)

module _ (runs : RunsOfEntriesAreWhole) (every : WayYesListsEveryEnd) (single : HasOneVerdict) (one : HasOneVerdictOver) (config : Config) (wanted : Import) (packets : List Recorded)
    (segments : List Segment) (number : Option ℕ) (taken : AreTaken wanted.selection 0 packets segments) where
  -- ---- two yeses

  there : (entries others : List Entry) (ends listed : List End) (is : IsYesOfAnother config wanted packets segments number entries ends)
      (also : IsYesOfAnother config wanted packets segments number others listed) → (e : End) → Has (λ x. x ≡ e) ends → Has (λ x. x ≡ e) listed
  there entries others ends listed is also e has =
      let framings = framings_of wanted.selection.session in
      let here = place_in runs config wanted packets segments number entries ends is in
      let other = place_in runs config wanted packets segments number others listed also in
      let clocked = clock config wanted packets segments number taken here in
      let later = clock config wanted packets segments number taken other in
      let can = (every config wanted.within framings is.connection entries is.yes.received is.yes.sent ends e clocked is.yes.of is.yes.is.1 is.yes.is.0).1 has in
      let from : Place wanted packets segments number = record { connection = is.connection; chosen = is.chosen; exchange = can.exchange; tells = can.tells } in
      let moved : CanHaveEnded config wanted.within framings also.connection e = record {
        exchange = also.yes.of.exchange;
        tells = also.yes.of.tells;
        whole = whole_in config wanted packets segments number taken wanted.within from other e can.whole;
      } in
      (every config wanted.within framings also.connection others also.yes.received also.yes.sent listed e later also.yes.of also.yes.is.1 also.yes.is.0).0 moved

  same_ends : (entries others : List Entry) (ends listed : List End) → IsYesOfAnother config wanted packets segments number entries ends
      → IsYesOfAnother config wanted packets segments number others listed → ends ≡ listed
  same_ends entries others ends listed is also =
      one_list single config (records_of entries) (records_of others) ends listed is.yes.is also.yes.is (there entries others ends listed is also) (there others entries listed ends also is)

  -- ---- any two

  abbrev here_over : (verdict : OverOrders) → IsOverAll config wanted packets segments number verdict → Place wanted packets segments number
  here_over = place_of runs config wanted packets segments number

  abbrev here_in : (entries : List Entry) (ends : List End) → IsYesOfAnother config wanted packets segments number entries ends → Place wanted packets segments number
  here_in = place_in runs config wanted packets segments number

  pub yes_not_no : (entries : List Entry) (ends : List End) (u : Unexplained) → IsYesOfAnother config wanted packets segments number entries ends
      → IsOverAll config wanted packets segments number (over.No u) → ⊥
  yes_not_no entries ends u is denied =
      no_yes u.before
      (one_over config wanted packets segments number taken one (here_in entries ends is) (here_over (over.No u) denied) orders.Yes (orders.No u.before)
      (some_whole runs config wanted packets segments number entries ends is) denied.over_all.holds.0)

  yes_not_unfinished : (entries : List Entry) (ends : List End) → IsYesOfAnother config wanted packets segments number entries ends
      → IsOverAll config wanted packets segments number over.Unfinished → ⊥
  yes_not_unfinished entries ends is denied =
      yes_unfinished
      (one_over config wanted packets segments number taken one (here_in entries ends is) (here_over over.Unfinished denied) orders.Yes orders.Unfinished
      (some_whole runs config wanted packets segments number entries ends is) denied.over_all.holds)

  unfinished_not_no : (u : Unexplained) → IsOverAll config wanted packets segments number over.Unfinished → IsOverAll config wanted packets segments number (over.No u) → ⊥
  unfinished_not_no u is denied =
      no_unfinished u.before
      (one_over config wanted packets segments number taken one (here_over over.Unfinished is) (here_over (over.No u) denied) orders.Unfinished (orders.No u.before)
      is.over_all.holds denied.over_all.holds.0)

  same_packet : (u v : Unexplained) → IsOverAll config wanted packets segments number (over.No u) → IsOverAll config wanted packets segments number (over.No v) → u.packet ≡ v.packet
  same_packet u v is also =
      let here = here_over (over.No u) is in
      let other = here_over (over.No v) also in
      let before : u.before ≡ v.before =
      count_is u.before v.before
      (one_over config wanted packets segments number taken one here other (orders.No u.before) (orders.No v.before) is.over_all.holds.0 also.over_all.holds.0) in
      let there = packet_there (framings_of wanted.selection.session) here.connection other.connection here.exchange other.exchange u
      (same config wanted packets segments number taken here other) (clock config wanted packets segments number taken here) here.tells other.tells is.over_all.holds.1 in
      one_packet u.packet v.packet v.before other.exchange.sent.now
      (subst (λ (n : ℕ). IsSomeAnd (slice_get other.exchange.sent.now n) (λ m. m.packet ≡ u.packet)) before there) also.over_all.holds.1

  pub same_known : (answer other : Answer) → Known config wanted packets segments number answer → Known config wanted packets segments number other → answer ≡ other
  same_known (Yes ends) (Yes listed) (entries, is) (others, also) = ap Yes (same_ends entries others ends listed is also)
  same_known (Yes ends) (NoAt packet) (entries, is) denied = absurd (yes_not_no entries ends denied.first is denied.over_all)
  same_known (Yes ends) Unfinished (entries, is) denied = absurd (yes_not_unfinished entries ends is denied)
  same_known (NoAt packet) (Yes ends) denied (entries, is) = absurd (yes_not_no entries ends denied.first is denied.over_all)
  same_known (NoAt packet) (NoAt other) denied also =
      ap NoAt (sym denied.is ∙ same_packet denied.first also.first denied.over_all also.over_all ∙ also.is)
  same_known (NoAt packet) Unfinished denied is = absurd (unfinished_not_no denied.first is denied.over_all)
  same_known Unfinished (Yes ends) denied (entries, is) = absurd (yes_not_unfinished entries ends is denied)
  same_known Unfinished (NoAt packet) is denied = absurd (unfinished_not_no denied.first is denied.over_all)
  same_known Unfinished Unfinished is also = refl

-- ---- and so it is

pub by_no_order : NoOrderExplains → (config : Config) (wanted : Import) (packets : List Recorded) (segments : List Segment) (number : Option ℕ) (u : Unexplained)
    → IsOverAll config wanted packets segments number (over.No u) → IsByNoOrder config wanted packets segments number u
by_no_order law config wanted packets segments number u is = record {
  connection = is.connection;
  chosen = is.chosen;
  exchange = is.over_all.exchange;
  tells = is.over_all.tells;
  packet = is.over_all.holds.1;
  others = is.over_all.holds.0.1;
  none = law config wanted.within _ is.connection u is.over_all;
}

pub is_so : WayYesListsEveryEnd → TwoStartsEndAll → NoOrderExplains → (config : Config) (wanted : Import) (packets : List Recorded) (segments : List Segment) (number : Option ℕ)
    (answer : Answer) → AreTaken wanted.selection 0 packets segments → Known config wanted packets segments number answer → IsSo config wanted packets segments number answer
is_so every starts law config wanted packets segments number (Yes ends) taken (entries, is) =
    all_ends every starts config wanted packets segments number entries ends taken is
is_so every starts law config wanted packets segments number (NoAt packet) taken denied =
    (denied.first, denied.is, by_no_order law config wanted packets segments number denied.first denied.over_all)
is_so every starts law config wanted packets segments number Unfinished taken is = record {
  connection = is.connection;
  chosen = is.chosen;
  exchange = is.over_all.exchange;
  tells = is.over_all.tells;
  explained = is.over_all.holds.0;
  none = is.over_all.holds.1;
}
