-- What is told of an end, by the order in which it is told.
use Rattle.std.proofs.Common.{◌≡◌, ◌∙◌, ◌⊎◌, Bool, true, false, ℕ, List, [], Option, None, Some, IfSome, ap, inl, inr, sym, subst, refl}
use Rattle.bgp_prefix.specs.Shown.{ShownRecord}
use Rattle.bgp_prefix.specs.declared.session.Session.{Session}
use Rattle.segments.specs.declared.found.Endpoint.{Endpoint}
use Rattle.streams.specs.declared.connection.Connection.{Connection}
use Rattle.bgp_open.specs.declared.config.Config.{Config}
use Rattle.bgp_machine.specs.Run.{End}
use Rattle.bgp_judge.specs.Verdict.{No, Unfinished, VerdictValue, Yes}
use Rattle.bgp_recording.specs.Captured.{records_of}
use Rattle.bgp_recording.specs.declared.entry.Entry.{Entry}
use Rattle.bgp_recording.specs.declared.framing.Framings.{Framings}
use Rattle.bgp_recording.specs.declared.framing.Unshown.{Unshown}
use Rattle.bgp_orders.specs.WholeWays.{AreOfAWayOver}
use Rattle.bgp_check_tool.specs.declared.orders.NoOrder.{NoOrder}
use Rattle.bgp_orders.proofs.Entries.{entries_show_the_way}
use Rattle.bgp_check.specs.Answered.{AnswerValue, IsAnswerTo, JudgedAs, Unjudged}
use Rattle.bgp_check.specs.Stretch.{IsStretch}
use Rattle.bgp_check.specs.declared.peer_as.PeerAs.{PeerAs}
use Rattle.bgp_check_lines.specs.Reached.{IsReached, ReachedValue}
use Rattle.bgp_check_lines.specs.CheckTextReason.{IsReasonTo}
use Rattle.bgp_check_lines.specs.Places.{shown_places}
use Rattle.bgp_import.specs.Captures.{put_off}
use Rattle.bgp_check_lines.specs.DeclaredAsked.{Asked}
use Rattle.bgp_check_lines.specs.JudgeOptions.{JudgeOptions}
use Rattle.bgp_check_tool.specs.declared.options.CheckOptions.{CheckOptions}
use Rattle.bgp_check_tool.specs.declared.late.Late.{Late}
use Rattle.bgp_check_tool.specs.About.{IsAbout}
use Rattle.bgp_check_tool.specs.Another.{IsNo, IsYes}
use Rattle.bgp_check_tool.specs.Late.{IsLate}
use Rattle.bgp_check_tool.specs.Orders.{IsFoundTo, IsKnown, IsUnexplained, IsUnfinished}
use Rattle.bgp_check_tool.specs.declared.another.Order.{Order}
use Rattle.bgp_check_tool.specs.declared.another.Order.TheVariants as orders
use Rattle.bgp_check_tool.specs.Told.{EndTold, HasCause, IsOfAll, IsOfAnother, IsOfMade, IsTold, peer_end, place_of}
use Rattle.bgp_check_lines.specs.AsNumber.{HasAsNumber}
use Rattle.bgp_check_tool.specs.Elsewhere.{IsOther, in_made, no_count}
use Rattle.bgp_wire.specs.declared.header.Limit.{Limit}
use Rattle.bgp_why.specs.declared.endpoint.Endpoint.{Endpoint as PeerEnd}
use Rattle.bgp_why.specs.declared.place.Place.{Place}
use Rattle.bgp_check_tool.specs.Instead.{AreInstead}
use Rattle.bgp_check_tool.specs.Place.{second_at}
use Rattle.bgp_why.specs.declared.other_orders.OtherOrders.{OtherOrders}
use Rattle.bgp_why.specs.declared.other_orders.OtherOrders.TheVariants.{Unasked}
use Rattle.bgp_check_tool.proofs.Stretch.{stretch_of}
use Rattle.bgp_check_tool.proofs.WayRecords.{front_is_stretch}

-- ---- a stretch

stretch_of_way : (framings : Framings) (within : ℕ) (connection : Connection) (entries : List Entry) (received sent : Unshown)
    → AreOfAWayOver framings within connection entries received sent → IsStretch (records_of entries)
stretch_of_way framings within connection entries received sent over =
    subst (λ (records : List ShownRecord). IsStretch records) (sym (entries_show_the_way within over.exchange entries over.of))
    (front_is_stretch over.exchange.second over.of.start over.of.events [] over.of.way.starts.0)

module _ (options : CheckOptions) (asked : Asked) (end : Endpoint) (session : Session) (connection : Connection) (told : EndTold) (is : IsTold options asked end session connection told) where
  -- the records of which it is told are one
  pub told_stretch : IsStretch (records_of is.entries)
  told_stretch = elim is.are_of [
    | inl of ↦ stretch_of is.framings options.within connection is.entries is.received_unshown is.sent_unshown of.made.recorded.told
    | inr others ↦ elim others [
      | inl of ↦ stretch_of_way is.framings options.within connection is.entries is.received_unshown is.sent_unshown of.way
      | inr of ↦ stretch_of is.framings options.within connection is.entries is.received_unshown is.sent_unshown of.made.recorded.told
    ]
  ]

  abbrev OfMade : Type 0
  OfMade = IsOfMade options asked session connection is.framings is.entries is.received_unshown is.sent_unshown is.answer is.about told

  abbrev OfAnother : Type 0
  OfAnother = IsOfAnother options asked session connection is.framings is.entries is.received_unshown is.sent_unshown is.answer is.about told

  abbrev OfAll : Type 0
  OfAll = IsOfAll options asked session connection is.framings is.entries is.received_unshown is.sent_unshown is.answer is.about told

  -- a no is told in the made order
  pub no_of_made : (number : Option ℕ) (peer : PeerAs) (under : Config) (count : ℕ) → told.answer ≡ JudgedAs number peer under (No count) → OfMade
  no_of_made number peer under count is_no = elim is.are_of [
    | inl of ↦ of
    | inr others ↦ elim others [
      | inl of ↦ let its : ⊥ = subst IsYes is_no of.is_yes in absurd its
      | inr of ↦ let its : ⊥ = subst IsNo (sym is_no ∙ of.is_told) tt in absurd its
    ]
  ]

  -- a yes in it, or in another one
  pub yes_of : (number : Option ℕ) (peer : PeerAs) (under : Config) (ends : List End) → told.answer ≡ JudgedAs number peer under (Yes ends) → OfMade ⊎ OfAnother
  yes_of number peer under ends is_yes = elim is.are_of [
    | inl of ↦ inl of
    | inr others ↦ elim others [
      | inl of ↦ inr of
      | inr of ↦ let its : ⊥ = subst IsYes (sym is_yes ∙ of.is_told) tt in absurd its
    ]
  ]

  -- what is unfinished in it, or over all
  pub unfinished_of : (number : Option ℕ) (peer : PeerAs) (under : Config) → told.answer ≡ JudgedAs number peer under Unfinished → OfMade ⊎ OfAll
  unfinished_of number peer under unfinished = elim is.are_of [
    | inl of ↦ inl of
    | inr others ↦ elim others [
      | inl of ↦ let its : ⊥ = subst IsYes unfinished of.is_yes in absurd its
      | inr of ↦ inr of
    ]
  ]

  -- a judged end is judged
  pub judged_so : (number : Option ℕ) (peer : PeerAs) (under : Config) (verdict : VerdictValue) → told.answer ≡ JudgedAs number peer under verdict
      → (is.answer ≡ JudgedAs number peer under verdict) ⊎ OfAll
  judged_so number peer under verdict it = elim is.are_of [
    | inl of ↦ inl (sym of.is_told ∙ it)
    | inr others ↦ elim others [
      | inl of ↦ inl (sym of.is_told ∙ it)
      | inr of ↦ inr of
    ]
  ]

  some_none : (line : JudgeOptions) → told.judge ≡ Some line → told.judge ≡ None → ⊥
  some_none line some none = cc

  -- and what has a line
  pub line_of_made : (line : JudgeOptions) → told.judge ≡ Some line → OfMade
  line_of_made line some = elim is.are_of [
    | inl of ↦ of
    | inr others ↦ elim others [
      | inl of ↦ absurd (some_none line some of.no_judge)
      | inr of ↦ absurd (some_none line some of.no_judge)
    ]
  ]

  -- what is known to be unfinished over all orders
  pub known_over_all : told.over_all ≡ true → (peer : PeerAs) × (under : Config) × IsUnfinished session options.within is.framings connection peer under
  known_over_all known = subst (IsKnown session options.within is.framings connection) known is.is_known

-- ---- what is told beside an answer

module _ (session : Session) (within : ℕ) (framings : Framings) (connection : Connection) where
  pub nothing_found : (answer : AnswerValue) (found : Option NoOrder) → found ≡ None → IsFoundTo session within framings connection answer found
  nothing_found (Unjudged why) found none = none
  nothing_found (JudgedAs number peer under (Yes ends)) found none = none
  nothing_found (JudgedAs number peer under (No count)) found none = subst (λ (o : Option NoOrder). IfSome o (IsUnexplained session within framings connection)) (sym none) tt
  nothing_found (JudgedAs number peer under Unfinished) found none = none

  pub message_found : (answer : AnswerValue) (found : Option NoOrder) (unexplained : NoOrder) → found ≡ Some unexplained → IsNo answer
      → IsUnexplained session within framings connection unexplained → IsFoundTo session within framings connection answer found
  message_found (Unjudged why) found unexplained some it is = absurd it
  message_found (JudgedAs number peer under (Yes ends)) found unexplained some it is = absurd it
  message_found (JudgedAs number peer under (No count)) found unexplained some it is = subst (λ (o : Option NoOrder). IfSome o (IsUnexplained session within framings connection)) (sym some) is
  message_found (JudgedAs number peer under Unfinished) found unexplained some it is = absurd it

  pub yes_not_late : (answer : AnswerValue) (late : Option Late) (lacks : Bool) → IsYes answer → late ≡ None → lacks ≡ false → IsLate session connection answer late lacks
  yes_not_late (Unjudged why) late lacks it none memory = absurd it
  yes_not_late (JudgedAs number peer under (Yes ends)) late lacks it none memory = (none, memory)
  yes_not_late (JudgedAs number peer under (No count)) late lacks it none memory = absurd it
  yes_not_late (JudgedAs number peer under Unfinished) late lacks it none memory = absurd it

-- what it becomes
pub late_so : (session : Session) (connection : Connection) (answer : AnswerValue) (late late' : Option Late) (lacks lacks' : Bool) → late ≡ late' → lacks ≡ lacks'
    → IsLate session connection answer late' lacks' → IsLate session connection answer late lacks
late_so session connection answer late late' lacks lacks' same_late same_lacks is =
    subst (λ (l : Option Late). IsLate session connection answer l lacks) (sym same_late)
    (subst (λ (b : Bool). IsLate session connection answer late' b) (sym same_lacks) is)

-- the reason of a yes is about no no
pub yes_not_asked : (answer : AnswerValue) (asked_at : Option ℕ) → IsYes answer → asked_at ≡ None → asked_at ≡ no_count answer
yes_not_asked (Unjudged why) asked_at it none = absurd it
yes_not_asked (JudgedAs number peer under (Yes ends)) asked_at it none = none
yes_not_asked (JudgedAs number peer under (No count)) asked_at it none = absurd it
yes_not_asked (JudgedAs number peer under Unfinished) asked_at it none = absurd it

-- what is said of another message is of what is told, and so is a reason
module _ (session : Session) (sent : Limit) (peer : PeerEnd) (records : List ShownRecord) where
  pub other_so : (found found' : Option NoOrder) (its its' : Option Place) (text text' : Option (List ℕ)) → found ≡ found' → its ≡ its' → text ≡ text'
      → IsOther session sent peer records found' its' text' → IsOther session sent peer records found its text
  other_so found found' its its' text text' same_found same_place same_text is =
      subst (λ (f : Option NoOrder). IsOther session sent peer records f its text) (sym same_found)
      (subst (λ (p : Option Place). IsOther session sent peer records found' p text) (sym same_place)
      (subst (λ (t : Option (List ℕ)). IsOther session sent peer records found' its' t) (sym same_text) is))

  pub nothing_other : (found : Option NoOrder) (its : Option Place) (text : Option (List ℕ)) → found ≡ None → text ≡ None → IsOther session sent peer records found its text
  nothing_other found its text none no_text = subst (λ (f : Option NoOrder). IsOther session sent peer records f its text) (sym none) no_text

  pub reason_so : (first : ℕ) (places : ℕ → ℕ → Place) (instead : OtherOrders) (answer : AnswerValue) (deed deed' lines lines' : List ℕ) → deed ≡ deed' → lines ≡ lines'
      → IsReasonTo session sent first true peer places instead records answer deed' lines' → IsReasonTo session sent first true peer places instead records answer deed lines
  reason_so first places instead answer deed deed' lines lines' same_deed same_lines is =
      subst (λ (d : List ℕ). IsReasonTo session sent first true peer places instead records answer d lines) (sym same_deed)
      (subst (λ (l : List ℕ). IsReasonTo session sent first true peer places instead records answer deed' l) (sym same_lines) is)

-- what is said of other orders
pub nothing_instead : (within : ℕ) (framings : Framings) (connection : Connection) (entries : List Entry) (answer : AnswerValue) (found : Option NoOrder) → found ≡ None
    → AreInstead within framings connection entries answer found Unasked
nothing_instead within framings connection entries answer found none =
    subst (λ (f : Option NoOrder). AreInstead within framings connection entries answer f Unasked) (sym none) refl

-- what isn't told of the made order, or of a message that no order explains, needs no cause
pub another_order : (order : Order) → order ≡ orders.Another → order ≡ orders.Made → ⊥
another_order order is made = cc

pub over_all_orders : (order : Order) → order ≡ orders.All → order ≡ orders.Made → ⊥
over_all_orders order is made = cc

pub some_found : (found : Option NoOrder) (unexplained : NoOrder) → found ≡ Some unexplained → found ≡ None → ⊥
some_found found unexplained some none = cc

-- why the made order is told
pub cause_so : (session : Session) (within : ℕ) (framings : Framings) (connection : Connection) (answer : AnswerValue) (over_all over_all' lacks lacks' : Bool) → over_all ≡ over_all' → lacks ≡ lacks'
    → HasCause session within framings connection answer over_all' lacks' → HasCause session within framings connection answer over_all lacks
cause_so session within framings connection answer over_all over_all' lacks lacks' same_over same_lacks cause =
    subst (λ (b : Bool). HasCause session within framings connection answer b lacks) (sym same_over)
    (subst (λ (b : Bool). HasCause session within framings connection answer over_all' b) (sym same_lacks) cause)

-- how far the session came
pub reached_so : (records : List ShownRecord) (answer : AnswerValue) (reached reached' : ReachedValue) → reached ≡ reached' → IsReached records answer reached' → IsReached records answer reached
reached_so records answer reached reached' same is = subst (λ (r : ReachedValue). IsReached records answer r) (sym same) is

-- where the no of the made order stands
pub made_so : (entries : List Entry) (found found' : Option NoOrder) (about : AnswerValue) (its : Option Place) → found ≡ found' → its ≡ in_made entries found' about
    → its ≡ in_made entries found about
made_so entries found found' about its same_found is = is ∙ ap (λ (f : Option NoOrder). in_made entries f about) (sym same_found)

-- of which the reason is told
pub about_so : (session : Session) (records : List ShownRecord) (answer about : AnswerValue) (found found' : Option NoOrder) → found ≡ found' → IsAbout session records answer found' about
    → IsAbout session records answer found about
about_so session records answer about found found' same is = subst (λ (f : Option NoOrder). IsAbout session records answer f about) (sym same) is

-- ---- all of it

pub told_so : (options : CheckOptions) (asked : Asked) (end : Endpoint) (session : Session) (connection : Connection) (framings : Framings) (entries : List Entry) (received sent : Unshown)
    (told : EndTold) (answer about its : AnswerValue) → told.answer ≡ its → IsAnswerTo session (records_of entries) answer → IsAbout session (records_of entries) answer told.found about
    → IsOfMade options asked session connection framings entries received sent answer about told
    ⊎ IsOfAnother options asked session connection framings entries received sent answer about told
    ⊎ IsOfAll options asked session connection framings entries received sent answer about told
    → told.end ≡ end → HasAsNumber (records_of entries) told.as_number
    → IsFoundTo session options.within framings connection its told.found → IsKnown session options.within framings connection told.over_all
    → (told.order ≡ orders.Made → told.found ≡ None → HasCause session options.within framings connection its told.over_all told.lacks_memory) → told.place ≡ place_of its told.found entries
    → IsOther session framings.sent.limit (peer_end session connection) (records_of entries) told.found told.in_made told.other → told.first ≡ second_at entries 0
    → told.put_off ≡ put_off 0 entries → told.within ≡ options.within
    → IsLate session connection its told.late told.lacks_memory_later → IsReached (records_of entries) its told.reached
    → (instead : OtherOrders) → AreInstead options.within framings connection entries about told.found instead
    → IsReasonTo session framings.sent.limit (second_at entries 0) true (peer_end session connection) (shown_places entries) instead (records_of entries) about told.deed told.reason → told.asked_at ≡ no_count about
    → told.received ≡ received → told.sent ≡ sent
    → IsTold options asked end session connection told
told_so options asked end session connection framings entries received sent told answer about its same answers is_about are_of is_end is_number is_found is_known has_cause is_place is_other is_first is_put_off is_within is_late is_reached instead are_instead explains
    is_asked is_received is_sent =
    record {
      entries = entries;
      received_unshown = received;
      sent_unshown = sent;
      framings = framings;
      answer = answer;
      answers = answers;
      about = about;
      is_about = is_about;
      are_of = are_of;
      is_end = is_end;
      is_number = is_number;
      is_found = subst (λ (a : AnswerValue). IsFoundTo session options.within framings connection a told.found) (sym same) is_found;
      is_known = is_known;
      has_cause = λ made none. subst (λ (a : AnswerValue). HasCause session options.within framings connection a told.over_all told.lacks_memory) (sym same) (has_cause made none);
      is_place = is_place ∙ ap (λ (a : AnswerValue). place_of a told.found entries) (sym same);
      is_other = is_other;
      is_first = is_first;
      is_put_off = is_put_off;
      is_within = is_within;
      is_late = subst (λ (a : AnswerValue). IsLate session connection a told.late told.lacks_memory_later) (sym same) is_late;
      is_reached = subst (λ (a : AnswerValue). IsReached (records_of entries) a told.reached) (sym same) is_reached;
      instead = instead;
      are_instead = are_instead;
      explains = explains;
      is_asked = is_asked;
      is_received = is_received;
      is_sent = is_sent;
    }
