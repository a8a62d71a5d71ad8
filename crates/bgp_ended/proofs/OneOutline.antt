-- What is known of a connection is one thing.
use Rattle.std.proofs.Common.{◌≡◌, ◌∙◌, ◌<◌, ◌≤◌, ◌++◌, ℕ, List, [], ◌∷◌, Option, None, Some, IfSome, map, option_map, inl, inr, refl, sym, ap, subst, arith}
use Rattle.std.specs.List.{AllByRecursion}
use Rattle.std.specs.Option.{option_or}
use Rattle.streams.specs.declared.connection.Connection.{Connection}
use Rattle.streams.specs.declared.connection.End.{End}
use Rattle.streams.specs.declared.connection.Run.{Run}
use Rattle.streams.specs.declared.passed.Side.{Side}
use Rattle.streams.specs.declared.passed.Side.TheVariants.{Local, Peer}
use Rattle.bgp_open.specs.OpenFault.{IsWellFormed}
use Rattle.bgp_check.specs.Answered.{number_of}
use Rattle.bgp_import.proofs.Telling.{is_clocked}
use Rattle.bgp_recording.proofs.Heard.{own_end_is}
use Rattle.bgp_recording.specs.Gathered.{IsClocked, IsSaid}
use Rattle.bgp_recording.specs.Moments.{end_moment, moment_of}
use Rattle.bgp_recording.specs.Once.{AreSame, TellTheSame}
use Rattle.bgp_recording.specs.Values.{MessageValue, message_value, value_moment, values_of}
use Rattle.bgp_recording.specs.declared.framing.Framing.{Framing}
use Rattle.bgp_recording.specs.declared.framing.Framings.{Framings}
use Rattle.bgp_recording.specs.declared.framing.Unshown.{Unshown}
use Rattle.bgp_recording.specs.declared.message.Message.{Message}
use Rattle.bgp_recording.specs.declared.pending.Moment.{Moment}
use Rattle.bgp_values.specs.ErrorData.{ErrorFields}
use Rattle.bgp_ended.specs.FirstOpen.{FirstOpen}
use Rattle.bgp_ended.specs.Notified.{HasFirst, IsNotice, Notifies, Said, said_by, said_in}
use Rattle.bgp_ended.specs.Offered.{AreMessages, AreSentBy, end_for, framings_by, other_end, sent_by, with_both_offers}
use Rattle.bgp_ended.specs.Once.{EachConnectionHasOneOutline}
use Rattle.bgp_ended.specs.Outline.{IsOutlineOf, closed_by}
use Rattle.bgp_ended.specs.Values.{EndedValue, Notified, OutlineValue}
use Rattle.bgp_ended.proofs.OneConnection.{same_answer}
use Rattle.bgp_ended.proofs.OneFraming.{IsTimed, are_timed, end_by, said_once}

-- ---- the first OPEN

head_value : (m n : MessageValue) (ms ns : List MessageValue) → m ∷ ms ≡ n ∷ ns → m.octets ≡ n.octets
head_value m n ms ns e = cc

tail_values : (m n : MessageValue) (ms ns : List MessageValue) → m ∷ ms ≡ n ∷ ns → ms ≡ ns
tail_values m n ms ns e = cc

one_open : (ms ns : List Message) (a b : Option (List ℕ)) → values_of ms ≡ values_of ns → FirstOpen ms a → FirstOpen ns b → a ≡ b
one_open [] [] a b same h k = h ∙ sym k
one_open [] (n ∷ ns) a b same h k = let no : ⊥ = cc in absurd no
one_open (m ∷ ms) [] a b same h k = let no : ⊥ = cc in absurd no
one_open (m ∷ ms) (n ∷ ns) a b same (inl h) (inl k) = h.1 ∙ ap (λ (o : List ℕ). Some o) (head_value _ _ _ _ same) ∙ sym k.1
one_open (m ∷ ms) (n ∷ ns) a b same (inl h) (inr k) = absurd (k.0 (subst IsWellFormed (head_value _ _ _ _ same) h.0))
one_open (m ∷ ms) (n ∷ ns) a b same (inr h) (inl k) = absurd (h.0 (subst IsWellFormed (sym (head_value _ _ _ _ same)) k.0))
one_open (m ∷ ms) (n ∷ ns) a b same (inr h) (inr k) = one_open ms ns a b (tail_values _ _ _ _ same) h.1 k.1

-- ---- the first NOTIFICATION

in_middle : (P : Said → Type 0) (before : List Said) (said : Said) (after : List Said) → AllByRecursion P (before ++ said ∷ after) → P said
in_middle P [] said after all = all.0
in_middle P (other ∷ before) said after all = in_middle P before said after all.1

head_is : (s t : Said) (ss ts : List Said) → s ∷ ss ≡ t ∷ ts → s ≡ t
head_is s t ss ts e = cc

tail_is : (s t : Said) (ss ts : List Said) → s ∷ ss ≡ t ∷ ts → ss ≡ ts
tail_is s t ss ts e = cc

abbrev Later : Said → Said → Type 0
Later first other = IsNotice other → first.message.packet ≤ other.message.packet

abbrev After : Said → Said → Type 0
After first other = IsNotice other → first.message.packet < other.message.packet

-- the first of those that stand here is no later one of them
not_first : (x y : Said) (b a c : List Said) → IsNotice x → IsNotice y → AllByRecursion (Later x) a → a ≡ b ++ y ∷ c → After y x → ⊥
not_first x y b a c is also later same before =
    let l = in_middle (Later x) b y c (subst (AllByRecursion (Later x)) same later) also in
    let m = before is in
    omega (arith, l, m)

one_first : (b c : List Said) (x y : Said) (a d : List Said) → b ++ x ∷ a ≡ c ++ y ∷ d → IsNotice x → IsNotice y
    → AllByRecursion (After x) b → AllByRecursion (Later x) a → AllByRecursion (After y) c → AllByRecursion (Later y) d → x ≡ y
one_first [] [] x y a d same is also xb xa yc yd = head_is x y a d same
one_first [] (z ∷ c) x y a d same is also xb xa yc yd =
    absurd (not_first x y c a d is also xa (tail_is x z a (c ++ y ∷ d) same) (subst (After y) (sym (head_is x z a (c ++ y ∷ d) same)) yc.0))
one_first (z ∷ b) [] x y a d same is also xb xa yc yd =
    absurd (not_first y x b d a also is yd (sym (tail_is z y (b ++ x ∷ a) d same)) (subst (After x) (head_is z y (b ++ x ∷ a) d same) xb.0))
one_first (z ∷ b) (w ∷ c) x y a d same is also xb xa yc yd =
    one_first b c x y a d (tail_is z w (b ++ x ∷ a) (c ++ y ∷ d) same) is also xb.1 xa yc.1 yd

code_is : (x y : ℕ) (xs ys : List ℕ) → x ∷ xs ≡ y ∷ ys → x ≡ y
code_is x y xs ys e = cc

rest_is : (x y : ℕ) (xs ys : List ℕ) → x ∷ xs ≡ y ∷ ys → xs ≡ ys
rest_is x y xs ys e = cc

same_error : (a b : ErrorFields) → a.code ≡ b.code → a.subcode ≡ b.subcode → a.detail ≡ b.detail → a ≡ b
same_error a b c s d = λ i. record { code = c i; subcode = s i; detail = d i }

error_is : (a b : ErrorFields) → a.code ∷ a.subcode ∷ a.detail ≡ b.code ∷ b.subcode ∷ b.detail → a ≡ b
error_is a b e =
    let later : a.subcode ∷ a.detail ≡ b.subcode ∷ b.detail = rest_is a.code b.code _ _ e in
    same_error a b (code_is a.code b.code _ _ e) (code_is a.subcode b.subcode _ _ later) (rest_is a.subcode b.subcode _ _ later)

is_notice : (said : Said) (ended : EndedValue) → Notifies said ended → IsNotice said
is_notice said ended h = (h.error.code, h.error.subcode, h.error.detail, h.is)

one_notice : (s t : Said) (a b : EndedValue) → s ≡ t → Notifies s a → Notifies t b → a ≡ b
one_notice s t a b same h k =
    let its : Notifies s b = subst (λ (said : Said). Notifies said b) (sym same) k in
    let error : h.error ≡ its.error = error_is h.error its.error (sym h.is.body ∙ its.is.body) in
    h.tells ∙ ap (λ (e : ErrorFields). record { moment = value_moment s.message; by = s.by; how = Notified e }) error ∙ sym its.tells

one_has : (said : List Said) (a b : Option EndedValue) → HasFirst said a → HasFirst said b → a ≡ b
one_has said None None h k = refl
one_has said None (Some b) h k =
    absurd (in_middle (λ s. ¬ IsNotice s) k.before k.first k.after (subst (AllByRecursion (λ s. ¬ IsNotice s)) k.whole h) (is_notice k.first b k.notifies))
one_has said (Some a) None h k =
    absurd (in_middle (λ s. ¬ IsNotice s) h.before h.first h.after (subst (AllByRecursion (λ s. ¬ IsNotice s)) h.whole k) (is_notice h.first a h.notifies))
one_has said (Some a) (Some b) h k =
    ap (λ (e : EndedValue). Some e) (one_notice h.first k.first a b
    (one_first h.before k.before h.first k.first h.after k.after (sym h.whole ∙ k.whole) (is_notice h.first a h.notifies) (is_notice k.first b k.notifies)
    h.is_earlier h.isnt_later k.is_earlier k.isnt_later) h.notifies k.notifies)

-- ---- the messages

said_value : Side → MessageValue → Said
said_value side message = record { by = side; message = message }

by_values : (side : Side) (ms : List Message) → said_by side ms ≡ map (said_value side) (values_of ms)
unfolding said_value
by_values side [] = refl
by_values side (m ∷ ms) = ap (λ (s : List Said). said_value side (message_value m) ∷ s) (by_values side ms)

same_said : (side : Side) (ms ns : List Message) → values_of ms ≡ values_of ns → said_by side ms ≡ said_by side ns
same_said side ms ns same = by_values side ms ∙ ap (map (said_value side)) same ∙ sym (by_values side ns)

record AreOne (rs ss rs' ss' : List Message) : Type 0 where
  pub received : values_of rs ≡ values_of rs'
  pub sent : values_of ss ≡ values_of ss'

-- the time of an end is the same, as either system has it
mapped_end : (P : Moment → Type 0) (end : Option End) → IfSome end (λ e. P (end_moment e)) → IfSome (option_map other_end end) (λ e. P (end_moment e))
mapped_end P None h = tt
mapped_end P (Some end) h = h

end_as : (P : Moment → Type 0) (side : Side) (end : Option End) → IfSome end (λ e. P (end_moment e)) → IfSome (end_for side end) (λ e. P (end_moment e))
end_as P Local end h = h
end_as P Peer end h = mapped_end P end h

-- what either system sent tells the same
sent_same : (side : Side) (one other : Connection) → TellTheSame one other → AreSame (sent_by side one) (sent_by side other)
sent_same Local one other same = same.sent
sent_same Peer one other same = same.received

sent_timed : (side : Side) (one : Connection) (clocked : IsClocked one)
    → AllByRecursion (λ (run : Run). IsTimed clocked.clock clocked.fractions.fraction (moment_of run)) (sent_by side one).runs.now
sent_timed Local one clocked = are_timed clocked.clock clocked.fractions.fraction one.packet one.sent.runs.now clocked.sent clocked.fractions.sent
sent_timed Peer one clocked = are_timed clocked.clock clocked.fractions.fraction one.packet one.received.runs.now clocked.received clocked.fractions.received

one_side : (side : Side) (framing : Framing) (one other : Connection) (ms ns : List Message) (a b : Unshown) → TellTheSame one other → IsClocked one
    → AreSentBy side framing one ms a → AreSentBy side framing other ns b → values_of ms ≡ values_of ns
one_side side framing one other ms ns a b same clocked h k =
    let Timed : Moment → Type 0 = IsTimed clocked.clock clocked.fractions.fraction in
    let timed = end_by _ _ (λ e. Timed (end_moment e)) one.end (λ e g f. (g.0, f)) clocked.ends clocked.fractions.ends in
    let ends = own_end_is Timed (end_for side one.end) (end_as Timed side one.end timed) in
    let also : IsSaid framing (sent_by side other) (end_for side one.end) ns b =
    subst (λ (o : Option End). IsSaid framing (sent_by side other) (end_for side o) ns b) (sym same.end) k in
    (said_once framing clocked.clock clocked.fractions.fraction (sent_by side one) (sent_by side other) (end_for side one.end) ms ns a b (sent_same side one other same) (sent_timed side one clocked) ends h also).0

one_list : (framings : Framings) (one other : Connection) (rs ss rs' ss' : List Message) → TellTheSame one other → IsClocked one
    → AreMessages framings one rs ss → AreMessages framings other rs' ss' → AreOne rs ss rs' ss'
one_list framings one other rs ss rs' ss' same clocked h k = record {
  received = one_side Peer framings.received one other rs rs' h.received_unshown k.received_unshown same clocked h.of_peer k.of_peer;
  sent = one_side Local framings.sent one other ss ss' h.sent_unshown k.sent_unshown same clocked h.of_local k.of_local;
}

-- ---- the outline

same_outline : (a b : OutlineValue) → a.local_as ≡ b.local_as → a.peer_as ≡ b.peer_as → a.ended ≡ b.ended → a ≡ b
same_outline a b l p e = λ i. record { local_as = l i; peer_as = p i; ended = e i }

one_outline : (one other : Connection) (a b : OutlineValue) → TellTheSame one other → IsClocked one → IsOutlineOf one a → IsOutlineOf other b → a ≡ b
one_outline one other a b same clocked h k =
    let opens = one_list with_both_offers one other h.opens.received h.opens.sent k.opens.received k.opens.sent same clocked h.opens.messages k.opens.messages in
    let local : h.local ≡ k.local = one_open h.opens.sent k.opens.sent h.local k.local opens.sent h.opens.is_local k.opens.is_local in
    let peers : h.peers ≡ k.peers = one_open h.opens.received k.opens.received h.peers k.peers opens.received h.opens.is_peers k.opens.is_peers in
    let framings : framings_by h.local h.peers ≡ framings_by k.local k.peers =
    ap (λ (o : Option (List ℕ)). framings_by o h.peers) local ∙ ap (λ (o : Option (List ℕ)). framings_by k.local o) peers in
    let theirs : AreMessages (framings_by h.local h.peers) other k.received k.sent =
    subst (λ (f : Framings). AreMessages f other k.received k.sent) (sym framings) k.messages in
    let lists = one_list (framings_by h.local h.peers) one other h.received h.sent k.received k.sent same clocked h.messages theirs in
    let said : said_in h.received h.sent ≡ said_in k.received k.sent =
    ap (λ (s : List Said). s ++ said_by Peer h.received) (same_said Local h.sent k.sent lists.sent) ∙ ap (λ (s : List Said). said_by Local k.sent ++ s) (same_said Peer h.received k.received lists.received) in
    let first : h.ended.0 ≡ k.ended.0 =
    one_has (said_in h.received h.sent) h.ended.0 k.ended.0 h.ended.1 (subst (λ (s : List Said). HasFirst s k.ended.0) (sym said) k.ended.1) in
    same_outline a b (h.local_as ∙ ap number_of local ∙ sym k.local_as) (h.peer_as ∙ ap number_of peers ∙ sym k.peer_as)
    (h.ended.2 ∙ ap (λ (f : Option EndedValue). option_or f (option_map closed_by one.end)) first ∙ ap (λ (e : Option End). option_or k.ended.0 (option_map closed_by e)) same.end ∙ sym k.ended.2)

pub outlined_once : EachConnectionHasOneOutline
outlined_once segments number last_packet one other a b order answered also h k =
    one_outline one other a b (same_answer number last_packet _ one other answered also) (is_clocked segments number last_packet one order answered) h k
