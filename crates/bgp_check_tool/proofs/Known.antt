-- What is known of a search that is too long: it is of the same configurations whoever looks.
use Rattle.std.proofs.Common.{◌≡◌, ◌∙◌, ◌≤◌, Bool, true, false, ℕ, List, Option, None, Some, ap, option_map, refl, subst, sym}
use Rattle.bgp_prefix.specs.Shown.{ShownRecord}
use Rattle.bgp_prefix.specs.declared.session.Session.{Session}
use Rattle.streams.specs.declared.connection.Connection.{Connection}
use Rattle.bgp_open.specs.Open.{OpenFields, open_of}
use Rattle.bgp_open.specs.OpenFault.{IsWellFormed}
use Rattle.bgp_open.specs.declared.config.Config.{Config}
use Rattle.bgp_open.specs.declared.config.ConfigParts.{ConfigParts}
use Rattle.bgp_recording.specs.Gathered.{IsClocked}
use Rattle.bgp_recording.specs.declared.entry.Entry.{Entry}
use Rattle.bgp_recording.specs.declared.framing.Framing.{Framing}
use Rattle.bgp_recording.specs.declared.framing.Framings.{Framings}
use Rattle.bgp_recording.specs.declared.framing.Unshown.{Unshown}
use Rattle.bgp_ended.specs.Offered.{framing_by, with_both_offers}
use Rattle.bgp_way_ends.specs.Patience.{MorePatienceStaysTooLong}
use Rattle.bgp_parts.specs.Opens.{HasHeardOpen, HasOwnOpen, HasPeersOpen, IsOpenMessage}
use Rattle.bgp_check.specs.Checked.{IsUnder}
use Rattle.bgp_check.specs.WidestOf.{AreTold, BothParts, parts_of, widest_of}
use Rattle.bgp_check.specs.declared.widest.Widest.{Widest}
use Rattle.bgp_check_tool.specs.Late.{AreKnownFor}
use Rattle.bgp_check_tool.specs.Made.{IsMade}
use Rattle.bgp_check_tool.specs.Orders.{AreItsWidest, AreKnown, AreNamed, AreTooManyUnder, IsNamed, IsTooLongOver, known_of, records_received, records_sent}
use Rattle.bgp_check_tool.specs.declared.orders.TooLong.{TooLong}
use Rattle.bgp_check_tool.proofs.OneConfig.{one_config}
use Rattle.bgp_check_tool.proofs.SameWays.{same_received, same_sent, same_values, values_received, values_sent}
use Rattle.bgp_check_tool.proofs.WayMessages.{one_received, one_sent}
use Rattle.bgp_check_tool.proofs.WaysOf.{recorded_received, recorded_sent, same_told}

-- ---- the widest configurations of an end

parts_if : Option Config → Option ConfigParts
parts_if config = option_map (λ (c : Config). c.parts) config

some_parts : (one other : ConfigParts) → Some one ≡ Some other → one ≡ other
some_parts one other e = cc

one_if : (one other : Option Config) → parts_if one ≡ parts_if other → one ≡ other
unfolding parts_if
one_if None None same = refl
one_if None (Some other) same = let k : ⊥ = cc in absurd k
one_if (Some one) None same = let k : ⊥ = cc in absurd k
one_if (Some one) (Some other) same = ap (λ (c : Config). Some c) (one_config one other (some_parts one.parts other.parts same))

abbrev both : Option Config → Config → Widest
both wanting another = record { wanting = wanting; another = another }

-- those of the same parts are the same
one_widest : (one other : Widest) → parts_of one ≡ parts_of other → one ≡ other
unfolding parts_if
one_widest one other same =
    let wanting = one_if one.wanting other.wanting (ap (λ (p : BothParts). p.wanting) same) in
    let another = one_config one.another other.another (ap (λ (p : BothParts). p.another) same) in
    ap (λ (w : Option Config). both w one.another) wanting ∙ ap (λ (a : Config). both other.wanting a) another

module _ (session : Session) (framings : Framings) (connection : Connection) (clocked : IsClocked connection) where
  -- and those of an end are
  same_widest : (one other : Widest) → AreItsWidest session framings connection one → AreItsWidest session framings connection other → one ≡ other
  same_widest one other a b =
      let sent = values_sent framings connection clocked a.exchange b.exchange a.tells b.tells in
      let received = values_received framings connection clocked a.exchange b.exchange a.tells b.tells in
      let own : a.own ≡ b.own =
      one_sent IsWellFormed (records_sent b.exchange.sent.now) a.own b.own
      (subst (λ (rs : List ShownRecord). HasOwnOpen rs a.own) (same_sent a.exchange.sent.now b.exchange.sent.now sent) a.has_own) b.has_own in
      let peers : a.peers ≡ b.peers =
      one_received IsOpenMessage (records_received b.exchange.received.now) a.peers b.peers
      (subst (λ (rs : List ShownRecord). HasPeersOpen rs a.peers) (same_received a.exchange.received.now b.exchange.received.now received) a.has_peers) b.has_peers in
      let told : a.told ≡ b.told = same_told b.peers a.told b.told (subst (λ (o : Option (List ℕ)). AreTold o a.told) peers a.are_told) b.are_told in
      one_widest one other
      (a.made ∙ ap (λ (o : Option (List ℕ)). widest_of session (option_map open_of o) a.told) own
      ∙ ap (λ (t : Option OpenFields). widest_of session (option_map open_of b.own) t) told ∙ sym b.made)

-- ---- what is named

module _ (within : ℕ) (framings : Framings) (connection : Connection) where
  abbrev Many : Config → Type 0
  Many config = AreTooManyUnder within framings connection config

  abbrev Named : Bool → Config → Type 0
  Named named config = IsNamed within framings connection named config

  under_is : (wanting under : Config) → Some wanting ≡ Some under → wanting ≡ under
  under_is wanting under e = cc

  named_under : (wanting : Option Config) (another : Config) (its : TooLong) → AreNamed within framings connection wanting another its → (wants : Bool) (under : Config)
      → IsUnder (both wanting another) wants under → known_of its wants ≡ true → Many under
  named_under None another its named true under is_under is = let k : ⊥ = cc in absurd k
  named_under None another its named false under is_under is = subst Many is_under named.2
  named_under (Some wanting) another its named true under is_under is =
      subst Many (under_is wanting under is_under) (subst (λ (b : Bool). Named b wanting) is named.0)
  named_under (Some wanting) another its named false under is_under is = subst Many is_under (subst (λ (b : Bool). Named b another) is named.1)

  -- what is too long is known to be
  pub known_by : (session : Session) → IsClocked connection → (its : TooLong) → IsTooLongOver session within framings connection its → AreKnown session within framings connection its
  known_by session clocked its w = λ widest are wants under is_under is.
      let same = same_widest session framings connection clocked widest w.widest are w.are in
      named_under w.widest.wanting w.widest.another its w.named wants under (subst (λ (v : Widest). IsUnder v wants under) same is_under) is

-- ---- with more patience

abbrev both_framings : Framing → Framing → Framings
both_framings received sent = record { received = received; sent = sent }

framings_by_both : (one other : Framings) → one.received ≡ other.received → one.sent ≡ other.sent → one ≡ other
framings_by_both one other received sent =
    ap (λ (f : Framing). both_framings f one.sent) received ∙ ap (λ (f : Framing). both_framings other.received f) sent

module _ (connection : Connection) (clocked : IsClocked connection) where
  -- a connection is framed the same
  same_framings : (within more : ℕ) (one other : Framings) (entries entries2 : List Entry) (received sent received2 sent2 : Unshown) → IsMade within connection one entries received sent
      → IsMade more connection other entries2 received2 sent2 → one ≡ other
  same_framings within more one other entries entries2 received sent received2 sent2 made made2 =
      let a = made.is_looked_in.told in
      let b = made2.is_looked_in.told in
      let values =
      same_values with_both_offers connection a.received a.sent b.received b.sent made.looked_in_received made.looked_in_sent made2.looked_in_received made2.looked_in_sent clocked a.heard a.said
      b.heard b.said in
      let own : made.are_offered.own ≡ made2.are_offered.own =
      one_sent IsWellFormed (records_sent b.sent) made.are_offered.own made2.are_offered.own
      (subst (λ (rs : List ShownRecord). HasOwnOpen rs made.are_offered.own) (same_sent a.sent b.sent values.1)
      (recorded_sent within with_both_offers connection made.looked_in made.looked_in_received made.looked_in_sent a IsWellFormed made.are_offered.own made.are_offered.has_own))
      (recorded_sent more with_both_offers connection made2.looked_in made2.looked_in_received made2.looked_in_sent b IsWellFormed made2.are_offered.own made2.are_offered.has_own) in
      let heard : made.are_offered.heard ≡ made2.are_offered.heard =
      one_received IsWellFormed (records_received b.received) made.are_offered.heard made2.are_offered.heard
      (subst (λ (rs : List ShownRecord). HasHeardOpen rs made.are_offered.heard) (same_received a.received b.received values.0)
      (recorded_received within with_both_offers connection made.looked_in made.looked_in_received made.looked_in_sent a IsWellFormed made.are_offered.heard made.are_offered.has_heard))
      (recorded_received more with_both_offers connection made2.looked_in made2.looked_in_received made2.looked_in_sent b IsWellFormed made2.are_offered.heard made2.are_offered.has_heard) in
      framings_by_both one other (made.are_offered.received ∙ ap framing_by own ∙ sym made2.are_offered.received) (made.are_offered.sent ∙ ap framing_by heard ∙ sym made2.are_offered.sent)

  -- the search is too long then, too
  pub known_later : (session : Session) (within more : ℕ) (framings : Framings) (entries : List Entry) (received sent : Unshown) (known : TooLong) → MorePatienceStaysTooLong → within ≤ more
      → IsMade more connection framings entries received sent → AreKnownFor session connection within known → AreKnown session more framings connection known
  known_later session within more framings entries received sent known law less made is = λ widest are wants under is_under named.
      let same = same_framings within more is.framings framings is.entries entries is.received_unshown is.sent_unshown received sent is.made made in
      let its : AreKnown session within framings connection known = subst (λ (f : Framings). AreKnown session within f connection known) same is.are in
      let many = its widest are wants under is_under named in
      record { exchange = many.exchange; tells = many.tells; holds = law under within more many.exchange less many.holds }
