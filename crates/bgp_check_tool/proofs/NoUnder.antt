-- What the reason of a no is about that stands over all orders.
use Rattle.std.proofs.Common.{◌≡◌, ◌∙◌, Bool, true, false, ℕ, List, Option, None, Some, ap, option_map, refl, subst, sym}
use Rattle.bgp_prefix.specs.Shown.{ShownRecord}
use Rattle.bgp_prefix.specs.declared.session.Session.{Session}
use Rattle.streams.specs.declared.connection.Connection.{Connection}
use Rattle.bgp_open.specs.Open.{OpenFields, open_of}
use Rattle.bgp_open.specs.declared.config.Config.{Config}
use Rattle.bgp_open.specs.declared.config.ConfigParts.{ConfigParts}
use Rattle.bgp_judge.specs.Verdict.{HasVerdict, No, Unfinished, VerdictValue, Yes}
use Rattle.bgp_parts.proofs.OneOwnOpen.{one_own}
use Rattle.bgp_parts.specs.Opens.{HasOwnOpen, HasPeersOpen}
use Rattle.bgp_recording.specs.declared.framing.Framings.{Framings}
use Rattle.bgp_check.specs.Answered.{AnswerValue, IsAnswerTo, IsWidestFor, JudgedAs, Unjudged, heard_as, number_of, parts_for, peer_as_by}
use Rattle.bgp_check.specs.Checked.{IsUnder}
use Rattle.bgp_check.specs.WidestOf.{BothParts, parts_of, widest_of}
use Rattle.bgp_check.specs.declared.widest.Widest.{Widest}
use Rattle.bgp_check.specs.declared.peer_as.PeerAs.{PeerAs}
use Rattle.bgp_check_tool.specs.About.{IsNoOf, IsNoUnder}
use Rattle.bgp_check_tool.specs.Another.{IsNo, number_in}
use Rattle.bgp_check_tool.specs.Elsewhere.{count_in}
use Rattle.bgp_check_tool.specs.Orders.{IsUnexplained, own_of, peers_of}
use Rattle.bgp_check_tool.specs.declared.orders.NoOrder.{NoOrder}

-- the AS number of an end that is judged is that of its OPEN
tells_number : (session : Session) (records : List ShownRecord) (answer : AnswerValue) → IsNo answer → IsAnswerTo session records answer → (own : Option (List ℕ)) → HasOwnOpen records own
    → number_in answer ≡ number_of own
tells_number session records (Unjudged why) it answers own has = absurd it
tells_number session records (JudgedAs number peer under (Yes ends)) it answers own has = absurd it
tells_number session records (JudgedAs number peer under (No count)) it answers own has = answers.is_number ∙ ap number_of (one_own records answers.own own answers.has_own has)
tells_number session records (JudgedAs number peer under Unfinished) it answers own has = absurd it

-- ---- the parts of a widest configuration are those for its peer

-- no OPEN of the peer is told, so that none wants its AS number
none_alone : (session : Session) (own : Option OpenFields) (wanting : Option Config) (another : ConfigParts)
    → record { wanting = option_map (λ (c : Config). c.parts) wanting; another = another } ≡ widest_of session own None → wanting ≡ None
none_alone session own None another is = refl
none_alone session None (Some wanting) another is = let k : ⊥ = cc (ap (λ (b : BothParts). b.wanting) is) in absurd k
none_alone session (Some own) (Some wanting) another is = let k : ⊥ = cc (ap (λ (b : BothParts). b.wanting) is) in absurd k

alone : (session : Session) (own told : Option OpenFields) (widest : Widest) → parts_of widest ≡ widest_of session own told → told ≡ None → widest.wanting ≡ None
alone session own told widest made none =
    none_alone session own widest.wanting widest.another.parts (subst (λ (t : Option OpenFields). parts_of widest ≡ widest_of session own t) none made)

its_parts : (wants : Bool) (told : Option OpenFields) (heard : ℕ) (widest : Widest) (under : Config) → (told ≡ None → widest.wanting ≡ None)
    → IsUnder widest wants under → Some under.parts ≡ parts_for (peer_as_by wants told heard) (parts_of widest)
its_parts true None heard widest under none is = let k : None ≡ Some under = sym (none refl) ∙ is in let never : ⊥ = cc in absurd never
its_parts false None heard widest under none is = ap (λ (c : Config). Some c.parts) (sym is)
its_parts true (Some fields) heard widest under none is = ap (λ (o : Option Config). option_map (λ (c : Config). c.parts) o) (sym is)
its_parts false (Some fields) heard widest under none is = ap (λ (c : Config). Some c.parts) (sym is)

-- so that of the configuration under which no order explains a message, by the same OPENs
pub widest_found : (session : Session) (within : ℕ) (framings : Framings) (connection : Connection) (records : List ShownRecord) (found : NoOrder)
    → IsUnexplained session within framings connection found → HasOwnOpen records (own_of found) → HasPeersOpen records (peers_of found)
    → IsWidestFor session records found.its.peer_as found.its.under
widest_found session within framings connection records found u has_own has_peers =
    let over = u.over in
    let parts : Some found.its.under.parts ≡ parts_for (peer_as_by over.wants over.told (heard_as over.widest.wanting)) (widest_of session (option_map open_of over.own) over.told) =
    ap (λ (c : Config). Some c.parts) u.is_under
    ∙ its_parts over.wants over.told (heard_as over.widest.wanting) over.widest over.under (alone session (option_map open_of over.own) over.told over.widest over.made) over.is_told.is_under
    ∙ ap (parts_for (peer_as_by over.wants over.told (heard_as over.widest.wanting))) over.made
    in record {
      own = over.own;
      peers = over.peers;
      told = over.told;
      has_own = subst (λ (o : Option (List ℕ)). HasOwnOpen records o) u.is_own has_own;
      has_peers = subst (λ (o : Option (List ℕ)). HasPeersOpen records o) u.is_peers has_peers;
      are_told = over.are_told;
      made = subst (λ (p : PeerAs). Some found.its.under.parts ≡ parts_for p (widest_of session (option_map open_of over.own) over.told)) (sym u.is_peer) parts;
    }

-- ---- of a verdict that is the no under a configuration

module _ (records : List ShownRecord) (number n : Option ℕ) (found : NoOrder) (peer : PeerAs) (under : Config) (verdict : VerdictValue)
    (denied : IsNoOf records number found (JudgedAs n peer under verdict)) where
  is_number : n ≡ number
  is_number = let same = denied.is in cc

  is_peer : peer ≡ found.its.peer_as
  is_peer = let same = denied.is in cc

  is_under : under ≡ found.its.under
  is_under = let same = denied.is in cc

  is_verdict : verdict ≡ No denied.count
  is_verdict = let same = denied.is in cc

  pub about_number : (session : Session) (answer : AnswerValue) → number ≡ number_in answer → IsNo answer → IsAnswerTo session records answer → (own : Option (List ℕ)) → HasOwnOpen records own
      → n ≡ number_of own
  about_number session answer same it answers own has = is_number ∙ same ∙ tells_number session records answer it answers own has

  pub about_holds : HasVerdict under records verdict
  about_holds =
      subst (λ (v : VerdictValue). HasVerdict under records v) (sym is_verdict)
      (subst (λ (c : Config). HasVerdict c records (No denied.count)) (sym is_under) denied.holds)

  module _ (session : Session) (within : ℕ) (framings : Framings) (connection : Connection) (u : IsUnexplained session within framings connection found) where
    found_widest : IsWidestFor session records found.its.peer_as found.its.under
    found_widest = widest_found session within framings connection records found u denied.has_own denied.has_peers

    pub about_widest : IsWidestFor session records peer under
    about_widest =
        subst (λ (p : PeerAs). IsWidestFor session records p under) (sym is_peer)
        (subst (λ (c : Config). IsWidestFor session records found.its.peer_as c) (sym is_under) found_widest)

    pub about_no : IsNoUnder session records number found.its (JudgedAs n peer under verdict)
    about_no = record { count = denied.count; is = denied.is; widest = found_widest; holds = denied.holds }

-- ---- a verdict on records that is a no

count_some : (verdict : VerdictValue) (count : Option ℕ) → count ≡ count_in verdict → ¬ (count ≡ None) → (n : ℕ) × (verdict ≡ No n)
count_some (Yes ends) count is some = absurd (some is)
count_some (No n) count is some = (n, refl)
count_some Unfinished count is some = absurd (some is)

pub no_of : (records : List ShownRecord) (number : Option ℕ) (found : NoOrder) (verdict : VerdictValue) (count : Option ℕ) → count ≡ count_in verdict → ¬ (count ≡ None)
    → HasVerdict found.its.under records verdict → HasOwnOpen records (own_of found) → HasPeersOpen records (peers_of found)
    → IsNoOf records number found (JudgedAs number found.its.peer_as found.its.under verdict)
no_of records number found verdict count is some holds has_own has_peers =
    let (n, denied) = count_some verdict count is some in
    record {
      count = n;
      is = ap (λ (v : VerdictValue). JudgedAs number found.its.peer_as found.its.under v) denied;
      holds = subst (λ (v : VerdictValue). HasVerdict found.its.under records v) denied holds;
      has_own = has_own;
      has_peers = has_peers;
    }
