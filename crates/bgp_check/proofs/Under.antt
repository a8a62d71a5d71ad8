-- The configuration under which a verdict is told is one of the widest, and the records have the verdict under it.
use Rattle.std.proofs.Common.{◌≡◌, ◌∙◌, Bool, true, false, ℕ, List, Option, None, Some, refl, sym, ap, subst, option_map}
use Rattle.bgp_prefix.specs.Shown.{ShownRecord}
use Rattle.bgp_prefix.specs.declared.session.Session.{Session}
use Rattle.bgp_open.specs.Open.{OpenFields, open_of}
use Rattle.bgp_open.specs.declared.config.Config.{Config}
use Rattle.bgp_open.specs.declared.config.ConfigParts.{ConfigParts}
use Rattle.bgp_judge.specs.Verdict.{HasVerdict, No, Unfinished, VerdictValue, Yes}
use Rattle.bgp_check.specs.Answered.{HasItsVerdict, heard_as, parts_for, peer_as_by}
use Rattle.bgp_check.specs.Checked.{IsToldBy, IsToldUnder, IsUnder}
use Rattle.bgp_check.specs.WidestOf.{BothParts, parts_of, widest_of}
use Rattle.bgp_check.specs.declared.peer_as.PeerAs.{PeerAs}
use Rattle.bgp_check.specs.declared.widest.Widest.{Widest}

beside : (wanting another : Config) (records : List ShownRecord) (verdict : VerdictValue) → IsToldUnder wanting another records verdict
    → HasVerdict wanting records verdict
beside wanting another records (Yes ends) told = told
beside wanting another records (No count) told = told.0
beside wanting another records Unfinished told = told.0

-- whichever of both it is, the records have the verdict under it
holds : (wanting : Option Config) (another : Config) (wants : Bool) (under : Config) (records : List ShownRecord) (verdict : VerdictValue)
    → IsToldBy wanting another records wants verdict → IsUnder (record { wanting = wanting; another = another }) wants under → HasVerdict under records verdict
holds None another true under records verdict told is = absurd told
holds (Some wanting) another true under records verdict told is =
    subst (λ (c : Config). HasVerdict c records verdict) (let same : wanting ≡ under = cc in same) (beside wanting another records verdict told)
holds None another false under records verdict told is = subst (λ (c : Config). HasVerdict c records verdict) is told
holds (Some wanting) another false under records verdict told is = subst (λ (c : Config). HasVerdict c records verdict) is told.0

-- no OPEN of the peer is told, so that none wants its AS number
none_alone : (session : Session) (own : Option OpenFields) (wanting : Option Config) (another : ConfigParts)
    → record { wanting = option_map (λ (c : Config). c.parts) wanting; another = another } ≡ widest_of session own None → wanting ≡ None
none_alone session own None another is = refl
none_alone session None (Some wanting) another is = let k : ⊥ = cc (ap (λ (b : BothParts). b.wanting) is) in absurd k
none_alone session (Some own) (Some wanting) another is = let k : ⊥ = cc (ap (λ (b : BothParts). b.wanting) is) in absurd k

-- its parts are those for the peer
its_parts : (wants : Bool) (told : Option OpenFields) (heard : ℕ) (widest : Widest) (under : Config) → (told ≡ None → widest.wanting ≡ None)
    → IsUnder widest wants under → Some under.parts ≡ parts_for (peer_as_by wants told heard) (parts_of widest)
its_parts true None heard widest under none is = let k : None ≡ Some under = sym (none refl) ∙ is in let no : ⊥ = cc in absurd no
its_parts false None heard widest under none is = ap (λ (c : Config). Some c.parts) (sym is)
its_parts true (Some fields) heard widest under none is = ap (λ (o : Option Config). option_map (λ (c : Config). c.parts) o) (sym is)
its_parts false (Some fields) heard widest under none is = ap (λ (c : Config). Some c.parts) (sym is)

alone : (session : Session) (own : Option OpenFields) (told : Option OpenFields) (widest : Widest) → parts_of widest ≡ widest_of session own told
    → told ≡ None → widest.wanting ≡ None
alone session own told widest made none =
    none_alone session own widest.wanting widest.another.parts (subst (λ (t : Option OpenFields). parts_of widest ≡ widest_of session own t) none made)

pub has_its_verdict : HasItsVerdict
has_its_verdict session records number peer under verdict judged = (
  holds judged.widest.wanting judged.widest.another judged.wants under records verdict judged.is_told judged.is_under,
  record {
    own = judged.own;
    peers = judged.peers;
    told = judged.told;
    has_own = judged.has_own;
    has_peers = judged.has_peers;
    are_told = judged.are_told;
    made =
        subst (λ (p : PeerAs). Some under.parts ≡ parts_for p (widest_of session (option_map open_of judged.own) judged.told)) (sym judged.is_peer)
        (its_parts judged.wants judged.told (heard_as judged.widest.wanting) judged.widest under
        (alone session (option_map open_of judged.own) judged.told judged.widest judged.made) judged.is_under
        ∙ ap (parts_for (peer_as_by judged.wants judged.told (heard_as judged.widest.wanting))) judged.made);
  },
)
