-- The lines of a reason are one text, whenever they are put.
use Rattle.std.proofs.Common.{◌≡◌, ◌+◌, ℕ, List, Option, None, Some, subst, sym, take}
use Rattle.bgp_prefix.specs.Shown.{ShownRecord}
use Rattle.bgp_prefix.specs.declared.session.Session.{Session}
use Rattle.bgp_open.specs.declared.config.Config.{Config}
use Rattle.bgp_update.specs.Subcodes.{SubcodesAreSets}
use Rattle.bgp_judge.specs.declared.verdict.Verdict.{Verdict}
use Rattle.bgp_judge.specs.declared.verdict.Verdict.TheVariants.{Yes, No, Unfinished}
use Rattle.bgp_reason.specs.Told.{last_message, told}
use Rattle.bgp_reason.specs.declared.told.Told.{Told}
use Rattle.bgp_why.specs.declared.place.Place.{Place}
use Rattle.bgp_why.specs.declared.style.Style.{Style}
use Rattle.bgp_explain.specs.declared.explained.Reason.{Reason}
use Rattle.bgp_explain.specs.declared.why.Why.{Why}
use Rattle.bgp_explain.specs.Details.{next_in}
use Rattle.bgp_explain.specs.Reason.{HasReason, IsReasonAt}
use Rattle.bgp_explain.specs.Text.{IsWhyOf, IsWhyOfWith}
use Rattle.bgp_explain.specs.Why.{AreCaptured, AreWhy, IsHeard}
use Rattle.bgp_explain.proofs.OneText.{first_captured, heard, one_is_why}

-- ---- one text

module _ {X : Type 0} (config : Config) (style : Style) (session : Session) (another : Option ℕ) (places : ℕ → ℕ → Place) (reason : Reason X) (why : Why) where
  abbrev pub AreWhyOf : Type 0
  AreWhyOf = AreWhy config places reason.told reason.moments reason.link reason.left_out reason.last_message.items reason.possible (next_in reason.impossible) why

  pub why_at : (text : List ℕ) → AreWhyOf → IsWhyOfWith config style session another reason why text → IsWhyOf config style session another places reason text
  why_at text are is = record {
    sent = is.sent;
    why = why;
    asking = is.asking;
    lacked = is.lacked;
    is_sent = is.is_sent;
    are_why = are;
    is_asked = is.is_asked;
    are_lacks = is.are_lacks;
    whole = is.whole;
  }

  pub one_kept : SubcodesAreSets → IsHeard config reason.told reason.last_message.items → AreWhyOf → (text : List ℕ) → IsWhyOfWith config style session another reason why text
      → (other : List ℕ) → IsWhyOfWith config style session another reason why other → other ≡ text
  one_kept sets whole are text is other also =
      one_is_why sets config style session another places reason.told reason.moments reason.link reason.left_out reason.last_message.items reason.possible (next_in reason.impossible) other text whole
      (why_at other are also) (why_at text are is)

-- ---- the message that was received last

module _ {X : Type 0} (config : Config) where
  heard_at : (records : List ShownRecord) (reason : Reason X) → AreCaptured config records → IsReasonAt config records reason → IsHeard config reason.told reason.last_message.items
  heard_at records reason each at =
      subst (λ (t : Told). IsHeard config t reason.last_message.items) (sym at.told)
      (subst (λ (octets : List ℕ). IsHeard config (told records) octets) (sym at.last_message) (heard config records each))

  pub heard_in : {Y : Type 0} (records : List ShownRecord) (verdict : Verdict Y) (reason : Reason X) → AreCaptured config records → HasReason config records verdict (Some reason)
      → IsHeard config reason.told reason.last_message.items
  heard_in records (Yes ends) reason each has = absurd (let e : Some reason ≡ None = has in (let k : ⊥ = cc in k))
  heard_in records (No count) reason each has = heard_at (take count records) reason (first_captured config count records each) has.0
  heard_in records Unfinished reason each has = heard_at records reason each has.0
