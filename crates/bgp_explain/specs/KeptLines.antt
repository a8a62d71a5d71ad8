-- The lines of a reason that are kept, to be put in either form.
use Rattle.std.specs.Prelude.{◌≡◌, ℕ, List, [], Option, None, Some}
use Rattle.std.specs.List.{flat_map}
use Rattle.bgp_prefix.specs.declared.session.Session.{Session}
use Rattle.bgp_open.specs.declared.config.Config.{Config}
use Rattle.bgp_verdict_lines.specs.JsonVerdictsLines.{LineValue, line_text}
use Rattle.bgp_why.specs.declared.style.Style.{Style}
use Rattle.bgp_explain.specs.declared.explained.Reason.{Reason}
use Rattle.bgp_explain.specs.declared.why.Why.{Why}
use Rattle.bgp_explain.specs.Text.{CanBePut, IsWhyOfWith}

-- a text is that of lines
abbrev pub IsOfLines : List ℕ → Type 0
IsOfLines text = (lines : List LineValue) × (flat_map line_text lines ≡ text)

-- they can be put, and whenever they are, this is their text
pub record AreKept {X : Type 0} (config : Config) (style : Style) (session : Session)
    (another : Option ℕ) (reason : Reason X) (why : Why) (text : List ℕ) : Type 0 where
  pub can : CanBePut session reason.impossible
  pub is : IsOfLines text
  pub one : (other : List ℕ) → IsWhyOfWith config style session another reason why other
      → other ≡ text

-- if there is a reason
abbrev pub kept_text : Option (List ℕ) → List ℕ
kept_text None = []
kept_text (Some text) = text
