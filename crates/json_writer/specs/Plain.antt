-- Texts that stand between quotation marks as they are.
use Rattle.std.specs.Prelude.{◌≡◌, ◌<◌, ◌≤◌, ℕ, List, [], ◌∷◌}

-- a visible octet of ASCII that needs no escape
pub record IsPlain (octet : ℕ) : Type 0 where
  pub visible : 32 ≤ octet
  pub ascii : octet < 128
  pub no_quote : octet ≡ 34 → ⊥
  pub no_backslash : octet ≡ 92 → ⊥

abbrev pub ArePlain : List ℕ → Type 0
ArePlain [] = Unit {0}
ArePlain (octet ∷ octets) = IsPlain octet × ArePlain octets
