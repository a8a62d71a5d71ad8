-- The text of why an OPEN has to be refused: its version, that it is malformed, or each field that
-- is at fault. Where the peer's AS number is free, `another` stands for the one that is configured.
use Rattle.std.specs.Prelude.{◌++◌, ℕ, Bool, true, false, List, [], ◌∷◌, Option, None, Some, codes}
use Rattle.std.specs.Fmt.{decimal}
use Rattle.bgp_prefix.specs.Text.{address_text}
use Rattle.bgp_prefix.specs.declared.address.Address.TheVariants.{V4}
use Rattle.bgp_why_parts.specs.Pieces.{listed}
use Rattle.bgp_why.specs.declared.refusal.FieldReasons.{FieldReasons}
use Rattle.bgp_why.specs.declared.refusal.OpenReasons.{OpenReasons}
use Rattle.bgp_why.specs.declared.refusal.OpenReasons.TheVariants.{Version, Malformed}
use Rattle.bgp_why.specs.declared.refusal.OpenReasons.TheVariants.{Fields}

-- a parameter isn't of type 2, Capabilities
abbrev pub parameter_piece : Bool → Option (List ℕ)
parameter_piece true = Some (codes "a parameter of another type than 2")
parameter_piece false = None

-- the number that is configured, which may be any other
abbrev pub configured_text : Bool → ℕ → List ℕ
configured_text true number = codes "another"
configured_text false number = decimal number

-- the AS number that the peer says it has, and the one that is configured
abbrev pub as_piece : Bool → ℕ → Option ℕ → Option (List ℕ)
as_piece is_free configured None = None
as_piece is_free configured (Some number) =
    Some (codes "AS " ++ (decimal number ++ (codes ", configured "
    ++ configured_text is_free configured)))

-- the BGP Identifier
abbrev pub identifier_piece : Option ℕ → Option (List ℕ)
identifier_piece None = None
identifier_piece (Some id) = Some (codes "BGP Identifier " ++ address_text (V4 id))

-- the Hold Time in seconds
abbrev pub hold_piece : Option ℕ → Option (List ℕ)
hold_piece None = None
hold_piece (Some hold) = Some (codes "Hold Time " ++ decimal hold)

-- the fields that are at fault
abbrev pub fields_text : Bool → FieldReasons → List ℕ
fields_text is_free reasons =
    listed
    (parameter_piece reasons.other_parameter
    ∷ as_piece is_free reasons.configured_as reasons.peer_as
    ∷ identifier_piece reasons.identifier
    ∷ hold_piece reasons.hold
    ∷ [])

-- why an OPEN has to be refused
abbrev pub reasons_text : Bool → OpenReasons → List ℕ
reasons_text is_free (Version number) = codes "version " ++ decimal number
reasons_text is_free Malformed = codes "a length that does not fit"
reasons_text is_free (Fields reasons) = fields_text is_free reasons
