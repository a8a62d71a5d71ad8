-- What the widest configurations of an end are made of: one that wants the AS number that the
-- peer's OPEN has, and one that wants another.
use Rattle.std.specs.Prelude.{◌≡◌, ◌⊎◌, ◌==◌, ◌||◌, Bool, true, false, not, if◌then◌else◌}
use Rattle.std.specs.Prelude.{is_some, option_map, ℕ, List, Option, None, Some}
use Rattle.bgp_prefix.specs.declared.session.Session.{Session}
use Rattle.bgp_wire.specs.AsNumber.{two_octet_as}
use Rattle.bgp_open.specs.declared.config.ConfigParts.{ConfigParts}
use Rattle.bgp_open.specs.Families.{IsEmpty}
use Rattle.bgp_open.specs.Offer.{as_number_of, families_of}
use Rattle.bgp_open.specs.Open.{OpenFields, open_of}
use Rattle.bgp_open.specs.OpenFault.{IsReadable}
use Rattle.bgp_open.specs.RouteOffer.{nothing}
use Rattle.bgp_open.specs.declared.config.Config.{Config}
use Rattle.bgp_check.specs.declared.widest.Widest.{Widest}
use Rattle.bgp_check.specs.Configurations.{as_of, as_to}
use Rattle.bgp_check.specs.Settings.{settings_of}

-- the OPEN's fields, where there is one and they can be told
abbrev pub AreTold : Option (List ℕ) → Option OpenFields → Type 0
AreTold None fields = fields ≡ None
AreTold (Some octets) fields =
    (IsReadable octets × (fields ≡ Some (open_of octets)))
    ⊎ ((¬ IsReadable octets) × (fields ≡ None))

-- the least AS number or BGP Identifier but this one
abbrev pub other_than : ℕ → ℕ
other_than number = if number == 1 then 2 else 1

-- the OPEN that was sent offers neither family
abbrev pub OffersNone : Option (List ℕ) → Type 0
OffersNone None = ⊥
OffersNone (Some own) = IsEmpty (families_of (open_of own).capabilities)

-- ---- the end's own numbers, where an own fault is mended

abbrev pub is_odd_as : OpenFields → Bool
is_odd_as message = (as_of message == 0) || not (message.my_as == two_octet_as (as_of message))

abbrev pub own_as : OpenFields → ℕ
own_as message = if is_odd_as message then 1 else as_of message

-- an identifier that a configuration can have
abbrev pub some_id : OpenFields → ℕ
some_id message = if message.id == 0 then 1 else message.id

abbrev pub own_hold : OpenFields → ℕ
own_hold message = if (message.hold == 1) || (message.hold == 2) then 90 else message.hold

-- The settings of the end whose OPEN says this, where the peer has to have that AS number. In place
-- of an AS number, an identifier and a Hold Time that no configuration has stand 1, 1 and 90.
abbrev pub own_settings : Session → OpenFields → ℕ → ConfigParts
own_settings session message peer_as = record (settings_of session message peer_as) {
  local_as = own_as message;
  local_id = some_id message;
  hold = own_hold message;
}

-- The settings of an end that sent no OPEN: both AS numbers, the identifier, and whether it has
-- four-octet AS numbers. What else there is plays no part.
abbrev pub free_settings : Session → ℕ → ℕ → ℕ → Bool → ConfigParts
free_settings session local_as peer_as local_id as4 = record {
  local_as = local_as;
  peer_as = peer_as;
  local_id = local_id;
  hold = 90;
  families = record { v4 = true; v6 = false };
  as4 = as4;
  delay_open = true;
  large_hold = 1;
  session = record session { extended = false };
  offers = nothing;
}

-- ---- both

pub record BothParts : Type 0 where
  -- of one that wants the AS number of the peer's OPEN, where one can
  pub wanting : Option ConfigParts
  -- of one that wants another; or of any, where the peer has none that can be told
  pub another : ConfigParts

-- those of two configurations
abbrev pub parts_of : Widest → BothParts
parts_of widest = record {
  wanting = option_map (λ (config : Config). config.parts) widest.wanting;
  another = widest.another.parts;
}

-- no configuration wants an AS number of 0
abbrev pub where_some : ℕ → ConfigParts → Option ConfigParts
where_some number parts = if number == 0 then None else Some parts

-- an end that sent an OPEN, and heard one with this AS number: the other configuration is internal,
-- unless the peer is
abbrev pub widest_with : Session → OpenFields → ℕ → BothParts
widest_with session own number = record {
  wanting = where_some number (own_settings session own number);
  another = own_settings session own
      (if number == own_as own then other_than number else own_as own);
}

-- An end that sent none. Neither has the peer's AS number. The one hasn't its identifier, either;
-- where the peer's capability of four-octet AS numbers says 0, it has no such capability, and wants
-- My Autonomous System. The other is internal, and has the peer's identifier.
abbrev pub widest_without : Session → OpenFields → BothParts
widest_without session peers =
    let as4 = not (as_of peers == 0) in
    let number = as_to as4 peers in
    let local_as = other_than number in
    record {
      wanting = where_some number
          (free_settings session local_as number (other_than peers.id) as4);
      another = free_settings session local_as local_as (some_id peers) true;
    }

abbrev pub widest_of : Session → Option OpenFields → Option OpenFields → BothParts
widest_of session (Some own) (Some peers) =
    widest_with session own (as_to (is_some (as_number_of own.capabilities)) peers)
widest_of session (Some own) None =
    record { wanting = None; another = own_settings session own (own_as own) }
widest_of session None (Some peers) = widest_without session peers
widest_of session None None =
    record { wanting = None; another = free_settings session 1 1 1 true }
