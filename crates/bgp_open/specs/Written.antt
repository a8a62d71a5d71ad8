-- The octets of messages as they are written (RFC 4271, 4.2 and 4.5).
use Rattle.std.specs.Prelude.{◌<◌, ◌^◌, ◌++◌, ℕ, List, [], ◌∷◌, length}
use Rattle.byteorder.specs.Endian.{big_bytes}
use Rattle.bgp_wire.specs.Message.{message_octets}
use Rattle.bgp_open.specs.Triplet.{Triplet, triplets_octets}
use Rattle.bgp_open.specs.Open.{OpenFields}
use Rattle.bgp_open.specs.declared.written_open.OpenWriteFault.{OpenWriteFault}
use Rattle.bgp_open.specs.declared.written_open.OpenWriteFault.TheVariants as opens
use Rattle.bgp_open.specs.declared.notification.NotificationWriteFault.{NotificationWriteFault}
use Rattle.bgp_open.specs.declared.notification.NotificationWriteFault.TheVariants as notifications

-- the parameters that have capabilities: one of type 2 with all of them, and none where there are
-- none
abbrev pub parameters_with : List Triplet → List Triplet
parameters_with [] = []
parameters_with (capability ∷ capabilities) =
    (record { code = 2; value = triplets_octets (capability ∷ capabilities) }) ∷ []

-- the octets of the fixed fields of an OPEN of version 4, with this Optional Parameters Length
unfoldable pub fixed_octets : ℕ → ℕ → ℕ → ℕ → List ℕ
fixed_octets my_as hold id count =
    4 ∷ (big_bytes 2 my_as ++ (big_bytes 2 hold ++ (big_bytes 4 id ++ count ∷ [])))

-- an OPEN with these fields and these parameters
abbrev pub open_with : ℕ → ℕ → ℕ → List Triplet → List ℕ
open_with my_as hold id parameters =
    let octets = triplets_octets parameters in
    message_octets 1 (fixed_octets my_as hold id (length octets) ++ octets)

-- an OPEN that says this
abbrev pub open_octets : OpenFields → List ℕ
open_octets fields =
    open_with fields.my_as fields.hold fields.id (parameters_with fields.capabilities)

-- no OPEN has room for these capabilities: their parameter would have more than 255 octets, as also
-- where one value alone has
abbrev pub IsTooMany : List Triplet → Type 0
IsTooMany capabilities = 255 < length (triplets_octets (parameters_with capabilities))

-- the numbers fit the fields of an OPEN, and there is room for the capabilities
pub record FitsOpen (fields : OpenFields) : Type 0 where
  pub my_as : fields.my_as < 2 ^ 16
  pub hold : fields.hold < 2 ^ 16
  pub id : fields.id < 2 ^ 32
  pub capabilities : ¬ IsTooMany fields.capabilities

-- a NOTIFICATION with this code, subcode and data
abbrev pub notification_octets : ℕ → ℕ → List ℕ → List ℕ
notification_octets code subcode detail = message_octets 3 (code ∷ subcode ∷ detail)

-- the numbers of what keeps a message from being written
abbrev pub open_write_number : OpenWriteFault → ℕ
open_write_number opens.TooMany = 1
open_write_number opens.Memory = 2

abbrev pub notification_write_number : NotificationWriteFault → ℕ
notification_write_number notifications.TooLarge = 1
notification_write_number notifications.Memory = 2
