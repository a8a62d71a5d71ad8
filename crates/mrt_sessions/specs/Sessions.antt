-- The sessions of a file: each pair of addresses that its records name, with the records that name
-- it.
use Rattle.std.specs.Prelude.{◌≡◌, ◌↔◌, Bool, IsTrue, if◌then◌else◌, List, [], ◌∷◌, map}
use Rattle.std.specs.Prelude.{unwrap_or, option_map}
use Rattle.std.specs.BTreeMap.{get}
use Rattle.std.specs.List.{filter, list_any}
use Rattle.std.specs.Ordering.{is_eq}
use Rattle.mrt_sessions.specs.contracts.addresses.AddressesOrd.TheImpl as order
use Rattle.mrt_sessions.specs.declared.addresses.Addresses.{Addresses}
use Rattle.mrt_sessions.specs.declared.sessions.Sessions.{Sessions}
use Rattle.mrt_sessions.specs.File.{Located, addresses_of}
use Rattle.mrt_sessions.specs.Located.{located}

-- two pairs of addresses are one: by their order, which tells all of them apart
abbrev pub are_same : Addresses → Addresses → Bool
are_same one other = is_eq (order.ghosts.cmp one other)

abbrev pub SameAreEqual : Type 0
SameAreEqual = (one other : Addresses) → IsTrue (are_same one other) ↔ (one ≡ other)

-- ---- of the records of a file

-- the record names these addresses
abbrev pub is_between : Addresses → Located → Bool
is_between addresses named = are_same addresses (addresses_of named.octets)

-- a session's records are those that do
abbrev pub records_between : Addresses → List Located → List Located
records_between addresses named = filter (is_between addresses) named

-- The sessions in the order of their first records: the addresses of each record, unless they are
-- among these or those of a record before it.
abbrev pub sessions_besides : List Addresses → List Located → List Addresses
sessions_besides known [] = []
sessions_besides known (first ∷ named) =
    let addresses = addresses_of first.octets in
    if list_any (are_same addresses) known then sessions_besides known named
    else addresses ∷ sessions_besides (addresses ∷ known) named

abbrev pub sessions_in : List Located → List Addresses
sessions_in named = sessions_besides [] named

-- ---- as they are held

-- those that are held, in their order
abbrev pub held_sessions : {Z : Type 0} → Sessions Z → List Addresses
held_sessions sessions = sessions.order.items

-- the records of one: none where it isn't held
abbrev pub held_records : {Z : Type 0} → Sessions Z → Addresses → List Located
held_records sessions addresses =
    unwrap_or (option_map (λ v. map located v.items)
    (get order.ghosts.cmp sessions.by_addresses addresses)) []

-- All sessions that these records name are held, with all of their records.
pub record HoldsSessions {Z : Type 0} (named : List Located) (sessions : Sessions Z) : Type 0 where
  pub in_order : held_sessions sessions ≡ sessions_in named
  pub each : (addresses : Addresses)
      → held_records sessions addresses ≡ records_between addresses named
