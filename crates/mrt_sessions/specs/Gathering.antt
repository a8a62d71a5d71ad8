-- The sessions of the records that were taken so far.
use Rattle.std.specs.Prelude.{◌≡◌, ◌++◌, ◌∷◌, Bool, true, false, List, [], if◌then◌else◌, is_some}
use Rattle.std.specs.BTreeMap.{get}
use Rattle.std.specs.List.{list_any}
use Rattle.mrt_sessions.specs.contracts.addresses.AddressesOrd.TheImpl as order
use Rattle.mrt_sessions.specs.declared.addresses.Addresses.{Addresses}
use Rattle.mrt_sessions.specs.declared.sessions.Sessions.{Sessions}
use Rattle.mrt_sessions.specs.File.{Located}
use Rattle.mrt_sessions.specs.Sessions.{HoldsSessions, are_same, held_records, held_sessions}
use Rattle.mrt_sessions.specs.Sessions.{is_between}

-- this session is held
abbrev pub is_held : {Z : Type 0} → Sessions Z → Addresses → Bool
is_held sessions addresses = is_some (get order.ghosts.cmp sessions.by_addresses addresses)

-- They are held, and no other is.
pub record Gathers {Z : Type 0} (named : List Located) (sessions : Sessions Z) : Type 0 where
  pub holds : HoldsSessions named sessions
  pub known : (addresses : Addresses)
      → is_held sessions addresses ≡ list_any (is_between addresses) named

-- One is held that may be new, with no record more.
pub record Begins {Z : Type 0} (old new : Sessions Z) (addresses : Addresses) : Type 0 where
  pub in_order : held_sessions new
      ≡ (if is_held old addresses then held_sessions old
      else held_sessions old ++ addresses ∷ [])
  pub each : (others : Addresses) → held_records new others ≡ held_records old others
  pub is_there : is_held new addresses ≡ true
  pub others : (others : Addresses) → are_same addresses others ≡ false
      → is_held new others ≡ is_held old others
