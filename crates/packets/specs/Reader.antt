-- What a reader of a recording answers, call by call: the next packet, the end, or the first fault;
-- and how it stands then.
use Rattle.std.specs.Prelude.{◌≡◌, ◌+◌, ◌⊎◌, ◌++◌, ℕ, Bool, true, false, List, [], ◌∷◌}
use Rattle.std.specs.Prelude.{length, Option, None, Some, Result, Ok, Err, IsTrue, is_some}
use Rattle.std.specs.Prelude.{if◌then◌else◌}
use Rattle.packets.specs.Context.{Context, Start}
use Rattle.packets.specs.Fault.{device_count}
use Rattle.packets.specs.Judgement.{Refused, Passed}
use Rattle.packets.specs.Packet.{Recorded, recorded_of}
use Rattle.packets.specs.Recording.{judgement_at, IsBegun, Ending, IsRead, Fault, end_by, ending_at}
use Rattle.packets.specs.Reading.{context_of, with_interface}
use Rattle.packets.specs.declared.blocks.Interface.{Interface}
use Rattle.packets.specs.declared.progress.Progress.{Progress}
use Rattle.packets.specs.declared.fault.FaultKind.{FaultKind}
use Rattle.packets.specs.declared.fault.FaultKind.TheVariants as kinds
use Rattle.packets.specs.declared.fault.FileFault.{FileFault}
use Rattle.packets.specs.declared.packet.Packet.{Packet}

-- How a reader stands: how it reads on; how many packets it answered; whether it told the end, and
-- whether the recording was cut short there; the fault that it found.
pub record ReaderState : Type 0 where
  pub context : Context
  pub number : ℕ
  pub is_ended : Bool
  pub is_cut : Bool
  pub fault : Option FileFault

-- one that has read nothing
abbrev pub fresh_reader : ReaderState
fresh_reader =
    record { context = Start; number = 0; is_ended = false; is_cut = false; fault = None }

-- how far a reader is, where these interfaces were described
abbrev pub state_of : Progress → List Interface → ReaderState
state_of progress interfaces = record {
  context = context_of progress.format interfaces;
  number = progress.number;
  is_ended = progress.is_ended;
  is_cut = progress.is_cut;
  fault = progress.fault;
}

-- A reader's buffer, of this length, has room for what is held, unless the reader has read nothing
-- or found a fault.
abbrev pub HasRoom : ℕ → ReaderState → Type 0
HasRoom len state = (len ≡ 327680) ⊎ (state ≡ fresh_reader) ⊎ IsTrue (is_some state.fault)

-- Whatever follows these octets, they are these packets, and what follows is read from there: the
-- packets that it has come after them.
abbrev pub HasRead : Context → List ℕ → List Recorded → Context → Type 0
HasRead from octets packets to =
    (more : List ℕ) (later : List Recorded) (ending : Ending) → IsRead to more later ending
    → IsRead from (octets ++ more) (packets ++ later) ending

-- Whatever follows these octets, they describe an interface of the section.
abbrev pub Describes : Context → List ℕ → Type 0
Describes context octets = (interface : Interface) × ((more : List ℕ)
    → judgement_at context (octets ++ more)
    ≡ Passed (length octets) (with_interface context interface))

-- Whatever follows these octets, which is nothing where the source has ended, the place where they
-- begin is refused for this fault.
abbrev pub IsRefused : Context → List ℕ → Bool → FaultKind → Type 0
IsRefused context octets ended kind =
    (more : List ℕ) → (IsTrue ended → more ≡ [])
    → judgement_at context (octets ++ more) ≡ Refused kind

-- the fault at the packet that is read, or that would be the next
abbrev pub fault_at : ReaderState → FaultKind → FileFault
fault_at state kind = record { kind = kind; packet = state.number + 1 }

-- What a call answers, over a source that goes from `old` to `new`. The members are the source's.
module _ {S : Type 0} (gives : S → S → List ℕ → Type 0) (has_ended : S → Bool) where
  -- The octets that were given are what was passed over and the packet that is answered, and no
  -- more.
  pub record Answers (old new : S) (from after : ReaderState) (packet : Recorded) : Type 0 where
    pub octets : List ℕ
    pub exactly : gives old new octets
    pub told : HasRead from.context octets (packet ∷ []) after.context
    pub stands : after ≡ record from { context = after.context; number = from.number + 1 }

  -- They are what was passed over, and a rest; the source has ended, and there the recording ends:
  -- nothing is left, or the rest was cut short.
  pub record Ends (old new : S) (from after : ReaderState) : Type 0 where
    pub octets : List ℕ
    pub rest : List ℕ
    pub exactly : gives old new (octets ++ rest)
    pub passed : HasRead from.context octets [] after.context
    pub ended : IsTrue (has_ended new)
    pub ending : IsRead after.context rest [] (end_by after.is_cut)
    pub stands : after
        ≡ record from { context = after.context; is_ended = true; is_cut = after.is_cut }

  -- there was no memory for the buffer, before anything was read, or for an interface
  abbrev pub LacksMemory : S → S → ReaderState → Context → List ℕ → Type 0
  LacksMemory old new from context rest =
      ((new ≡ old) × (from ≡ fresh_reader)) ⊎ Describes context rest

  -- The place where the rest begins is refused, and nothing was cut short there; or a device
  -- failed, and the rest is an item that has begun; or there was no memory.
  abbrev pub IsCause : S → S → ReaderState → Context → List ℕ → FaultKind → Type 0
  IsCause old new from context rest kind =
      (IsRefused context rest (has_ended new) kind × (ending_at context kind ≡ Fault kind))
      ⊎ ((kind ≡ kinds.Device) × IsBegun context rest)
      ⊎ ((kind ≡ kinds.Memory) × LacksMemory old new from context rest)

  -- They are what was passed over and a rest, for which there is a fault.
  pub record Fails (old new : S) (from after : ReaderState) (fault : FileFault) : Type 0 where
    pub octets : List ℕ
    pub rest : List ℕ
    pub taken : gives old new (octets ++ rest)
    pub passed : HasRead from.context octets [] after.context
    pub cause : IsCause old new from after.context rest fault.kind
    pub packet : fault.packet ≡ from.number + 1
    pub stands : after ≡ record from { context = after.context; fault = Some fault }

  -- by the answer
  abbrev pub IsAnswer : S → S → ReaderState → ReaderState → Result (Option Packet) FileFault
      → Type 0
  IsAnswer old new from after (Ok (Some packet)) =
      Answers old new from after (recorded_of packet) × (packet.number ≡ from.number + 1)
  IsAnswer old new from after (Ok None) = Ends old new from after
  IsAnswer old new from after (Err fault) = Fails old new from after fault

  -- nothing was read, and the reader is as before
  abbrev pub IsSame : S → S → ReaderState → ReaderState → Type 0
  IsSame old new from after = (new ≡ old) × (after ≡ from)

  -- After a fault it answers that fault, and after the end the end.
  abbrev pub NextBy : Option FileFault → Bool → S → S → ReaderState → ReaderState
      → Result (Option Packet) FileFault → Type 0
  NextBy (Some fault) is_ended old new from after answer =
      IsSame old new from after × (answer ≡ Err fault)
  NextBy None true old new from after answer = IsSame old new from after × (answer ≡ Ok None)
  NextBy None false old new from after answer = IsAnswer old new from after answer

  abbrev pub IsNext : S → S → ReaderState → ReaderState → Result (Option Packet) FileFault
      → Type 0
  IsNext old new from after answer = NextBy from.fault from.is_ended old new from after answer

-- How many failures a call counts: one where it is the first to answer that a device failed.
abbrev pub failures_in : ReaderState → Result (Option Packet) FileFault → ℕ
failures_in from (Ok answer) = 0
failures_in from (Err fault) = if is_some from.fault then 0 else device_count fault.kind
