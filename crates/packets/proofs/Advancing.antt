-- How far a reader is behind what it has passed over, and what it answers from there.
use Rattle.std.proofs.Common.{◌≡◌, ◌∙◌, ◌≤◌, ◌+◌, ◌++◌, Bool, true, false, ℕ, zero, suc, List, [], ◌∷◌, length, refl, sym, ap, subst, append_assoc, Some, IsTrue}
use Rattle.std.proofs.Math.Seq.{drop-append_seam}
use Rattle.packets.specs.declared.blocks.Interface.{Interface}
use Rattle.packets.specs.declared.fault.FaultKind.{FaultKind}
use Rattle.packets.specs.declared.fault.FileFault.{FileFault}
use Rattle.packets.specs.declared.progress.Format.{Format}
use Rattle.packets.specs.declared.progress.Format.TheVariants as formats
use Rattle.packets.specs.declared.progress.Progress.{Progress}
use Rattle.packets.specs.declared.reading.Found.{Found}
use Rattle.packets.specs.Context.{Context}
use Rattle.packets.specs.Fault.{device_count}
use Rattle.packets.specs.Judgement.{Judgement, End, Refused, Passed, Told}
use Rattle.packets.specs.Packet.{Recorded}
use Rattle.packets.specs.Recording.{judgement_at, Whole, CutShort, IsReadBy, IsReadIn, IsRead, ending_at}
use Rattle.packets.specs.Reading.{recorded_in, context_of, with_interface}
use Rattle.packets.specs.Reader.{ReaderState, state_of, HasRead, IsRefused, fault_at, Ends, IsCause, Fails}
use Rattle.packets.specs.Advance.{Finds}
use Rattle.packets.proofs.StartPlaces.{judgement_holds}

-- ---- items one after another

pub read_nothing : (context : Context) → HasRead context [] [] context
read_nothing context more later ending is = is

pub read_passed : (context after : Context) (octets : List ℕ) → ((more : List ℕ) → judgement_at context (octets ++ more) ≡ Passed (length octets) after)
    → HasRead context octets [] after
read_passed context after octets judged more later ending is = (
  suc is.0,
  subst (λ (j : Judgement). IsReadBy (λ to rest these. IsReadIn is.0 to rest these ending) context (octets ++ more) later ending j) (sym (judged more))
      (subst (λ (o : List ℕ). IsReadIn is.0 after o later ending) (sym (drop-append_seam octets more)) is.1),
)

pub read_told : (context : Context) (octets : List ℕ) (packet : Recorded) → ((more : List ℕ) → judgement_at context (octets ++ more) ≡ Told (length octets) packet)
    → HasRead context octets (packet ∷ []) context
read_told context octets packet judged more later ending is = (
  suc is.0,
  subst (λ (j : Judgement). IsReadBy (λ to rest these. IsReadIn is.0 to rest these ending) context (octets ++ more) (packet ∷ later) ending j) (sym (judged more))
      (later, refl, subst (λ (o : List ℕ). IsReadIn is.0 context o later ending) (sym (drop-append_seam octets more)) is.1),
)

pub read_both : (from between to : Context) (octets rest : List ℕ) (packets : List Recorded) → HasRead from octets [] between → HasRead between rest packets to
    → HasRead from (octets ++ rest) packets to
read_both from between to octets rest packets first then more later ending is =
    subst (λ (o : List ℕ). IsRead from o (packets ++ later) ending) (sym (append_assoc octets rest more))
    (first (rest ++ more) (packets ++ later) ending (then more later ending is))

read_ended : (context : Context) → judgement_at context [] ≡ End → IsRead context [] [] Whole
read_ended context is = (
  1,
  subst (λ (j : Judgement). IsReadBy (λ to rest these. IsReadIn zero to rest these Whole) context [] [] Whole j) (sym is) (refl, refl),
)

read_cut : (context : Context) (octets : List ℕ) (kind : FaultKind) → judgement_at context octets ≡ Refused kind → ending_at context kind ≡ CutShort → IsRead context octets [] CutShort
read_cut context octets kind is cut = (
  1,
  subst (λ (j : Judgement). IsReadBy (λ to rest these. IsReadIn zero to rest these CutShort) context octets [] CutShort j) (sym is) (refl, sym cut),
)

-- a description of an interface, by how a file is read
pub more_interfaces : (format : Format) (interfaces : List Interface) (interface : Interface)
    → with_interface (context_of format interfaces) interface ≡ context_of format (interfaces ++ interface ∷ [])
more_interfaces formats.Unknown interfaces interface = refl
more_interfaces (formats.Pcap magic link_type) interfaces interface = refl
more_interfaces (formats.Pcapng order) interfaces interface = refl

-- where the interfaces stayed
pub stands_with : (old new : Progress) (fault : FileFault) (interfaces kept : List Interface) → new ≡ record old { fault = Some fault } → kept ≡ interfaces
    → state_of new kept ≡ record (state_of old interfaces) { fault = Some fault }
stands_with old new fault interfaces kept stands same =
    ap (λ (p : Progress). state_of p kept) stands ∙ ap (λ (l : List Interface). state_of (record old { fault = Some fault }) l) same

-- ---- a device is no fault of the octets

-- the fault is none of a device
abbrev IsOfOctets : Judgement → Type 0
IsOfOctets End = Unit {0}
IsOfOctets (Refused kind) = device_count kind ≡ 0
IsOfOctets (Passed len after) = Unit {0}
IsOfOctets (Told len packet) = Unit {0}

pub refused_is_no_device : (context : Context) (octets : List ℕ) (ended : Bool) (kind : FaultKind) → IsRefused context octets ended kind → device_count kind ≡ 0
refused_is_no_device context octets ended kind refused =
    subst IsOfOctets (refused [] (λ e. refl))
    (judgement_holds IsOfOctets context (octets ++ []) (λ len least. record {
      ended = tt;
      refused = λ fault other. other;
      passed = λ after. tt;
      told = λ packet. tt;
    }))

-- ---- a reader on its way

module _ {S : Type 0} (gives : S → S → List ℕ → Type 0) (has_ended : S → Bool)
    (gives_joined : (a b c : S) (xs ys : List ℕ) → gives a b xs → gives b c ys → gives a c (xs ++ ys))
    (source : S) (from : ReaderState) where
  -- from its start on it has passed over octets alone
  pub record Passes (now : S) (state : ReaderState) : Type 0 where
    pub octets : List ℕ
    pub gave : gives source now octets
    pub passed : HasRead from.context octets [] state.context
    pub is : state ≡ record from { context = state.context }

  pub begins : gives source source [] → Passes source from
  begins nothing = record {
    octets = [];
    gave = nothing;
    passed = read_nothing from.context;
    is = refl;
  }

  pub passes_on : (now next : S) (state : ReaderState) (octets : List ℕ) (context : Context) → Passes now state → gives now next octets
      → ((more : List ℕ) → judgement_at state.context (octets ++ more) ≡ Passed (length octets) context)
      → Passes next (record state { context = context })
  passes_on now next state octets context so_far given judged = record {
    octets = so_far.octets ++ octets;
    gave = gives_joined source now next so_far.octets octets so_far.gave given;
    passed = read_both from.context state.context context so_far.octets octets [] so_far.passed (read_passed state.context context octets judged);
    is = ap (λ (s : ReaderState). let r : ReaderState = record s { context = context } in r) so_far.is;
  }

  pub ends_there : (now next : S) (state after : ReaderState) (octets : List ℕ) → Passes now state → gives now next octets → octets ≡ [] → IsTrue (has_ended next)
      → judgement_at state.context [] ≡ End → after ≡ record state { is_ended = true; is_cut = false } → Ends gives has_ended source next from after
  ends_there now next state after octets so_far given none ended judged stands =
      let is : Ends gives has_ended source next from (record state { is_ended = true; is_cut = false }) = record {
        octets = so_far.octets;
        rest = octets;
        exactly = gives_joined source now next so_far.octets octets so_far.gave given;
        passed = so_far.passed;
        ended = ended;
        ending = subst (λ (o : List ℕ). IsRead state.context o [] Whole) (sym none) (read_ended state.context judged);
        stands = ap (λ (s : ReaderState). let r : ReaderState = record s { is_ended = true; is_cut = false } in r) so_far.is;
      } in
      subst (λ (s : ReaderState). Ends gives has_ended source next from s) (sym stands) is

  -- or it was cut short
  pub cut_there : (now next : S) (state after : ReaderState) (octets : List ℕ) (kind : FaultKind) → Passes now state → gives now next octets → IsTrue (has_ended next)
      → judgement_at state.context octets ≡ Refused kind → ending_at state.context kind ≡ CutShort → after ≡ record state { is_ended = true; is_cut = true }
      → Ends gives has_ended source next from after
  cut_there now next state after octets kind so_far given ended judged cut stands =
      let is : Ends gives has_ended source next from (record state { is_ended = true; is_cut = true }) = record {
        octets = so_far.octets;
        rest = octets;
        exactly = gives_joined source now next so_far.octets octets so_far.gave given;
        passed = so_far.passed;
        ended = ended;
        ending = read_cut state.context octets kind judged cut;
        stands = ap (λ (s : ReaderState). let r : ReaderState = record s { is_ended = true; is_cut = true } in r) so_far.is;
      } in
      subst (λ (s : ReaderState). Ends gives has_ended source next from s) (sym stands) is

  pub finds_there : (now next : S) (state : ReaderState) (octets buffer : List ℕ) (found : Found) → Passes now state → gives now next octets
      → ((more : List ℕ) → judgement_at state.context (octets ++ more) ≡ Told (length octets) (recorded_in found buffer)) → found.at + found.count ≤ length buffer
      → Finds gives has_ended source next from (record state { number = state.number + 1 }) buffer found
  finds_there now next state octets buffer found so_far given judged within = record {
    answers = record {
      octets = so_far.octets ++ octets;
      exactly = gives_joined source now next so_far.octets octets so_far.gave given;
      told = read_both from.context state.context state.context so_far.octets octets (recorded_in found buffer ∷ []) so_far.passed
          (read_told state.context octets (recorded_in found buffer) judged);
      stands = ap (λ (s : ReaderState). let r : ReaderState = record s { number = s.number + 1 } in r) so_far.is;
    };
    within = within;
  }

  fails_as : (now next : S) (state : ReaderState) (rest : List ℕ) (kind : FaultKind) → Passes now state → gives now next rest
      → IsCause gives has_ended source next from state.context rest kind
      → Fails gives has_ended source next from (record state { fault = Some (fault_at state kind) }) (fault_at state kind)
  fails_as now next state rest kind so_far given cause = record {
    octets = so_far.octets;
    rest = rest;
    taken = gives_joined source now next so_far.octets rest so_far.gave given;
    passed = so_far.passed;
    cause = cause;
    packet = ap (λ (s : ReaderState). s.number + 1) so_far.is;
    stands = ap (λ (s : ReaderState). let r : ReaderState = record s { fault = Some (fault_at state kind) } in r) so_far.is;
  }

  pub fails_there : (now next : S) (state after : ReaderState) (rest : List ℕ) (kind : FaultKind) (fault : FileFault) → Passes now state → gives now next rest
      → IsCause gives has_ended source next from state.context rest kind → fault ≡ fault_at state kind → after ≡ record state { fault = Some fault }
      → Fails gives has_ended source next from after fault
  fails_there now next state after rest kind fault so_far given cause is stands =
      subst (λ (s : ReaderState). Fails gives has_ended source next from s fault) (sym stands)
      (subst (λ (f : FileFault). Fails gives has_ended source next from (record state { fault = Some f }) f) (sym is) (fails_as now next state rest kind so_far given cause))

  -- with one interface more, where it reads blocks
  pub one_more : (now : S) (progress : Progress) (interfaces : List Interface) (interface : Interface)
      → Passes now (record (state_of progress interfaces) { context = with_interface (context_of progress.format interfaces) interface })
      → Passes now (state_of progress (interfaces ++ interface ∷ []))
  one_more now progress interfaces interface passes =
      subst (λ (x : Context). Passes now (record (state_of progress interfaces) { context = x })) (more_interfaces progress.format interfaces interface) passes
