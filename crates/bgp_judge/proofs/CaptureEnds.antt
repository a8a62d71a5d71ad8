-- How judging a capture ends.
use Rattle.std.proofs.Common.{◌≡◌, ◌∙◌, ℕ, Bool, List, [], ◌++◌, refl, sym, ap, subst, inl, inr, append-nil, Option, Some, Result, Ok, Err, IsErrAnd}
use Rattle.bgp_open.specs.declared.config.Config.{Config}
use Rattle.bgp_prefix.specs.Shown.{ShownRecord}
use Rattle.bgp_prefix.specs.declared.session.Session.{Session}
use Rattle.bgp_machine.specs.Run.{Begins}
use Rattle.mrt.specs.declared.fault.CaptureFault.{CaptureFault}
use Rattle.mrt.specs.declared.fault.FaultKind.TheVariants as kinds
use Rattle.mrt.specs.Capture.{Piece, joined, records_of}
use Rattle.mrt.specs.Reader.{ReaderState, fresh_reader}
use Rattle.bgp_judge.specs.declared.verdict.Verdict.{Verdict}
use Rattle.bgp_judge.specs.Judging.{EndsBy, IsJudged, IsRefusal, Judges, ReadsAll, ReadsWith, fault_in}
use Rattle.bgp_judge.specs.Verdict.{IsVerdict}
use Rattle.bgp_judge.proofs.CaptureSoFar.{spelled}

module _ {S : Type 0} (gives : S → S → List ℕ → Type 0) (has_ended : S → Bool) (config : Config) (source new : S)
    (may_lack : Config → List ShownRecord → ShownRecord → Type 0) where
  -- nothing was read
  pub unstarted : (reader : ReaderState) (fault : CaptureFault) → reader ≡ fresh_reader → fault ≡ record { kind = kinds.Memory; offset = 0 } → gives source source []
      → ReadsWith gives config.parts.session source source reader (Some fault) (λ given. IsRefusal given has_ended config source source may_lack fault)
  unstarted reader fault fresh is nothing = (
    record {
      pieces = [];
      rest = [];
      knows = (ap (λ (s : ReaderState). s.last) fresh, ap (λ (s : ReaderState). s.others) fresh, ap (λ (s : ReaderState). s.skipped) fresh);
      gave = nothing;
      each = tt;
      holds = inr (inr (record {
        pieces = [];
        rest = [];
        gave = refl;
        each = tt;
        kind = ap (λ (f : CaptureFault). f.kind) is;
        offset = ap (λ (f : CaptureFault). f.offset) is;
        place = inl (refl, refl);
      }));
    },
    inl refl,
  )

  module _ (stands : Config → List ShownRecord → Type 0) (last : ℕ) (impossible : Option ℕ)
      (reads : ReadsAll gives has_ended config source new may_lack stands last impossible) where
    -- all was read
    pub unlisted : (fault : CaptureFault) → fault ≡ record { kind = kinds.Memory; offset = last } → Begins config (records_of reads.pieces)
        → IsRefusal gives has_ended config source new may_lack fault
    unlisted fault is begins = inr (inr (record {
      pieces = reads.pieces;
      rest = [];
      gave = subst (λ (o : List ℕ). gives source new o) (sym (append-nil (joined reads.pieces))) reads.gave;
      each = reads.each;
      kind = ap (λ (f : CaptureFault). f.kind) is;
      offset = ap (λ (f : CaptureFault). f.offset) is ∙ reads.place;
      place = inr (inr (refl, reads.ended, begins));
    }))

    pub judged : {X : Type 0} (answer : Verdict X) → IsVerdict config (records_of reads.pieces) answer → IsJudged gives has_ended config source new answer
    judged answer is = record {
      octets = joined reads.pieces;
      records = records_of reads.pieces;
      gave = reads.gave;
      ended = reads.ended;
      spells = spelled config reads.pieces reads.each;
      verdict = is;
    }

-- what was read is judged otherwise
pub judged_so : {S : Type 0} {gives : S → S → List ℕ → Type 0} {session : Session} {source new : S} {reader : ReaderState} (P Q : (S → S → List ℕ → Type 0) → Type 0)
    (one other : Option CaptureFault) (ends : (pieces : List Piece) (rest : List ℕ) → EndsBy pieces rest one → EndsBy pieces rest other)
    → (by : ReadsWith gives session source new reader one P)
    → (P (λ from to octets. octets ≡ joined by.0.pieces ++ by.0.rest) → Q (λ from to octets. octets ≡ joined by.0.pieces ++ by.0.rest))
    → ReadsWith gives session source new reader other Q
judged_so P Q one other ends (by, to) so = (
  record {
    pieces = by.pieces;
    rest = by.rest;
    knows = by.knows;
    gave = by.gave;
    each = by.each;
    holds = so by.holds;
  },
  ends by.pieces by.rest to,
)

-- a fault is handed on
pub fault_handed_on : {S X : Type 0} (gives : S → S → List ℕ → Type 0) (has_ended : S → Bool) (config : Config) (source new : S)
    (may_lack : Config → List ShownRecord → ShownRecord → Type 0) (reader : ReaderState)
    (answer : Result (Verdict X) CaptureFault) (fault : CaptureFault) → IsErrAnd answer (λ (y : CaptureFault). y ≡ fault)
    → ReadsWith gives config.parts.session source new reader (Some fault) (λ given. IsRefusal given has_ended config source new may_lack fault)
    → ReadsWith gives config.parts.session source new reader (fault_in answer) (λ given. Judges given has_ended config source new may_lack answer)
fault_handed_on gives has_ended config source new may_lack reader (Ok verdict) fault is reads = absurd is
fault_handed_on gives has_ended config source new may_lack reader (Err other) fault is reads =
    subst (λ (f : CaptureFault). ReadsWith gives config.parts.session source new reader (Some f) (λ given. IsRefusal given has_ended config source new may_lack f)) (sym is) reads

-- what is judged of octets that were given is judged of what was given
module _ {S : Type 0} (has_ended : S → Bool) (config : Config) (source new : S)
    (may_lack : Config → List ShownRecord → ShownRecord → Type 0) (just gives : S → S → List ℕ → Type 0)
    (given : (octets : List ℕ) → just source new octets → gives source new octets) where
  pub judges_given : {X : Type 0} (answer : Result (Verdict X) CaptureFault) → Judges just has_ended config source new may_lack answer
      → Judges gives has_ended config source new may_lack answer
  judges_given (Ok verdict) is = record {
    octets = is.octets;
    records = is.records;
    gave = given is.octets is.gave;
    ended = is.ended;
    spells = is.spells;
    verdict = is.verdict;
  }
  judges_given (Err fault) (inl is) = inl record {
    octets = is.octets;
    records = is.records;
    gave = given is.octets is.gave;
    first = is.first;
  }
  judges_given (Err fault) (inr (inl is)) = inr (inl record {
    pieces = is.pieces;
    rest = is.rest;
    gave = given (joined is.pieces ++ is.rest) is.gave;
    each = is.each;
    kind = is.kind;
    offset = is.offset;
    begun = is.begun;
  })
  judges_given (Err fault) (inr (inr is)) = inr (inr record {
    pieces = is.pieces;
    rest = is.rest;
    gave = given (joined is.pieces ++ is.rest) is.gave;
    each = is.each;
    kind = is.kind;
    offset = is.offset;
    place = is.place;
  })

pub judges_read : {S X : Type 0} (gives : S → S → List ℕ → Type 0) (has_ended : S → Bool) (config : Config) (source new : S)
    (may_lack : Config → List ShownRecord → ShownRecord → Type 0) (reader : ReaderState)
    (answer : Result (Verdict X) CaptureFault)
    → ReadsWith gives config.parts.session source new reader (fault_in answer) (λ given. Judges given has_ended config source new may_lack answer)
    → Judges gives has_ended config source new may_lack answer
judges_read gives has_ended config source new may_lack reader answer (by, ends) =
    judges_given has_ended config source new may_lack (λ from to octets. octets ≡ joined by.pieces ++ by.rest) gives
    (λ octets is. subst (λ (o : List ℕ). gives source new o) (sym is) by.gave) answer by.holds
