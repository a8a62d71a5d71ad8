-- The records of a session so far, and one more.
use Rattle.std.proofs.Common.{◌≡◌, ◌∙◌, ℕ, ◌+◌, ◌<◌, ◌≤◌, Bool, true, false, cond, if◌then◌else◌, List, [], ◌∷◌, ◌++◌, Option, None, Some, length, take, drop, get_or, map, refl, sym, ap, subst, append-nil, suc}
use Rattle.std.proofs.Math.Seq.{drop-cons}
use Rattle.std.proofs.lemmas.List.{map-append, take-append-drop, take_all, take_more}
use Rattle.std.proofs.lemmas.List.Elements.{filter-append}
use Rattle.bgp_prefix.specs.Shown.{ShownRecord, second_of}
use Rattle.mrt.specs.Capture.{shown_of}
use Rattle.mrt.specs.Rules.{OfSession, Refused}
use Rattle.mrt.specs.declared.fault.CaptureFault.{CaptureFault}
use Rattle.mrt_sessions.specs.declared.addresses.Addresses.{Addresses}
use Rattle.mrt_sessions.specs.declared.lengths.ExtendedMessages.{ExtendedMessages}
use Rattle.mrt_sessions.specs.declared.named.NamedRecord.{NamedRecord}
use Rattle.mrt_sessions.specs.File.{Located}
use Rattle.mrt_sessions.specs.Located.{located}
use Rattle.mrt_sessions.specs.Sessions.{is_between, records_between}
use Rattle.mrt_sessions.specs.Reading.{AreAllowed, IsJudgedHere, IsReading, last_of}

module _ (addresses : Addresses) (extended : ExtendedMessages) where
  allowed_more : (last : Option ℕ) (front : List Located) (x : Located) → AreAllowed addresses extended last front
      → IsJudgedHere addresses extended (last_of addresses extended last front) x.octets OfSession → AreAllowed addresses extended last (front ++ x ∷ [])
  allowed_more last [] x are is = (is, tt)
  allowed_more last (first ∷ front) x are is = (are.0, allowed_more (Some (second_of (shown_of first.octets))) front x are.1 is)

  last_more : (last : Option ℕ) (front : List Located) (x : Located) → last_of addresses extended last (front ++ x ∷ []) ≡ Some (second_of (shown_of x.octets))
  last_more last [] x = refl
  last_more last (first ∷ front) x = last_more (Some (second_of (shown_of first.octets))) front x

  -- so many of them are read, and shown
  pub record ReadsSoFar (front : List Located) (records : List ShownRecord) (last : Option ℕ) : Type 0 where
    pub each : AreAllowed addresses extended None front
    pub shown : records ≡ map (λ (l : Located). shown_of l.octets) front
    pub is_last : last ≡ last_of addresses extended None front

  pub nothing_read : ReadsSoFar [] [] None
  nothing_read = record { each = tt; shown = refl; is_last = refl }

  pub read_more : (front : List Located) (records : List ShownRecord) (last : Option ℕ) (x : Located) (next : ShownRecord) → ReadsSoFar front records last
      → IsJudgedHere addresses extended last x.octets OfSession → next ≡ shown_of x.octets
      → ReadsSoFar (front ++ x ∷ []) (records ++ next ∷ []) (Some (second_of next))
  read_more front records last x next so is shows = record {
    each = allowed_more None front x so.each (subst (λ (l : Option ℕ). IsJudgedHere addresses extended l x.octets OfSession) so.is_last is);
    shown =
        ap (λ (rs : List ShownRecord). rs ++ next ∷ []) so.shown
        ∙ ap (λ (r : ShownRecord). map (λ (l : Located). shown_of l.octets) front ++ r ∷ []) shows
        ∙ sym (map-append (λ (l : Located). shown_of l.octets) front (x ∷ []));
    is_last = ap (λ (r : ShownRecord). Some (second_of r)) shows ∙ sym (last_more None front x);
  }

  pub all_read : (front : List Located) (records : List ShownRecord) (last : Option ℕ) → ReadsSoFar front records last → IsReading addresses extended front records None
  all_read front records last so = record { front = front; rest = []; whole = sym (append-nil front); each = so.each; shown = so.shown; stops = tt }

  pub refused_at : (front later : List Located) (records : List ShownRecord) (last : Option ℕ) (x : Located) (fault : CaptureFault) → ReadsSoFar front records last
      → IsJudgedHere addresses extended last x.octets (Refused fault.kind) → fault.offset ≡ x.offset
      → IsReading addresses extended (front ++ x ∷ later) records (Some fault)
  refused_at front later records last x fault so is place = record {
    front = front;
    rest = x ∷ later;
    whole = refl;
    each = so.each;
    shown = so.shown;
    stops = (subst (λ (l : Option ℕ). IsJudgedHere addresses extended l x.octets (Refused fault.kind)) so.is_last is, place);
  }

-- ---- of a list that is gone through

pub one_more : (named : List NamedRecord) (i : ℕ) (x : NamedRecord) → i < length named → x ≡ get_or named i x
    → map located (take (i + 1) named) ≡ map located (take i named) ++ located x ∷ []
one_more named i x within is =
    ap (map located) (take_more named i x within) ∙ map-append located (take i named) (get_or named i x ∷ [])
    ∙ ap (λ (n : NamedRecord). map located (take i named) ++ located n ∷ []) (sym is)

pub all_of : (named : List NamedRecord) (i : ℕ) → length named ≤ i → map located (take i named) ≡ map located named
all_of named i past = ap (map located) (take_all i named past)

pub cut_at : (named : List NamedRecord) (i : ℕ) (x : NamedRecord) → i < length named → x ≡ get_or named i x
    → map located (take i named) ++ located x ∷ map located (drop (suc i) named) ≡ map located named
cut_at named i x within is =
    ap (λ (n : NamedRecord). map located (take i named) ++ located n ∷ map located (drop (suc i) named)) is
    ∙ ap (λ (ls : List Located). map located (take i named) ++ ls) (sym (ap (map located) (drop-cons named i x within)))
    ∙ sym (map-append located (take i named) (drop i named)) ∙ ap (map located) (take-append-drop i named)

-- ---- those of one session among them

between_one : (addresses : Addresses) (front : List Located) (x : Located) (b : Bool) → is_between addresses x ≡ b
    → records_between addresses (front ++ x ∷ []) ≡ records_between addresses front ++ (if b then x ∷ [] else [])
between_one addresses front x b is = filter-append (is_between addresses) front (x ∷ []) ∙ ap (λ (ls : List Located). records_between addresses front ++ ls) (single b is) where
  single : (b : Bool) → is_between addresses x ≡ b → records_between addresses (x ∷ []) ≡ (if b then x ∷ [] else [])
  single true is = ap (λ (c : Bool). if c then x ∷ [] else []) is
  single false is = ap (λ (c : Bool). if c then x ∷ [] else []) is

pub one_of_it : (addresses : Addresses) (named : List NamedRecord) (i : ℕ) (x : NamedRecord) → i < length named → x ≡ get_or named i x → is_between addresses (located x) ≡ true
    → records_between addresses (map located (take (i + 1) named)) ≡ records_between addresses (map located (take i named)) ++ located x ∷ []
one_of_it addresses named i x within is between =
    ap (records_between addresses) (one_more named i x within is) ∙ between_one addresses (map located (take i named)) (located x) true between

pub one_of_another : (addresses : Addresses) (named : List NamedRecord) (i : ℕ) (x : NamedRecord) → i < length named → x ≡ get_or named i x
    → is_between addresses (located x) ≡ false
    → records_between addresses (map located (take (i + 1) named)) ≡ records_between addresses (map located (take i named))
one_of_another addresses named i x within is apart =
    ap (records_between addresses) (one_more named i x within is) ∙ between_one addresses (map located (take i named)) (located x) false apart
    ∙ append-nil (records_between addresses (map located (take i named)))

pub all_of_it : (addresses : Addresses) (named : List NamedRecord) (i : ℕ) → length named ≤ i
    → records_between addresses (map located (take i named)) ≡ records_between addresses (map located named)
all_of_it addresses named i past = ap (records_between addresses) (all_of named i past)

first_of_it : (addresses : Addresses) (x : Located) (later : List Located) (b : Bool) → is_between addresses x ≡ b → b ≡ true
    → records_between addresses (x ∷ later) ≡ x ∷ records_between addresses later
first_of_it addresses x later true is its = ap (λ (c : Bool). cond c (x ∷ records_between addresses later) (records_between addresses later)) is
first_of_it addresses x later false is its = absurd cc

pub cut_at_it : (addresses : Addresses) (named : List NamedRecord) (i : ℕ) (x : NamedRecord) → i < length named → x ≡ get_or named i x → is_between addresses (located x) ≡ true
    → records_between addresses (map located (take i named)) ++ located x ∷ records_between addresses (map located (drop (suc i) named))
    ≡ records_between addresses (map located named)
cut_at_it addresses named i x within is between =
    sym (ap (records_between addresses) (sym (cut_at named i x within is))
    ∙ filter-append (is_between addresses) (map located (take i named)) (located x ∷ map located (drop (suc i) named))
    ∙ ap (λ (ls : List Located). records_between addresses (map located (take i named)) ++ ls)
    (first_of_it addresses (located x) (map located (drop (suc i) named)) true between refl))
