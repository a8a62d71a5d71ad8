-- Records of a stretch, one by one: up to the first NOTIFICATION, or to the last.
use Rattle.std.proofs.Common.{◌≡◌, ◌∙◌, ◌+◌, ◌<◌, ◌≤◌, ◌++◌, ℕ, suc, List, [], ◌∷◌, Option, None, Some, IfNone, IfSome, sym, ap, subst, arith, drop, get_or, length, map, option_map, take}
use Rattle.std.proofs.Math.Seq.{drop-cons}
use Rattle.std.proofs.lemmas.List.{length-map, length-take-le, map-append, take-append-drop, take_all, take_more}
use Rattle.std.specs.List.{AllByRecursion, IsLastAndRest}
use Rattle.bgp_prefix.specs.Shown.{ShownRecord, Received, Sent, Changed, second_of}
use Rattle.mrt.specs.Reader.{shown_of}
use Rattle.mrt.specs.declared.record.Record.{Record}
use Rattle.streams.specs.declared.passed.Side.{Side}
use Rattle.bgp_ended.specs.declared.stretch.EndedStretch.{EndedStretch}
use Rattle.bgp_ended.specs.Values.{HowValue, Notified, Closed, Fallen, how_value}
use Rattle.bgp_ended.specs.Stretch.{EndedStretchValue, EndsAs, HasNoEnd, IsEnd, IsEndOf, ShowsError, ShowsNoError, StaysUp, ended_stretch_value}

-- ---- each has it so far

all_more : {X : Type 0} (P : X → Type 0) (xs : List X) (x : X) → AllByRecursion P xs → P x → AllByRecursion P (xs ++ x ∷ [])
all_more P [] x all is = (is, tt)
all_more P (y ∷ xs) x all is = (all.0, all_more P xs x all.1 is)

all_front : {X : Type 0} (P : X → Type 0) (xs ys : List X) → AllByRecursion P (xs ++ ys) → AllByRecursion P xs
all_front P [] ys all = tt
all_front P (x ∷ xs) ys all = (all.0, all_front P xs ys all.1)

more_at : {X Y : Type 0} (f : X → Y) (xs : List X) (i : ℕ) (d : X) → i < length xs → map f (take (i + 1) xs) ≡ map f (take i xs) ++ f (get_or xs i d) ∷ []
more_at f xs i d within = ap (map f) (take_more xs i d within) ∙ map-append f (take i xs) (get_or xs i d ∷ [])

cut_at : {X Y : Type 0} (f : X → Y) (xs : List X) (i : ℕ) (d : X) → i < length xs → map f xs ≡ map f (take i xs) ++ f (get_or xs i d) ∷ map f (drop (suc i) xs)
cut_at f xs i d within =
    sym (ap (λ ys. map f (take i xs) ++ ys) (sym (ap (map f) (drop-cons xs i d within)))
    ∙ sym (map-append f (take i xs) (drop i xs)) ∙ ap (map f) (take-append-drop i xs))

-- ---- a NOTIFICATION

pub none_so_far : (records : List Record) (i : ℕ) (d : Record) → i < length records → AllByRecursion ShowsNoError (map shown_of (take i records))
    → ShowsNoError (shown_of (get_or records i d)) → AllByRecursion ShowsNoError (map shown_of (take (i + 1) records))
none_so_far records i d within none not =
    subst (AllByRecursion ShowsNoError) (sym (more_at shown_of records i d within))
    (all_more ShowsNoError (map shown_of (take i records)) (shown_of (get_or records i d)) none not)

pub none_at_all : (records : List Record) (i : ℕ) → length records ≤ i → AllByRecursion ShowsNoError (map shown_of (take i records)) → AllByRecursion ShowsNoError (map shown_of records)
none_at_all records i past none = subst (λ ys. AllByRecursion ShowsNoError (map shown_of ys)) (take_all i records past) none

-- who shows one ended the stretch by it
ends_by : (how : HowValue) (side : Side) (shown : ShownRecord) (behind : List ShownRecord) → ShowsError shown side how → EndsAs how side shown behind
ends_by (Notified error) side shown behind shows = shows
ends_by (Closed closing) side (Received second octets) behind shows = shows.1
ends_by (Closed closing) side (Sent second octets) behind shows = shows.1
ends_by (Closed closing) side (Changed second old new) behind shows = shows
ends_by (Fallen state) side (Received second octets) behind shows = absurd shows.1
ends_by (Fallen state) side (Sent second octets) behind shows = absurd shows.1
ends_by (Fallen state) side (Changed second old new) behind shows = absurd shows

pub ended_at : (records : List Record) (i : ℕ) (d : Record) (ended : EndedStretchValue) → i < length records → AllByRecursion ShowsNoError (map shown_of (take i records))
    → ended.before ≡ i → ended.second ≡ second_of (shown_of (get_or records i d)) → ShowsError (shown_of (get_or records i d)) ended.by ended.how → IsEnd (map shown_of records) ended
ended_at records i d ended within none before second shows = record {
  front = map shown_of (take i records);
  shown = shown_of (get_or records i d);
  behind = map shown_of (drop (suc i) records);
  whole = cut_at shown_of records i d within;
  before = before ∙ sym (length-map (take i records) shown_of ∙ length-take-le i records (omega (arith, within)));
  second = second;
  none = none;
  ends = ends_by ended.how ended.by (shown_of (get_or records i d)) (map shown_of (drop (suc i) records)) shows;
}

-- ---- the last one

last_whole : (records front : List Record) (last : Record) → IsLastAndRest records last front → map shown_of records ≡ map shown_of front ++ shown_of last ∷ []
last_whole records front last is = ap (map shown_of) is.0 ∙ map-append shown_of front (last ∷ [])

fallen_end : (records front : List Record) (last : Record) (ended : EndedStretchValue) → IsLastAndRest records last front → AllByRecursion ShowsNoError (map shown_of records)
    → ended.before ≡ length front → ended.second ≡ second_of (shown_of last) → EndsAs ended.how ended.by (shown_of last) [] → IsEnd (map shown_of records) ended
fallen_end records front last ended is none before second ends =
    let whole = last_whole records front last is in
    record {
      front = map shown_of front;
      shown = shown_of last;
      behind = [];
      whole = whole;
      before = before ∙ sym (length-map front shown_of);
      second = second;
      none = all_front ShowsNoError (map shown_of front) (shown_of last ∷ []) (subst (AllByRecursion ShowsNoError) whole none);
      ends = ends;
    }

same_last : {X : Type 0} (xs ys : List X) (x y : X) → xs ++ x ∷ [] ≡ ys ++ y ∷ [] → x ≡ y
same_last [] [] x y e = cc
same_last [] (b ∷ []) x y e = absurd (let k : ⊥ = cc in k)
same_last [] (b ∷ c ∷ ys) x y e = absurd (let k : ⊥ = cc in k)
same_last (a ∷ []) [] x y e = absurd (let k : ⊥ = cc in k)
same_last (a ∷ c ∷ xs) [] x y e = absurd (let k : ⊥ = cc in k)
same_last (a ∷ xs) (b ∷ ys) x y e = same_last xs ys x y (let k : xs ++ x ∷ [] ≡ ys ++ y ∷ [] = cc in k)

no_end : (records front : List Record) (last : Record) → IsLastAndRest records last front → AllByRecursion ShowsNoError (map shown_of records) → StaysUp (shown_of last)
    → HasNoEnd (map shown_of records)
no_end records front last is none stays = record {
  none = none;
  stays = λ before its e. subst StaysUp (same_last (map shown_of front) before (shown_of last) its (sym (last_whole records front last is) ∙ e)) stays;
}

-- what is found of the last one is found of all
pub last_decides : (records front : List Record) (last : Record) (found : Option EndedStretch) → IsLastAndRest records last front → AllByRecursion ShowsNoError (map shown_of records)
    → IfSome found (λ ended. (ended.before ≡ length front) × (ended.second ≡ second_of (shown_of last)) × EndsAs (how_value ended.how) ended.by (shown_of last) [])
    → IfNone found (StaysUp (shown_of last)) → IsEndOf (map shown_of records) (option_map ended_stretch_value found)
last_decides records front last None is none some stays = no_end records front last is none stays
last_decides records front last (Some ended) is none some stays = fallen_end records front last (ended_stretch_value ended) is none some.0 some.1 some.2

none_last : {X : Type 0} (xs : List X) (x : X) → [] ≡ xs ++ x ∷ [] → ⊥
none_last [] x e = cc
none_last (y ∷ xs) x e = cc

no_records : (records : List Record) → length records ≡ 0 → records ≡ []
no_records [] none = cc
no_records (r ∷ records) none = absurd (omega (arith, none))

pub no_end_of_none : (records : List Record) → length records ≡ 0 → AllByRecursion ShowsNoError (map shown_of records) → HasNoEnd (map shown_of records)
no_end_of_none records none all = record {
  none = all;
  stays = λ before its e. absurd (none_last before its (sym (ap (map shown_of) (no_records records none)) ∙ e));
}
