-- The UPDATE that was refused: where it is found, and that there is none.
use Rattle.std.proofs.Common.{◌≡◌, ◌∙◌, ◌<◌, ◌++◌, ℕ, List, [], ◌∷◌, ap, arith, drop, get_or, length, map, refl, subst, suc, sym, take}
use Rattle.std.proofs.Math.Seq.{drop-cons}
use Rattle.std.proofs.lemmas.List.{length-map, length-take-le, map-append, take-append-drop, take-map, take-take}
use Rattle.std.specs.List.{AllByRecursion}
use Rattle.bgp_prefix.specs.Shown.{ShownRecord}
use Rattle.mrt.specs.Reader.{shown_of}
use Rattle.mrt.specs.declared.record.Record.{Record}
use Rattle.bgp_check_text.specs.Refused.{HearsMessage, HearsNothing, IsFirstError, IsLastHeard, IsRefusedAfter, SendsNoUpdateError, SendsUpdateError}

-- ---- lists

all_mid : {X : Type 0} (P : X → Type 0) (xs : List X) (x : X) (ys : List X) → AllByRecursion P (xs ++ x ∷ ys) → P x
all_mid P [] x ys all = all.0
all_mid P (z ∷ xs) x ys all = all_mid P xs x ys all.1

-- up to the first that is so two lists that are one list are the same
same_front : {X : Type 0} (P : X → Type 0) (xs ys : List X) (x y : X) (before behind : List X) → xs ++ x ∷ before ≡ ys ++ y ∷ behind → AllByRecursion (λ (z : X). ¬ P z) xs
    → AllByRecursion (λ (z : X). ¬ P z) ys → P x → P y → xs ≡ ys
same_front P [] [] x y before behind e none other is is_also = refl
same_front P [] (z ∷ ys) x y before behind e none other is is_also = absurd (other.0 (subst P (let k : x ≡ z = cc in k) is))
same_front P (z ∷ xs) [] x y before behind e none other is is_also = absurd (none.0 (subst P (let k : y ≡ z = cc in k) is_also))
same_front P (z ∷ xs) (w ∷ ys) x y before behind e none other is is_also =
    let first : z ≡ w = cc in
    let rest = same_front P xs ys x y before behind (let k : xs ++ x ∷ before ≡ ys ++ y ∷ behind = cc in k) none.1 other.1 is is_also in
    cc

cut_at : {X Y : Type 0} (f : X → Y) (xs : List X) (i : ℕ) (d : X) → i < length xs → map f xs ≡ take i (map f xs) ++ f (get_or xs i d) ∷ map f (drop (suc i) xs)
cut_at f xs i d within =
    sym (ap (λ ys. map f (take i xs) ++ ys) (sym (ap (map f) (drop-cons xs i d within)))
    ∙ sym (map-append f (take i xs) (drop i xs)) ∙ ap (map f) (take-append-drop i xs))
    ∙ ap (λ ys. ys ++ f (get_or xs i d) ∷ map f (drop (suc i) xs)) (sym (take-map f i xs))

-- ---- one record

pub error_at : (records : List Record) (i : ℕ) (d : Record) → i < length records → AllByRecursion SendsNoUpdateError (map shown_of (take i records))
    → SendsUpdateError (shown_of (get_or records i d)) → IsFirstError (map shown_of records) i
error_at records i d within none sends = record {
  is_front = let len = length-map records shown_of in omega (arith, within, len);
  error = shown_of (get_or records i d);
  behind = map shown_of (drop (suc i) records);
  whole = cut_at shown_of records i d within;
  sends = sends;
  is_first = subst (AllByRecursion SendsNoUpdateError) (sym (take-map shown_of i records)) none;
}

pub heard_at : (records : List Record) (i : ℕ) (d : Record) → i < length records → HearsMessage (shown_of (get_or records i d))
    → AllByRecursion HearsNothing (map shown_of (drop (suc i) records)) → IsLastHeard (map shown_of records) i
heard_at records i d within hears none = record {
  is_front = let len = length-map records shown_of in omega (arith, within, len);
  message = shown_of (get_or records i d);
  behind = map shown_of (drop (suc i) records);
  whole = cut_at shown_of records i d within;
  hears = hears;
  hears_no_other = none;
}

-- one more that was not received, before those that were not
pub none_heard_from : (records : List Record) (i : ℕ) (d : Record) → i < length records → HearsNothing (shown_of (get_or records i d))
    → AllByRecursion HearsNothing (map shown_of (drop (suc i) records)) → AllByRecursion HearsNothing (map shown_of (drop i records))
none_heard_from records i d within nothing none =
    subst (λ (rs : List Record). AllByRecursion HearsNothing (map shown_of rs)) (sym (drop-cons records i d within)) (nothing, none)

-- ---- all of them

pub refused_at : (records : List ShownRecord) (count before : ℕ) → IsFirstError records count → IsLastHeard (take count records) before → IsRefusedAfter records before
refused_at records count before first heard =
    let fronts = take-take before count records (let is_front = heard.is_front in let len = length-take-le count records (let is_front = first.is_front in omega (arith, is_front)) in omega (arith, is_front, len)) in
    let front : take count records ≡ take before records ++ heard.message ∷ heard.behind = heard.whole ∙ ap (λ rs. rs ++ heard.message ∷ heard.behind) fronts in
    record {
      update = heard.message;
      between = heard.behind;
      error = first.error;
      behind = first.behind;
      whole = first.whole ∙ ap (λ rs. rs ++ first.error ∷ first.behind) front;
      hears = heard.hears;
      hears_no_other = heard.hears_no_other;
      sends = first.sends;
      is_first = subst (AllByRecursion SendsNoUpdateError) front first.is_first;
    }

pub none_sent : (records : List ShownRecord) → AllByRecursion SendsNoUpdateError records → (n : ℕ) → ¬ IsRefusedAfter records n
none_sent records none n is =
    all_mid SendsNoUpdateError (take n records ++ is.update ∷ is.between) is.error is.behind (subst (AllByRecursion SendsNoUpdateError) is.whole none) is.sends

pub none_heard : (records : List ShownRecord) (count : ℕ) → IsFirstError records count → AllByRecursion HearsNothing (take count records) → (n : ℕ)
    → ¬ IsRefusedAfter records n
none_heard records count first none n is =
    let same = same_front SendsUpdateError (take count records) (take n records ++ is.update ∷ is.between) first.error is.error first.behind is.behind
    (sym first.whole ∙ is.whole) first.is_first is.is_first first.sends is.sends in
    all_mid HearsNothing (take n records) is.update is.between (subst (AllByRecursion HearsNothing) same none) is.hears
