-- The fractions of a capture's seconds go on record by record, and those that are kept are those of the records that are named.
use Rattle.std.proofs.Common.{◌≡◌, ◌∙◌, ◌==◌, ◌≤◌, ◌<◌, ◌+◌, ◌++◌, ◌⊎◌, ℕ, zero, suc, Bool, true, false, List, [], ◌∷◌, Option, None, Some, IfSome, if◌then◌else◌, inl, inr, length, length-append, refl, sym, ap, subst, append-nil, arith}
use Rattle.std.specs.Prelude.{slice_get, unwrap_or}
use Rattle.std.proofs.lemmas.Bool.{eqb-true, eqb-false}
use Rattle.std.proofs.lemmas.Grind.{flat_map-append}
use Rattle.bgp_prefix.specs.Shown.{ShownRecord}
use Rattle.bgp_prefix.specs.declared.session.Session.{Session}
use Rattle.mrt.specs.Capture.{ArePieces, Piece, Other, OtherEnds, PassedOver, Shown, joined, last_of, micro_of, micros_by, micros_of, others_of, records_of}
use Rattle.mrt.specs.Reader.{Answers, ReaderState, fresh_reader}
use Rattle.mrt.specs.Skipped.{both_skipped, skipped_in}
use Rattle.mrt.specs.declared.record.Endpoints.{Endpoints}
use Rattle.mrt.specs.declared.skipped.SkippedRecords.{SkippedRecords}
use Rattle.mrt.proofs.Chains.{joined_chain, last_chain, one_record, pieces_chain, records_chain}
use Rattle.mrt.proofs.Counts.{chained_counts}
use Rattle.mrt.proofs.OtherPairs.{others_chain}
use Rattle.bgp_open.specs.declared.config.Config.{Config}
use Rattle.bgp_judge.proofs.CaptureSoFar.{SoFar}
use Rattle.bgp_why.specs.declared.place.Place.{Place}
use Rattle.bgp_explain.specs.declared.explained.Reason.{Reason}
use Rattle.bgp_explain.specs.declared.fractions.Fractions.{Fractions}
use Rattle.bgp_explain.specs.declared.fractions.Names.{Names}
use Rattle.bgp_explain.specs.declared.fractions.NumberedRecord.{NumberedRecord}
use Rattle.bgp_explain.specs.declared.so_far.Found.{Found}
use Rattle.bgp_explain.specs.declared.so_far.Stop.{Stop}
use Rattle.bgp_explain.specs.Fractions.{AreKept, AreKeptFor, AreNamesAfter, IsKept, IsNameAfter, IsNamed, found_number, kept_with, micro_at, micro_in, reason_names, stop_number}
use Rattle.bgp_explain.specs.Places.{counted_places, kept_places}

-- ---- beside the records

pub micros_chain : (first more : List Piece) → micros_of (first ++ more) ≡ micros_of first ++ micros_of more
micros_chain first more = flat_map-append micros_by first more

-- what shows no record has no fraction
pub no_micros : (pieces : List Piece) → records_of pieces ≡ [] → micros_of pieces ≡ []
no_micros [] none = refl
no_micros (Other octets ∷ pieces) none = no_micros pieces none
no_micros (OtherEnds octets ∷ pieces) none = no_micros pieces none
no_micros (PassedOver octets ∷ pieces) none = no_micros pieces none
no_micros (Shown octets ∷ pieces) none = absurd (let k : ⊥ = cc in k)

-- there is one for each record
pub as_many : (pieces : List Piece) → length (micros_of pieces) ≡ length (records_of pieces)
as_many [] = refl
as_many (Other octets ∷ pieces) = as_many pieces
as_many (OtherEnds octets ∷ pieces) = as_many pieces
as_many (PassedOver octets ∷ pieces) = as_many pieces
as_many (Shown octets ∷ pieces) = let many = as_many pieces in omega (arith, many)

one_micro : (skipped : List Piece) (octets : List ℕ) → records_of skipped ≡ [] → micros_of (skipped ++ Shown octets ∷ []) ≡ micro_of octets ∷ []
one_micro skipped octets only =
    micros_chain skipped (Shown octets ∷ []) ∙ ap (λ (m : List (Option ℕ)). m ++ micros_of (Shown octets ∷ [])) (no_micros skipped only)

module _ {S : Type 0} (gives : S → S → List ℕ → Type 0) (has_ended : S → Bool)
    (gives_joined : (a b c : S) (xs ys : List ℕ) → gives a b xs → gives b c ys → gives a c (xs ++ ys))
    (count : S → ℕ) (counted : (a b : S) (xs : List ℕ) → gives a b xs → count b ≡ count a + length xs)
    (config : Config) (source : S) (may_lack : Config → List ShownRecord → ShownRecord → Type 0) where
  -- before the first record there is none
  pub none_read : (state : ReaderState) → state ≡ fresh_reader → gives source source []
      → (so : SoFar gives has_ended gives_joined count counted config source may_lack source state []) × (micros_of so.pieces ≡ [])
  none_read state fresh nothing = (
    record {
      pieces = [];
      each = tt;
      gave = nothing;
      passed = ap (λ (s : ReaderState). s.passed) fresh;
      last = ap (λ (s : ReaderState). s.last) fresh;
      others = ap (λ (s : ReaderState). s.others) fresh;
      skipped = ap (λ (s : ReaderState). s.skipped) fresh;
      calm = ap (λ (s : ReaderState). s.fault) fresh;
      going = ap (λ (s : ReaderState). s.is_ended) fresh;
      shown = refl;
    },
    refl,
  )

  -- and behind one record more that which the reader tells
  pub one_read : (now next : S) (state after : ReaderState) (records : List ShownRecord) (shown : ShownRecord)
      (so_far : SoFar gives has_ended gives_joined count counted config source may_lack now state records)
      → Answers gives has_ended config.parts.session now next state after shown
      → (so : SoFar gives has_ended gives_joined count counted config source may_lack next after (records ++ shown ∷ []))
      × (micros_of so.pieces ≡ micros_of so_far.pieces ++ after.micro ∷ [])
  one_read now next state after records shown so_far answer =
      let more = answer.skipped ++ Shown answer.octets ∷ [] in
      let chain = joined_chain so_far.pieces more in
      let one = one_record answer.skipped answer.octets answer.only ∙ ap (λ (r : ShownRecord). r ∷ []) answer.shown in
      let its = one_micro answer.skipped answer.octets answer.only ∙ ap (λ (m : Option ℕ). m ∷ []) (sym (ap (λ (s : ReaderState). s.micro) answer.stands)) in
      let many = ap length chain ∙ length-append (joined so_far.pieces) (joined more) in
      let before = so_far.passed in
      let passed : state.passed + length (joined more) ≡ length (joined (so_far.pieces ++ more)) = omega (arith, many, before) in (
        record {
          pieces = so_far.pieces ++ more;
          each = pieces_chain config.parts.session None so_far.pieces more so_far.each
              (subst (λ (l : Option ℕ). ArePieces config.parts.session l more) so_far.last answer.pieces);
          gave = subst (λ (o : List ℕ). gives source next o) (sym chain)
              (gives_joined source now next (joined so_far.pieces) (joined more) so_far.gave answer.exactly);
          passed = ap (λ (s : ReaderState). s.passed) answer.stands ∙ passed;
          last = ap (λ (s : ReaderState). s.last) answer.stands ∙ ap (λ (l : Option ℕ). last_of l more) so_far.last ∙ sym (last_chain None so_far.pieces more);
          others = ap (λ (s : ReaderState). s.others) answer.stands ∙ ap (λ (o : List Endpoints). others_of o more) so_far.others
              ∙ sym (others_chain [] so_far.pieces more);
          skipped = ap (λ (s : ReaderState). s.skipped) answer.stands ∙ ap (λ (s : SkippedRecords). both_skipped s (skipped_in more)) so_far.skipped
              ∙ chained_counts so_far.pieces more;
          calm = ap (λ (s : ReaderState). s.fault) answer.stands ∙ so_far.calm;
          going = ap (λ (s : ReaderState). s.is_ended) answer.stands ∙ so_far.going;
          shown = records_chain so_far.pieces more ∙ ap (λ (r : List ShownRecord). r ++ records_of more) so_far.shown
              ∙ ap (λ (r : List ShownRecord). records ++ r) one;
        },
        micros_chain so_far.pieces more ∙ ap (λ (m : List (Option ℕ)). micros_of so_far.pieces ++ m) its,
      )

  -- as many as records
  pub so_many : (now : S) (state : ReaderState) (records : List ShownRecord)
      (so_far : SoFar gives has_ended gives_joined count counted config source may_lack now state records)
      → length (micros_of so_far.pieces) ≡ length records
  so_many now state records so_far = as_many so_far.pieces ∙ ap length so_far.shown

-- ---- which records are named

-- they stay
pub as_named : (number : ℕ) (names : Names) → AreNamesAfter number names names
as_named number names = record { told_by = inl refl; last_received = inl refl; notification = inl refl; impossible = inl refl }

-- the first impossible record, where there was memory for it
pub found_named : {X : Type 0} (number : ℕ) (stop : Option (Stop X)) (found : Option (Found X)) → stop ≡ None → IfSome found (λ f. f.impossible.number ≡ number)
    → IsNameAfter number (stop_number stop) (found_number found)
found_named number stop None none is = inl (sym (ap stop_number none))
found_named number stop (Some f) none is = inr (inl (ap (λ (n : ℕ). let o : Option ℕ = Some n in o) is))

-- ---- those that are kept

get_before : {X : Type 0} (xs : List X) (x : X) (i : ℕ) → i < length xs → slice_get (xs ++ x ∷ []) i ≡ slice_get xs i
get_before [] x i within = absurd (omega (arith, within))
get_before (y ∷ xs) x zero within = refl
get_before (y ∷ xs) x (suc i) within = get_before xs x i (omega (arith, within))

get_here : {X : Type 0} (xs : List X) (x : X) → slice_get (xs ++ x ∷ []) (length xs) ≡ Some x
get_here [] x = refl
get_here (y ∷ xs) x = get_here xs x

micro_before : (micros : List (Option ℕ)) (micro : Option ℕ) (n : ℕ) → n ≤ length micros → micro_at (micros ++ micro ∷ []) n ≡ micro_at micros n
micro_before micros micro zero within = refl
micro_before micros micro (suc i) within = ap (λ (o : Option (Option ℕ)). unwrap_or o None) (get_before micros micro i (omega (arith, within)))

micro_here : (micros : List (Option ℕ)) (micro : Option ℕ) (n : ℕ) → n ≡ length micros + 1 → micro_at (micros ++ micro ∷ []) n ≡ micro
micro_here micros micro zero is = absurd (omega (arith, is))
micro_here micros micro (suc i) is =
    let same : i ≡ length micros = omega (arith, is) in
    ap (λ (o : Option (Option ℕ)). unwrap_or o None) (ap (λ (k : ℕ). slice_get (micros ++ micro ∷ []) k) same ∙ get_here micros micro)

module _ (micros : List (Option ℕ)) (micro : Option ℕ) (number : ℕ) (next : number ≡ length micros + 1) where
  -- the one that was kept stays, as long as it is named
  still_kept : (before after : Option ℕ) (kept : NumberedRecord) → IsKept micros before kept → IsNamed after kept → IsKept (micros ++ micro ∷ []) after kept
  still_kept before after kept is named =
      let long = length-append micros (micro ∷ []) in
      let within = is.within in record {
        within = omega (arith, long, within);
        micro = is.micro ∙ sym (micro_before micros micro kept.number is.within);
        named = named;
      }

  kept_by : (b : Bool) (before : Option ℕ) (name : ℕ) (kept : NumberedRecord) → (name == number) ≡ b → IsNameAfter number before (Some name) → IsKept micros before kept
      → IsKept (micros ++ micro ∷ []) (Some name) (if b then (record { number = number; micro = micro }) else kept)
  kept_by true before name kept same names is =
      let long = length-append micros (micro ∷ []) in record {
        within = omega (arith, long, next);
        micro = sym (micro_here micros micro number next);
        named = sym (eqb-true name number same);
      }
  kept_by false before name kept other (inl e) is =
      still_kept before (Some name) kept is (subst (λ (o : Option ℕ). IsNamed o kept) (sym e) is.named)
  kept_by false before name kept other (inr (inl e)) is =
      let same : name ≡ number = cc in absurd (eqb-false name number other same)
  kept_by false before name kept other (inr (inr e)) is = absurd (let k : ⊥ = cc in k)

  pub kept_more : (before after : Option ℕ) (kept : NumberedRecord) → IsNameAfter number before after → IsKept micros before kept
      → IsKept (micros ++ micro ∷ []) after (kept_with kept after number micro)
  kept_more before None kept names is = still_kept before None kept is tt
  kept_more before (Some name) kept names is = kept_by (name == number) before name kept refl names is

-- ---- where they stand

-- two functions give one place for the record that is named, if one is
abbrev pub AgreeAt : (ℕ → ℕ → Place) → (ℕ → ℕ → Place) → Option ℕ → Type 0
AgreeAt one other None = Unit {0}
AgreeAt one other (Some number) = (second : ℕ) → one number second ≡ other number second

pub record Agree (one other : ℕ → ℕ → Place) (names : Names) : Type 0 where
  pub told_by : AgreeAt one other names.told_by
  pub last_received : AgreeAt one other names.last_received
  pub notification : AgreeAt one other names.notification
  pub impossible : AgreeAt one other names.impossible

module _ (micros : List (Option ℕ)) (names : Names) (fractions : Fractions) (are : AreKept micros names fractions) (n : ℕ) where
  -- one of the four has the number
  abbrev HasNumber : Type 0
  HasNumber =
      (fractions.told_by.number ≡ n) ⊎ ((fractions.last_received.number ≡ n) ⊎ ((fractions.notification.number ≡ n) ⊎ (fractions.impossible.number ≡ n)))

  its_micro : (name : Option ℕ) (kept : NumberedRecord) → IsKept micros name kept → (kept.number == n) ≡ true → kept.micro ≡ micro_at micros n
  its_micro name kept is same = is.micro ∙ ap (micro_at micros) (eqb-true kept.number n same)

  by_last : (b : Bool) → (fractions.impossible.number == n) ≡ b → (b ≡ true) ⊎ (fractions.impossible.number ≡ n) → (if b then fractions.impossible.micro else None) ≡ micro_at micros n
  by_last true same has = its_micro names.impossible fractions.impossible are.impossible same
  by_last false other (inl e) = absurd (let k : ⊥ = cc in k)
  by_last false other (inr e) = absurd (eqb-false fractions.impossible.number n other e)

  by_third : (b : Bool) → (fractions.notification.number == n) ≡ b → ((fractions.notification.number ≡ n) ⊎ (fractions.impossible.number ≡ n))
      → (if b then fractions.notification.micro else (if fractions.impossible.number == n then fractions.impossible.micro else None)) ≡ micro_at micros n
  by_third true same has = its_micro names.notification fractions.notification are.notification same
  by_third false other (inl e) = absurd (eqb-false fractions.notification.number n other e)
  by_third false other (inr e) = by_last (fractions.impossible.number == n) refl (inr e)

  by_second : (b : Bool) → (fractions.last_received.number == n) ≡ b
      → ((fractions.last_received.number ≡ n) ⊎ ((fractions.notification.number ≡ n) ⊎ (fractions.impossible.number ≡ n)))
      → (if b then fractions.last_received.micro else (if fractions.notification.number == n then fractions.notification.micro
      else (if fractions.impossible.number == n then fractions.impossible.micro else None))) ≡ micro_at micros n
  by_second true same has = its_micro names.last_received fractions.last_received are.last_received same
  by_second false other (inl e) = absurd (eqb-false fractions.last_received.number n other e)
  by_second false other (inr later) = by_third (fractions.notification.number == n) refl later

  by_first : (b : Bool) → (fractions.told_by.number == n) ≡ b → HasNumber
      → (if b then fractions.told_by.micro else (if fractions.last_received.number == n then fractions.last_received.micro
      else (if fractions.notification.number == n then fractions.notification.micro
      else (if fractions.impossible.number == n then fractions.impossible.micro else None)))) ≡ micro_at micros n
  by_first true same has = its_micro names.told_by fractions.told_by are.told_by same
  by_first false other (inl e) = absurd (eqb-false fractions.told_by.number n other e)
  by_first false other (inr later) = by_second (fractions.last_received.number == n) refl later

  micro_is : HasNumber → micro_in fractions n ≡ micro_at micros n
  micro_is has = by_first (fractions.told_by.number == n) refl has

  pub place_is : HasNumber → (second : ℕ) → kept_places fractions n second ≡ counted_places micros n second
  place_is has second = ap (λ (m : Option ℕ). let p : Place = record { number = n; packet = None; second = second; micro = m } in p) (micro_is has)

module _ (micros : List (Option ℕ)) (names : Names) (fractions : Fractions) (are : AreKept micros names fractions) where
  told_by_agrees : (name : Option ℕ) → IsNamed name fractions.told_by → AgreeAt (kept_places fractions) (counted_places micros) name
  told_by_agrees None named = tt
  told_by_agrees (Some n) named = place_is micros names fractions are n (inl named)

  last_received_agrees : (name : Option ℕ) → IsNamed name fractions.last_received → AgreeAt (kept_places fractions) (counted_places micros) name
  last_received_agrees None named = tt
  last_received_agrees (Some n) named = place_is micros names fractions are n (inr (inl named))

  notification_agrees : (name : Option ℕ) → IsNamed name fractions.notification → AgreeAt (kept_places fractions) (counted_places micros) name
  notification_agrees None named = tt
  notification_agrees (Some n) named = place_is micros names fractions are n (inr (inr (inl named)))

  impossible_agrees : (name : Option ℕ) → IsNamed name fractions.impossible → AgreeAt (kept_places fractions) (counted_places micros) name
  impossible_agrees None named = tt
  impossible_agrees (Some n) named = place_is micros names fractions are n (inr (inr (inr named)))

  pub kept_agree : Agree (kept_places fractions) (counted_places micros) names
  kept_agree = record {
    told_by = told_by_agrees names.told_by are.told_by.named;
    last_received = last_received_agrees names.last_received are.last_received.named;
    notification = notification_agrees names.notification are.notification.named;
    impossible = impossible_agrees names.impossible are.impossible.named;
  }

-- where the names of a reason are those that are kept
pub kept_for : {X : Type 0} (micros : List (Option ℕ)) (names : Names) (fractions : Fractions) (why : Option (Reason X))
    → IfSome why (λ reason. reason_names reason ≡ names) → AreKept micros names fractions → AreKeptFor micros why fractions
kept_for micros names fractions None are kept = tt
kept_for micros names fractions (Some reason) are kept = subst (λ (n : Names). AreKept micros n fractions) (sym are) kept
