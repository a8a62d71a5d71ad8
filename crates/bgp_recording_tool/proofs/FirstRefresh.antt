-- A capture that is read for a session without ROUTE-REFRESH is refused at the first of them for one which may have it.
use Rattle.std.proofs.Common.{◌≡◌, ◌∙◌, ◌⊎◌, ◌||◌, ◌++◌, ℕ, Bool, true, false, List, [], ◌∷◌, length, Option, None, Some, if◌then◌else◌, nat_eq, refl, sym, ap, subst, inl, inr, arith, append_assoc, append-nil}
use Rattle.std.proofs.lemmas.Bool.{cases_lt, cases_eq}
use Rattle.std.specs.List.{AllByRecursion, list_any}
use Rattle.bgp_prefix.specs.Shown.{ShownRecord, Received, Sent, Changed, second_of}
use Rattle.bgp_prefix.specs.declared.session.Session.{Session}
use Rattle.bgp_prefix.specs.declared.session.RouteRefresh.{RouteRefresh}
use Rattle.bgp_prefix.specs.declared.session.RouteRefresh.TheVariants as refreshes
use Rattle.bgp_wire.specs.Header as wire
use Rattle.mrt.specs.Capture.{Piece, Other, OtherEnds, PassedOver, Shown, ArePieces, IsPiece, Spells, IsFirstFault, joined, records_of, last_after, last_of, octets_of, shown_of}
use Rattle.mrt.specs.CaptureLaws.{OneFault, NeverBoth}
use Rattle.mrt.specs.Layout.{header_of, body_of, content_in, is_of, old_state_in, new_state_in}
use Rattle.mrt.specs.Rules.{Place, Rule, Holds, FirstSays, Judgement, End, Skipped, SkippedSession, SkippedRefresh, Refused, OfSession, IsJudged, IsRouteRefresh, judgement_of, place_of, content_rules, rules}
use Rattle.mrt.specs.Rules.{Nothing, CutHeader, OtherTypeCut, OtherType, LongBody, CutBody, OtherSubtype, NoFields, OtherSession, WithAddPath, NoStates, BadStates, CutMessage, Refresh, WholeRefresh, OtherLength, Back, Allowed}
use Rattle.mrt.specs.declared.fault.FaultKind.{FaultKind}
use Rattle.mrt.specs.declared.fault.FaultKind.TheVariants as kinds
use Rattle.mrt.proofs.OneReading.{judged_on}
use Rattle.mrt.proofs.TakenOut.{IsSame, never_refused, passed_over_by}
use Rattle.bgp_recording.specs.Captured.{IsNoRefresh}
use Rattle.bgp_recording_tool.specs.Headline.{IsFirstRefresh}
use Rattle.mrt.specs.RefreshLaws.{without_refresh}
use Rattle.bgp_recording_tool.proofs.Calm.{each_but_one}

-- ---- whether a record is one

is_one : (octets : List ℕ) → IsRouteRefresh octets ⊎ (¬ IsRouteRefresh octets)
is_one octets = elim (cases_lt (length octets) 19) [
  | inl short ↦ inr (λ is. absurd (omega (arith, is.0)))
  | inr long ↦ elim (cases_eq (wire.type_of (wire.header_of octets)) 5) [
    | inl kind ↦ inl (long, kind)
    | inr other ↦ inr (λ is. other is.1)
  ]
]

not_not : (octets : List ℕ) → ¬ (¬ IsRouteRefresh octets) → IsRouteRefresh octets
not_not octets denied = elim (is_one octets) [ inl is ↦ is | inr not ↦ absurd (denied not) ]

-- a record is one or not
one_or_not : (shown : ShownRecord) → IsNoRefresh shown ⊎ (¬ IsNoRefresh shown)
one_or_not (Received second octets) = elim (is_one octets) [ inl is ↦ inr (λ not. not is) | inr not ↦ inl not ]
one_or_not (Sent second octets) = elim (is_one octets) [ inl is ↦ inr (λ not. not is) | inr not ↦ inl not ]
one_or_not (Changed second old new) = inl tt

-- the first of some records, if one of them is one
pub first_or_none : (records : List ShownRecord) → AllByRecursion IsNoRefresh records ⊎ ((front : List ShownRecord) × IsFirstRefresh records front)
first_or_none [] = inl tt
first_or_none (shown ∷ later) = elim (one_or_not shown) [
  | inr is ↦ inr ([], record { refresh = shown; later = later; whole = refl; none_before = tt; is_one = is })
  | inl not ↦ elim (first_or_none later) [
    | inl none ↦ inl (not, none)
    | inr some ↦ inr (
      shown ∷ some.0,
      record {
        refresh = some.1.refresh;
        later = some.1.later;
        whole = ap (λ (rs : List ShownRecord). shown ∷ rs) some.1.whole;
        none_before = (not, some.1.none_before);
        is_one = some.1.is_one;
      },
    )
  ]
]

-- ---- what a rule says

abbrev is_refresh : Rule → Bool
is_refresh Nothing = false
is_refresh CutHeader = false
is_refresh OtherTypeCut = false
is_refresh OtherType = false
is_refresh LongBody = false
is_refresh CutBody = false
is_refresh OtherSubtype = false
is_refresh NoFields = false
is_refresh OtherSession = false
is_refresh WithAddPath = false
is_refresh NoStates = false
is_refresh BadStates = false
is_refresh CutMessage = false
is_refresh Refresh = true
is_refresh WholeRefresh = false
is_refresh OtherLength = false
is_refresh Back = false
is_refresh Allowed = false

abbrev sort_of : Judgement → ℕ
sort_of End = 0
sort_of Skipped = 1
sort_of SkippedSession = 2
sort_of (Refused kind) = 3
sort_of OfSession = 4
sort_of SkippedRefresh = 5

abbrev says : ℕ → Rule → Bool
says sort rule = nat_eq (sort_of (judgement_of rule)) sort

neither : (a b : Bool) → (a || b) ≡ false → (a ≡ false) × (b ≡ false)
neither true b e = absurd (let denied = e in cc)
neither false b e = (refl, e)

nat_same : (n : ℕ) → nat_eq n n ≡ true
nat_same n = elim (cases_eq n n) [ inl same ↦ search arith | inr other ↦ absurd (other refl) ]

-- a rule that doesn't say so says something else
other_sort : (rule : Rule) (judgement : Judgement) → says (sort_of judgement) rule ≡ false → judgement ≡ judgement_of rule → ⊥
other_sort rule judgement denied is =
    let same : says (sort_of judgement) rule ≡ true = ap (λ (j : Judgement). nat_eq (sort_of j) (sort_of judgement)) (sym is) ∙ nat_same (sort_of judgement) in
    let both = sym denied ∙ same in cc

abbrev before_refresh : List Rule
before_refresh =
    Nothing ∷ CutHeader ∷ OtherTypeCut ∷ OtherType ∷ LongBody ∷ CutBody ∷ OtherSubtype ∷ NoFields ∷ OtherSession
    ∷ WithAddPath ∷ NoStates ∷ BadStates ∷ CutMessage ∷ []

abbrev after_refresh : List Rule
after_refresh = WholeRefresh ∷ OtherLength ∷ Back ∷ Allowed ∷ []

none_says : (H : Rule → Type 0) (some : List Rule) (judgement : Judgement) → list_any (says (sort_of judgement)) some ≡ false → FirstSays H some judgement → ⊥
none_says H [] judgement denied h = h
none_says H (rule ∷ later) judgement denied (inl here) = other_sort rule judgement (neither (says (sort_of judgement) rule) (list_any (says (sort_of judgement)) later) denied).0 here.1
none_says H (rule ∷ later) judgement denied (inr there) = none_says H later judgement (neither (says (sort_of judgement) rule) (list_any (says (sort_of judgement)) later) denied).1 there.1

-- a rule before the one that decides doesn't hold
not_held : (H : Rule → Type 0) (before after : List Rule) (rule : Rule) (judgement : Judgement) → list_any (says (sort_of judgement)) before ≡ false → says (sort_of judgement) rule ≡ false
    → FirstSays H (before ++ (rule ∷ after)) judgement → ¬ H rule
not_held H [] after rule judgement denied not (inl here) holds = other_sort rule judgement not here.1
not_held H [] after rule judgement denied not (inr there) holds = there.0 holds
not_held H (one ∷ before) after rule judgement denied not (inl here) holds =
    other_sort one judgement (neither (says (sort_of judgement) one) (list_any (says (sort_of judgement)) before) denied).0 here.1
not_held H (one ∷ before) after rule judgement denied not (inr there) holds =
    not_held H before after rule judgement (neither (says (sort_of judgement) one) (list_any (says (sort_of judgement)) before) denied).1 not there.1 holds

-- ---- for a session that refuses them

module _ (session : Session) (may : session.refresh ≡ refreshes.Refused) (last : Option ℕ) (place : Place) where
  abbrev Calmly : Rule → Type 0
  Calmly = Holds (without_refresh session) last place

  abbrev Really : Rule → Type 0
  Really = Holds session last place

  other_rule : (rule : Rule) → is_refresh rule ≡ false → IsSame (Really rule) (Calmly rule)
  other_rule rule denied = elim (each_but_one session may last place rule) [
    | inl both ↦ both
    | inr is ↦ absurd (let both = sym denied ∙ ap is_refresh is in cc)
  ]

  -- what is decided before that rule
  decided_before : (before after : List Rule) (judgement : Judgement) → list_any is_refresh before ≡ false → list_any (says (sort_of judgement)) after ≡ false
      → FirstSays Calmly (before ++ (Refresh ∷ after)) judgement → FirstSays Really (before ++ (Refresh ∷ after)) judgement
  decided_before [] after judgement others none (inl here) = absurd (never_refused session last place here.0)
  decided_before [] after judgement others none (inr there) = absurd (none_says Calmly after judgement none there.1)
  decided_before (rule ∷ before) after judgement others none (inl here) =
      inl ((other_rule rule (neither (is_refresh rule) (list_any is_refresh before) others).0).1 here.0, here.1)
  decided_before (rule ∷ before) after judgement others none (inr there) =
      let both = neither (is_refresh rule) (list_any is_refresh before) others in
      inr (λ holds. there.0 ((other_rule rule both.0).0 holds), decided_before before after judgement both.1 none there.1)

  -- what isn't, where that rule doesn't hold
  decided_after : (some : List Rule) (judgement : Judgement) → list_any is_refresh some ≡ false → FirstSays Calmly some judgement → FirstSays Really some judgement
  decided_after [] judgement others h = h
  decided_after (rule ∷ later) judgement others (inl here) =
      inl ((other_rule rule (neither (is_refresh rule) (list_any is_refresh later) others).0).1 here.0, here.1)
  decided_after (rule ∷ later) judgement others (inr there) =
      let both = neither (is_refresh rule) (list_any is_refresh later) others in
      inr (λ holds. there.0 ((other_rule rule both.0).0 holds), decided_after later judgement both.1 there.1)

  without_it : (before after : List Rule) (judgement : Judgement) → list_any is_refresh before ≡ false → list_any is_refresh after ≡ false → ¬ Really Refresh
      → FirstSays Calmly (before ++ (Refresh ∷ after)) judgement → FirstSays Really (before ++ (Refresh ∷ after)) judgement
  without_it [] after judgement others more denied (inl here) = absurd (never_refused session last place here.0)
  without_it [] after judgement others more denied (inr there) = inr (denied, decided_after after judgement more there.1)
  without_it (rule ∷ before) after judgement others more denied (inl here) =
      inl ((other_rule rule (neither (is_refresh rule) (list_any is_refresh before) others).0).1 here.0, here.1)
  without_it (rule ∷ before) after judgement others more denied (inr there) =
      let both = neither (is_refresh rule) (list_any is_refresh before) others in
      inr (λ holds. there.0 ((other_rule rule both.0).0 holds), without_it before after judgement both.1 more denied there.1)

  -- and where it does
  by_it : (before after : List Rule) (judgement : Judgement) → list_any is_refresh before ≡ false → list_any (says (sort_of judgement)) before ≡ false → Really Refresh
      → FirstSays Calmly (before ++ (Refresh ∷ after)) judgement → FirstSays Really (before ++ (Refresh ∷ after)) (Refused kinds.RouteRefresh)
  by_it [] after judgement others denied holds h = inl (holds, refl)
  by_it (rule ∷ before) after judgement others denied holds (inl here) =
      absurd (other_sort rule judgement (neither (says (sort_of judgement) rule) (list_any (says (sort_of judgement)) before) denied).0 here.1)
  by_it (rule ∷ before) after judgement others denied holds (inr there) =
      let both = neither (is_refresh rule) (list_any is_refresh before) others in
      inr (
        λ h. there.0 ((other_rule rule both.0).0 h),
        by_it before after judgement both.1 (neither (says (sort_of judgement) rule) (list_any (says (sort_of judgement)) before) denied).1 holds there.1,
      )

-- ---- a record

abbrev form_by : {F : Type 0} → F → F → F → F → Bool → Bool → Bool → Bool → Option F
form_by change received sent path a b c d =
    if a then Some change else (if b then Some received else (if c then Some sent else (if d then Some path else None)))

abbrev shown_with : ℕ → List ℕ → ShownRecord → Bool → Bool → ShownRecord
shown_with second content change a b = if a then change else (if b then Received second content else Sent second content)

module _ {F : Type 0} (change received sent path : F) (second old new : ℕ) (content : List ℕ) where
  abbrev Form : Bool → Bool → Bool → Bool → Option F
  Form a b c d = form_by change received sent path a b c d

  -- a record that shows one is a message, and that is one
  refresh_by : (a b c d : Bool) → (Form a b c d ≡ None → ⊥) → (Form a b c d ≡ Some path → ⊥)
      → ¬ IsNoRefresh (shown_with second content (Changed second old new) a b)
      → ((Form a b c d ≡ Some received) ⊎ (Form a b c d ≡ Some sent)) × IsRouteRefresh content
  refresh_by true b c d known plain is = absurd (is tt)
  refresh_by false true c d known plain is = (inl refl, not_not content is)
  refresh_by false false true d known plain is = (inr refl, not_not content is)
  refresh_by false false false true known plain is = absurd (plain refl)
  refresh_by false false false false known plain is = absurd (known refl)

  -- and one that is no ROUTE-REFRESH has none as its message
  no_refresh_by : (Some change ≡ Some received → ⊥) → (Some change ≡ Some sent → ⊥) → (a b c d : Bool) → IsNoRefresh (shown_with second content (Changed second old new) a b)
      → ((Form a b c d ≡ Some received) ⊎ (Form a b c d ≡ Some sent)) → ¬ IsRouteRefresh content
  no_refresh_by not_received not_sent true b c d not (inl is) = absurd (not_received is)
  no_refresh_by not_received not_sent true b c d not (inr is) = absurd (not_sent is)
  no_refresh_by not_received not_sent false true c d not form = not
  no_refresh_by not_received not_sent false false c d not form = not

module _ (session : Session) (may : session.refresh ≡ refreshes.Refused) (last : Option ℕ) (octets : List ℕ) where
  abbrev here : Place
  here = place_of octets

  abbrev subtype : ℕ
  subtype = (header_of octets).subtype

  abbrev content : List ℕ
  content = content_in (header_of octets) (body_of octets)

  -- it is refused
  refused_here : IsJudged (without_refresh session) last octets OfSession → ¬ IsNoRefresh (shown_of octets) → IsJudged session last octets (Refused kinds.RouteRefresh)
  refused_here judged is =
      let known = not_held (Calmly session may last here) (Nothing ∷ CutHeader ∷ OtherTypeCut ∷ OtherType ∷ LongBody ∷ CutBody ∷ []) (NoFields ∷ OtherSession ∷ content_rules) OtherSubtype OfSession refl refl judged in
      let plain = not_held (Calmly session may last here) (Nothing ∷ CutHeader ∷ OtherTypeCut ∷ OtherType ∷ LongBody ∷ CutBody ∷ OtherSubtype ∷ NoFields ∷ OtherSession ∷ [])
      (NoStates ∷ BadStates ∷ CutMessage ∷ Refresh ∷ after_refresh) WithAddPath OfSession refl refl judged in
      let both = refresh_by _ _ _ _ (header_of octets).second (old_state_in content) (new_state_in content) content
      (is_of subtype (0 ∷ 5 ∷ [])) (is_of subtype (1 ∷ 4 ∷ [])) (is_of subtype (6 ∷ 7 ∷ [])) (is_of subtype (8 ∷ 9 ∷ 10 ∷ 11 ∷ [])) known plain is in
      by_it session may last here before_refresh after_refresh OfSession refl refl (both.0, both.1, may) judged

  -- and it isn't
  read_here : IsJudged (without_refresh session) last octets OfSession → IsNoRefresh (shown_of octets) → IsJudged session last octets OfSession
  read_here judged not =
      without_it session may last here before_refresh after_refresh OfSession refl refl
      (λ holds. no_refresh_by _ _ _ _ (header_of octets).second (old_state_in content) (new_state_in content) content
      (λ is. absurd (cc)) (λ is. absurd (cc))
      (is_of subtype (0 ∷ 5 ∷ [])) (is_of subtype (1 ∷ 4 ∷ [])) (is_of subtype (6 ∷ 7 ∷ [])) (is_of subtype (8 ∷ 9 ∷ 10 ∷ 11 ∷ [])) not holds.0 holds.1)
      judged

-- ---- a capture

-- the pieces before the first one
record Parted (session : Session) (last : Option ℕ) (pieces : List Piece) (front : List ShownRecord) : Type 0 where
  before : List Piece
  rest : List ℕ
  whole : joined pieces ≡ joined before ++ rest
  each : ArePieces session last before
  shown : front ≡ records_of before
  judged : IsJudged session (last_of last before) rest (Refused kinds.RouteRefresh)

-- a piece that shows nothing, with those before it
skipped : (session : Session) (last : Option ℕ) (piece : Piece) (pieces : List Piece) (front : List ShownRecord) → IsPiece session last piece
    → ((more : List Piece) → records_of (piece ∷ more) ≡ records_of more) → Parted session (last_after last piece) pieces front → Parted session last (piece ∷ pieces) front
skipped session last piece pieces front is none parted = record {
  before = piece ∷ parted.before;
  rest = parted.rest;
  whole = ap (λ (o : List ℕ). octets_of piece ++ o) parted.whole ∙ sym (append_assoc (octets_of piece) (joined parted.before) parted.rest);
  each = (is, parted.each);
  shown = parted.shown ∙ sym (none parted.before);
  judged = parted.judged;
}

empty_has : (front later : List ShownRecord) (refresh : ShownRecord) → [] ≡ front ++ (refresh ∷ later) → ⊥
empty_has [] later refresh is = let denied = ap length is in absurd (omega (arith, denied))
empty_has (shown ∷ front) later refresh is = let denied = ap length is in absurd (omega (arith, denied))

abbrev head_or : ShownRecord → List ShownRecord → ShownRecord
head_or none [] = none
head_or none (shown ∷ later) = shown

abbrev tail_of : List ShownRecord → List ShownRecord
tail_of [] = []
tail_of (shown ∷ later) = later

module _ (session : Session) (may : session.refresh ≡ refreshes.Refused) (refresh : ShownRecord) (later : List ShownRecord) (is_one : ¬ IsNoRefresh refresh) where
  parted : (last : Option ℕ) (pieces : List Piece) (front : List ShownRecord) → ArePieces (without_refresh session) last pieces
      → records_of pieces ≡ front ++ (refresh ∷ later) → AllByRecursion IsNoRefresh front → Parted session last pieces front
  parted last [] front each shown none = absurd (empty_has front later refresh shown)
  parted last (Other octets ∷ pieces) front each shown none =
      skipped session last (Other octets) pieces front
      record { whole = each.0.whole; judged = decided_before session may last (place_of octets) before_refresh after_refresh Skipped refl refl each.0.judged }
      (λ more. refl) (parted last pieces front each.1 shown none)
  parted last (OtherEnds octets ∷ pieces) front each shown none =
      skipped session last (OtherEnds octets) pieces front
      record { whole = each.0.whole; judged = decided_before session may last (place_of octets) before_refresh after_refresh SkippedSession refl refl each.0.judged }
      (λ more. refl) (parted last pieces front each.1 shown none)
  parted last (PassedOver octets ∷ pieces) front each shown none =
      let passed = (passed_over_by (without_refresh session) last (place_of octets) rules each.0.judged).0 in absurd (cc)
  parted last (Shown octets ∷ pieces) [] each shown none =
      let same : shown_of octets ≡ refresh = ap (λ (rs : List ShownRecord). head_or refresh rs) shown in record {
        before = [];
        rest = octets ++ joined pieces;
        whole = refl;
        each = tt;
        shown = refl;
        judged = judged_on session last octets (joined pieces) (Refused kinds.RouteRefresh) each.0.whole
            (refused_here session may last octets each.0.judged (subst (λ (r : ShownRecord). ¬ IsNoRefresh r) (sym same) is_one));
      }
  parted last (Shown octets ∷ pieces) (first ∷ front) each shown none =
      let same : shown_of octets ≡ first = ap (λ (rs : List ShownRecord). head_or refresh rs) shown in
      let rest : records_of pieces ≡ front ++ (refresh ∷ later) = ap tail_of shown in
      let more = parted (Some (second_of (shown_of octets))) pieces front each.1 rest none.1 in record {
        before = Shown octets ∷ more.before;
        rest = more.rest;
        whole = ap (λ (o : List ℕ). octets ++ o) more.whole ∙ sym (append_assoc octets (joined more.before) more.rest);
        each = (
          record { whole = each.0.whole; judged = read_here session may last octets each.0.judged (subst IsNoRefresh (sym same) none.0) },
          more.each,
        );
        shown = ap (λ (rs : List ShownRecord). first ∷ rs) more.shown ∙ ap (λ (r : ShownRecord). r ∷ records_of more.before) (sym same);
        judged = more.judged;
      }

pub first_refused : (session : Session) (octets : List ℕ) (records front : List ShownRecord) → Spells (without_refresh session) octets records → session.refresh ≡ refreshes.Refused
    → IsFirstRefresh records front → (offset : ℕ) × IsFirstFault session octets front kinds.RouteRefresh offset
first_refused session octets records front spells may first =
    let both = parted session may first.refresh first.later first.is_one None spells.pieces front spells.text.each (sym spells.shown ∙ first.whole) first.none_before in (
      length (joined both.before),
      record {
        pieces = both.before;
        rest = both.rest;
        text = record {
          whole = spells.text.whole ∙ append-nil (joined spells.pieces) ∙ both.whole;
          each = both.each;
          last = both.judged;
          stops = tt;
        };
        shown = both.shown;
        place = refl;
      },
    )

-- ---- and no other fault is the first

module _ (one : OneFault) (never : NeverBoth) (session : Session) (octets : List ℕ) (records front : List ShownRecord) (kind : FaultKind) (offset : ℕ)
    (spells : session.refresh ≡ refreshes.Refused → Spells (without_refresh session) octets records)
    (reads : (session.refresh ≡ refreshes.Refused → AllByRecursion IsNoRefresh records) → Spells session octets records) (fault : IsFirstFault session octets front kind offset) where
  -- where they read as these records there is none
  read_whole : {X : Type 0} → (session.refresh ≡ refreshes.Refused → AllByRecursion IsNoRefresh records) → X
  read_whole none = absurd (never session octets records front kind offset (reads none) fault)

  alone_by : (refresh : RouteRefresh) → session.refresh ≡ refresh → (kind ≡ kinds.RouteRefresh) × (session.refresh ≡ refreshes.Refused) × IsFirstRefresh records front
  alone_by refreshes.NotOffered is = read_whole (λ refused. absurd (let both = sym is ∙ refused in cc))
  alone_by refreshes.PassedOver is = read_whole (λ refused. absurd (let both = sym is ∙ refused in cc))
  alone_by refreshes.Refused is = elim (first_or_none records) [
    | inl none ↦ read_whole (λ refused. none)
    | inr some ↦ let refused = first_refused session octets records some.0 (spells is) is some.1 in
        let same = one session octets front some.0 kind kinds.RouteRefresh offset refused.0 fault refused.1 in
        (same.1, is, subst (λ (f : List ShownRecord). IsFirstRefresh records f) (sym same.0) some.1)
  ]

  pub alone : (kind ≡ kinds.RouteRefresh) × (session.refresh ≡ refreshes.Refused) × IsFirstRefresh records front
  alone = alone_by session.refresh refl
