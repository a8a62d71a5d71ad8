-- What a verdict on a stretch is worth that is told of a session in a capture.
use Rattle.std.proofs.Common.{◌≡◌, ◌∙◌, ◌+◌, ◌++◌, ℕ, Bool, true, false, IsTrue, List, [], ◌∷◌, Option, None, Some, inl, inr, length, refl, sym, ap, append_assoc, subst, take}
use Rattle.std.proofs.lemmas.List.{length-append}
use Rattle.std.specs.Prelude.{option_map}
use Rattle.bgp_prefix.specs.Shown.{ShownRecord}
use Rattle.bgp_prefix.specs.declared.session.Session.{Session}
use Rattle.bgp_open.specs.declared.config.Config.{Config}
use Rattle.mrt_sessions.specs.File.{Located}
use Rattle.mrt_sessions.specs.declared.addresses.Addresses.{Addresses}
use Rattle.bgp_open.specs.Open.{OpenFields, open_of}
use Rattle.bgp_machine.specs.Lists.{Each, Has}
use Rattle.bgp_machine.specs.Run.{Begins}
use Rattle.bgp_judge.specs.Verdict.{VerdictValue}
use Rattle.bgp_check.specs.Answered.{AnswerValue, IsAnswerTo, JudgedAs, Unjudged}
use Rattle.bgp_check.specs.Configurations.{IsOf}
use Rattle.bgp_check.specs.Cut.{IsWholeStretch, joined}
use Rattle.bgp_check.specs.NotJudged.{IsWhyNot, SendsSome, why_not}
use Rattle.bgp_parts.specs.Opens.{HasOwnOpen}
use Rattle.bgp_check.specs.Stretch.{IsStretch}
use Rattle.bgp_check.specs.declared.peer_as.PeerAs.{PeerAs}
use Rattle.bgp_check.specs.BeforeLeaving.{IsAtLeaving}
use Rattle.bgp_check.specs.StretchLaws as stretch
use Rattle.bgp_check.specs.StretchLaws.{IsLeftSo, JudgedAreStretches}
use Rattle.bgp_check.specs.StretchTold.{answer_by, left_answer, with_leaving}
use Rattle.bgp_check_capture_tool.specs.Ends.{AreTold, End, IsSessionTold, Silent, Staying, Stretch, TellsRecords, TellsStretches, front_ends, session_of, silent_ends, view_of}
use Rattle.bgp_check_capture_tool.specs.Headline.{IsToldAmong, NoConfigurationHasARun, NothingIsVacuous}
use Rattle.bgp_check_capture_tool.specs.Printed.{AreReadOf}
use Rattle.bgp_check_capture_tool.specs.StretchEnd.{IsStretchEnd, StretchEnd, View}
use Rattle.bgp_check_capture_tool.specs.Stretches.{first_of}
use Rattle.bgp_check_capture_tool.specs.declared.telling.Telling.{Telling}

-- the stretch of which it is told, and where it stands among the records that are read of its session
pub record IsFound (addresses : Addresses) (named : List Located) (plain : Bool) (end : StretchEnd) : Type 0 where
  pub view : View
  pub is_session : view.session ≡ session_of addresses
  pub is_named : view.named ≡ named
  pub is_plain : view.telling.is_plain ≡ plain
  pub records : List ShownRecord
  pub are_read : AreReadOf addresses named records
  pub front : List ShownRecord
  pub stretch : List ShownRecord
  pub behind : List ShownRecord
  pub whole : records ≡ front ++ (stretch ++ behind)
  pub is : IsStretchEnd view (length front) stretch (first_of behind) end
  pub stretched : IsWholeStretch stretch
  pub next : IsAtLeaving behind

at_leaving : (stretches : List (List ShownRecord)) (rest : List ShownRecord) → Each IsWholeStretch stretches → IsAtLeaving rest → IsAtLeaving (joined stretches ++ rest)
at_leaving [] rest each next = next
at_leaving ([] ∷ stretches) rest each next = absurd each.0
at_leaving ((first ∷ records) ∷ stretches) rest each next = each.0.0

pub left_so : (behind : List ShownRecord) → IsAtLeaving behind → IsLeftSo (first_of behind)
left_so [] next = tt
left_so (first ∷ behind) next = next

module _ (view : View) (end : StretchEnd) (records : List ShownRecord) where
  record IsAt : Type 0 where
    pub front : List ShownRecord
    pub stretch : List ShownRecord
    pub behind : List ShownRecord
    pub whole : records ≡ front ++ (stretch ++ behind)
    pub is : IsStretchEnd view (length front) stretch (first_of behind) end
    pub stretched : IsWholeStretch stretch
    pub next : IsAtLeaving behind

  found_in : (front : List ShownRecord) (stretches : List (List ShownRecord)) (rest : List ShownRecord) (ends : List End) → records ≡ front ++ (joined stretches ++ rest)
      → AreTold view (length front) stretches rest ends → Each IsWholeStretch stretches → IsAtLeaving rest → Has (λ one. one ≡ Stretch end) ends → IsAt
  found_in front [] rest [] whole told each next among = absurd among
  found_in front [] rest (one ∷ ends) whole told each next among = absurd told
  found_in front (s ∷ stretches) rest [] whole told each next among = absurd among
  found_in front (s ∷ stretches) rest (one ∷ ends) whole told each next (inr later) =
      let around = whole ∙ ap (λ (xs : List ShownRecord). front ++ xs) (append_assoc s (joined stretches) rest) ∙ sym (append_assoc front s (joined stretches ++ rest)) in
      found_in (front ++ s) stretches rest ends around (subst (λ (n : ℕ). AreTold view n stretches rest ends) (sym (length-append front s)) told.1) each.1 next later
  found_in front (s ∷ stretches) rest (Silent count ∷ ends) whole told each next (inl same) = absurd told.0
  found_in front (s ∷ stretches) rest (Staying count ∷ ends) whole told each next (inl same) = absurd told.0
  found_in front (s ∷ stretches) rest (Stretch one ∷ ends) whole told each next (inl same) = record {
    front = front;
    stretch = s;
    behind = joined stretches ++ rest;
    whole = whole ∙ ap (λ (xs : List ShownRecord). front ++ xs) (append_assoc s (joined stretches) rest);
    is = subst (λ (e : StretchEnd). IsStretchEnd view (length front) s (first_of (joined stretches ++ rest)) e) (inner same) told.0;
    stretched = each.0;
    next = at_leaving stretches rest each.1 next;
  } where
    held : End → StretchEnd
    held (Silent count) = end
    held (Staying count) = end
    held (Stretch e) = e

    inner : {a : StretchEnd} → Stretch a ≡ Stretch end → a ≡ end
    inner e = ap held e

  not_before : (front : List ShownRecord) (later : List End) → Has (λ one. one ≡ Stretch end) (front_ends front ++ later) → Has (λ one. one ≡ Stretch end) later
  not_before [] later among = among
  not_before (first ∷ front) later (inl same) = let k : ⊥ = cc in absurd k
  not_before (first ∷ front) later (inr among) = among

  found_of : (rest : List ShownRecord) (ends : List End) → TellsStretches view records rest ends → Has (λ one. one ≡ Stretch end) ends → IsAt
  found_of rest ends tells among =
      found_in tells.front tells.stretches rest tells.later tells.cut.whole tells.told tells.cut.each tells.cut.next
      (not_before tells.front tells.later (subst (Has (λ one. one ≡ Stretch end)) tells.are among))

  not_silent : (all : List ShownRecord) → Has (λ one. one ≡ Stretch end) (silent_ends all) → ⊥
  not_silent [] among = among
  not_silent (first ∷ all) (inl same) = let k : ⊥ = cc in k
  not_silent (first ∷ all) (inr none) = none

pub found : (telling : Telling) (addresses : Addresses) (named : List Located) (end : StretchEnd) (is : IsToldAmong telling addresses named end)
    → IsFound addresses named telling.is_plain end
found telling addresses named end is = by is.told where
  by : IsSessionTold telling addresses named is.ends is.fault → IsFound addresses named telling.is_plain end
  by (inr none) = absurd (subst (Has (λ one. one ≡ Stretch end)) none.0 is.among)
  by (inl read) = placed (at read.tells) where
    view : View
    view = view_of telling addresses named read.refusal

    at : TellsRecords view read.records read.rest is.ends → IsAt view end read.records
    at (inl silent) = absurd (not_silent view end read.records read.records (subst (Has (λ one. one ≡ Stretch end)) silent.2 is.among))
    at (inr sends) = found_of view end read.records read.rest is.ends sends.1 is.among

    placed : IsAt view end read.records → IsFound addresses named telling.is_plain end
    placed a = record {
      view = view;
      is_session = refl;
      is_named = refl;
      is_plain = refl;
      records = read.records;
      are_read = record { extended = read.extended; is_received = read.is_received; is_sent = read.is_sent; refusal = read.refusal; reading = read.reading };
      front = a.front;
      stretch = a.stretch;
      behind = a.behind;
      whole = a.whole;
      is = a.is;
      stretched = a.stretched;
      next = a.next;
    }

-- ---- a no

pub no_run : stretch.NoConfigurationHasARun → NoConfigurationHasARun
no_run law telling addresses named end number peer under count own config told is_no has of =
    let f = found telling addresses named end told in
    let is = f.is.is_told in
    let has_it = subst (λ (rs : List ShownRecord). HasOwnOpen rs own) is.are_records has in
    subst (λ (rs : List ShownRecord). ¬ Begins config (take (count + 1) rs)) (sym is.are_records)
    (law f.view.session f.stretch (length f.stretch) (first_of f.behind) end.told number peer under count own config is f.stretched (left_so f.behind f.next) is_no has_it
    (subst (λ (s : Session). IsOf s own config) (sym f.is_session) of))

-- ---- nothing is vacuous

sends_by : (sends extended : Bool) (own told : Option OpenFields) (confederated : Bool) → None ≡ why_not sends extended own told confederated → IsTrue sends
sends_by false extended own told confederated is = let k : ⊥ = cc in absurd k
sends_by true extended own told confederated is = refl

sends_some : (records : List ShownRecord) → IsWhyNot records None → SendsSome records
sends_some records none = none.is_sends.0 (sends_by none.sends none.extended (option_map open_of none.own) none.told none.confederated none.is_why)

-- the answer is a verdict
abbrev IsSome : AnswerValue → Type 0
IsSome answer = (number : Option ℕ) × (peer : PeerAs) × (under : Config) × (verdict : VerdictValue) × (answer ≡ JudgedAs number peer under verdict)

left_judged : (answer : AnswerValue) (number : Option ℕ) (peer : PeerAs) (under : Config) (verdict : VerdictValue) → left_answer answer ≡ JudgedAs number peer under verdict
    → IsSome answer
left_judged (Unjudged why) number peer under verdict e = let k : ⊥ = cc in absurd k
left_judged (JudgedAs n p c v) number peer under verdict e = (n, p, c, v, refl)

was_judged : (leaving : Option ShownRecord) (answer : AnswerValue) (number : Option ℕ) (peer : PeerAs) (under : Config) (verdict : VerdictValue)
    → answer_by leaving answer ≡ JudgedAs number peer under verdict → IsSome answer
was_judged None answer number peer under verdict e = (number, peer, under, verdict, e)
was_judged (Some leaving) answer number peer under verdict e = left_judged answer number peer under verdict e

pub not_vacuous : JudgedAreStretches → NothingIsVacuous
not_vacuous law telling addresses named end number peer under verdict told is_judged =
    let f = found telling addresses named end told in
    let is = f.is.is_told in
    let judged = with_leaving is.left.records (first_of f.behind) in
    let (n, p, c, v, so) = was_judged (first_of f.behind) is.answer number peer under verdict (sym is.is_answer ∙ is_judged) in
    let answer : IsAnswerTo f.view.session judged (JudgedAs n p c v) = subst (λ (a : AnswerValue). IsAnswerTo f.view.session judged a) so is.answers in (
      subst IsStretch (sym is.are_records) (law f.view.session f.stretch (length f.stretch) (first_of f.behind) end.told is f.stretched (left_so f.behind f.next)),
      subst SendsSome (sym is.are_records) (sends_some judged answer.none),
    )
