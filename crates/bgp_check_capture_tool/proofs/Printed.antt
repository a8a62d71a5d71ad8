-- What the lines of a session are worth.
use Rattle.std.proofs.Common.{◌≡◌, ◌∙◌, ◌+◌, ◌++◌, ℕ, zero, suc, Bool, List, [], ◌∷◌, Option, None, Some, codes, refl, sym, ap, append_assoc, append-nil, subst, arith, inl, inr, length, slice_index_or, take, unwrap_or}
use Rattle.std.specs.Prelude.{option_map}
use Rattle.std.specs.Fmt.{decimal}
use Rattle.std.specs.List.{AllByRecursion, slice_get}
use Rattle.bgp_prefix.specs.Shown.{ShownRecord, second_of}
use Rattle.bgp_prefix.specs.Text.{address_text}
use Rattle.bgp_clock.specs.When.{when_text}
use Rattle.bgp_prefix.specs.declared.address.Address.{Address}
use Rattle.bgp_prefix.specs.declared.session.Session.{Session}
use Rattle.mrt.specs.declared.fault.CaptureFault.{CaptureFault}
use Rattle.mrt_sessions.specs.File.{Located}
use Rattle.mrt_sessions.specs.Sessions.{records_between}
use Rattle.mrt_sessions.specs.declared.addresses.Addresses.{Addresses}
use Rattle.bgp_open.specs.declared.config.Config.{Config}
use Rattle.bgp_machine.specs.Lists.{Each, Has}
use Rattle.bgp_machine.specs.Run.{End as RunEnd}
use Rattle.bgp_why.specs.Endpoint.{endpoint_text}
use Rattle.bgp_why.specs.declared.endpoint.Endpoint.{Endpoint}
use Rattle.bgp_why.specs.declared.place.Place.{Place}
use Rattle.bgp_judge.specs.Verdict.{No, Unfinished, VerdictValue, Yes}
use Rattle.bgp_parts.specs.Opens.{HasOwnOpen}
use Rattle.bgp_parts.proofs.OneOwnOpen.{one_own}
use Rattle.bgp_check.specs.Answered.{AnswerValue, HasFault, IsAnswerTo, IsJudged, JudgedAs, NoConfigurationExplains, Unjudged}
use Rattle.bgp_check.specs.Configurations.{IsOf}
use Rattle.bgp_check.specs.Cut.{IsWholeStretch}
use Rattle.bgp_check.specs.Over.{HasVerdictOver}
use Rattle.bgp_check.specs.WidestMade.{IsFaultless}
use Rattle.bgp_check.specs.declared.not_judged.NotJudged.{NotJudged}
use Rattle.bgp_check.specs.declared.peer_as.PeerAs.{PeerAs}
use Rattle.bgp_check.specs.Left.{LeftVerdictIsOverAll}
use Rattle.bgp_check.specs.Named.{NoNamesItsRecord}
use Rattle.bgp_check.specs.StretchLaws.{IsLeftSo, JudgedAreStretches}
use Rattle.bgp_check.specs.StretchTold.{IsStretchTold, ToldValue, place_of, with_leaving}
use Rattle.bgp_check.proofs.Stretched.{no_by}
use Rattle.bgp_check_lines.specs.Reached.{ReachedValue}
use Rattle.bgp_check_lines.specs.End.{as_text, end_text as name_text, part_by}
use Rattle.bgp_check_lines.specs.Text.{deed_if, no_line, not_judged_line, place_when, unfinished_line, yes_line, yes_lines}
use Rattle.bgp_check_lines.specs.EndName.{EndName}
use Rattle.bgp_check_capture_tool.specs.Checking.{Block, IsBlock}
use Rattle.bgp_check_capture_tool.specs.Ends.{End, IsSessionTold, Silent, Staying, Stretch, session_of}
use Rattle.bgp_check_capture_tool.specs.Naming.{endpoint_of}
use Rattle.bgp_check_capture_tool.specs.Places.{micro_after, place_after, place_in, place_to, second_at}
use Rattle.bgp_check_capture_tool.specs.Printed.{BeginsWithNo, HasVerdictBy, IsTrueIfNo, IsTrueNo, NoesAreTrue, ReadStretch, ToldVerdictIsOverAll}
use Rattle.bgp_check_capture_tool.specs.StretchEnd.{StretchEnd}
use Rattle.bgp_check_capture_tool.specs.Stretches.{first_of}
use Rattle.bgp_check_capture_tool.specs.Text.{answer_text, end_text, notes_text}
use Rattle.bgp_check_capture_tool.specs.ToldEnd.{is_over, told_end_line}
use Rattle.bgp_check_capture_tool.specs.declared.telling.Telling.{Telling}
use Rattle.bgp_check_capture_tool.proofs.Verdicts.{IsFound, found, left_so}

-- ---- which lines begin with `no`

-- a text's first octet, and its third one
first : List ℕ → ℕ
first [] = 0
first (x ∷ xs) = x

third : List ℕ → ℕ
third [] = 0
third (x ∷ []) = 0
third (x ∷ y ∷ []) = 0
third (x ∷ y ∷ z ∷ xs) = z

-- it is a no
record IsNo (answer : AnswerValue) : Type 0 where
  pub number : Option ℕ
  pub peer : PeerAs
  pub under : Config
  pub count : ℕ
  pub is : answer ≡ JudgedAs number peer under (No count)

unjudged_third : (name : EndName) (why : NotJudged) → third (not_judged_line name why) ≡ 116
unfolding third not_judged_line
unjudged_third name why = refl

no_third : (rest : List ℕ) → third (codes "no " ++ rest) ≡ 32
unfolding third
no_third rest = refl

no_first : (rest : List ℕ) → first (codes "no " ++ rest) ≡ 110
unfolding first
no_first rest = refl

yes_first : (routes : Bool) (name : EndName) (peer : PeerAs) (reached : ReachedValue) (ends : List RunEnd) (rest : List ℕ) → first (yes_lines routes name peer reached ends ++ rest) ≡ 121
unfolding first yes_line
yes_first routes name peer reached ends rest = refl

unfinished_first : (place : Place) (name : EndName) (rest : List ℕ) → first (unfinished_line place name ++ rest) ≡ 117
unfolding first unfinished_line
unfinished_first place name rest = refl

no_by_text : (routes : Bool) (end : StretchEnd) (answer : AnswerValue) (rest : List ℕ) → answer_text routes end answer ≡ codes "no " ++ rest → IsNo answer
no_by_text routes end (Unjudged why) rest is =
    let differs : 116 ≡ 32 = sym (unjudged_third end.name why) ∙ ap third is ∙ no_third rest in absurd (omega (arith, differs))
no_by_text routes end (JudgedAs number peer under (Yes ends)) rest is =
    let differs : 121 ≡ 110 = sym (yes_first routes end.name peer end.reached ends (told_end_line (is_over ends) end.ended ++ notes_text end)) ∙ ap first is ∙ no_first rest in absurd (omega (arith, differs))
no_by_text routes end (JudgedAs number peer under (No count)) rest is = record { number = number; peer = peer; under = under; count = count; is = refl }
no_by_text routes end (JudgedAs number peer under Unfinished) rest is =
    let differs : 117 ≡ 110 = sym (unfinished_first end.place end.name (end.reason ++ notes_text end)) ∙ ap first is ∙ no_first rest in absurd (omega (arith, differs))

-- ---- the record that is named

-- the text of a no begins with the number of its record, and its time, and then the local system
record Names (text : List ℕ) (number second : ℕ) (micro : Option ℕ) (local : Address) : Type 0 where
  pub rest : List ℕ
  pub is : text ≡ codes "no at record " ++ (decimal number ++ (codes ", " ++ (when_text second micro ++ (codes " UTC: " ++ (address_text local ++ rest)))))

names : (named : List Located) (name : EndName) (local : Address) (before second : ℕ) (deed more : List ℕ) → name.end ≡ endpoint_of local
    → Names (no_line (place_after named before second) name deed ++ more) (before + 1) second (micro_after named before) local
unfolding no_line place_when name_text
names named name local before second deed more is_end =
    let number = decimal (before + 1) in
    let when = when_text second (micro_after named before) in
    let its = endpoint_text name.end in
    let about = codes " (" ++ (as_text name.as_number ++ (part_by name.part ++ codes ")")) in
    let tail = deed_if deed ++ codes "\n" in
    let rest = about ++ (tail ++ more) in
    let time = codes ", " ++ (when ++ codes " UTC: ") in
    let behind = (its ++ about) ++ tail in
    let ending : behind ++ more ≡ address_text local ++ rest =
    append_assoc (its ++ about) tail more ∙ append_assoc its about (tail ++ more) ∙ ap (λ (e : Endpoint). endpoint_text e ++ rest) is_end in
    record {
      rest = rest;
      is = ap (λ (text : List ℕ). codes "no at record " ++ text)
          (append_assoc (number ++ time) behind more ∙ append_assoc number time (behind ++ more)
          ∙ ap (λ (text : List ℕ). number ++ (codes ", " ++ text)) (append_assoc when (codes " UTC: ") (behind ++ more) ∙ ap (λ (text : List ℕ). when ++ (codes " UTC: " ++ text)) ending));
    }

told_names : (named : List Located) (routes : Bool) (local : Address) (end : StretchEnd) (number : Option ℕ) (peer : PeerAs) (under : Config) (count before second : ℕ)
    → end.told.answer ≡ JudgedAs number peer under (No count) → end.place ≡ place_after named before second → end.name.end ≡ endpoint_of local
    → Names (end_text routes local (Stretch end)) (before + 1) second (micro_after named before) local
told_names named routes local end number peer under count before second is is_place is_end =
    let micro = micro_after named before in
    subst (λ (a : AnswerValue). Names (answer_text routes end a) (before + 1) second micro local) (sym is)
    (subst (λ (p : Place). Names (no_line p end.name end.deed ++ (end.reason ++ notes_text end)) (before + 1) second micro local) (sym is_place)
    (names named end.name local before second end.deed (end.reason ++ notes_text end) is_end))

-- where it stands
behind_front : (front rest : List ShownRecord) (place : ℕ) (shown : ShownRecord) → slice_get rest place ≡ Some shown → slice_get (front ++ rest) (length front + place) ≡ Some shown
behind_front [] rest place shown is =
    let same : place ≡ 0 + place = omega arith in subst (λ (n : ℕ). slice_get rest n ≡ Some shown) same is
behind_front (x ∷ front) rest place shown is =
    let later : slice_get (x ∷ (front ++ rest)) (suc (length front + place)) ≡ Some shown = behind_front front rest place shown is in
    let same : suc (length front + place) ≡ length (x ∷ front) + place = omega arith in
    subst (λ (n : ℕ). slice_get (x ∷ (front ++ rest)) n ≡ Some shown) same later

in_longer : (records behind : List ShownRecord) (leaving : ShownRecord) (place : ℕ) (shown : ShownRecord) → slice_get (records ++ leaving ∷ []) place ≡ Some shown
    → slice_get (records ++ leaving ∷ behind) place ≡ Some shown
in_longer [] behind leaving zero shown is = is
in_longer [] behind leaving (suc place) shown is = let k : ⊥ = cc in absurd k
in_longer (x ∷ records) behind leaving zero shown is = is
in_longer (x ∷ records) behind leaving (suc place) shown is = in_longer records behind leaving place shown is

in_session : (stretch behind : List ShownRecord) (place : ℕ) (shown : ShownRecord) → slice_get (with_leaving stretch (first_of behind)) place ≡ Some shown
    → slice_get (stretch ++ behind) place ≡ Some shown
in_session stretch [] place shown is = subst (λ (rs : List ShownRecord). slice_get rs place ≡ Some shown) (sym (append-nil stretch)) is
in_session stretch (leaving ∷ behind) place shown is = in_longer stretch behind leaving place shown is

-- ---- a stretch that is told

module _ (addresses : Addresses) (named : List Located) (plain : Bool) (end : StretchEnd) (f : IsFound addresses named plain end) where
  abbrev its_stretch : ReadStretch addresses named
  its_stretch = record {
    records = f.records;
    are_read = f.are_read;
    front = f.front;
    stretch = f.stretch;
    behind = f.behind;
    whole = f.whole;
    stretched = f.stretched;
    next = f.next;
    own = f.is.is_told.own;
    heard = f.is.is_told.heard;
    has_own = f.is.is_told.has_own;
    has_heard = f.is.is_told.has_heard;
    left = f.is.is_told.left;
    keeps = f.is.is_told.keeps;
  }

  true_no : NoConfigurationExplains → JudgedAreStretches → NoNamesItsRecord → (routes : Bool) → BeginsWithNo routes addresses end → IsTrueNo routes addresses named end
  true_no explains are_stretches names_it routes begins =
      let is = f.is.is_told in
      let leaving = first_of f.behind in
      let judged = with_leaving is.left.records leaving in
      let no = no_by_text routes end end.told.answer begins.0 begins.1 in
      let answered = no_by leaving is.answer no.number no.peer no.under no.count (sym is.is_answer ∙ no.is) in
      let there : IsJudged f.view.session judged no.number no.peer no.under (No no.count) = subst (λ (a : AnswerValue). IsAnswerTo f.view.session judged a) answered is.answers in
      let answer = subst (λ (s : Session). IsJudged s judged no.number no.peer no.under (No no.count)) f.is_session there in
      let stretch = are_stretches f.view.session f.stretch (length f.stretch) leaving end.told is f.stretched (left_so f.behind f.next) in
      let it = names_it f.view.session f.stretch leaving end.told no.number no.peer no.under no.count is no.is in
      let place : end.place ≡ place_after named (length f.front + it.place) (second_of it.shown) =
      f.is.is_place ∙ ap (λ (ls : List Located). place_in ls (length f.front) end.told) f.is_named ∙ ap (place_to named (length f.front) end.told) no.is
      ∙ ap (λ (o : Option ℕ). place_after named (length f.front + unwrap_or o 0) (second_at end.told.records no.count)) it.is_named
      ∙ ap (λ (o : Option ShownRecord). place_after named (length f.front + it.place) (unwrap_or (option_map second_of o) 0)) it.is_judged in
      let found : it.place ≡ slice_index_or is.left.places no.count (length f.stretch) =
      ap (λ (o : Option ℕ). unwrap_or o 0) (sym it.is_named ∙ is.is_place ∙ ap (λ (a : AnswerValue). place_of a is.left.places (length f.stretch)) answered) in
      let its_end = f.is.is_name.is_end ∙ ap (λ (session : Session). endpoint_of session.local) f.is_session in
      let names = told_names named routes addresses.local end no.number no.peer no.under no.count (length f.front + it.place) (second_of it.shown) no.is place its_end in
      record {
        it = its_stretch;
        is_part = f.is.is_part;
        count = no.count;
        place = length f.front + it.place;
        is_place = ap (λ (n : ℕ). length f.front + n) found;
        impossible = it.shown;
        is_judged = subst (λ (rs : List ShownRecord). slice_get rs no.count ≡ Some it.shown) is.are_records it.is_judged;
        stands = subst (λ (rs : List ShownRecord). slice_get rs (length f.front + it.place) ≡ Some it.shown) (sym f.whole)
            (behind_front f.front (f.stretch ++ f.behind) it.place it.shown (in_session f.stretch f.behind it.place it.shown it.stands));
        rest = names.rest;
        is_named = names.is;
        none = λ own config has of. explains (session_of addresses) judged no.number no.peer no.under no.count own config stretch answer has of;
        possible = λ own has faultless.
            let same = one_own judged own answer.own has answer.has_own in
            (subst (λ (o : Option (List ℕ)). HasVerdictOver (IsOf (session_of addresses) o) judged (No no.count)) (sym same)
            (answer.over stretch (subst (λ (o : Option (List ℕ)). IsFaultless o) same faultless))).1;
        by_open = λ own fault has is_fault n within.
            let same = one_own judged own answer.own has answer.has_own in
            answer.by_open fault (subst (λ (o : Option (List ℕ)). HasFault o fault) same is_fault) n (subst (λ (o : Option (List ℕ)). HasOwnOpen (take n judged) o) same within);
      }

-- ---- of all blocks

module _ (explains : NoConfigurationExplains) (are_stretches : JudgedAreStretches) (names_it : NoNamesItsRecord) (telling : Telling) (routes : Bool) where
  ends_true : (addresses : Addresses) (named : List Located) (all ends : List End) (fault : Option CaptureFault) → IsSessionTold telling addresses named all fault
      → ((e : StretchEnd) → Has (λ one. one ≡ Stretch e) ends → Has (λ one. one ≡ Stretch e) all) → Each (IsTrueIfNo routes addresses named) ends
  ends_true addresses named all [] fault told among = tt
  ends_true addresses named all (Silent count ∷ ends) fault told among = (tt, ends_true addresses named all ends fault told (λ e has. among e (inr has)))
  ends_true addresses named all (Staying count ∷ ends) fault told among = (tt, ends_true addresses named all ends fault told (λ e has. among e (inr has)))
  ends_true addresses named all (Stretch end ∷ ends) fault told among = (
    λ begins. true_no addresses named telling.is_plain end (found telling addresses named end record { ends = all; fault = fault; told = told; among = among end (inl refl) })
        explains are_stretches names_it routes begins,
    ends_true addresses named all ends fault told (λ e has. among e (inr has)),
  )

  pub all_true : (named : List Located) (blocks : List Block) → AllByRecursion (IsBlock telling named) blocks → AllByRecursion (NoesAreTrue routes named) blocks
  all_true named [] all = tt
  all_true named (block ∷ blocks) all = (
    ends_true block.addresses (records_between block.addresses named) block.ends block.ends block.fault all.0 (λ e has. has),
    all_true named blocks all.1,
  )

-- ---- the verdict

over_by : LeftVerdictIsOverAll → JudgedAreStretches → (session : Session) (stretch : List ShownRecord) (all : ℕ) (leaving : Option ShownRecord) (told : ToldValue) (number : Option ℕ)
    (peer : PeerAs) (under : Config) (verdict : VerdictValue) (is : IsStretchTold session stretch all leaving told) → IsWholeStretch stretch → IsLeftSo leaving
    → told.answer ≡ JudgedAs number peer under verdict → (own : Option (List ℕ)) → HasOwnOpen (with_leaving is.left.records leaving) own → IsFaultless own
    → HasVerdictBy (IsOf session own) is.left.records leaving verdict
over_by law are_stretches session stretch all None told number peer under verdict is stretched so answered own has faultless =
    let judged = is.left.records in
    let answer : IsJudged session judged number peer under verdict = subst (λ (a : AnswerValue). IsAnswerTo session judged a) (sym is.is_answer ∙ answered) is.answers in
    let same = one_own judged own answer.own has answer.has_own in
    subst (λ (o : Option (List ℕ)). HasVerdictOver (IsOf session o) judged verdict) (sym same)
    (answer.over (are_stretches session stretch all None told is stretched so) (subst (λ (o : Option (List ℕ)). IsFaultless o) same faultless))
over_by law are_stretches session stretch all (Some leaving) told number peer under verdict is stretched so answered own has faultless =
    law session stretch all leaving told number peer under verdict own is stretched so answered has faultless

pub verdict_over_all : LeftVerdictIsOverAll → JudgedAreStretches → ToldVerdictIsOverAll
verdict_over_all law are_stretches telling addresses named end number peer under verdict told answered =
    let f = found telling addresses named end told in
    let is = f.is.is_told in
    record {
      it = its_stretch addresses named telling.is_plain end f;
      is_part = f.is.is_part;
      over_all = λ own has faultless.
          subst (λ (s : Session). HasVerdictBy (IsOf s own) is.left.records (first_of f.behind) verdict) f.is_session
          (over_by law are_stretches f.view.session f.stretch (length f.stretch) (first_of f.behind) end.told number peer under verdict is f.stretched (left_so f.behind f.next) answered own has faultless);
    }
