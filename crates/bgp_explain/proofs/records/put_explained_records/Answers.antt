use Rattle.std.proofs.Common.{◌≡◌, ◌∙◌, ℕ, Bool, true, false, IsTrue, List, Option, None, Some, ap, is_some, refl, subst}
use Rattle.bgp_prefix.specs.Shown.{ShownRecord}
use Rattle.bgp_prefix.specs.declared.session.Session.{Session}
use Rattle.bgp_open.specs.declared.config.Config.{Config}
use Rattle.bgp_judge.specs.declared.verdict.Verdict.{Verdict}
use Rattle.bgp_judge.specs.declared.verdict.Verdict.TheVariants.{No, Unfinished}
use Rattle.bgp_judge.specs.Verdict as values
use Rattle.bgp_tool.specs.declared.seen.Seen.{Seen}
use Rattle.bgp_why.specs.declared.place.Place.{Place}
use Rattle.bgp_why.specs.declared.style.Style.{Style}
use Rattle.bgp_explain.specs.declared.explained.Reason.{Reason}
use Rattle.bgp_explain.specs.declared.tally.Tally.{Tally}
use Rattle.bgp_explain.specs.declared.details.Details.{Details}
use Rattle.bgp_explain.specs.Details.{AreDetailsOf}
use Rattle.bgp_explain.specs.Places.{places_of}
use Rattle.bgp_explain.specs.Reason.{HasReason}
use Rattle.bgp_explain.specs.Records.{SaysWhere}
use Rattle.bgp_explain.specs.Tally.{tally_of, yes_lines}
use Rattle.bgp_explain.specs.Text.{IsMoreBy}
use Rattle.bgp_explain.proofs.Telling.{why_not, why_unfinished}
use Rattle.bgp_explain.proofs.records.put_explained_records.Goals as goal

-- there are details of a reason alone
detailed_so : {X Y : Type 0} (config : Config) (why : Option (Reason X)) (details : Option (Details Y)) → AreDetailsOf config why details → IsTrue (is_some details) → IsTrue (is_some why)
detailed_so config None None are some = some
detailed_so config None (Some details) are some = absurd are
detailed_so config (Some reason) details are some = refl

module _ {X : Type 0} (Y : Type 0) (config : Config) (style : Style) (session : Session) (places : ℕ → ℕ → Place) (records : List ShownRecord) where
  after_no : (count : ℕ) (why : Option (Reason X)) (detailed : Bool) (more : List ℕ) → HasReason {X = Y} config records (No count) why → (IsTrue detailed → IsTrue (is_some why))
      → IsMoreBy config style session places why detailed more → SaysWhere config style session places records detailed (values.No count) more
  after_no count None true more has some is = absurd (let k : false ≡ true = some refl in cc)
  after_no count None false more has some is = is
  after_no count (Some reason) false more has some is = is
  after_no count (Some reason) true more has some is = why_not config style session places Y records count reason more has is

  after_unfinished : (why : Option (Reason X)) (detailed : Bool) (more : List ℕ) → HasReason {X = Y} config records Unfinished why → (IsTrue detailed → IsTrue (is_some why))
      → IsMoreBy config style session places why detailed more → SaysWhere config style session places records detailed values.Unfinished more
  after_unfinished None true more has some is = absurd (let k : false ≡ true = some refl in cc)
  after_unfinished None false more has some is = is
  after_unfinished (Some reason) false more has some is = is
  after_unfinished (Some reason) true more has some is = why_unfinished config style session places Y records reason more has is

  says_no : (verdict : Verdict Y) (count : ℕ) (why : Option (Reason X)) (detailed : Bool) (more : List ℕ) → verdict ≡ No count → HasReason config records verdict why
      → (IsTrue detailed → IsTrue (is_some why)) → IsMoreBy config style session places why detailed more → SaysWhere config style session places records detailed (values.No count) more
  says_no verdict count why detailed more is has some by =
      after_no count why detailed more (subst (λ (v : Verdict Y). HasReason config records v why) is has) some by

  says_unfinished : (verdict : Verdict Y) (why : Option (Reason X)) (detailed : Bool) (more : List ℕ) → verdict ≡ Unfinished → HasReason config records verdict why
      → (IsTrue detailed → IsTrue (is_some why)) → IsMoreBy config style session places why detailed more → SaysWhere config style session places records detailed values.Unfinished more
  says_unfinished verdict why detailed more is has some by =
      after_unfinished why detailed more (subst (λ (v : Verdict Y). HasReason config records v why) is has) some by

pub returns-in-Yes : goal.returns-in-Yes
returns-in-Yes g c = λ records are.
    let explained = c.args.explained.now in
    let sums = rw c.in-Yes.is at are.summed in
    rw c.in-Yes.is (
      yes_lines explained.tally None explained.seen.left_idle,
      ap (λ (t : Tally). yes_lines t None explained.seen.left_idle) sums.0
          ∙ ap (λ (v : Seen). yes_lines (tally_of records) None v.left_idle) sums.1,
      c.put_yes_lines.ensures,
    )

pub returns-in-No : goal.returns-in-No
returns-in-No g c = λ records are.
    let (more, is, put) = c.put_any_reason.ensures in
    let explained = c.args.explained.now in
    let details = c.args.details.now in
    let says = says_no _ c.args.config.now c.args.style.now c.args.session.now (places_of c.args.places) records explained.verdict _ explained.reason (is_some details) more c.in-No.is
    are.reason (detailed_so c.args.config.now explained.reason details c.requires.details) is in
    rw c.in-No.is (more, says, put)

pub returns-in-Unfinished : goal.returns-in-Unfinished
returns-in-Unfinished g c = λ records are.
    let (more, is, put) = c.put_any_reason-in-Unfinished.ensures in
    let explained = c.args.explained.now in
    let details = c.args.details.now in
    let says = says_unfinished _ c.args.config.now c.args.style.now c.args.session.now (places_of c.args.places) records explained.verdict explained.reason (is_some details) more c.in-Unfinished.is
    are.reason (detailed_so c.args.config.now explained.reason details c.requires.details) is in
    rw c.in-Unfinished.is (more, says, put)
