use Rattle.std.proofs.Common.{◌≡◌, ◌∙◌, ◌≤◌, ◌<◌, ◌+◌, ◌++◌, take, length, List, ℕ, ap, subst, rules}
use Rattle.std.proofs.lemmas.List.{take-append-drop}
use Rattle.mrt.specs.Layout.{header_in, Header, IsBgp4mp}
use Rattle.mrt_sessions.specs.Front.{IsFront}
use Rattle.mrt_sessions.proofs.Fronts.{cut, too_long}
use Rattle.mrt_sessions.proofs.front.front_of.Goals as goal

pub returns-then-has_long_body : goal.returns-then-has_long_body
returns-then-has_long_body c =
    let head : 12 ≤ length c.args.octets.now = search rules in
    let front : c.in-Some.first.now ≡ take 12 c.args.octets.now = search rules in
    let same = c.read_header-header.ensures ∙ ap header_in front in
    let long = c.has_long_body.ensures.0 c.if-has_long_body.true in
    too_long c.args.octets.now head (subst (λ (h : Header). IsBgp4mp h.kind) same long.0) (subst (λ (h : Header). 65583 < h.count) same long.1)

pub returns-in-Some-split_at_checked : goal.returns-in-Some-split_at_checked
returns-in-Some-split_at_checked c =
    let at = c.in-Some-split_at_checked.ensures.cases in
    let n = 12 + c.read_header-header.result.count in
    let both : c.in-Some-split_at_checked.whole.now ++ c.in-Some-split_at_checked.rest.now ≡ c.args.octets.now =
    ap (λ (o : List ℕ). o ++ c.in-Some-split_at_checked.rest.now) at.1 ∙ ap (λ (o : List ℕ). take n c.args.octets.now ++ o) at.2 ∙ take-append-drop n c.args.octets.now in
    subst (λ (o : List ℕ). IsFront o c.whole_front.result) both c.whole_front.ensures

pub returns-in-None : goal.returns-in-None
returns-in-None c =
    let head : 12 ≤ length c.args.octets.now = search rules in
    let front : c.in-Some.first.now ≡ take 12 c.args.octets.now = search rules in
    let same = c.read_header-header.ensures ∙ ap header_in front in
    let short : length c.args.octets.now < 12 + c.read_header-header.result.count = c.in-None.ensures.cases in
    let fits : ¬ (IsBgp4mp c.read_header-header.result.kind × (65583 < c.read_header-header.result.count)) =
    λ long. let k = c.has_long_body.ensures.1 long in let f = c.if-has_long_body.false in cc in
    cut c.args.octets.now head (subst (λ (h : Header). ¬ (IsBgp4mp h.kind × (65583 < h.count))) same fits)
    (subst (λ (h : Header). length c.args.octets.now < 12 + h.count) same short)
