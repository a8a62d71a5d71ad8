use Rattle.std.proofs.Common.{◌≡◌, ◌∙◌, ◌+◌, ◌-◌, Bool, List, ap, arith, length, map, refl, sym, true, false, Option, ℕ, subst}
use Rattle.std.proofs.lemmas.Bool.{eqb-true}
use Rattle.std.proofs.lemmas.List.{length-map}
use Rattle.bgp_prefix.specs.Shown.{ShownRecord}
use Rattle.mrt.specs.Reader.{shown_of}
use Rattle.bgp_text.proofs.Pieces.{Joins}
use Rattle.bgp_check_lines.specs.DeclaredTally.{Tally}
use Rattle.bgp_check_capture_tool.specs.Counted.{with_ends}
use Rattle.bgp_check_capture_tool.specs.Ends.{Stretch, front_ends}
use Rattle.bgp_check_capture_tool.specs.Putting.{Adds, heading_of}
use Rattle.bgp_check_capture_tool.specs.Text.{ends_text}
use Rattle.bgp_check_capture_tool.specs.StretchEnd.{IsStretchEnd, stretch_value, view_value}
use Rattle.bgp_check_capture_tool.proofs.Fronts.{left_are, taken_are}
use Rattle.bgp_check_capture_tool.proofs.Few.{few_numbers}
use Rattle.bgp_check_capture_tool.proofs.ToldSoFar.{SoFar, both_lengths, none_left, none_told, one_told, shorter, told_up_to}
use Rattle.bgp_check_capture_tool.proofs.ends.put_stretches.Goals as goal

pub loop-rest-init : goal.loop-rest-init
loop-rest-init g c =
    let is = c.before_leaving.ensures in
    let n = c.before_leaving.result in
    let front = ap (map shown_of) c.split_at.ensures.front ∙ taken_are c.args.records.now n is in
    let rest = ap (map shown_of) c.split_at.ensures.back ∙ left_are c.args.records.now n is in
    let front_len = c.split_at.ensures.front_len in
    let back_len = c.split_at.ensures.back_len in
    record {
      so_far = none_told c.args.view.now.telling.printing (view_value c.args.view.now) (map shown_of c.args.records.now) (map shown_of c.split_at.result.0.now) (map shown_of c.split_at.result.1.now) n _ c.args.lines.now _ c.args.tally _ c.args.marks.now
          (sym (length-map c.split_at.result.0.now shown_of)) is front rest
          (subst (λ (h : Bool). Adds (heading_of (view_value c.args.view.now)) c.args.lines.now c.put_front-so_far.new.lines h c.put_front-so_far.result.is_headed (ends_text c.args.view.now.telling.printing c.args.view.now.session.local (front_ends (map shown_of c.split_at.result.0.now)))) c.new.ensures.is_headed (c.put_front-so_far.ensures.adds (heading_of (view_value c.args.view.now))))
          (c.put_front-so_far.ensures.tallied ∙ ap (λ (t : Tally). with_ends t (front_ends (map shown_of c.split_at.result.0.now))) c.new.ensures.tally);
      all = omega (arith, front_len, back_len);
    }

pub first_stretch-requires-clause-leaving : goal.first_stretch-requires-clause-leaving
first_stretch-requires-clause-leaving g c = c.loop-rest.invariant.so_far.cut.next

pub end_of-requires : goal.end_of-requires
end_of-requires g c =
    let lengths = both_lengths (map shown_of c.loop-rest.rest.now) (map shown_of c.first_stretch.result.0.now) (map shown_of c.first_stretch.result.1.now) c.first_stretch.ensures in
    let one = length-map c.loop-rest.rest.now shown_of in
    let other = length-map c.first_stretch.result.0.now shown_of in
    let all = c.loop-rest.invariant.all in
    record { few = omega (arith, lengths, one, other, all) }

pub returns-in_default : goal.returns-in_default
returns-in_default g c =
    told_up_to c.args.view.now.telling.printing (view_value c.args.view.now) (map shown_of c.args.records.now) (map shown_of c.loop-rest.rest.now) c.loop-rest.before false c.args.lines.now _ c.args.tally _ c.args.marks.now _ (
      λ no. absurd (let k : ⊥ = cc in k),
      λ none.
          let less = shorter (map shown_of c.loop-rest.rest.now) (map shown_of c.first_stretch.result.0.now) (map shown_of c.first_stretch.result.1.now) c.first_stretch.ensures in
          let empty = ap (λ (xs : List ShownRecord). length xs) none in
          absurd (omega (arith, less, empty)),
    ) c.loop-rest.invariant.so_far

pub overflow_sub-before : goal.overflow_sub-before
overflow_sub-before g c =
    let lengths = both_lengths (map shown_of c.loop-rest.rest.now) (map shown_of c.first_stretch.result.0.now) (map shown_of c.first_stretch.result.1.now) c.first_stretch.ensures in
    let one = length-map c.loop-rest.rest.now shown_of in
    let other = length-map c.first_stretch.result.1.now shown_of in
    let all = c.loop-rest.invariant.all in
    omega (arith, lengths, one, other, all)

pub loop-rest-smaller : goal.loop-rest-smaller
loop-rest-smaller g c =
    let less = shorter (map shown_of c.loop-rest.rest.now) (map shown_of c.first_stretch.result.0.now) (map shown_of c.first_stretch.result.1.now) c.first_stretch.ensures in
    let one = length-map c.loop-rest.rest.now shown_of in
    let other = length-map c.first_stretch.result.1.now shown_of in
    omega (arith, less, one, other)

pub put_told-so_far-requires : goal.put_told-so_far-requires
put_told-so_far-requires g c =
    let lengths = both_lengths (map shown_of c.loop-rest.rest.now) (map shown_of c.first_stretch.result.0.now) (map shown_of c.first_stretch.result.1.now) c.first_stretch.ensures in
    let one = length-map c.loop-rest.rest.now shown_of in
    let other = length-map c.first_stretch.result.0.now shown_of in
    let all = c.loop-rest.invariant.all in
    few_numbers (view_value c.args.view.now) c.loop-rest.before (map shown_of c.first_stretch.result.0.now) _ (stretch_value c.in-Ok.end) (omega (arith, lengths, one, other, all)) c.in-Ok.ensures

pub loop-rest-preserved : goal.loop-rest-preserved
loop-rest-preserved g c =
    let law : Joins g.W.Sink = record { joined = g.met.W.Sink.joined } in
    let view = view_value c.args.view.now in
    let printing = c.args.view.now.telling.printing in
    let records = map shown_of c.args.records.now in
    let rest = map shown_of c.loop-rest.rest.now in
    let stretch = map shown_of c.first_stretch.result.0.now in
    let behind = map shown_of c.first_stretch.result.1.now in
    let before = c.loop-rest.before in
    let count = length c.first_stretch.result.0.now in
    let end = stretch_value c.in-Ok.end in
    let len : length stretch ≡ count = length-map c.first_stretch.result.0.now shown_of in
    let is_end = subst (λ (o : Option ShownRecord). IsStretchEnd view before stretch o end) c.first_of-leaving.ensures c.in-Ok.ensures in
    let more = one_told law printing view records rest stretch behind before count (Stretch end)
    c.args.lines.now c.loop-rest.lines _ c.args.tally c.loop-rest.so_far _ c.args.marks.now c.loop-rest.marks _ c.loop-rest.invariant.so_far c.first_stretch.ensures (sym len) is_end
    c.put_told-so_far.ensures.adds c.put_told-so_far.ensures.tallied c.put_told-so_far.ensures.marked in
    let lengths = both_lengths rest stretch behind c.first_stretch.ensures in
    let one = length-map c.loop-rest.rest.now shown_of in
    let other = length-map c.first_stretch.result.1.now shown_of in
    let all = c.loop-rest.invariant.all in
    let same : before + count ≡ length c.args.records.now - length c.first_stretch.result.1.now = omega (arith, lengths, one, other, all, len) in
    record {
      so_far = subst (λ (n : ℕ). SoFar printing view records behind n c.args.lines.now c.put_told-so_far.new.lines c.args.tally c.put_told-so_far.result c.args.marks.now c.put_told-so_far.new.marks) same more;
      all = omega (arith, lengths, one, other, all, len);
    }

pub returns : goal.returns
returns g c =
    told_up_to c.args.view.now.telling.printing (view_value c.args.view.now) (map shown_of c.args.records.now) (map shown_of c.loop-rest.rest.now) c.loop-rest.before true c.args.lines.now _ c.args.tally _ c.args.marks.now _
    (λ yes. ap (map shown_of) (none_left c.loop-rest.rest.now (eqb-true (length c.loop-rest.rest.now) 0 (sym c.is_empty.ensures ∙ c.loop-rest-test.false))), λ none. refl) c.loop-rest.invariant.so_far
