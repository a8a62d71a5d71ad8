use Rattle.std.proofs.Common.{◌-◌, ◌∙◌, ℕ, ap, length, map, sym, take}
use Rattle.std.proofs.lemmas.List.{length-map, take-map}
use Rattle.mrt.specs.Reader.{shown_of}
use Rattle.bgp_check_capture_tool.proofs.stretch_end.own_records.Goals as goal

pub returns-in-Some : goal.returns-in-Some
returns-in-Some c =
    let judged = c.args.judged.now in
    rw c.in-Some.is (ap (λ (n : ℕ). map shown_of (take n judged)) c.saturating_sub.ensures ∙ sym (take-map shown_of (length judged - 1) judged) ∙ ap (λ (n : ℕ). take (n - 1) (map shown_of judged)) (sym (length-map judged shown_of)))
