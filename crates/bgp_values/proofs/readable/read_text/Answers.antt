use Rattle.std.proofs.Common.{◌≡◌, false, refl, sym}
use Rattle.std.specs.Str.{is_utf8}
use Rattle.std.proofs.lemmas.Bool.{false_from_ne_true}
use Rattle.std.proofs.lemmas.Str.{IsUtf8-from_is_utf8, is_utf8-from_IsUtf8}
use Rattle.bgp_values.proofs.readable.read_text.Goals as goal

pub returns-in_default : goal.returns-in_default
returns-in_default c =
    let no : is_utf8 c.args.octets.now ≡ false = false_from_ne_true _ (λ e. c.in_default.ensures.cases.0 (IsUtf8-from_is_utf8 _ e)) in
    rw no refl

pub returns-then-has_hidden : goal.returns-then-has_hidden
returns-then-has_hidden c =
    let utf8 = is_utf8-from_IsUtf8 c.args.octets.now c.in-Ok.ensures.cases.1 in
    let some = sym c.if-has_hidden.ensures in
    rw (utf8, rw c.in-Ok.ensures.cases.0 at some) refl

pub returns : goal.returns
returns c =
    let utf8 = is_utf8-from_IsUtf8 c.args.octets.now c.in-Ok.ensures.cases.1 in
    let some = sym c.if-has_hidden.ensures in
    rw (utf8, rw c.in-Ok.ensures.cases.0 at some, c.in-Ok.ensures.cases.0) refl
