-- A frame has one line in each form.
use Rattle.std.proofs.Common.{◌≡◌, ◌∙◌, ◌++◌, ℕ, Bool, List, codes, refl, sym, ap, subst}
use Rattle.bgp_wire.specs.declared.header.Limit.{Limit}
use Rattle.bgp_wire.specs.Framing.{IsFrame}
use Rattle.bgp_open.specs.RouteForm.{plain_form}
use Rattle.bgp_text.specs.Message.{Message, Says}
use Rattle.bgp_text.specs.Text.{line_of}
use Rattle.bgp_text.proofs.EachMessage.{each_message}
use Rattle.bgp_text.proofs.OneMessage.{one_message}
use Rattle.bgp_values.specs.Opens.{reading_by}
use Rattle.bgp_values.specs.declared.opens.Direction.{Direction}
use Rattle.bgp_values.specs.declared.opens.Reading.{Reading}
use Rattle.bgp_lines.specs.Form.{Before, IsFrameLine, IsNamedFrame}
use Rattle.bgp_lines.specs.MessageLine.{named_text}
use Rattle.bgp_lines.specs.declared.form.LineForm.{LineForm}
use Rattle.bgp_lines.specs.declared.form.LineForm.TheVariants.{Plain, Names}
use Rattle.bgp_lines.proofs.OneOffer.{each_opens, one_reading}

pub each_line : (form : LineForm) (before : Before) (direction : Direction) (limit : Limit) (frame : List ℕ) → IsFrame limit frame
    → (line : List ℕ) × IsFrameLine form before direction frame line
each_line Plain before direction limit frame whole =
    let said = each_message plain_form limit frame whole in
    (line_of said.0, (said.0, said.1, refl))
each_line (Names as2) before direction limit frame whole =
    let opens = each_opens before in
    let reading = reading_by as2 direction opens.0 in
    let said = each_message reading.form limit frame whole in
    let text = named_text reading frame said.0 in
    (text ++ codes "\n", (reading, (opens.0, opens.1, refl), (text, (said.0, said.1, refl), refl)))

one_text : (reading other : Reading) (frame text texts : List ℕ) → reading ≡ other → IsNamedFrame reading frame text → IsNamedFrame other frame texts → text ≡ texts
one_text reading other frame text texts same h k =
    let named = subst (λ (r : Reading). IsNamedFrame r frame texts) (sym same) k in
    h.2 ∙ ap (named_text reading frame) (one_message reading.form frame h.0 named.0 h.1 named.1) ∙ sym named.2

pub one_line : (form : LineForm) (before : Before) (direction : Direction) (frame line other : List ℕ) → IsFrameLine form before direction frame line
    → IsFrameLine form before direction frame other → line ≡ other
one_line Plain before direction frame line other h k =
    h.2 ∙ ap line_of (one_message plain_form frame h.0 k.0 h.1 k.1) ∙ sym k.2
one_line (Names as2) before direction frame line other h k =
    let same = one_reading before as2 direction h.0 k.0 h.1 k.1 in
    h.2.2 ∙ ap (λ (t : List ℕ). t ++ codes "\n") (one_text h.0 k.0 frame h.2.0 k.2.0 same h.2.1 k.2.1) ∙ sym k.2.2
