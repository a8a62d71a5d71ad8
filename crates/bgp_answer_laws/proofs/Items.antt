-- What may come has no line feed in its text, whatever data an error has.
use Rattle.std.proofs.Common.{ℕ, Bool, true, false, List, [], ◌∷◌, Option, None, Some, All, codes, refl}
use Rattle.std.proofs.lemmas.List.Elements.{All-cons, All-head, All-nil, All-tail}
use Rattle.byteorder.specs.Endian.{big_bytes}
use Rattle.bgp_wire.specs.declared.header.HeaderFaults.{HeaderFaults}
use Rattle.bgp_why.specs.Errors.{any_of, data_text, error_if, error_of, error_text, errors_in, errors_text, header_errors, length_error, more_errors, type_error}
use Rattle.bgp_why.specs.Items.{due_text, item_text, way_text}
use Rattle.bgp_why.specs.declared.items.Item.{Item}
use Rattle.bgp_why.specs.declared.items.Item.TheVariants as items
use Rattle.bgp_why_laws.proofs.Parts.{code_visible}
use Rattle.bgp_why_laws.proofs.Reasons.{items_visible}
use Rattle.bgp_answer_laws.proofs.Plain.{encoded, plain}
use Rattle.bgp_answer_laws.proofs.Lines.{IsPlain, both, nothing, word}

-- the type of an error, which has no name here
abbrev TypeOf : {A : Type 0} → A → Type 0
TypeOf {A} a = A

abbrev Code : Type 0
Code = TypeOf (error_of 0 0)

abbrev Is : Code → Type 0
Is error = IsPlain (data_text error.fixed)

abbrev IsError : Option Code → Type 0
IsError None = Unit {0}
IsError (Some error) = Is error

abbrev AreErrors : List (Option Code) → Type 0
AreErrors [] = Unit {0}
AreErrors (error ∷ errors) = IsError error × AreErrors errors

one : (error : Code) → Is error → IsPlain (error_text error)
one error is = both (plain (code_visible error.code error.subcode)) is

those_in : (errors : List (Option Code)) → AreErrors errors → All Is (errors_in errors)
those_in [] all = All-nil Is
those_in (None ∷ errors) all = those_in errors all.1
those_in (Some error ∷ errors) all = All-cons Is error (errors_in errors) all.0 (those_in errors all.1)

more : (front : List ℕ) → IsPlain front → (errors : List Code) → All Is errors → IsPlain (more_errors front errors)
more front before [] all = nothing
more front before (error ∷ []) all = both before (one error (All-head Is error [] all))
more front before (error ∷ another ∷ errors) all =
    both (word (codes ", ") refl) (both (one error (All-head Is error (another ∷ errors) all))
    (more front before (another ∷ errors) (All-tail Is error (another ∷ errors) all)))

one_after_another : (front : List ℕ) → IsPlain front → (errors : List Code) → All Is errors → IsPlain (errors_text front errors)
one_after_another front before [] all = nothing
one_after_another front before (error ∷ errors) all =
    both (one error (All-head Is error errors all)) (more front before errors (All-tail Is error errors all))

free_if : (is_in : Bool) (code subcode : ℕ) → IsError (error_if is_in code subcode)
free_if true code subcode = nothing
free_if false code subcode = tt

length_is : (field : Option ℕ) → IsError (length_error field)
length_is None = tt
length_is (Some field) = both (word (codes " with data ") refl) (encoded (big_bytes 2 field))

type_is : (field : Option ℕ) → IsError (type_error field)
type_is None = tt
type_is (Some field) = both (word (codes " with data ") refl) (encoded (field ∷ []))

header : (errors : HeaderFaults) → IsPlain (any_of (header_errors errors))
header errors =
    one_after_another (codes " or ") (word (codes " or ") refl) (errors_in (header_errors errors))
    (those_in (header_errors errors) (free_if errors.marker 1 1, (length_is errors.length, (type_is errors.kind, tt))))

-- ---- all items

pub item : (first : ℕ) (its : Item) → IsPlain (item_text first its)
unfolding due_text way_text
item first items.ReceivedMessage = plain (items_visible first items.ReceivedMessage tt)
item first items.SentOpen = plain (items_visible first items.SentOpen tt)
item first items.SentKeepalive = plain (items_visible first items.SentKeepalive tt)
item first items.SentUpdate = plain (items_visible first items.SentUpdate tt)
item first (items.HeaderErrors errors) = both (both (word (codes "NOTIFICATION ") refl) (header errors)) (word (codes " sent [RFC 4271 6.1]") refl)
item first (items.OpenErrors errors) = plain (items_visible first (items.OpenErrors errors) tt)
item first (items.UpdateErrors errors) = plain (items_visible first (items.UpdateErrors errors) tt)
item first (items.HoldTimerExpired from) = plain (items_visible first (items.HoldTimerExpired from) tt)
item first items.SendHoldTimerExpired = plain (items_visible first items.SendHoldTimerExpired tt)
item first (items.StateErrors errors) = plain (items_visible first (items.StateErrors errors) tt)
item first items.Cease = plain (items_visible first items.Cease tt)
item first (items.Change from to) = plain (items_visible first (items.Change from to) tt)
