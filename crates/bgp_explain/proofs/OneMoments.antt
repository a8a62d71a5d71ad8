-- Records have one first second, one second of each that is named, and one NOTIFICATION that was sent last.
use Rattle.std.proofs.Common.{◌≡◌, ◌∙◌, ◌≤◌, ◌+◌, ◌++◌, ◌∷◌, ℕ, List, [], Option, None, Some, ap, arith, length, refl, sym, subst}
use Rattle.bgp_prefix.specs.Shown.{ShownRecord, Received, Sent, Changed, second_of}
use Rattle.bgp_open.specs.declared.config.Config.{Config}
use Rattle.bgp_open.specs.declared.link.Link.{Link}
use Rattle.bgp_reason.proofs.OneForAll.{one_code, one_subcode}
use Rattle.bgp_reason.specs.Sending.{sending_link}
use Rattle.bgp_reason.specs.Told.{told}
use Rattle.bgp_explain.specs.declared.moments.Moments.{Moments}
use Rattle.bgp_explain.specs.declared.moments.SentNotification.{SentNotification}
use Rattle.bgp_explain.specs.Moments.{AreMomentsOf, IsLastSent, IsSecondOf, IsSentAs, first_number, last_number}

-- a list has one item after so many, and these before it
pub one_place : (xs ys zs vs : List ShownRecord) (x y : ShownRecord) → xs ++ x ∷ zs ≡ ys ++ y ∷ vs → length xs ≡ length ys → (xs ≡ ys) × (x ≡ y)
one_place [] [] zs vs x y e same = (refl, let h : x ≡ y = cc in h)
one_place [] (b ∷ ys) zs vs x y e same = absurd (omega (arith, same))
one_place (a ∷ xs) [] zs vs x y e same = absurd (omega (arith, same))
one_place (a ∷ xs) (b ∷ ys) zs vs x y e same =
    let heads : a ≡ b = cc in
    let tails : xs ++ x ∷ zs ≡ ys ++ y ∷ vs = cc in
    let many : length xs ≡ length ys = omega (arith, same) in
    let is = one_place xs ys zs vs x y tails many in
    let fronts = is.0 in (λ i. heads i ∷ fronts i, is.1)

one_second : (records : List ShownRecord) (o a b : Option ℕ) → IsSecondOf records o a → IsSecondOf records o b → a ≡ b
one_second records None a b h k = h ∙ sym k
one_second records (Some n) None b h k = absurd h
one_second records (Some n) (Some x) None h k = absurd k
one_second records (Some n) (Some x) (Some y) h k =
    let number = sym h.number_is ∙ k.number_is in
    let many : length h.before ≡ length k.before = omega (arith, number) in
    let is = one_place h.before k.before h.after k.after h.shown k.shown (sym h.whole ∙ k.whole) many in
    ap Some (h.second_is ∙ ap second_of is.1 ∙ sym k.second_is)

one_sent : (link : Option Link) (shown : ShownRecord) (a b : SentNotification) → a.number ≡ b.number → IsSentAs link shown a → IsSentAs link shown b → a ≡ b
one_sent link (Received t octets) a b number h k = absurd h
one_sent link (Changed t x y) a b number h k = absurd h
one_sent link (Sent t octets) a b number h k =
    let second = h.1 ∙ sym k.1 in
    let e = sym h.2.1.body ∙ k.2.1.body in
    let code = one_code a.code a.subcode b.code b.subcode h.2.0 k.2.0 e in
    let subcode = one_subcode a.code a.subcode b.code b.subcode h.2.0 k.2.0 e in
    λ i. record { number = number i; second = second i; code = code i; subcode = subcode i }

one_last : (config : Config) (records : List ShownRecord) (a b : Option SentNotification) → IsLastSent config records a → IsLastSent config records b → a ≡ b
one_last config records None None h k = refl
one_last config records None (Some b) h k = absurd (h b k.0)
one_last config records (Some a) None h k = absurd (k a h.0)
one_last config records (Some a) (Some b) h k =
    let least = h.1 b k.0 in
    let most = k.1 a h.0 in
    let number : a.number ≡ b.number = omega (arith, least, most) in
    let counts = sym h.0.number ∙ number ∙ k.0.number in
    let many : length h.0.before ≡ length k.0.before = omega (arith, counts) in
    let is = one_place h.0.before k.0.before h.0.after k.0.after h.0.shown k.0.shown (sym h.0.whole ∙ k.0.whole) many in
    let there = subst (λ (v : List ShownRecord). IsSentAs (sending_link config v) k.0.shown b) (sym is.0) k.0.is in
    ap Some (one_sent (sending_link config h.0.before) h.0.shown a b number h.0.is
    (subst (λ (r : ShownRecord). IsSentAs (sending_link config h.0.before) r b) (sym is.1) there))

pub one_moments : (config : Config) (records : List ShownRecord) (a b : Moments) → AreMomentsOf config records a → AreMomentsOf config records b → a ≡ b
one_moments config records a b h k =
    let first = one_second records (first_number records) a.first b.first h.first k.first in
    let told_by = one_second records (told records).told_by a.told_by b.told_by h.told_by k.told_by in
    let received = one_second records (told records).last_received a.last_received b.last_received h.last_received k.last_received in
    let last = one_second records (last_number records) a.last b.last h.last k.last in
    let notification = one_last config records a.notification b.notification h.notification k.notification in
    λ i. record { first = first i; told_by = told_by i; last_received = received i; last = last i; notification = notification i }
