-- Accounts after accounts.
use Rattle.std.proofs.Common.{◌≡◌, ◌∙◌, ℕ, List, [], ◌∷◌, ◌++◌, ap, sym, refl, subst, append_assoc, append-nil, arith, length, ◌≤◌, map}
use Rattle.std.specs.List.{AllByRecursion}
use Rattle.std.proofs.lemmas.Grind.{flat_map-append}
use Rattle.bgp_prefix.specs.Shown.{ShownRecord, Received, Sent, Changed}
use Rattle.bgp_prefix.specs.declared.address.Address.{Address}
use Rattle.bgp_prefix.specs.declared.address.Address.TheVariants.{V4, V6}
use Rattle.bgp_open.specs.declared.config.Config.{Config}
use Rattle.mrt.specs.Written.{record_octets, address_octets, body_len}
use Rattle.bgp_speaker.specs.declared.shown.Shown as declared
use Rattle.bgp_speaker.specs.Choosing.{Chooses, Drives, sent_in}
use Rattle.bgp_speaker.specs.Core.{CoreState, InputValue}
use Rattle.bgp_speaker.specs.Shown.{shown_value}
use Rattle.bgp_talk.specs.Account.{Telling, IsCalm, taken_by, taken_of}
use Rattle.mrt.specs.Rules.{body_limit}
use Rattle.bgp_speaker.proofs.EachShown.{message_room}
use Rattle.bgp_talk.specs.CoreFacts.{IsShort}
use Rattle.bgp_talk.specs.Talk.{capture_of}

pub taken_joined : (xs ys : List Telling) → taken_of (xs ++ ys) ≡ taken_of xs ++ taken_of ys
taken_joined [] ys = refl
taken_joined (x ∷ xs) ys =
    ap (λ (o : List ℕ). taken_by x ++ o) (taken_joined xs ys) ∙ sym (append_assoc (taken_by x) (taken_of xs) (taken_of ys))

pub calm_joined : (xs ys : List Telling) → IsCalm xs → IsCalm ys → IsCalm (xs ++ ys)
calm_joined [] ys a b = b
calm_joined (x ∷ xs) ys a b = (a.0, calm_joined xs ys a.1 b)

pub calm_first : (xs ys : List Telling) → IsCalm (xs ++ ys) → IsCalm xs
calm_first [] ys a = tt
calm_first (x ∷ xs) ys a = (a.0, calm_first xs ys a.1)

pub calm_last : (xs ys : List Telling) → IsCalm (xs ++ ys) → IsCalm ys
calm_last [] ys a = a
calm_last (x ∷ xs) ys a = calm_last xs ys a.1

pub capture_joined : (config : Config) (xs ys : List ShownRecord) → capture_of config (xs ++ ys) ≡ capture_of config xs ++ capture_of config ys
capture_joined config xs ys =
    flat_map-append (record_octets config.parts.session config.parts.peer_as config.parts.local_as) xs ys

pub sent_joined : (xs ys : List ShownRecord) → sent_in (xs ++ ys) ≡ sent_in xs ++ sent_in ys
sent_joined [] ys = refl
sent_joined (Received t octets ∷ xs) ys = sent_joined xs ys
sent_joined (Sent t octets ∷ xs) ys =
    ap (λ (o : List ℕ). octets ++ o) (sent_joined xs ys) ∙ sym (append_assoc octets (sent_in xs) (sent_in ys))
sent_joined (Changed t old new ∷ xs) ys = sent_joined xs ys

-- inputs after inputs
pub drives_joined : (a b c : CoreState) (xs ys : List (ℕ × InputValue)) (r more : List ShownRecord)
    → Drives a xs r b → Drives b ys more c → Drives a (xs ++ ys) (r ++ more) c
drives_joined a b c [] ys r more first second =
    subst (λ (q : List ShownRecord). Drives a ys (q ++ more) c) (sym first.0)
    (subst (λ (q : CoreState). Drives q ys more c) first.1 second)
drives_joined a b c (x ∷ xs) ys r more first second = (
  first.0,
  first.1,
  first.2 ++ more,
  first.3,
  drives_joined first.1 b c xs ys first.2 more first.4 second,
  ap (λ (q : List ShownRecord). q ++ more) first.5 ∙ append_assoc first.0 first.2 more,
)

-- one input
pub one_step : (a b : CoreState) (input : InputValue) (second : ℕ) (r : List ShownRecord)
    → Chooses a input second r b → Drives a ((second, input) ∷ []) r b
one_step a b input second r chosen = (r, b, [], chosen, (refl, refl), sym (append-nil r))

-- the text of records, the first of which is this one
pub text_first : {A : Type 0} (config : Config) (xs ys : List (declared.Shown A)) (x : declared.Shown A) (v : ShownRecord) → xs ≡ x ∷ ys → v ≡ shown_value x
    → capture_of config (map shown_value xs) ≡ record_octets config.parts.session config.parts.peer_as config.parts.local_as v ++ capture_of config (map shown_value ys)
text_first config xs ys x v is same =
    ap (λ (q : _). capture_of config (map shown_value q)) is
    ∙ ap (λ (q : ShownRecord). record_octets config.parts.session config.parts.peer_as config.parts.local_as q ++ capture_of config (map shown_value ys)) (sym same)

pub short_first : {A : Type 0} (config : Config) (xs ys : List (declared.Shown A)) (x : declared.Shown A) → xs ≡ x ∷ ys → AllByRecursion (IsShort config) (map shown_value xs)
    → IsShort config (shown_value x) × AllByRecursion (IsShort config) (map shown_value ys)
short_first config xs ys x is short = subst (λ (q : _). AllByRecursion (IsShort config) (map shown_value q)) is short

address_short : (a : Address) → length (address_octets a) ≤ 16
address_short (V4 n) = let four : length (address_octets (V4 n)) ≡ 4 = refl in omega (arith, four)
address_short (V6 n) = let more : length (address_octets (V6 n)) ≡ 16 = refl in omega (arith, more)

-- a record of a short message can be written
pub writable : (config : Config) (v : ShownRecord) → IsShort config v → body_len config.parts.session v ≤ body_limit config.parts.session
writable config v short =
    let room = message_room config.parts.session in
    let peer = address_short config.parts.session.peer in
    let local = address_short config.parts.session.local in omega (arith, short, peer, local, room)

pub no_octets : (xs : List ℕ) → length xs ≡ 0 → xs ≡ []
no_octets [] none = refl
no_octets (x ∷ xs) none = absurd (omega (arith, none))

pub empty_list : {A : Type 0} (xs : List A) → length xs ≡ 0 → xs ≡ []
empty_list [] none = refl
empty_list (x ∷ xs) none = absurd (omega (arith, none))
