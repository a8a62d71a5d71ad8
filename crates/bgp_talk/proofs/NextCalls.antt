-- Each telling of a talk answers the one call that is next.
use Rattle.std.proofs.Common.{◌≡◌, ◌∙◌, ℕ, suc, ◌+◌, ◌<◌, List, [], ◌∷◌, ◌++◌, length, ap, sym, arith, Bool, false, Option, Some}
use Rattle.bgp_prefix.specs.Shown.{ShownRecord}
use Rattle.bgp_speaker.specs.Core.{InputValue}
use Rattle.bgp_talk.specs.Account.{Telling, Asked, Read, Clock, Wrote}
use Rattle.bgp_talk.specs.CoreFacts.{is_resting}
use Rattle.bgp_talk.specs.Talk.{Standing, IsFree, Goes}
use Rattle.bgp_talk.specs.NextCall.{Call, Reading, Writing, call_of, free_call, owed_call, unsent_call, next_call}
use Rattle.bgp_talk.specs.TalkLaws.{OneCallIsNext}
use Rattle.bgp_talk.specs.declared.wire.Connection.{Connection}
use Rattle.bgp_talk.specs.declared.wire.Connection.TheVariants.{Stands}

-- what is next where there is nothing else to do
abbrev free_of : Standing → Option Call
free_of s = free_call s.connection (is_resting s.core) s.left

free_next : (s : Standing) → IsFree s → next_call s ≡ free_of s
free_next s free =
    ap (λ (o : List ℕ). unsent_call o (owed_call s.owed (free_of s))) free.1
    ∙ ap (λ (o : List InputValue). owed_call o (free_of s)) free.0

-- where octets are to be sent
unsent_next : (octets : List ℕ) (given : ℕ) (sent : Option Call) → 0 < length octets → given ≡ length octets → unsent_call octets sent ≡ Some (Writing given)
unsent_next [] given sent some whole = absurd (omega (arith, some))
unsent_next (x ∷ xs) given sent some whole = ap (λ (n : ℕ). Some (Writing n)) (sym whole)

some_octets : (octets more : List ℕ) (octet : ℕ) → octets ≡ octet ∷ more → 0 < length octets
some_octets [] more octet is = absurd (cc)
some_octets (x ∷ xs) more octet is = omega arith

next_goes : (s e : Standing) (told : Telling) (records : List ShownRecord) → Goes s told records e → next_call s ≡ Some (call_of told)
next_goes s e (Asked answer) records goes =
    free_next s goes.0.free ∙ ap (λ (k : Connection). free_call k (is_resting s.core) s.left) goes.0.once
next_goes s e (Read room told) records goes =
    let more : e.left + 1 ≡ suc e.left = omega arith in
    free_next s goes.0.free
    ∙ ap (λ (k : Connection). free_call k (is_resting s.core) s.left) goes.0.stands
    ∙ ap (λ (b : Bool). free_call Stands b s.left) goes.0.awake
    ∙ ap (λ (n : ℕ). free_call Stands false n) (goes.0.takes ∙ more)
    ∙ ap (λ (n : ℕ). Some (Reading n)) (sym goes.0.wide)
next_goes s e (Clock second) records goes =
    ap (λ (o : List ℕ). unsent_call o (owed_call s.owed (free_of s))) goes.sent
    ∙ ap (λ (o : List InputValue). owed_call o (free_of s)) goes.owed
next_goes s e (Wrote given []) records goes =
    unsent_next s.unsent given (owed_call s.owed (free_of s)) goes.0.some goes.0.whole
next_goes s e (Wrote given (octet ∷ octets)) records goes =
    unsent_next s.unsent given (owed_call s.owed (free_of s)) (some_octets s.unsent (octets ++ e.unsent) octet goes.0.unsent) goes.0.whole

pub one_call_is_next : OneCallIsNext
one_call_is_next s e told account records talks = next_goes s talks.1 told talks.0 talks.3
