-- An order while it is made: the seconds of its records have 32 bits.
use Rattle.std.proofs.Common.{◌≡◌, ◌∙◌, ◌<◌, ◌^◌, ℕ, Bool, true, false, List, [], ◌∷◌, ◌++◌, Option, None, Some, map, subst, sym}
use Rattle.std.proofs.lemmas.Bool.{false≢true}
use Rattle.std.specs.List.{AllByRecursion}
use Rattle.bgp_prefix.specs.Shown.{second_of}
use Rattle.bgp_recording.specs.declared.entry.Entry.{Entry}
use Rattle.bgp_recording.specs.declared.ordering.Exchange.{Exchange}
use Rattle.bgp_recording.specs.declared.pending.Turn.{Turn}
use Rattle.bgp_recording.specs.declared.pending.Turn.TheVariants as turns
use Rattle.bgp_recording.specs.declared.state.State.{State}
use Rattle.bgp_recording.specs.declared.pending.Moment.{Moment}
use Rattle.bgp_recording.specs.Changes.{led_by_end, led_by_left, are_left, state_then}
use Rattle.bgp_recording.specs.Steps.{Making, Shows, StepsOrEnds, Begins}
use Rattle.bgp_recording.specs.Tells.{Numbered, numbered_of, change, HasSecond}
use Rattle.bgp_recording.specs.Moments.{end_moment, moment_in}
use Rattle.bgp_recording.proofs.Lists.{all_append}

abbrev pub IsShort : Numbered → Type 0
IsShort numbered = second_of numbered.shown < 2 ^ 32

abbrev pub AreShort : Making → Type 0
AreShort making = AllByRecursion IsShort making.numbered

change_short : (moment : Moment) (second : ℕ) (state : State) (led : Option State) → second < 2 ^ 32 → AllByRecursion IsShort (change moment second state led)
change_short moment second state None fits = tt
change_short moment second state (Some led) fits = (fits, tt)

-- others of such seconds were appended
more_short : (old new more : List Numbered) → new ≡ old ++ more → AllByRecursion IsShort more → AllByRecursion IsShort old → AllByRecursion IsShort new
more_short old new more put all h = subst (λ (ns : List Numbered). AllByRecursion IsShort ns) (sym put) (all_append IsShort old more h all)

by_turn : (old new : Making) (turn : Turn) → Shows old turn new → AreShort old → AreShort new
by_turn old new (turns.Received r) shows h = more_short old.numbered new.numbered _ shows.put (shows.fits, change_short (moment_in r) new.last old.state _ shows.fits) h
by_turn old new (turns.Sent s) shows h = more_short old.numbered new.numbered _ shows.put (shows.fits, change_short (moment_in s) new.last old.state _ shows.fits) h
by_turn old new (turns.End e) shows h =
    let led = led_by_end old.state in
    let ended = state_then old.state led in
    let left = led_by_left old.state (are_left new.pending.received) in
    more_short old.numbered new.numbered _ shows.put
    (all_append IsShort (change (end_moment e) new.last old.state led) (change (end_moment e) new.last ended left)
    (change_short (end_moment e) new.last old.state led shows.fits) (change_short (end_moment e) new.last ended left shows.fits)) h

pub begins_short : (exchange : Exchange) (making : Making) → Begins exchange making → AreShort making
begins_short exchange making begun = subst (λ (ns : List Numbered). AllByRecursion IsShort ns) (sym begun.opens) (begun.fits, tt)

pub short_where : (within : ℕ) (old new : Making) (more : Bool) → more ≡ true → StepsOrEnds within old more new → AreShort old → AreShort new
short_where within old new true is steps h = by_turn old new steps.turn steps.shows h
short_where within old new false is steps h = absurd (false≢true is)

entries_short : (entries : List Entry) → AllByRecursion IsShort (map numbered_of entries) → AllByRecursion HasSecond entries
entries_short [] h = tt
entries_short (e ∷ es) h = (h.0, entries_short es h.1)

pub have_seconds : (within : ℕ) (old new inside : Making) (more : Bool) (entries : List Entry) → more ≡ false → StepsOrEnds within old more new → inside ≡ new → inside.numbered ≡ map numbered_of entries
    → AreShort old → AllByRecursion HasSecond entries
have_seconds within old new inside true entries is ends view of h = absurd (false≢true (sym is))
have_seconds within old new inside false entries is ends view of h =
    entries_short entries (subst (λ (ns : List Numbered). AllByRecursion IsShort ns) of (subst AreShort (sym (view ∙ ends.1)) h))
