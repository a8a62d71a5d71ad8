-- A rule that doesn't hold may be left out.
use Rattle.std.proofs.Common.{List, [], ◌∷◌, ◌++◌, inl, inr}
use Rattle.mrt.specs.Rules.{Rule, Judgement, Holds, FirstSays, place_of}
use Rattle.mrt.specs.Rules as r
use Rattle.mrt.specs.RefreshLaws.{NothingPassedOver}

without : (H : Rule → Type 0) (rule : Rule) (before later : List Rule) (judgement : Judgement) → (¬ H rule)
    → FirstSays H (before ++ rule ∷ later) judgement → FirstSays H (before ++ later) judgement
without H rule [] later judgement never (inl here) = absurd (never here.0)
without H rule [] later judgement never (inr there) = there.1
without H rule (first ∷ before) later judgement never (inl here) = inl here
without H rule (first ∷ before) later judgement never (inr there) = inr (there.0, without H rule before later judgement never there.1)

with_it : (H : Rule → Type 0) (rule : Rule) (before later : List Rule) (judgement : Judgement) → (¬ H rule)
    → FirstSays H (before ++ later) judgement → FirstSays H (before ++ rule ∷ later) judgement
with_it H rule [] later judgement never says = inr (never, says)
with_it H rule (first ∷ before) later judgement never (inl here) = inl here
with_it H rule (first ∷ before) later judgement never (inr there) = inr (there.0, with_it H rule before later judgement never there.1)

abbrev before_whole : List Rule
before_whole =
    r.Nothing ∷ r.CutHeader ∷ r.OtherTypeCut ∷ r.OtherType ∷ r.LongBody ∷ r.CutBody ∷ r.OtherSubtype ∷ r.NoFields ∷ r.OtherSession
    ∷ r.WithAddPath ∷ r.NoStates ∷ r.BadStates ∷ r.CutMessage ∷ r.Refresh ∷ []

abbrev behind_whole : List Rule
behind_whole = r.OtherLength ∷ r.Back ∷ r.Allowed ∷ []

pub nothing_passed_over : NothingPassedOver
nothing_passed_over session last octets judgement other =
    let never : ¬ Holds session last (place_of octets) r.WholeRefresh = (λ holds. other holds.2) in (
      λ says. without (Holds session last (place_of octets)) r.WholeRefresh before_whole behind_whole judgement never says,
      λ says. with_it (Holds session last (place_of octets)) r.WholeRefresh before_whole behind_whole judgement never says,
    )
