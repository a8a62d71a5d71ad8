-- What is kept of records, one after another, and the verdict on them in the end.
use Rattle.std.proofs.Common.{◌≡◌, ◌∙◌, ◌+◌, ◌<◌, ◌++◌, ◌∷◌, [], ℕ, false, List, Option, None, Some, IfSome, IsTrue, is_some, length, length-append, take, refl, sym, ap, subst, append_assoc, arith, inl, inr}
use Rattle.std.proofs.Math.Seq.{take-append_seam, take-append-add}
use Rattle.bgp_prefix.specs.Shown.{ShownRecord, Received, Sent, Changed}
use Rattle.bgp_open.specs.declared.config.Config.{Config}
use Rattle.bgp_machine.specs.Run.{Begins}
use Rattle.bgp_judge.specs.Verdict.{HasVerdict, No}
use Rattle.bgp_judge.specs.declared.verdict.Verdict.TheVariants as verdicts
use Rattle.bgp_judge.proofs.CaptureSoFar.{one_longer}
use Rattle.bgp_reason.specs.declared.told.Told.{Told}
use Rattle.bgp_reason.specs.Told.{ToldOneMore, last_from, last_message, told_with}
use Rattle.bgp_explain.specs.declared.so_far.Stop.{Stop}
use Rattle.bgp_explain.specs.declared.so_far.Progress.{Progress}
use Rattle.bgp_explain.specs.Kept.{shown_by}
use Rattle.bgp_explain.specs.declared.explained.Impossible.{Impossible}
use Rattle.bgp_explain.specs.declared.explained.Reason.{Reason}
use Rattle.bgp_explain.specs.Progress.{IsAtBy, IsNamed, IsToldOf, StopsAt}
use Rattle.bgp_explain.specs.Reason.{HasReason, IsImpossible, IsNext, IsReasonAt}
use Rattle.bgp_explain.specs.Moments.{AreMomentsOf}
use Rattle.bgp_explain.specs.Sending.{IsSendingAt}
use Rattle.bgp_explain.specs.declared.left_out.LeftOut.{LeftOut}
use Rattle.bgp_explain.specs.LeftOut.{AreJudged, JudgesWithout, LeavesOut}
use Rattle.bgp_explain.specs.Offers.{AreOffersAt}
use Rattle.bgp_explain.specs.declared.tally.Tally.{Tally}
use Rattle.bgp_explain.specs.Tally.{no_tally, tally_from, tally_of, tally_with}
use Rattle.bgp_judge.specs.Told.{Told as JudgedTold, fresh_told, told as judged_told, told_from, told_next}
use Rattle.bgp_tool.specs.Seen.{seen_in}

last_more : (last : List ℕ) (records : List ShownRecord) (r : ShownRecord) → last_from last (records ++ r ∷ []) ≡ last_from (last_from last records) (r ∷ [])
last_more last [] r = refl
last_more last (Received t octets ∷ records) r = last_more octets records r
last_more last (Sent t octets ∷ records) r = last_more last records r
last_more last (Changed t x y ∷ records) r = last_more last records r

tally_joined : (t : Tally) (T : JudgedTold) (xs : List ShownRecord) (r : ShownRecord)
    → tally_from t T (xs ++ r ∷ []) ≡ tally_with (tally_from t T xs) (told_from T xs).fsm r
tally_joined t T [] r = refl
tally_joined t T (x ∷ xs) r = tally_joined (tally_with t T.fsm x) (told_next T x) xs r

-- one record more is counted, in the state that is told
pub tally_more : (records : List ShownRecord) (r : ShownRecord) → tally_with (tally_of records) (judged_told records).fsm r ≡ tally_of (records ++ r ∷ [])
tally_more records r = sym (tally_joined no_tally fresh_told records r)

pub is_none : {T : Type 0} (o : Option T) → is_some o ≡ false → o ≡ None
is_none None e = refl
is_none (Some x) e = absurd (let k : ⊥ = cc in k)

-- one record more is told
pub told_more : {X : Type 0} → ToldOneMore → (records : List ShownRecord) (r : ShownRecord) (config : Config) (old new : Progress X) → IsToldOf config records old
    → AreMomentsOf config (records ++ r ∷ []) new.moments → IsSendingAt config (records ++ r ∷ []) new.sending → new.tally ≡ tally_of (records ++ r ∷ []) → new.seen ≡ seen_in (records ++ r ∷ []) → new.count ≡ old.count + 1 → new.told ≡ told_with (old.count + 1) r old.told
    → ((octets : List ℕ) → IfSome old.last_message (λ message. message.items ≡ octets) → IfSome new.last_message (λ message. message.items ≡ last_from octets (r ∷ [])))
    → IsToldOf config (records ++ r ∷ []) new
told_more law records r config old new is moments sends tallies sees count tells last = record {
  moments = moments;
  sending = sends;
  tally = tallies;
  seen = sees;
  count = count ∙ sym (one_longer records r old.count (sym is.count));
  told = tells ∙ ap (λ (k : ℕ). told_with (k + 1) r old.told) is.count ∙ ap (λ (t : Told). told_with (length records + 1) r t) is.told ∙ sym (law records r);
  last_message = subst (λ (l : List ℕ). IfSome new.last_message (λ message. message.items ≡ l)) (sym (last_more [] records r)) (last (last_message records) is.last_message);
}

module _ {X : Type 0} (stands : Config → List ShownRecord → Type 0) (config : Config) where
  -- after the first impossible record nothing changes
  pub stays : (records : List ShownRecord) (r : ShownRecord) (p : Progress X) (o : Option (Stop X)) → IsTrue (is_some o) → IsAtBy stands config records p o
      → IsAtBy stands config (records ++ r ∷ []) p o
  stays records r p None some at = absurd (let k : ⊥ = cc in k)
  stays records r p (Some i) some at = record {
    before = at.before;
    shown = at.shown;
    after = at.after ++ r ∷ [];
    split = ap (λ (v : List ShownRecord). v ++ r ∷ []) at.split ∙ append_assoc at.before (at.shown ∷ at.after) (r ∷ []);
    begins = at.begins;
    stops = at.stops;
    tells = at.tells;
    found = at.found;
  }

  -- until then all of it is so
  pub none_yet : (records : List ShownRecord) (p : Progress X) (o : Option (Stop X)) → o ≡ None → IsAtBy stands config records p o
      → stands config records × Begins config records × IsToldOf config records p
  none_yet records p o none at = subst (λ (v : Option (Stop X)). IsAtBy stands config records p v) none at

  pub none_at : (records : List ShownRecord) (p : Progress X) (o : Option (Stop X)) → o ≡ None → stands config records → Begins config records → IsToldOf config records p
      → IsAtBy stands config records p o
  none_at records p o none stand begins tells = subst (λ (v : Option (Stop X)). IsAtBy stands config records p v) (sym none) (stand, begins, tells)

  pub some_stop : (records : List ShownRecord) (p : Progress X) (o : Option (Stop X)) (i : Stop X) → o ≡ Some i → IsAtBy stands config records p o
      → StopsAt config records p i
  some_stop records p o i some at = subst (λ (v : Option (Stop X)). IsAtBy stands config records p v) some at

-- the records that were judged, and what they tell
pub record JudgedSoFar {X : Type 0} (config : Config) (records : List ShownRecord) (p : Progress X) : Type 0 where
  pub judged : List ShownRecord
  pub are_judged : AreJudged config records judged
  pub tells : IsToldOf config judged p

pub judged_so_far : {X : Type 0} (stands : Config → List ShownRecord → Type 0) (config : Config) (records : List ShownRecord) (p : Progress X) (o : Option (Stop X))
    → IsAtBy stands config records p o → JudgedSoFar config records p
judged_so_far stands config records p None at = record { judged = records; are_judged = (at.1, inl refl); tells = at.2 }
judged_so_far stands config records p (Some i) at = record {
  judged = at.before;
  are_judged = (at.begins, inr (at.shown, at.after, at.split, at.stops));
  tells = at.tells;
}

-- what is left out of them is left out
pub judges_without : {X : Type 0} (stands : Config → List ShownRecord → Type 0) (config : Config) (records : List ShownRecord) (p : Progress X) (left_out : LeftOut)
    → IsAtBy stands config records p p.stop → ((some : List ShownRecord) → AreOffersAt some p.sending.offers → LeavesOut config some left_out)
    → JudgesWithout config records left_out
judges_without stands config records p left_out at leaves =
    let so = judged_so_far stands config records p p.stop at in
    record { judged = so.judged; are_judged = so.are_judged; leaves_out = leaves so.judged so.tells.sending.offers }

-- ---- the verdict

module _ {X : Type 0} (config : Config) (records : List ShownRecord) (p : Progress X) (i : Stop X) (at : StopsAt config records p i) where
  before_it : take p.count records ≡ at.before
  before_it =
      ap (λ (v : List ShownRecord). take p.count v) at.split ∙ ap (λ (n : ℕ). take n (at.before ++ at.shown ∷ at.after)) at.tells.count
      ∙ take-append_seam at.before (at.shown ∷ at.after)

  with_it : take (p.count + 1) records ≡ at.before ++ at.shown ∷ []
  with_it =
      ap (λ (v : List ShownRecord). take (p.count + 1) v) at.split
      ∙ ap (λ (n : ℕ). take (n + 1) (at.before ++ at.shown ∷ at.after)) at.tells.count
      ∙ take-append-add at.before (at.shown ∷ at.after) 1

  within : p.count < length records
  within =
      let many = ap length at.split ∙ length-append at.before (at.shown ∷ at.after) in
      let count = at.tells.count in omega (arith, many, count)

  pub no_is : HasVerdict config records (No p.count)
  no_is = (
    within,
    subst (λ (v : List ShownRecord). Begins config v) (sym before_it) at.begins,
    λ more. at.stops (subst (λ (v : List ShownRecord). Begins config v) with_it more),
  )

  -- what was kept of the record is what is named next
  next_of : (o : Option (Impossible X)) → IsNamed at.before at.shown o → IsNext config (take p.count records) o (take (p.count + 1) records)
  next_of None named = absurd named
  next_of (Some impossible) named = (
    subst (λ (v : List ShownRecord). IsImpossible config v impossible) (sym before_it)
        (record {
          number = named.0;
          stops = λ more. at.stops (subst (λ (r : ShownRecord). Begins config (at.before ++ r ∷ [])) named.1 more);
        }),
    with_it ∙ ap (λ (r : ShownRecord). at.before ++ r ∷ []) (sym named.1) ∙ ap (λ (v : List ShownRecord). v ++ shown_by impossible.«record» ∷ []) (sym before_it),
  )

  pub no_for : (Y : Type 0) (reason : Option (Reason X)) → IfSome reason (λ r. IsReasonAt config at.before r × IsNamed at.before at.shown r.impossible)
      → HasReason {X = Y} config records (verdicts.No p.count) reason
  no_for Y None is = tt
  no_for Y (Some reason) is = (subst (λ (v : List ShownRecord). IsReasonAt config v reason) (sym before_it) is.0, next_of reason.impossible is.1)

pub unfinished_for : {X : Type 0} (config : Config) (records : List ShownRecord) (Y : Type 0) (reason : Option (Reason X)) → IfSome reason (λ r. IsReasonAt config records r × (r.impossible ≡ None))
    → HasReason {X = Y} config records verdicts.Unfinished reason
unfinished_for config records Y None is = tt
unfinished_for config records Y (Some reason) is = is
