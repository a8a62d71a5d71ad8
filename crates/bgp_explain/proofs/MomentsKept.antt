-- The moments of a session's records go on record by record.
use Rattle.std.proofs.Common.{◌≡◌, ◌∙◌, ◌==◌, ◌≤◌, ◌+◌, ◌++◌, ◌⊎◌, ℕ, Bool, true, false, List, [], ◌∷◌, Option, None, Some, IfSome, IfNone, if◌then◌else◌, inl, inr, length, length-append, refl, sym, ap, subst, append_assoc, arith}
use Rattle.std.proofs.lemmas.Bool.{eqb-true, eqb-false}
use Rattle.std.specs.List.{AllByRecursion}
use Rattle.bgp_prefix.specs.Shown.{ShownRecord, Received, Sent, Changed, second_of}
use Rattle.bgp_open.specs.declared.config.Config.{Config}
use Rattle.bgp_open.specs.declared.link.Link.{Link}
use Rattle.bgp_machine.specs.declared.fsm.Fsm.{Fsm}
use Rattle.bgp_machine.specs.declared.fsm.Fsm.TheVariants as fsms
use Rattle.bgp_machine.specs.Going.{fsm_at}
use Rattle.bgp_reason.specs.declared.told.Told.{Told}
use Rattle.bgp_reason.specs.Sending.{sending_link}
use Rattle.bgp_reason.specs.Told.{ToldOneMore, told, told_by_change, told_by_message, told_with}
use Rattle.bgp_tool.specs.Seen.{leaves_idle}
use Rattle.bgp_explain.specs.declared.moments.Moments.{Moments}
use Rattle.bgp_explain.specs.declared.moments.SentNotification.{SentNotification}
use Rattle.bgp_explain.specs.Fractions.{IsNameAfter, number_in}
use Rattle.bgp_explain.specs.Moments.{AreMomentsOf, IsLastSent, IsSecondAt, IsSecondOf, IsSentAs, IsSentSinceIdle, LeavesNoIdle, first_number, first_with, last_number, named_with, notification_with}

-- ---- the last one of a list

some_more : {X : Type 0} (xs : List X) (x : X) → xs ++ x ∷ [] ≡ [] → ⊥
some_more [] x e = absurd (let k : ⊥ = cc in k)
some_more (y ∷ xs) x e = absurd (let k : ⊥ = cc in k)

one_more : {X : Type 0} (xs ys : List X) (x y : X) → xs ++ x ∷ [] ≡ ys ++ y ∷ [] → (xs ≡ ys) × (x ≡ y)
one_more [] [] x y e = (refl, let h : x ≡ y = cc in h)
one_more [] (b ∷ ys) x y e = absurd (some_more ys y (let h : ys ++ y ∷ [] ≡ [] = cc in h))
one_more (a ∷ xs) [] x y e = absurd (some_more xs x (let h : xs ++ x ∷ [] ≡ [] = cc in h))
one_more (a ∷ xs) (b ∷ ys) x y e =
    let heads : a ≡ b = cc in
    let tails : xs ++ x ∷ [] ≡ ys ++ y ∷ [] = cc in
    let is = one_more xs ys x y tails in
    let same = is.0 in (λ i. heads i ∷ same i, is.1)

abbrev EndsIn : {X : Type 0} → List X → Type 0
EndsIn {X} xs = (xs ≡ []) ⊎ ((init : List X) × (x : X) × (xs ≡ init ++ x ∷ []))

grown : {X : Type 0} (y : X) (xs : List X) → EndsIn xs → EndsIn (y ∷ xs)
grown y xs (inl e) = inr ([], y, ap (λ v. y ∷ v) e)
grown y xs (inr l) = inr (y ∷ l.0, l.1, ap (λ v. y ∷ v) l.2)

ends_in : {X : Type 0} (xs : List X) → EndsIn xs
ends_in [] = inl refl
ends_in (x ∷ xs) = grown x xs (ends_in xs)

-- one of the records with one more is that one, or one of those before
abbrev Splits : (records before after : List ShownRecord) (r shown : ShownRecord) → Type 0
Splits records before after r shown =
    ((before ≡ records) × (shown ≡ r))
    ⊎ ((init : List ShownRecord) × (after ≡ init ++ r ∷ []) × (records ≡ before ++ shown ∷ init))

splits_by : (records before after : List ShownRecord) (r shown : ShownRecord) → records ++ r ∷ [] ≡ before ++ shown ∷ after → EndsIn after → Splits records before after r shown
splits_by records before after r shown e (inl none) =
    let is = one_more records before r shown (e ∙ ap (λ (v : List ShownRecord). before ++ shown ∷ v) none) in inl (sym is.0, sym is.1)
splits_by records before after r shown e (inr l) =
    let is = one_more records (before ++ shown ∷ l.0) r l.1 (e ∙ ap (λ (v : List ShownRecord). before ++ shown ∷ v) l.2 ∙ sym (append_assoc before (shown ∷ l.0) (l.1 ∷ []))) in
    inr (l.0, l.2 ∙ ap (λ (x : ShownRecord). l.0 ++ x ∷ []) (sym is.1), is.0)

splits : (records before after : List ShownRecord) (r shown : ShownRecord) → records ++ r ∷ [] ≡ before ++ shown ∷ after → Splits records before after r shown
splits records before after r shown e = splits_by records before after r shown e (ends_in after)

-- ---- the seconds

second_more : (records : List ShownRecord) (r : ShownRecord) (n s : ℕ) → IsSecondAt records n s → IsSecondAt (records ++ r ∷ []) n s
second_more records r n s is = record {
  before = is.before;
  shown = is.shown;
  after = is.after ++ r ∷ [];
  whole = ap (λ (v : List ShownRecord). v ++ r ∷ []) is.whole ∙ append_assoc is.before (is.shown ∷ is.after) (r ∷ []);
  number_is = is.number_is;
  second_is = is.second_is;
}

second_here : (records : List ShownRecord) (r : ShownRecord) (n s : ℕ) → n ≡ length records + 1 → s ≡ second_of r → IsSecondAt (records ++ r ∷ []) n s
second_here records r n s number second = record { before = records; shown = r; after = []; whole = refl; number_is = number; second_is = second }

second_stays : (records : List ShownRecord) (r : ShownRecord) (n : ℕ) (s : Option ℕ) → IsSecondOf records (Some n) s → IsSecondOf (records ++ r ∷ []) (Some n) s
second_stays records r n None is = absurd is
second_stays records r n (Some s) is = second_more records r n s is

first_more : (records : List ShownRecord) (r : ShownRecord) (s : Option ℕ) (second : ℕ) → second ≡ second_of r → IsSecondOf records (first_number records) s
    → IsSecondOf (records ++ r ∷ []) (first_number (records ++ r ∷ [])) (first_with s second)
first_more [] r None second e is = second_here [] r 1 second refl e
first_more [] r (Some s) second e is = absurd (let k : ⊥ = cc in k)
first_more (x ∷ xs) r None second e is = absurd is
first_more (x ∷ xs) r (Some s) second e is = second_more (x ∷ xs) r 1 s is

last_more : (records : List ShownRecord) (r : ShownRecord) (second : ℕ) → second ≡ second_of r → IsSecondOf (records ++ r ∷ []) (last_number (records ++ r ∷ [])) (Some second)
last_more [] r second e = second_here [] r 1 second refl e
last_more (x ∷ xs) r second e =
    let long = length-append xs (r ∷ []) in
    second_here (x ∷ xs) r (length (xs ++ r ∷ []) + 1) second (let k : length (xs ++ r ∷ []) + 1 ≡ length (x ∷ xs) + 1 = omega (arith, long) in k) e

module _ (records : List ShownRecord) (r : ShownRecord) (number second : ℕ) (next : number ≡ length records + 1) (its : second ≡ second_of r) where
  named_by : (b : Bool) (name : ℕ) (before : Option ℕ) (s : Option ℕ) → (name == number) ≡ b → IsSecondOf records before s → IsNameAfter number before (Some name)
      → IsSecondOf (records ++ r ∷ []) (Some name) (if b then Some second else s)
  named_by true name before s same is names = second_here records r name second (eqb-true name number same ∙ next) its
  named_by false name before s other is (inl e) = second_stays records r name s (subst (λ (o : Option ℕ). IsSecondOf records o s) (sym e) is)
  named_by false name before s other is (inr (inl e)) =
      let same : name ≡ number = cc in absurd (eqb-false name number other same)
  named_by false name before s other is (inr (inr e)) = absurd (let k : ⊥ = cc in k)

  named_more : (name before s : Option ℕ) → IsSecondOf records before s → IsNameAfter number before name → IsSecondOf (records ++ r ∷ []) name (named_with name s number second)
  named_more None before s is names = refl
  named_more (Some name) before s is names = named_by (name == number) name before s refl is names

-- what is named after one record more
abbrev pub AreToldAfter : ℕ → Told → Told → Type 0
AreToldAfter number t after = IsNameAfter number t.told_by after.told_by × IsNameAfter number t.last_received after.last_received

by_message : (number : ℕ) (f : Fsm) (t : Told) → AreToldAfter number t (told_by_message number f t)
by_message number fsms.Idle t = (inl refl, inl refl)
by_message number fsms.Connect t = (inl refl, inr (inl refl))
by_message number fsms.Active t = (inl refl, inr (inl refl))
by_message number fsms.OpenSent t = (inl refl, inr (inl refl))
by_message number fsms.OpenConfirm t = (inl refl, inr (inl refl))
by_message number fsms.Established t = (inl refl, inr (inl refl))

by_change : (number : ℕ) (o : Option Fsm) (t : Told) → AreToldAfter number t (told_by_change number o t)
by_change number None t = (inl refl, inl refl)
by_change number (Some fsms.Idle) t = (inr (inl refl), inr (inr refl))
by_change number (Some fsms.Connect) t = (inr (inl refl), inl refl)
by_change number (Some fsms.Active) t = (inr (inl refl), inl refl)
by_change number (Some fsms.OpenSent) t = (inr (inl refl), inl refl)
by_change number (Some fsms.OpenConfirm) t = (inr (inl refl), inl refl)
by_change number (Some fsms.Established) t = (inr (inl refl), inl refl)

pub by_record : (number : ℕ) (r : ShownRecord) (t : Told) → AreToldAfter number t (told_with number r t)
by_record number (Received second octets) t = by_message number t.state t
by_record number (Sent second octets) t = (inl refl, inl refl)
by_record number (Changed second old new) t = by_change number (fsm_at new) t

-- ---- the NOTIFICATION

all_before : (xs : List ShownRecord) (r : ShownRecord) → AllByRecursion LeavesNoIdle (xs ++ r ∷ []) → AllByRecursion LeavesNoIdle xs × (leaves_idle r ≡ false)
all_before [] r all = (tt, all.0)
all_before (x ∷ xs) r all = let is = all_before xs r all.1 in ((all.0, is.0), is.1)

all_behind : (xs : List ShownRecord) (r : ShownRecord) → AllByRecursion LeavesNoIdle xs → leaves_idle r ≡ false → AllByRecursion LeavesNoIdle (xs ++ r ∷ [])
all_behind [] r all stays = (stays, tt)
all_behind (x ∷ xs) r all stays = (all.0, all_behind xs r all.1 stays)

module _ (config : Config) (records : List ShownRecord) where
  sent_within : (sent : SentNotification) → IsSentSinceIdle config records sent → sent.number ≤ length records
  sent_within sent is =
      let many = ap length is.whole ∙ length-append is.before (is.shown ∷ is.after) in
      let number = is.number in omega (arith, many, number)

  module _ (r : ShownRecord) where
    sent_here : (sent : SentNotification) → sent.number ≡ length records + 1 → IsSentAs (sending_link config records) r sent → IsSentSinceIdle config (records ++ r ∷ []) sent
    sent_here sent number is = record { before = records; shown = r; after = []; whole = refl; number = number; is = is; since = tt }

    sent_stays : (sent : SentNotification) → leaves_idle r ≡ false → IsSentSinceIdle config records sent → IsSentSinceIdle config (records ++ r ∷ []) sent
    sent_stays sent stays is = record {
      before = is.before;
      shown = is.shown;
      after = is.after ++ r ∷ [];
      whole = ap (λ (v : List ShownRecord). v ++ r ∷ []) is.whole ∙ append_assoc is.before (is.shown ∷ is.after) (r ∷ []);
      number = is.number;
      is = is.is;
      since = all_behind is.after r is.since stays;
    }

    abbrev IsSentHere : SentNotification → Type 0
    IsSentHere sent = (sent.number ≡ length records + 1) × IsSentAs (sending_link config records) r sent

    abbrev IsSentBefore : SentNotification → Type 0
    IsSentBefore sent = (leaves_idle r ≡ false) × IsSentSinceIdle config records sent

    sent_by : (sent : SentNotification) (is : IsSentSinceIdle config (records ++ r ∷ []) sent) → Splits records is.before is.after r is.shown → IsSentHere sent ⊎ IsSentBefore sent
    sent_by sent is (inl here) = inl (
      is.number ∙ ap (λ (v : List ShownRecord). length v + 1) here.0,
      subst (λ (v : List ShownRecord). IsSentAs (sending_link config v) r sent) here.0
          (subst (λ (x : ShownRecord). IsSentAs (sending_link config is.before) x sent) here.1 is.is),
    )
    sent_by sent is (inr earlier) =
        let all = all_before earlier.0 r (subst (λ (v : List ShownRecord). AllByRecursion LeavesNoIdle v) earlier.1 is.since) in
        inr (all.1, record { before = is.before; shown = is.shown; after = earlier.0; whole = earlier.2; number = is.number; is = is.is; since = all.0 })

    sent_either : (sent : SentNotification) → IsSentSinceIdle config (records ++ r ∷ []) sent → IsSentHere sent ⊎ IsSentBefore sent
    sent_either sent is = sent_by sent is (splits records is.before is.after r is.shown is.whole)

    module _ (number : ℕ) (next : number ≡ length records + 1) where
      not_later : (last sent : SentNotification) → last.number ≡ number → IsSentHere sent ⊎ IsSentBefore sent → sent.number ≤ last.number
      not_later last sent is (inl here) = let same = here.0 in omega (arith, same, is, next)
      not_later last sent is (inr before) = let within = sent_within sent before.1 in omega (arith, within, is, next)

      abbrev NoneHere : Type 0
      NoneHere = (sent : SentNotification) → ¬ IsSentAs (sending_link config records) r sent

      none_left : leaves_idle r ≡ true → NoneHere → (sent : SentNotification) → IsSentHere sent ⊎ IsSentBefore sent → ⊥
      none_left left none sent (inl here) = none sent here.1
      none_left left none sent (inr before) = let stays = before.0 in absurd (let k : ⊥ = cc in k)

      none_sent : NoneHere → ((sent : SentNotification) → ¬ IsSentSinceIdle config records sent) → (sent : SentNotification) → IsSentHere sent ⊎ IsSentBefore sent → ⊥
      none_sent none before sent (inl here) = none sent here.1
      none_sent none before sent (inr earlier) = before sent earlier.1

      still_last : (last : SentNotification) → NoneHere → ((sent : SentNotification) → IsSentSinceIdle config records sent → sent.number ≤ last.number)
          → (sent : SentNotification) → IsSentHere sent ⊎ IsSentBefore sent → sent.number ≤ last.number
      still_last last none is sent (inl here) = absurd (none sent here.1)
      still_last last none is sent (inr earlier) = is sent earlier.1

      sent_more : (before found : Option SentNotification) (left : Bool) → left ≡ leaves_idle r
          → IfSome found (λ sent. (sent.number ≡ number) × IsSentAs (sending_link config records) r sent)
          → IfNone found ((sent : SentNotification) → ¬ IsSentAs (sending_link config records) r sent)
          → IsLastSent config records before → IsLastSent config (records ++ r ∷ []) (notification_with before found left)
      sent_more before (Some sent) left e is none last = (sent_here sent (is.0 ∙ next) is.1, λ other has. not_later sent other is.0 (sent_either other has))
      sent_more before None true e is none last = λ sent has. none_left (sym e) none sent (sent_either sent has)
      sent_more None None false e is none last = λ sent has. none_sent none last sent (sent_either sent has)
      sent_more (Some s) None false e is none last = (sent_stays s (sym e) last.0, λ other has. still_last s none last.1 other (sent_either other has))

-- the one that is named after one record more
pub named_sent : (number : ℕ) (P : SentNotification → Type 0) (before found : Option SentNotification) (left : Bool) → IfSome found (λ sent. (sent.number ≡ number) × P sent)
    → IsNameAfter number (number_in before) (number_in (notification_with before found left))
named_sent number P before (Some sent) left is = inr (inl (ap (λ (n : ℕ). let o : Option ℕ = Some n in o) is.0))
named_sent number P before None true is = inr (inr refl)
named_sent number P before None false is = inl refl

-- ---- all

module _ (law : ToldOneMore) (config : Config) (records : List ShownRecord) (r : ShownRecord) (number second : ℕ) (link : Option Link) (t : Told) (old : Moments)
    (found : Option SentNotification) (left : Bool) (next : number ≡ length records + 1) (on : link ≡ sending_link config records) (tells : t ≡ told (records ++ r ∷ []))
    (are : AreMomentsOf config records old) (its : second ≡ second_of r) where
  told_then : t ≡ told_with number r (told records)
  told_then = tells ∙ law records r ∙ ap (λ (n : ℕ). told_with n r (told records)) (sym next)

  names : AreToldAfter number (told records) t
  names = subst (λ (v : Told). AreToldAfter number (told records) v) (sym told_then) (by_record number r (told records))

  pub moments_more : (new : Moments) → left ≡ leaves_idle r → IfSome found (λ sent. (sent.number ≡ number) × IsSentAs link r sent)
      → IfNone found ((sent : SentNotification) → ¬ IsSentAs link r sent)
      → new.first ≡ first_with old.first second → new.told_by ≡ named_with t.told_by old.told_by number second
      → new.last_received ≡ named_with t.last_received old.last_received number second → new.last ≡ Some second
      → new.notification ≡ notification_with old.notification found left → AreMomentsOf config (records ++ r ∷ []) new
  moments_more new leaves some none first told_by last_received last notification = record {
    first = subst (λ (o : Option ℕ). IsSecondOf (records ++ r ∷ []) (first_number (records ++ r ∷ [])) o) (sym first) (first_more records r old.first second its are.first);
    told_by = told_named;
    last_received = last_named;
    last = subst (λ (o : Option ℕ). IsSecondOf (records ++ r ∷ []) (last_number (records ++ r ∷ [])) o) (sym last) (last_more records r second its);
    notification = subst (λ (o : Option SentNotification). IsLastSent config (records ++ r ∷ []) o) (sym notification)
        (sent_more config records r number next old.notification found left leaves
        (subst (λ (l : Option Link). IfSome found (λ sent. (sent.number ≡ number) × IsSentAs l r sent)) on some)
        (subst (λ (l : Option Link). IfNone found ((sent : SentNotification) → ¬ IsSentAs l r sent)) on none) are.notification);
  } where
    told_named : IsSecondOf (records ++ r ∷ []) (told (records ++ r ∷ [])).told_by new.told_by
    told_named = subst (λ (v : Told). IsSecondOf (records ++ r ∷ []) v.told_by new.told_by) tells
        (subst (λ (o : Option ℕ). IsSecondOf (records ++ r ∷ []) t.told_by o) (sym told_by)
        (named_more records r number second next its t.told_by (told records).told_by old.told_by are.told_by names.0))

    last_named : IsSecondOf (records ++ r ∷ []) (told (records ++ r ∷ [])).last_received new.last_received
    last_named = subst (λ (v : Told). IsSecondOf (records ++ r ∷ []) v.last_received new.last_received) tells
        (subst (λ (o : Option ℕ). IsSecondOf (records ++ r ∷ []) t.last_received o) (sym last_received)
        (named_more records r number second next its t.last_received (told records).last_received old.last_received are.last_received names.1))

-- of no records
pub moments_of_none : (config : Config) (sent : SentNotification) → IsSentSinceIdle config [] sent → ⊥
moments_of_none config sent is = some_split is.before is.shown is.after is.whole where
  some_split : (before : List ShownRecord) (shown : ShownRecord) (after : List ShownRecord) → [] ≡ before ++ shown ∷ after → ⊥
  some_split [] shown after e = absurd (let k : ⊥ = cc in k)
  some_split (x ∷ before) shown after e = absurd (let k : ⊥ = cc in k)
