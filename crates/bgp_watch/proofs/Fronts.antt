-- The fronts of records: after which Established is told, and where runs that show them end.
use Rattle.std.proofs.Common.{◌≡◌, ◌≢◌, ◌∙◌, ◌+◌, ◌<◌, ◌≤◌, ◌⊎◌, ◌++◌, ℕ, List, [], ◌∷◌, Option, None, Some, ap, arith, get_or, inl, inr, length, map, refl, subst, sym, take}
use Rattle.std.proofs.lemmas.List.{length-append, length-map, length-take-le, map_more, take-append-le, take-map}
use Rattle.std.proofs.Math.Seq.{take-length}
use Rattle.bgp_prefix.specs.Shown.{ShownRecord}
use Rattle.mrt.specs.Reader.{shown_of}
use Rattle.mrt.specs.declared.record.Record.{Record}
use Rattle.bgp_open.specs.declared.config.Config.{Config}
use Rattle.bgp_machine.specs.Lists.{Each}
use Rattle.bgp_machine.specs.Run.{End, IsComplete}
use Rattle.bgp_machine.specs.declared.fsm.Fsm.{Fsm}
use Rattle.bgp_machine.specs.declared.fsm.Fsm.TheVariants as fsms
use Rattle.bgp_judge.specs.Ends.{ListsEnds}
use Rattle.bgp_judge.specs.Told.{EachRunIsAsTold, told}
use Rattle.bgp_reason.specs.Told as reason
use Rattle.bgp_reason.specs.declared.told.Told.{Told}
use Rattle.bgp_watch.specs.Front.{EndsEstablished, FrontValue, IsLongestFront, IsWatched, StartsEstablished}
use Rattle.bgp_watch.specs.LastTold.{IsLastTold, TellsEstablished, last_with}

-- ---- where a run ends

pub ends_as_told : EachRunIsAsTold → (config : Config) (records : List ShownRecord) (e : End) → IsComplete config records e → e.fsm ≡ (told records).fsm
ends_as_told law config records e c = sym (ap (λ (x : End). x.fsm) c.2) ∙ (law config records c.0 c.1).fsm

pub not_told : EachRunIsAsTold → (config : Config) (records : List ShownRecord) → ¬ TellsEstablished records → ¬ EndsEstablished config records
not_told law config records untold has = untold (sym (ends_as_told law config records has.0 has.1) ∙ has.2)

pub all_so : EachRunIsAsTold → (config : Config) (records : List ShownRecord) → TellsEstablished records → (ends : List End) → Each (IsComplete config records) ends
    → Each (λ (e : End). e.fsm ≡ fsms.Established) ends
all_so law config records tells [] each = tt
all_so law config records tells (e ∷ ends) each = (ends_as_told law config records e each.0 ∙ tells, all_so law config records tells ends each.1)

-- ---- one record more

one_longer : (count n : ℕ) → n ≤ count + 1 → (n ≤ count) ⊎ (n ≡ count + 1)
one_longer count n within = grind arith

module _ (config : Config) (records : List ShownRecord) (shown : ShownRecord) where
  abbrev more : List ShownRecord
  more = records ++ shown ∷ []

  more_length : length more ≡ length records + 1
  more_length = length-append records (shown ∷ [])

  take_more : (n : ℕ) → n ≡ length records + 1 → take n more ≡ more
  take_more n is = ap (λ (k : ℕ). take k more) (is ∙ sym more_length) ∙ take-length more

  none_of_more : (front : FrontValue) → ¬ EndsEstablished config more → IsLongestFront config records front
      → (n : ℕ) → front.count < n → n ≤ length more → ¬ EndsEstablished config (take n more)
  none_of_more front none is n above within =
      let len = more_length in
      let inside : n ≤ length records + 1 = omega (arith, within, len) in
      elim (one_longer (length records) n inside) [
        | inl before ↦ subst (λ (rs : List ShownRecord). ¬ EndsEstablished config rs) (sym (take-append-le n records (shown ∷ []) before)) (is.is_longest n above before)
        | inr all ↦ subst (λ (rs : List ShownRecord). ¬ EndsEstablished config rs) (sym (take_more n all)) none
      ]

  -- it has no end in Established: what is known stays
  pub kept_front : (before : Option FrontValue) → ¬ EndsEstablished config more → IsWatched config records before → IsWatched config more before
  kept_front None none is = tt
  kept_front (Some front) none is = record {
    is_front = let len = more_length in let front_is = is.is_front in omega (arith, len, front_is);
    has_some = is.has_some;
    lists = subst (λ (rs : List ShownRecord). ListsEnds config rs front.ends) (sym (take-append-le front.count records (shown ∷ []) is.is_front)) is.lists;
    are_established = is.are_established;
    is_longest = none_of_more front none is;
  }

-- the ends that are listed are in Established: then all records are the longest front
pub found_front : EachRunIsAsTold → (config : Config) (records : List ShownRecord) (count : ℕ) (ends : List End) → length records ≡ count
    → ListsEnds config records ends → StartsEstablished ends → IsLongestFront config records (record { count = count; ends = ends })
found_front law config records count [] len lists starts = absurd starts
found_front law config records count (e ∷ ends) len lists starts =
    let all : take count records ≡ records = ap (λ (n : ℕ). take n records) (sym len) ∙ take-length records in
    record {
      is_front = omega (arith, len);
      has_some = λ none. cc;
      lists = subst (λ (rs : List ShownRecord). ListsEnds config rs (e ∷ ends)) (sym all) lists;
      are_established = all_so law config records (sym (ends_as_told law config records e lists.each.0) ∙ starts) (e ∷ ends) lists.each;
      is_longest = λ n above within. absurd (let k : ⊥ = omega (arith, above, within, len) in k);
    }

-- the first isn't: then none is
pub none_found : EachRunIsAsTold → (config : Config) (records : List ShownRecord) (ends : List End) → ListsEnds config records ends
    → ¬ StartsEstablished ends → ¬ EndsEstablished config records
none_found law config records [] lists other has = lists.every has.0 has.1
none_found law config records (e ∷ ends) lists other has =
    other (ends_as_told law config records e lists.each.0 ∙ sym (ends_as_told law config records has.0 has.1) ∙ has.2)

-- ---- the longest front that tells Established

pub record ToldSoFar (records : List ShownRecord) (index last : ℕ) (t : Told) : Type 0 where
  pub is_told : t ≡ reason.told (take index records)
  pub is_front : last ≤ index
  pub tells : (last ≡ 0) ⊎ TellsEstablished (take last records)
  pub is_last : (n : ℕ) → last < n → n ≤ index → ¬ TellsEstablished (take n records)

pub none_yet : (records : List ShownRecord) → ToldSoFar records 0 0 reason.nothing_told
none_yet records = record {
  is_told = refl;
  is_front = omega arith;
  tells = inl refl;
  is_last = λ n above within. absurd (let k : ⊥ = omega (arith, above, within) in k);
}

last_or : (index n : ℕ) → n ≤ index + 1 → (n ≤ index) ⊎ (n ≡ index + 1)
last_or index n within = grind arith

-- Established isn't told by one more, and so no longer front tells it
kept_last : (records : List ShownRecord) (index last : ℕ) → ¬ TellsEstablished (take (index + 1) records)
    → ((n : ℕ) → last < n → n ≤ index → ¬ TellsEstablished (take n records)) → (n : ℕ) → last < n → n ≤ index + 1 → ¬ TellsEstablished (take n records)
kept_last records index last not_here before n above within = elim (last_or index n within) [
  | inl front ↦ before n above front
  | inr same ↦ subst (λ (k : ℕ). ¬ TellsEstablished (take k records)) (sym same) not_here
]

other_state : (f : Fsm) → f ≢ fsms.Established → (records : List ShownRecord) → f ≡ (told records).fsm → ¬ TellsEstablished records
other_state f other records is tells = other (is ∙ tells)

module _ (records : List ShownRecord) (index last : ℕ) (t next : Told) (so_far : ToldSoFar records index last t) (is_next : next ≡ reason.told (take (index + 1) records)) where
  kept : (f : Fsm) → f ≢ fsms.Established → f ≡ (told (take (index + 1) records)).fsm → ToldSoFar records (index + 1) last next
  kept f other is = record {
    is_told = is_next;
    is_front = let front = so_far.is_front in omega (arith, front);
    tells = so_far.tells;
    is_last = kept_last records index last (other_state f other (take (index + 1) records) is) so_far.is_last;
  }

  pub by_state : (f : Fsm) → f ≡ (told (take (index + 1) records)).fsm → ToldSoFar records (index + 1) (last_with last (index + 1) f) next
  by_state fsms.Idle is = kept fsms.Idle (λ e. cc) is
  by_state fsms.Connect is = kept fsms.Connect (λ e. cc) is
  by_state fsms.Active is = kept fsms.Active (λ e. cc) is
  by_state fsms.OpenSent is = kept fsms.OpenSent (λ e. cc) is
  by_state fsms.OpenConfirm is = kept fsms.OpenConfirm (λ e. cc) is
  by_state fsms.Established is = record {
    is_told = is_next;
    is_front = omega arith;
    tells = inr (sym is);
    is_last = λ n above within. absurd (let k : ⊥ = omega (arith, above, within) in k);
  }

pub one_more : reason.ToldOneMore → reason.ToldStateIsTold → (records : List Record) (index last : ℕ) (d : Record) (t : Told) → index < length records
    → ToldSoFar (map shown_of records) index last t
    → ToldSoFar (map shown_of records) (index + 1) (last_with last (index + 1) (reason.told_with (index + 1) (shown_of (get_or records index d)) t).state)
    (reason.told_with (index + 1) (shown_of (get_or records index d)) t)
one_more one state records index last d t within so_far =
    let all = map shown_of records in
    let shown = shown_of (get_or records index d) in
    let next = reason.told_with (index + 1) shown t in
    let front : take (index + 1) all ≡ take index all ++ shown ∷ [] =
    take-map shown_of (index + 1) records ∙ map_more shown_of records index d within ∙ ap (λ (rs : List ShownRecord). rs ++ shown ∷ []) (sym (take-map shown_of index records)) in
    let len : length (take index all) ≡ index = length-take-le index all (let same = length-map records shown_of in omega (arith, same, within)) in
    let is_next : next ≡ reason.told (take (index + 1) all) =
    sym (ap reason.told front ∙ one (take index all) shown ∙ ap (λ (n : ℕ). reason.told_with (n + 1) shown (reason.told (take index all))) len
    ∙ ap (λ (x : Told). reason.told_with (index + 1) shown x) (sym so_far.is_told)) in
    by_state all index last t next so_far is_next next.state (ap (λ (x : Told). x.state) is_next ∙ state (take (index + 1) all))

pub all_told : (records : List Record) (index last : ℕ) (t : Told) → index ≡ length records → ToldSoFar (map shown_of records) index last t → IsLastTold (map shown_of records) last
all_told records index last t is so_far =
    let same = length-map records shown_of in record {
      is_front = let front = so_far.is_front in omega (arith, front, is, same);
      tells = so_far.tells;
      is_last = λ n above within. so_far.is_last n above (omega (arith, within, is, same));
    }

-- ---- the records so far

pub so_many : (records : List Record) (n : ℕ) → n ≤ length records → length (map shown_of (take n records)) ≡ n
so_many records n within = length-map (take n records) shown_of ∙ length-take-le n records within

-- behind the longest front that tells Established none does
pub not_last_told : (records : List Record) (n last : ℕ) → IsLastTold (map shown_of records) last → last < n → n ≤ length records
    → ¬ TellsEstablished (map shown_of (take n records))
not_last_told records n last is above within =
    let len = length-map records shown_of in
    subst (λ (rs : List ShownRecord). ¬ TellsEstablished rs) (take-map shown_of n records) (is.is_last n above (omega (arith, within, len)))
