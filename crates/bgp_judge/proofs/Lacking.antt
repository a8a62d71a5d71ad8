-- Where memory is lacked while records are judged as a list.
use Rattle.std.proofs.Common.{◌≡◌, ℕ, ◌<◌, ◌≤◌, ◌+◌, inl, inr, List, ◌∷◌, ◌++◌, Result, Ok, Err, length, take, drop, get_or, map, sym, ap, subst, ◌∙◌}
use Rattle.std.specs.Prelude.{OnErr}
use Rattle.std.proofs.lemmas.List.{drop_more, take-append-drop, map-append}
use Rattle.std.proofs.Math.Seq.{take-append_seam}
use Rattle.bgp_prefix.specs.Shown.{ShownRecord}
use Rattle.bgp_open.specs.declared.config.Config.{Config}
use Rattle.bgp_machine.specs.Run.{Begins}
use Rattle.mrt.specs.declared.record.Record.{Record}
use Rattle.mrt.specs.Reader.{shown_of}
use Rattle.bgp_judge.specs.Memory.{LacksForOne, LacksMemoryFor, LacksNoneBehindANo}
use Rattle.bgp_judge.specs.Verdict.{HasVerdict, No}
use Rattle.bgp_judge.proofs.OneVerdict.{no_other, not_below}

pub on_err : {T E : Type 0} (P : Type 0) (r : Result T E) → P → OnErr r P
on_err P (Ok x) p = tt
on_err P (Err e) p = p

-- the records before one, that one, and those behind it
around : (xs : List Record) (i : ℕ) (d : Record) → i < length xs
    → map shown_of (take i xs) ++ shown_of (get_or xs i d) ∷ map shown_of (drop (i + 1) xs) ≡ map shown_of xs
around xs i d lt =
    sym (map-append shown_of (take i xs) (get_or xs i d ∷ drop (i + 1) xs))
    ∙ ap (λ (v : List Record). map shown_of (take i xs ++ v)) (sym (drop_more xs i d lt))
    ∙ ap (λ (v : List Record). map shown_of v) (take-append-drop i xs)

module _ (may_lack_at_start : Config → Type 0) (may_lack : Config → List ShownRecord → ShownRecord → Type 0) where
  -- at the record that stands at this place
  pub lacks_at : (config : Config) (xs : List Record) (i : ℕ) (d : Record) → i < length xs
      → Begins config (map shown_of (take i xs)) → may_lack config (map shown_of (take i xs)) (shown_of (get_or xs i d))
      → LacksMemoryFor may_lack_at_start may_lack config (map shown_of xs)
  lacks_at config xs i d lt begins lacks = inr (inl (record {
    before = map shown_of (take i xs);
    shown = shown_of (get_or xs i d);
    later = map shown_of (drop (i + 1) xs);
    parts = around xs i d lt;
    begins = begins;
    lacks = lacks;
  }))

  -- the records before one are no more than those before the first impossible one
  not_behind : (config : Config) (records : List ShownRecord) (count : ℕ) → HasVerdict config records (No count)
      → (one : LacksForOne may_lack config records) → length one.before ≤ count
  not_behind config records count denies one =
      not_below config records count (length one.before) denies.2
      (subst (λ (v : List ShownRecord). Begins config v)
      (sym (ap (λ (v : List ShownRecord). take (length one.before) v) (sym one.parts) ∙ take-append_seam one.before (one.shown ∷ one.later))) one.begins)

  pub lacks_none_behind : LacksNoneBehindANo may_lack_at_start may_lack
  lacks_none_behind config records count denies (inl start) = inl start
  lacks_none_behind config records count denies (inr (inl one)) = inr (one, not_behind config records count denies one)
  lacks_none_behind config records count denies (inr (inr begins)) = absurd (no_other config records count denies begins)
