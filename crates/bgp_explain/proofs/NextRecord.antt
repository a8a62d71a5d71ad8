-- The first impossible record is one of those that are explained, so that what holds of each holds of it.
use Rattle.std.proofs.Common.{◌+◌, ◌++◌, ◌∷◌, [], ℕ, zero, suc, List, Option, None, Some, subst, sym, take}
use Rattle.std.specs.List.{AllByRecursion}
use Rattle.bgp_prefix.specs.Shown.{ShownRecord}
use Rattle.bgp_prefix.specs.declared.session.Session.{Session}
use Rattle.bgp_open.specs.declared.config.Config.{Config}
use Rattle.bgp_judge.specs.declared.verdict.Verdict.{Verdict}
use Rattle.bgp_judge.specs.declared.verdict.Verdict.TheVariants.{Yes, No, Unfinished}
use Rattle.bgp_recording.specs.Captured.{records_of}
use Rattle.bgp_recording.specs.declared.entry.Entry.{Entry}
use Rattle.mrt.specs.Capture.{ArePieces, Piece, PassedOver, Other, OtherEnds, Shown, last_after}
use Rattle.mrt.specs.Capture as captures
use Rattle.mrt.specs.Written.{IsAllowed}
use Rattle.mrt.proofs.AllowedRecord.{each_allowed}
use Rattle.bgp_explain.specs.Kept.{shown_by}
use Rattle.bgp_explain.specs.Reason.{HasReason, IsNext}
use Rattle.bgp_explain.specs.Records.{CanBeShown}
use Rattle.bgp_explain.specs.Text.{CanBePut, CanBePutOf}
use Rattle.bgp_explain.specs.declared.explained.Impossible.{Impossible}
use Rattle.bgp_explain.specs.declared.explained.Reason.{Reason}

first_all : {X : Type 0} (P : X → Type 0) (n : ℕ) (xs : List X) → AllByRecursion P xs → AllByRecursion P (take n xs)
first_all P zero xs all = tt
first_all P (suc n) [] all = tt
first_all P (suc n) (x ∷ xs) all = (all.0, first_all P n xs all.1)

last_has : {X : Type 0} (P : X → Type 0) (xs : List X) (x : X) → AllByRecursion P (xs ++ x ∷ []) → P x
last_has P [] x all = all.0
last_has P (y ∷ xs) x all = last_has P xs x all.1

pub next_has : {X : Type 0} (P : ShownRecord → Type 0) (config : Config) (before records : List ShownRecord) (n : ℕ) (i : Impossible X)
    → AllByRecursion P records → IsNext config before (Some i) (take n records) → P (shown_by i.«record»)
next_has P config before records n i all next =
    last_has P before (shown_by i.«record») (subst (λ (rs : List ShownRecord). AllByRecursion P rs) next.1 (first_all P n records all))

-- ---- a capture of a session can hold each

abbrev pub Can : Session → ShownRecord → Type 0
Can session shown = (last : Option ℕ) × IsAllowed session last shown

pub each_can : (session : Session) (last : Option ℕ) (pieces : List Piece) → ArePieces session last pieces → AllByRecursion (Can session) (captures.records_of pieces)
each_can session last [] are = tt
each_can session last (Other octets ∷ pieces) are = each_can session (last_after last (Other octets)) pieces are.1
each_can session last (OtherEnds octets ∷ pieces) are = each_can session (last_after last (OtherEnds octets)) pieces are.1
each_can session last (PassedOver octets ∷ pieces) are = each_can session (last_after last (PassedOver octets)) pieces are.1
each_can session last (Shown octets ∷ pieces) are =
    ((last, each_allowed session last octets are.0), each_can session (last_after last (Shown octets)) pieces are.1)

pub entries_can : (session : Session) (entries : List Entry) → AllByRecursion (CanBeShown session) entries → AllByRecursion (Can session) (records_of entries)
entries_can session [] all = tt
entries_can session (entry ∷ entries) all = ((None, all.0), entries_can session entries all.1)

-- so the first impossible one can be put
next_can : {X : Type 0} (session : Session) (config : Config) (before records : List ShownRecord) (n : ℕ) (o : Option (Impossible X))
    → AllByRecursion (Can session) records → IsNext config before o (take n records) → CanBePut session o
next_can session config before records n None all next = absurd next
next_can session config before records n (Some i) all next = next_has (Can session) config before records n i all next

pub can_of : {X Y : Type 0} (session : Session) (config : Config) (records : List ShownRecord) (verdict : Verdict X) (reason : Option (Reason Y))
    → AllByRecursion (Can session) records → HasReason config records verdict reason → CanBePutOf session reason
can_of session config records (Yes ends) reason all has = subst (λ (w : Option (Reason _)). CanBePutOf session w) (sym has) tt
can_of session config records (No count) None all has = tt
can_of session config records (No count) (Some reason) all has = next_can session config (take count records) records (count + 1) reason.impossible all has.1
can_of session config records Unfinished None all has = tt
can_of session config records Unfinished (Some reason) all has = subst (λ (o : Option (Impossible _)). CanBePut session o) (sym has.1) tt
