-- Entries one after another, and the first ROUTE-REFRESH among them.
use Rattle.std.proofs.Common.{◌≡◌, ◌∙◌, ◌<◌, ◌+◌, ℕ, Bool, true, false, List, [], ◌∷◌, get_or, drop, length, Option, None, Some, IfNone, nat_lt, if◌then◌else◌, refl, sym, subst, inl, inr}
use Rattle.std.specs.List.{AllByRecursion}
use Rattle.bgp_prefix.specs.Shown as shown
use Rattle.bgp_prefix.specs.Shown.{ShownRecord}
use Rattle.bgp_recording.specs.Captured.{IsNoRefresh, records_of}
use Rattle.bgp_recording.specs.declared.entry.Entry.{Entry}
use Rattle.bgp_recording.specs.declared.framing.Rest.{Rest}
use Rattle.streams.specs.declared.passed.Side.{Side}
use Rattle.streams.specs.declared.passed.Side.TheVariants.{Local, Peer}
use Rattle.bgp_import.specs.Captures.{shown_by, shown_message}
use Rattle.bgp_import.specs.Refusals.{refusal_packet}
use Rattle.bgp_import.specs.Refreshes.{IsOne, IsRefreshFrom, IsRefreshPacket, IsRefreshOf, IsRefreshIn, refresh_at, earlier}
use Rattle.bgp_import.specs.declared.refusal.Refusal.{Refusal}
use Rattle.bgp_import.proofs.Entries.{from_here}

module _ (entries : List Entry) (i : ℕ) (d : Entry) (within : i < length entries) (from : Side) where
  -- it is the one there
  pub refresh_here : IsRefreshFrom from (get_or entries i d) → IsRefreshPacket from (drop i entries) (Some (get_or entries i d).packet)
  refresh_here is = subst (λ (q : List Entry). IsRefreshPacket from q (Some (get_or entries i d).packet)) (sym (from_here entries i d within)) (inl (is, refl))

  -- it isn't, so it is the first of those behind
  pub refresh_behind : (packet : Option ℕ) → ¬ IsRefreshFrom from (get_or entries i d) → IsRefreshPacket from (drop (i + 1) entries) packet → IsRefreshPacket from (drop i entries) packet
  refresh_behind packet not is = subst (λ (q : List Entry). IsRefreshPacket from q packet) (sym (from_here entries i d within)) (inr (not, is))

-- ---- where there is none

none_from : (from : Side) (entries : List Entry) (packet : Option ℕ) → packet ≡ None → IsRefreshPacket from entries packet → AllByRecursion (λ entry. ¬ IsRefreshFrom from entry) entries
none_from from [] packet none is = tt
none_from from (entry ∷ later) packet none (inl (one, some)) = absurd (let no = sym some ∙ none in cc)
none_from from (entry ∷ later) packet none (inr (not, is)) = (not, none_from from later packet none is)

no_packet : (from : Side) (rest : Rest) (packet : Option ℕ) → refresh_at from rest packet ≡ None → packet ≡ None
no_packet from rest None none = refl
no_packet from rest (Some packet) none = absurd (let no = none in cc)

neither : (received sent : Option Refusal) → earlier received sent ≡ None → (received ≡ None) × (sent ≡ None)
neither None sent none = (refl, none)
neither (Some received) None none = absurd (let no = none in cc)
neither (Some received) (Some sent) none =
    absurd ((elim (nat_lt (refusal_packet sent) (refusal_packet received)) as (λ (b : Bool). (if b then Some sent else Some received) ≡ None → ⊥)
    [ true ↦ λ no. cc | false ↦ λ no. cc ]) none)

no_refresh : (shown' : ShownRecord) → ¬ IsOne (shown_message Peer shown') → ¬ IsOne (shown_message Local shown') → IsNoRefresh shown'
no_refresh (shown.Received second octets) peer local = peer
no_refresh (shown.Sent second octets) peer local = local
no_refresh (shown.Changed second old new) peer local = tt

none_at_all : (entries : List Entry) → AllByRecursion (λ entry. ¬ IsRefreshFrom Peer entry) entries → AllByRecursion (λ entry. ¬ IsRefreshFrom Local entry) entries
    → AllByRecursion IsNoRefresh (records_of entries)
none_at_all [] peer local = tt
none_at_all (entry ∷ later) peer local = (no_refresh (shown_by entry) peer.0 local.0, none_at_all later peer.1 local.1)

pub none_in : (entries : List Entry) (received_rest sent_rest : Rest) (refusal : Option Refusal) → IsRefreshIn entries received_rest sent_rest refusal → refusal ≡ None
    → AllByRecursion IsNoRefresh (records_of entries)
none_in entries received_rest sent_rest refusal (received, sent, theirs, ours, is) none =
    let both = neither received sent (sym is ∙ none) in
    none_at_all entries
    (none_from Peer entries theirs.0 (no_packet Peer received_rest theirs.0 (sym theirs.2 ∙ both.0)) theirs.1)
    (none_from Local entries ours.0 (no_packet Local sent_rest ours.0 (sym ours.2 ∙ both.1)) ours.1)

if_none : (entries : List Entry) (received_rest sent_rest : Rest) (refusal : Option Refusal) → IsRefreshIn entries received_rest sent_rest refusal
    → IfNone refusal (AllByRecursion IsNoRefresh (records_of entries))
if_none entries received_rest sent_rest None is = none_in entries received_rest sent_rest None is refl
if_none entries received_rest sent_rest (Some refusal) is = tt

-- none is answered where there is none
pub none_by : (entries looked_at : List Entry) (received_rest sent_rest : Rest) (received sent refusal : Option Refusal) → looked_at ≡ entries
    → IsRefreshOf Peer looked_at received_rest received → IsRefreshOf Local looked_at sent_rest sent → refusal ≡ earlier received sent
    → IfNone refusal (AllByRecursion IsNoRefresh (records_of entries))
none_by entries looked_at received_rest sent_rest received sent refusal same theirs ours is =
    if_none entries received_rest sent_rest refusal (
      received,
      sent,
      subst (λ (es : List Entry). IsRefreshOf Peer es received_rest received) same theirs,
      subst (λ (es : List Entry). IsRefreshOf Local es sent_rest sent) same ours,
      is,
    )
