-- Members of the objects of `check` have nothing hidden.
use Rattle.std.proofs.Common.{◌≡◌, ◌++◌, ℕ, Bool, true, false, List, [], ◌∷◌, Option, None, Some, codes, nat_lt, refl}
use Rattle.json.specs.Json.{Json}
use Rattle.bgp_check.specs.declared.peer_as.PeerAs.{PeerAs}
use Rattle.bgp_check.specs.declared.peer_as.PeerAs.TheVariants as peers
use Rattle.bgp_open.specs.declared.families.Families.{Families}
use Rattle.bgp_values.specs.declared.opens.Direction.{Direction}
use Rattle.bgp_values.specs.declared.opens.Direction.TheVariants.{Received, Sent}
use Rattle.bgp_why.specs.declared.place.Place.{Place}
use Rattle.bgp_json_values.specs.Objects.{number_of}
use Rattle.bgp_json_values.specs.Times.{time_members}
use Rattle.bgp_json_verdicts.specs.At.{number_members as some_number}
use Rattle.bgp_json_check.specs.Members.{before_members, deed_members, direction_word, disabled_members, end_members, flag_members, known_members, part_members, peer_members, reached_members, record_members}
use Rattle.bgp_json_check.specs.declared.member.JudgedEnd.{JudgedEnd}
use Rattle.bgp_list.specs.JsonMembers.{endpoint_members, number_members}
use Rattle.bgp_check_lines.specs.Values.{direction_member}
use Rattle.bgp_visible_laws.specs.Visible.{IsVisible}
use Rattle.bgp_visible_laws.proofs.JsonTexts.{HaveTexts, field, of_any, of_both, of_number, of_text}
use Rattle.bgp_visible_laws.proofs.JsonValues.{if_texts, of_time}
use Rattle.bgp_visible_laws.proofs.Texts.{state_visible}
use Rattle.bgp_visible_laws.proofs.Visible.{is_word, word}
use Rattle.bgp_why_laws.proofs.JsonMembers.{of_families, of_given, of_some}
use Rattle.bgp_list_laws.proofs.VisibleMembers.{of_endpoint, of_number_if, of_pair}

pub of_flag : (key : List ℕ) → is_word key ≡ true → (is_so : Bool) → HaveTexts (flag_members key is_so)
of_flag key is true = field key is tt tt
of_flag key is false = tt

of_record : (number : ℕ) → HaveTexts (record_members number)
of_record number = if_texts (nat_lt 0 number) ((codes "record", number_of number) ∷ []) [] (field (codes "record") refl (of_number number) tt) tt

pub of_known : (place : Place) → HaveTexts (known_members place)
of_known place =
    let packet = some_number (codes "packet") place.packet in
    let time = time_members place.second place.micro in
    of_both (record_members place.number) (packet ++ time) (of_record place.number)
    (of_both packet time (of_some (codes "packet") refl place.packet) (of_time place.second place.micro))

of_part : (part : Option (ℕ × ℕ)) → HaveTexts (part_members part)
of_part None = tt
of_part (Some part) = of_pair (codes "records") refl part.0 part.1

pub of_end : (name : JudgedEnd) → HaveTexts (end_members name)
of_end name =
    let ends = endpoint_members (codes "address") (codes "port") name.end in
    let numbers = number_members (codes "as") name.as_number in
    of_both ends (numbers ++ part_members name.part) (of_endpoint (codes "address") (codes "port") refl refl name.end)
    (of_both numbers (part_members name.part) (of_number_if (codes "as") refl name.as_number) (of_part name.part))

pub of_peer : (peer : PeerAs) → HaveTexts (peer_members peer)
of_peer peers.Any = tt
of_peer (peers.Is number) = field (codes "peer_as") refl (of_number number) tt
of_peer (peers.OtherThan number) = field (codes "peer_as_not") refl (of_number number) tt

pub of_deed : (deed : List ℕ) → IsVisible deed → HaveTexts (deed_members deed)
of_deed [] visible = tt
of_deed (x ∷ deed) visible = field (codes "deed") refl (of_given (x ∷ deed) visible) tt

pub of_before : (counts : List ℕ) → HaveTexts (before_members counts)
of_before [] = tt
of_before (count ∷ counts) = field (codes "before") refl (of_any number_of of_number (count ∷ counts)) tt

pub of_reached : (number : ℕ) → HaveTexts (reached_members number)
of_reached number = field (codes "reached") refl (of_text (state_visible number)) tt

pub of_disabled : (families : Families) → HaveTexts (disabled_members families)
of_disabled families = field (codes "disabled") refl (of_families families) tt

way_word : (direction : Direction) → is_word (direction_word direction) ≡ true
way_word Received = refl
way_word Sent = refl

-- a direction, and other members
pub with_direction : (direction : Direction) (ms : List (List ℕ × Json)) → HaveTexts ms → HaveTexts (direction_member direction ∷ ms)
with_direction direction ms each = field (codes "direction") refl (of_text (word (direction_word direction) (way_word direction))) each
