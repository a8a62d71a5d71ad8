-- An UPDATE whose fields are empty is clean on every link.
use Rattle.std.proofs.Common.{◌≡◌, ℕ, ◌+◌, ◌<◌, ◌≤◌, ◌^◌, ◌⊎◌, length, [], Some, None, true, false, refl, subst, inl, inr, arith}
use Rattle.bgp_open.specs.Family.{Family}
use Rattle.bgp_open.specs.declared.link.Link.{Link}
use Rattle.bgp_open.specs.declared.route_form.RouteForm.{RouteForm}
use Rattle.bgp_attr.specs.Split.{attributes_of, rest_of, tail_at}
use Rattle.bgp_attr.specs.Limit.{Limit}
use Rattle.bgp_attr.specs.MessageType.TheVariants.{Update}
use Rattle.bgp_attr.specs.Framing.{IsFrame}
use Rattle.bgp_attr.specs.Header.{IsBadLength, limit_with}
use Rattle.bgp_attr.specs.Message.{message_octets}
use Rattle.bgp_attr.specs.Verdict.{type_code}
use Rattle.bgp_attr.proofs.GreatestLength.{allows_4096}
use Rattle.bgp_attr.proofs.WholeMessages.{written_is_frame}
use Rattle.bgp_attr.proofs.WrittenMessage.{written_message, body_of-message_octets, length-message_octets}
use Rattle.bgp_update.specs.Laws.{HasCleanUpdate}
use Rattle.bgp_update.specs.Clean.{IsCleanBy, most_octets}
use Rattle.bgp_update.specs.Disabled.{IsCertain, IsOptional}
use Rattle.bgp_update.specs.Found.{Found, MpFound, found_by_form}
use Rattle.bgp_update.specs.Mp.{Absent, Unused}
use Rattle.bgp_update.specs.MpFaults.{MayReset}
use Rattle.bgp_update.specs.Destinations.{destinations_of}
use Rattle.bgp_update.specs.ResetFaults.{IsResetSubcode, IsMereSubcode}
use Rattle.bgp_update.specs.Sections.{Sections, section_octets, IsUpdate}
use Rattle.bgp_update.specs.WithdrawFaults.{HasFormFault, HasWithdrawFault}

pub empty : Sections
empty = record { withdrawn = []; attributes = []; nlri = [] }

absent : MpFound
absent = record { state = Absent; other_bits = false; is_repeated = false }

-- nothing is there
blank : Found
blank = record {
  withdrawn = Some [];
  nlri = Some [];
  reach = absent;
  unreach = absent;
  classes = record { reset = false; withdraw = false; plain_withdraw = false; discard = false };
  types = record { origin = false; as_path = false; next_hop = false; other = false; has_repeats = false };
  tail = None;
}

is_blank : (link : Link) (form : RouteForm) → blank ≡ found_by_form link form empty
unfolding blank absent empty destinations_of attributes_of rest_of tail_at
is_blank link form = refl

never : false ≡ true → ⊥
never e = absurd cc

no_reset : ¬ MayReset absent
unfolding absent
no_reset (inl broken) = let e = broken.1 in absurd cc
no_reset (inr conflict) = never conflict.0

no_form : ¬ HasFormFault blank
unfolding blank absent
no_form (inl conflict) = never conflict.0
no_form (inr (inl conflict)) = never conflict.0
no_form (inr (inr (inl tail))) = tail
no_form (inr (inr (inr (inl (lacks, inl some))))) = some refl
no_form (inr (inr (inr (inl (lacks, inr some))))) = some refl
no_form (inr (inr (inr (inr (lacks, some))))) = some refl

no_fault : ¬ HasWithdrawFault blank
unfolding blank absent
no_fault (inl withdrawn) = never withdrawn
no_fault (inr form) = no_form form

no_subcode : (n : ℕ) → ¬ (IsResetSubcode blank n ⊎ IsMereSubcode blank n)
unfolding blank absent
no_subcode n (inl (inl (inl (e, inl none)))) = absurd cc
no_subcode n (inl (inl (inl (e, inr none)))) = absurd cc
no_subcode n (inl (inl (inr (inl (e, inl r))))) = never r
no_subcode n (inl (inl (inr (inl (e, inr r))))) = never r
no_subcode n (inl (inl (inr (inr (inl (e, tail)))))) = tail
no_subcode n (inl (inl (inr (inr (inr (e, r)))))) = never r
no_subcode n (inl (inr (inl (cut, e)))) = absurd cc
no_subcode n (inl (inr (inr (inl (cut, e))))) = absurd cc
no_subcode n (inl (inr (inr (inr (hidden, e))))) = elim hidden.1 [ inl other ↦ never other | inr overrun ↦ overrun ]
no_subcode n (inr (inl (m, e))) = no_reset m
no_subcode n (inr (inr (inl (m, e)))) = no_reset m
no_subcode n (inr (inr (inr (m, e)))) = no_fault m.0

enabled : (family : Family) → ¬ (IsCertain blank family ⊎ IsOptional blank family)
unfolding blank absent
enabled family (inl (inl e)) = absurd cc
enabled family (inl (inr e)) = absurd cc
enabled family (inr (inl d)) = never d.0
enabled family (inr (inr d)) = never d.0

apart : (family : Family) → ¬ (Absent ≡ Unused family)
apart family e = absurd cc

clean_blank : (link : Link) → IsCleanBy link blank
unfolding blank absent
clean_blank link = record {
  alone = record { no_reset = no_subcode; enabled = enabled; no_fault = no_fault };
  whole = record { no_discard = refl; no_repeats = refl };
  used = record { base = inr (refl, refl); reach = apart; unreach = apart };
}

clean_empty : (link : Link) → IsCleanBy link (found_by_form link link.sent empty)
clean_empty link = subst (IsCleanBy link) (is_blank link link.sent) (clean_blank link)

-- ---- and a whole frame

four : length (section_octets empty) ≡ 4
unfolding empty
four = refl

fits : (limit : Limit) → IsBadLength limit (type_code Update) (19 + length (section_octets empty)) → ⊥
fits limit (inl short) = absurd (omega (arith, four))
fits limit (inr (inl long)) = absurd (omega (arith, four, allows_4096 limit 2))
fits limit (inr (inr (is, other))) = absurd (omega arith)

framed : (limit : Limit) → IsFrame limit (message_octets 2 (section_octets empty))
framed limit = (written_is_frame limit Update (section_octets empty) (fits limit)).0

few : (link : Link) → length (message_octets 2 (section_octets empty)) ≤ most_octets link
few link = omega (arith, four, allows_4096 (limit_with link.extended) 2, length-message_octets 2 (section_octets empty))

small : 19 + length (section_octets empty) < 2 ^ 16
small = omega (arith, four)

is_update : IsUpdate (message_octets 2 (section_octets empty)) empty
unfolding empty
is_update = record {
  message = written_message 2 (section_octets empty) small;
  body = body_of-message_octets 2 (section_octets empty);
  withdrawn_length = omega arith;
  attributes_length = omega arith;
}

pub has_clean_update : HasCleanUpdate
unfolding empty
has_clean_update = record { clean = λ link. (few link, empty, is_update, clean_empty link); frame = framed }
