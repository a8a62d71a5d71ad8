-- The line of a capture's session is read from its object.
use Rattle.std.proofs.Common.{◌≡◌, ◌≢◌, ◌∙◌, ◌++◌, ◌+◌, ◌==◌, ◌||◌, ℕ, Bool, true, false, cond, List, [], ◌∷◌, All, Option, None, Some, codes, length, take, refl, sym, ap, ap₂, arith, if◌then◌else◌}
use Rattle.std.specs.Fmt.{decimal}
use Rattle.std.specs.Str.Parse.{digits_value}
use Rattle.std.proofs.lemmas.List.Elements.{All-head, All-tail, All-take}
use Rattle.std.proofs.lemmas.List.Sums.{sum_by-cons}
use Rattle.std.proofs.lemmas.Option.{none-some}
use Rattle.json.specs.Json.{Json, string}
use Rattle.mrt.specs.Layout.{form_of, header_of, is_of, second_in}
use Rattle.mrt.specs.declared.layout.Form.{Form}
use Rattle.mrt.specs.declared.layout.Form.TheVariants as forms
use Rattle.mrt_sessions.specs.Counts.{counts_in, direction_of, goes, is_change, is_received, is_sent}
use Rattle.mrt_sessions.specs.File.{Located, NamesSession}
use Rattle.mrt_sessions.specs.declared.addresses.Addresses.{Addresses}
use Rattle.mrt_sessions.specs.declared.counts.Direction.{Direction}
use Rattle.mrt_sessions.specs.declared.counts.Direction.TheVariants as directions
use Rattle.mrt_sessions.proofs.Counted.{few_changes, few_received, few_sent}
use Rattle.bgp_wire.specs.Octets.{AreOctets}
use Rattle.bgp_prefix.specs.Text.{address_text}
use Rattle.bgp_json_values.specs.Objects.{array_of, number_of}
use Rattle.bgp_json_values.specs.Texts.{address_json}
use Rattle.bgp_list.specs.Sessions.{counts_text, first_second, last_second, session_line, times_text}
use Rattle.bgp_list.specs.SessionJson.{addresses_members, counts_members, seconds_members, session_json}
use Rattle.bgp_list.proofs.Shallow.{session_shallow}
use Rattle.bgp_json_laws.proofs.Decimals.{HasDecimals, of_number}
use Rattle.bgp_json_laws.proofs.Lookups.{members_of, paired, text_of}
use Rattle.bgp_json_laws.proofs.Printing.{IsPrinted, same_line}
use Rattle.bgp_json_laws.proofs.Texts.{IsOctet, number_fits as octets_fit}
use Rattle.bgp_verdict_laws.specs.Numbers.{Fits}
use Rattle.bgp_verdict_laws.proofs.Reading.{at, list_in}
use Rattle.bgp_verdict_laws.proofs.Shapes.{IsMade, are_distinct, found, found_in}
use Rattle.bgp_verdict_laws.proofs.Times.{number_back, number_in, said}
use Rattle.bgp_list_laws.specs.Laws.{AreRecords, SessionsAreDetermined}
use Rattle.bgp_list_laws.proofs.Numbers.{pair_fits, typed_fits}

abbrev pub IsOne : Located → Type 0
IsOne named = AreOctets named.octets × NamesSession named.octets

-- ---- seconds

second_fits : (octets : List ℕ) → AreOctets octets → Fits (header_of octets).second
unfolding second_in
second_fits octets are = let small = octets_fit 4 (take 12 octets) (All-take IsOctet 12 octets are) in omega (arith, small)

pub first_fits : (named : List Located) → All IsOne named → Fits (first_second named)
first_fits [] all = omega arith
first_fits (one ∷ named) all = second_fits one.octets (All-head IsOne one named all).0

pub last_fits : (named : List Located) → All IsOne named → Fits (last_second named)
last_fits [] all = omega arith
last_fits (one ∷ []) all = second_fits one.octets (All-head IsOne one [] all).0
last_fits (one ∷ two ∷ named) all = last_fits (two ∷ named) (All-tail IsOne one (two ∷ named) all)

-- ---- each record goes in one direction

one_of : (d : Option Direction) → d ≢ None → cond (is_received d) 1 0 + (cond (is_sent d) 1 0 + cond (is_change d) 1 0) ≡ 1
one_of None some = absurd (some refl)
one_of (Some directions.Received) some = refl
one_of (Some directions.Sent) some = refl
one_of (Some directions.Change) some = refl

neither : (a b : Bool) → (a || b) ≡ false → (a ≡ false) × (b ≡ false)
neither false b e = (refl, e)
neither true b e = absurd (let k : ⊥ = cc in k)

two_false : (a b : Bool) → a ≡ false → b ≡ false → (a || (b || false)) ≡ false
two_false a b p q = rw (p, q) refl

four_false : (a b c d : Bool) → a ≡ false → b ≡ false → c ≡ false → d ≡ false → (a || (b || (c || (d || false)))) ≡ false
four_false a b c d p q r s = rw (p, q, r, s) refl

other : (a : Bool) (d : Direction) (rest : Option Direction) → (if a then Some d else rest) ≡ None → (a ≡ false) × (rest ≡ None)
other true d rest e = absurd (none-some d (sym e))
other false d rest e = (refl, e)

past : (a : Bool) (x rest : Option Form) → a ≡ false → (if a then x else rest) ≡ rest
past true x rest e = absurd (let k : ⊥ = cc in k)
past false x rest e = refl

-- the octets of a subtype that has no direction have no form
no_form : (s : ℕ) → direction_of s ≡ None → form_of s ≡ None
no_form s e =
    let received = other (is_of s (1 ∷ 4 ∷ 8 ∷ 9 ∷ [])) directions.Received _ e in
    let sent = other (is_of s (6 ∷ 7 ∷ 10 ∷ 11 ∷ [])) directions.Sent _ received.1 in
    let change = other (is_of s (0 ∷ 5 ∷ [])) directions.Change None sent.1 in
    let one = neither (s == 1) _ received.0 in
    let four = neither (s == 4) _ one.1 in
    let eight = neither (s == 8) _ four.1 in
    let nine = neither (s == 9) false eight.1 in
    let six = neither (s == 6) _ sent.0 in
    let seven = neither (s == 7) _ six.1 in
    let ten = neither (s == 10) _ seven.1 in
    let eleven = neither (s == 11) false ten.1 in
    past (is_of s (0 ∷ 5 ∷ [])) (Some forms.Change) _ change.0
    ∙ past (is_of s (1 ∷ 4 ∷ [])) (Some forms.Received) _ (two_false (s == 1) (s == 4) one.0 four.0)
    ∙ past (is_of s (6 ∷ 7 ∷ [])) (Some forms.Sent) _ (two_false (s == 6) (s == 7) six.0 seven.0)
    ∙ past (is_of s (8 ∷ 9 ∷ 10 ∷ 11 ∷ [])) (Some forms.AddPath) None
    (four_false (s == 8) (s == 9) (s == 10) (s == 11) eight.0 nine.0 ten.0 eleven.0)

goes_one_way : (named : Located) → NamesSession named.octets
    → cond (goes is_received named) 1 0 + (cond (goes is_sent named) 1 0 + cond (goes is_change named) 1 0) ≡ 1
goes_one_way named is =
    one_of (direction_of (header_of named.octets).subtype) (λ none. is.form (no_form (header_of named.octets).subtype none))

-- so there are as many as go in each
together : (named : List Located) → All IsOne named
    → (counts_in named).received + ((counts_in named).sent + (counts_in named).changes) ≡ length named
together [] all = refl
together (one ∷ named) all =
    let r = sum_by-cons (λ (l : Located). cond (goes is_received l) 1 0) one named in
    let s = sum_by-cons (λ (l : Located). cond (goes is_sent l) 1 0) one named in
    let c = sum_by-cons (λ (l : Located). cond (goes is_change l) 1 0) one named in
    let way = goes_one_way one (All-head IsOne one named all).1 in
    let rest = together named (All-tail IsOne one named all) in
    omega (arith, r, s, c, way, rest)

-- ---- what is read of its object

abbrev session_keys : List (List ℕ)
session_keys = codes "type" ∷ codes "peer" ∷ codes "local" ∷ codes "received" ∷ codes "sent" ∷ codes "changes" ∷ codes "seconds" ∷ []

distinct : are_distinct session_keys ≡ true
distinct = refl

abbrev times_in : List Json → List ℕ
times_in [] = []
times_in (first ∷ []) = []
times_in (first ∷ last ∷ others) = times_text (digits_value 10 (text_of first)) (digits_value 10 (text_of last))

abbrev count_in : List (Option Json) → List ℕ
count_in os = decimal (number_in (at os 3) + (number_in (at os 4) + number_in (at os 5)))

abbrev counts_by : List (Option Json) → List ℕ
counts_by os = codes "received " ++ (said (at os 3) ++ (codes ", sent " ++ (said (at os 4) ++ (codes ", changes of state " ++ said (at os 5)))))

abbrev session_by : List (Option Json) → List ℕ
session_by os =
    codes "session: " ++ (said (at os 2) ++ (codes " with peer " ++ (said (at os 1) ++ (codes ", " ++ (times_in (list_in (at os 6))
    ++ (codes ", records " ++ (count_in os ++ (codes ": " ++ (counts_by os ++ codes "\n")))))))))

unfoldable pub session_plain : Json → List ℕ
session_plain j = session_by (found session_keys (paired (members_of j)))

module _ (addresses : Addresses) (named : List Located) where
  abbrev session_values : List (Option Json)
  session_values =
      Some (string (codes "session")) ∷ Some (address_json addresses.peer) ∷ Some (address_json addresses.local)
      ∷ Some (number_of (counts_in named).received) ∷ Some (number_of (counts_in named).sent) ∷ Some (number_of (counts_in named).changes)
      ∷ Some (array_of number_of (first_second named ∷ last_second named ∷ [])) ∷ []

  session_made : IsMade session_keys session_values ((codes "type", string (codes "session")) ∷ (addresses_members addresses ++ (counts_members (counts_in named) ++ seconds_members named)))
  session_made = record { is = refl; long = refl }

  count_back : AreRecords named
      → number_in (Some (number_of (counts_in named).received)) + (number_in (Some (number_of (counts_in named).sent)) + number_in (Some (number_of (counts_in named).changes)))
      ≡ length named
  count_back are =
      let most = are.count in
      let few = few_received named in
      let fewer = few_sent named in
      let least = few_changes named in
      let received = number_back (counts_in named).received (omega (arith, most, few)) in
      let sent = number_back (counts_in named).sent (omega (arith, most, fewer)) in
      let changes = number_back (counts_in named).changes (omega (arith, most, least)) in
      let all = together named are.each in
      omega (arith, received, sent, changes, all)

  pub session_reads : AreRecords named → session_plain (session_json addresses named) ≡ session_line addresses named
  unfolding session_plain session_line counts_text
  session_reads are =
      let counts = counts_by session_values in
      let behind = codes ": " ++ (counts ++ codes "\n") in
      ap session_by (found_in session_made distinct)
      ∙ ap₂ (λ (f l : ℕ). codes "session: " ++ (address_text addresses.local ++ (codes " with peer " ++ (address_text addresses.peer ++ (codes ", " ++ (times_text f l
      ++ (codes ", records " ++ (count_in session_values ++ behind))))))))
      (number_back (first_second named) (first_fits named are.each)) (number_back (last_second named) (last_fits named are.each))
      ∙ ap (λ (n : ℕ). codes "session: " ++ (address_text addresses.local ++ (codes " with peer " ++ (address_text addresses.peer ++ (codes ", "
      ++ (times_text (first_second named) (last_second named) ++ (codes ", records " ++ (decimal n ++ behind))))))))
      (count_back are)

  session_fits : AreRecords named → HasDecimals (session_json addresses named)
  session_fits are =
      let most = are.count in
      let few = few_received named in
      let fewer = few_sent named in
      let least = few_changes named in
      typed_fits (codes "session") (addresses_members addresses ++ (counts_members (counts_in named) ++ seconds_members named)) (
        tt,
        (
          tt,
          (
            of_number (counts_in named).received (omega (arith, most, few)),
            (
              of_number (counts_in named).sent (omega (arith, most, fewer)),
              (
                of_number (counts_in named).changes (omega (arith, most, least)),
                (pair_fits (first_second named) (last_second named) (first_fits named are.each) (last_fits named are.each), tt),
              ),
            ),
          ),
        ),
      )

  pub session_printed : AreRecords named → IsPrinted (session_json addresses named)
  session_printed are = record { decimals = session_fits are; shallow = session_shallow addresses named }

-- sessions with one object have one text
pub same_session : (addresses others : Addresses) (named also : List Located) → AreRecords named → AreRecords also
    → session_json addresses named ≡ session_json others also → session_line addresses named ≡ session_line others also
same_session addresses others named also are too e = sym (session_reads addresses named are) ∙ ap session_plain e ∙ session_reads others also too

pub same_sessions : SessionsAreDetermined
same_sessions addresses others named also are too e =
    same_session addresses others named also are too
    (same_line (session_json addresses named) (session_json others also) (session_printed addresses named are) (session_printed others also too) e)
