-- Each line is read from its object: so lines with one object have one text.
use Rattle.std.proofs.Common.{◌≡◌, ◌∙◌, ◌++◌, ℕ, true, List, [], ◌∷◌, Option, None, Some, codes, refl, sym, ap, ap₂}
use Rattle.std.specs.Fmt.{decimal}
use Rattle.json.specs.Json.{Json, boolean}
use Rattle.bgp_prefix.specs.Text.{address_text}
use Rattle.bgp_prefix.specs.declared.session.Session.{Session}
use Rattle.segments.specs.declared.found.Addresses.{Addresses}
use Rattle.streams.specs.declared.connection.Opening.{Opening}
use Rattle.bgp_import.specs.ListText.{other_side}
use Rattle.bgp_import.specs.Refusals.{refusal_name, refusal_number, refusal_packet}
use Rattle.bgp_import.specs.declared.refusal.Refusal.{Refusal}
use Rattle.bgp_why.specs.Endpoint.{endpoint_text}
use Rattle.bgp_why.specs.declared.endpoint.Endpoint.{Endpoint}
use Rattle.bgp_json_values.specs.Objects.{array_of, number_of, object_of}
use Rattle.bgp_json_values.specs.Texts.{address_json}
use Rattle.bgp_ended.specs.Values.{EndedValue, OutlineValue}
use Rattle.bgp_list.specs.ConnectionJson.{opening_members, outlined_members, refusal_json, refused_json, refused_members}
use Rattle.bgp_list.specs.Connections.{as_of, connection_text, end_line, endpoint_of, first_text, number_text, numbered_text, octets_text, opening_text, outlined_text, place_text, reason_text, refused_between_text, refused_connection_text, refused_text}
use Rattle.bgp_list.specs.EndedJson.{end_members, ended_members}
use Rattle.bgp_list.specs.Forms.{line_json}
use Rattle.bgp_list.specs.Lines.{LineValue, Octets, Refused, AllRefused, line_text}
use Rattle.bgp_json_laws.proofs.Printing.{same_line}
use Rattle.bgp_verdict_laws.proofs.Shapes.{IsMade, having, joined, nothing}
use Rattle.bgp_verdict_laws.proofs.Times.{micro_json, number_back, number_in, number_json, time_made, when_back, when_in}
use Rattle.bgp_list_laws.specs.Laws.{LinesAreDetermined}
use Rattle.bgp_list_laws.specs.Ranges.{IsEndIfAny, IsLine, IsOpening, IsOutline}
use Rattle.bgp_list_laws.proofs.Causes.{cause_back, cause_in}
use Rattle.bgp_list_laws.proofs.Ended.{ended_back, lacking}
use Rattle.bgp_list_laws.proofs.Endpoints.{as_back, as_in, endpoint_back, endpoint_in, endpoint_made, number_made}
use Rattle.bgp_list_laws.proofs.Numbers.{line_printed}
use Rattle.bgp_list_laws.proofs.Reading.{end_in, opening_keys, outlined_keys, plain, reads, refused_in}

-- ---- refusals

-- in a line, and that of a recording that can't be read on
refused_text_by : (refusal : Refusal)
    → (codes "refused at packet " ++ decimal (refusal_packet refusal)) ++ (codes ": " ++ (decimal (refusal_number refusal)
    ++ (codes " " ++ (refusal_name refusal ++ (codes ", " ++ (cause_in (decimal (refusal_number refusal)) ++ codes "\n"))))))
    ≡ refused_text refusal
unfolding refused_text place_text reason_text
refused_text_by refusal =
    ap (λ (c : List ℕ). (codes "refused at packet " ++ decimal (refusal_packet refusal)) ++ (codes ": " ++ (decimal (refusal_number refusal)
    ++ (codes " " ++ (refusal_name refusal ++ (codes ", " ++ (c ++ codes "\n"))))))) (cause_back refusal)

refused_back : (refusal : Refusal) → refused_in (refusal_json refusal) ≡ refused_text refusal
refused_back refusal = refused_text_by refusal

pub refused_text_back : (refusal : Refusal) → refused_in (refused_json refusal) ≡ refused_text refusal
refused_text_back refusal = refused_text_by refusal

-- ---- members

module _ (session : Session) (opening : Opening) where
  abbrev from : Endpoint
  from = endpoint_of opening.opened_by session opening

  abbrev to : Endpoint
  to = endpoint_of (other_side opening.opened_by) session opening

  abbrev opening_values : List (Option Json)
  opening_values =
      Some (number_of opening.number) ∷ Some (address_json from.address) ∷ number_json from.port ∷ Some (address_json to.address) ∷ number_json to.port
      ∷ Some (number_of opening.second) ∷ micro_json opening.micro ∷ Some (number_of opening.packet) ∷ []

  opening_made : IsMade opening_keys opening_values (opening_members session opening)
  opening_made =
      having (codes "connection") (number_of opening.number)
      (joined (joined (endpoint_made (codes "from") (codes "from_port") from) (endpoint_made (codes "to") (codes "to_port") to))
      (joined (time_made opening.second opening.micro) (having (codes "packet") (number_of opening.packet) nothing)))

  abbrev open_if : Option EndedValue → Option Json
  open_if None = Some (boolean true)
  open_if (Some ended) = None

  abbrev ended_if : Option EndedValue → Option Json
  ended_if None = None
  ended_if (Some ended) = Some (object_of (ended_members (endpoint_of ended.by session opening) ended))

  end_made : (ended : Option EndedValue) → IsMade (codes "open" ∷ codes "ended" ∷ []) (open_if ended ∷ ended_if ended ∷ []) (end_members session opening ended)
  end_made None = record { is = refl; long = refl }
  end_made (Some ended) = record { is = refl; long = refl }

  abbrev outlined_values : OutlineValue → ℕ → ℕ → List (Option Json)
  outlined_values outline first second =
      number_json (as_of opening.opened_by outline) ∷ number_json (as_of (other_side opening.opened_by) outline)
      ∷ Some (array_of number_of (first ∷ second ∷ [])) ∷ open_if outline.ended ∷ ended_if outline.ended ∷ []

  outlined_made : (outline : OutlineValue) (first second : ℕ) → IsMade outlined_keys (outlined_values outline first second) (outlined_members session opening outline first second)
  outlined_made outline first second =
      joined (joined (number_made (codes "as") (as_of opening.opened_by outline)) (number_made (codes "to_as") (as_of (other_side opening.opened_by) outline)))
      (having (codes "octets") (array_of number_of (first ∷ second ∷ [])) (end_made outline.ended))

  -- ---- lines

  first_back : IsOpening opening
      → codes " at " ++ (when_in (Some (number_of opening.second)) (micro_json opening.micro) ++ (codes " UTC, packet " ++ decimal opening.packet)) ≡ first_text opening
  unfolding first_text
  first_back is =
      ap (λ (w : List ℕ). codes " at " ++ (w ++ (codes " UTC, packet " ++ decimal opening.packet))) (when_back opening.second opening.micro is.second)

  ends_back : (number first f t : List ℕ) → endpoint_in (Some (address_json from.address)) (number_json from.port) ≡ f
      → endpoint_in (Some (address_json to.address)) (number_json to.port) ≡ t
      → number ++ (endpoint_in (Some (address_json from.address)) (number_json from.port) ++ (codes " to "
      ++ (endpoint_in (Some (address_json to.address)) (number_json to.port) ++ first)))
      ≡ number ++ (f ++ (codes " to " ++ (t ++ first)))
  ends_back number first f t p q = ap₂ (λ (a b : List ℕ). number ++ (a ++ (codes " to " ++ (b ++ first)))) p q

  opening_back : IsOpening opening
      → (codes "connection " ++ (decimal opening.number ++ codes ": ")) ++ (endpoint_in (Some (address_json from.address)) (number_json from.port)
      ++ (codes " to " ++ (endpoint_in (Some (address_json to.address)) (number_json to.port)
      ++ (codes " at " ++ (when_in (Some (number_of opening.second)) (micro_json opening.micro) ++ (codes " UTC, packet " ++ decimal opening.packet))))))
      ≡ opening_text session opening
  unfolding opening_text number_text
  opening_back is =
      let number = codes "connection " ++ (decimal opening.number ++ codes ": ") in
      ends_back number _ (endpoint_text from) (endpoint_text to) (endpoint_back from) (endpoint_back to)
      ∙ ap (λ (w : List ℕ). number ++ (endpoint_text from ++ (codes " to " ++ (endpoint_text to ++ w)))) (first_back is)

  side_back : (end : Endpoint) (number : Option ℕ)
      → endpoint_in (Some (address_json end.address)) (number_json end.port) ++ (codes " (" ++ (as_in (number_json number) ++ codes ")")) ≡ numbered_text end number
  unfolding numbered_text
  side_back end number = ap₂ (λ (e n : List ℕ). e ++ (codes " (" ++ (n ++ codes ")"))) (endpoint_back end) (as_back number)

  outlined_back : (outline : OutlineValue) → IsOpening opening
      → (codes "connection " ++ (decimal opening.number ++ codes ": "))
      ++ ((endpoint_in (Some (address_json from.address)) (number_json from.port) ++ (codes " (" ++ (as_in (number_json (as_of opening.opened_by outline)) ++ codes ")")))
      ++ (codes " to "
      ++ ((endpoint_in (Some (address_json to.address)) (number_json to.port) ++ (codes " (" ++ (as_in (number_json (as_of (other_side opening.opened_by) outline)) ++ codes ")")))
      ++ (codes " at " ++ (when_in (Some (number_of opening.second)) (micro_json opening.micro) ++ (codes " UTC, packet " ++ decimal opening.packet))))))
      ≡ outlined_text session opening outline
  unfolding outlined_text number_text
  outlined_back outline is =
      let number = codes "connection " ++ (decimal opening.number ++ codes ": ") in
      let mine = as_of opening.opened_by outline in
      let its = as_of (other_side opening.opened_by) outline in
      ap₂ (λ (a b : List ℕ). number ++ (a ++ (codes " to "
      ++ (b ++ (codes " at " ++ (when_in (Some (number_of opening.second)) (micro_json opening.micro) ++ (codes " UTC, packet " ++ decimal opening.packet)))))))
      (side_back from mine) (side_back to its)
      ∙ ap (λ (w : List ℕ). number ++ (numbered_text from mine ++ (codes " to " ++ (numbered_text to its ++ w)))) (first_back is)

  end_back : (ended : Option EndedValue) → IsOpening opening → IsEndIfAny ended → end_in (number_in (Some (number_of opening.second))) (ended_if ended) ≡ end_line session opening ended
  end_back None is also = refl
  end_back (Some ended) is also =
      let by = endpoint_of ended.by session opening in
      ap (λ (n : ℕ). end_in n (ended_if (Some ended))) (number_back opening.second is.second)
      ∙ ended_back opening.second by ended also

  connection_reads : (outline : OutlineValue) (first second : ℕ) → IsOpening opening → IsOutline outline
      → plain (line_json (Octets session opening outline first second)) ≡ connection_text session opening outline first second
  unfolding connection_text octets_text
  connection_reads outline first second is also =
      let sent = codes ", octets sent " ++ (decimal first ++ (codes " and " ++ (decimal second ++ codes "\n"))) in
      reads (codes "connection") _ _ (lacking (codes "addresses") (joined opening_made (lacking (codes "refused") (outlined_made outline first second))))
      ∙ ap₂ (λ (o e : List ℕ). o ++ (sent ++ e)) (outlined_back outline is) (end_back outline.ended is also.ended)

  -- ---- one that is refused

  abbrev refused_values : Refusal → List (Option Json)
  refused_values refusal = Some (refusal_json refusal) ∷ None ∷ None ∷ None ∷ None ∷ None ∷ []

  refused_made : (refusal : Refusal) → IsMade (codes "refused" ∷ outlined_keys) (refused_values refusal) (refused_members refusal)
  refused_made refusal = record { is = refl; long = refl }

  refused_reads : (refusal : Refusal) → IsOpening opening → plain (line_json (Refused session opening refusal)) ≡ refused_connection_text session opening refusal
  unfolding refused_connection_text
  refused_reads refusal is =
      reads (codes "connection") _ _ (lacking (codes "addresses") (joined opening_made (refused_made refusal)))
      ∙ ap₂ (λ (o r : List ℕ). o ++ (codes "\n" ++ r)) (opening_back is) (refused_back refusal)

between_reads : (addresses : Addresses) (refusal : Refusal) → plain (line_json (AllRefused addresses refusal)) ≡ refused_between_text addresses refusal
unfolding refused_between_text place_text reason_text
between_reads addresses refusal =
    reads (codes "session")
    (Some (array_of address_json (addresses.from ∷ addresses.to ∷ [])) ∷ None ∷ None ∷ None ∷ None ∷ None ∷ None ∷ None ∷ None ∷ Some (refusal_json refusal)
    ∷ None ∷ None ∷ None ∷ None ∷ None ∷ []) _ record { is = refl; long = refl }
    ∙ ap (λ (c : List ℕ). (codes "refused at packet " ++ decimal (refusal_packet refusal)) ++ (codes ", between " ++ (address_text addresses.from ++ (codes " and "
    ++ (address_text addresses.to ++ (codes ": " ++ (decimal (refusal_number refusal) ++ (codes " " ++ (refusal_name refusal ++ (codes ", " ++ (c ++ codes "\n")))))))))))
    (cause_back refusal)

pub line_reads : (line : LineValue) → IsLine line → plain (line_json line) ≡ line_text line
line_reads (Octets session opening outline first second) is = connection_reads session opening outline first second is.0 is.1
line_reads (Refused session opening refusal) is = refused_reads session opening refusal is.0
line_reads (AllRefused addresses refusal) is = between_reads addresses refusal

-- lines with one object have one text
pub same_text : (line other : LineValue) → IsLine line → IsLine other → line_json line ≡ line_json other → line_text line ≡ line_text other
same_text line other is also e = sym (line_reads line is) ∙ ap plain e ∙ line_reads other also

pub same_lines : LinesAreDetermined
same_lines line other is also e =
    same_text line other is also (same_line (line_json line) (line_json other) (line_printed line is) (line_printed other also) e)
