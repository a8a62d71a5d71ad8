-- The text of what was given is that of the whole stream, where nothing is left or a fault came.
use Rattle.std.proofs.Common.{◌≡◌, ◌⊎◌, ◌∙◌, ◌++◌, ◌≤◌, ℕ, List, [], length, sym, ap, subst, inl, inr, append_assoc, append-nil, arith, length-append}
use Rattle.std.proofs.lemmas.List.{take-append-le}
use Rattle.bgp_wire.specs.declared.header.Limit.{Limit}
use Rattle.bgp_wire.specs.Header.{header_of, IsSound}
use Rattle.bgp_wire.specs.Verdict.{AreFaults}
use Rattle.bgp_wire.specs.Framing.{IsFaulty, joined}
use Rattle.bgp_json.specs.Output.{fault_output}
use Rattle.bgp_tool.specs.declared.stream_options.StreamOptions.{StreamOptions}
use Rattle.bgp_tool.specs.Decoding.{IsDecoded}

-- more octets behind a header change nothing of it
same_header : (rest left : List ℕ) → 19 ≤ length rest → header_of (rest ++ left) ≡ header_of rest
same_header rest left whole = take-append-le 19 rest left whole

still_faulty : (limit : Limit) (rest left : List ℕ) → IsFaulty limit rest → IsFaulty limit (rest ++ left)
still_faulty limit rest left faulty = (
  omega (arith, faulty.0, length-append rest left),
  subst (λ (header : List ℕ). ¬ IsSound limit header) (sym (same_header rest left faulty.0)) faulty.1,
)

pub whole_stream : {options : StreamOptions} (stream given left written : List ℕ) (status : ℕ) → stream ≡ given ++ left
    → (((status ≡ 0) ⊎ (status ≡ 2)) → left ≡ []) → IsDecoded options given written status → IsDecoded options stream written status
whole_stream {options} stream given left written status is ended decoded =
    let all : left ≡ [] → IsDecoded options stream written status =
    λ nothing.
    subst (λ (s : List ℕ). IsDecoded options s written status)
    (sym (is ∙ ap (λ (l : List ℕ). given ++ l) nothing ∙ append-nil given)) decoded
    in
    elim decoded.ending [
      | inl none ↦ all (ended (inl none.2))
      | inr some ↦ elim some [
        | inl short ↦ all (ended (inr short.3))
        | inr faulty ↦ record {
          frames = decoded.frames;
          rest = decoded.rest ++ left;
          framing = record {
            whole =
                is ∙ ap (λ (s : List ℕ). s ++ left) decoded.framing.whole
                ∙ append_assoc (joined decoded.frames) decoded.rest left;
            each = decoded.framing.each;
            last = inr (still_faulty options.limit decoded.rest left faulty.0);
          };
          lines = decoded.lines;
          told = decoded.told;
          last = decoded.last;
          ending = inr (inr (
            still_faulty options.limit decoded.rest left faulty.0,
            faulty.1,
            (
              faulty.2.0,
              subst (λ (header : List ℕ). AreFaults options.limit header faulty.2.0)
                  (sym (same_header decoded.rest left faulty.0.0)) faulty.2.1,
              faulty.2.2 ∙ ap (fault_output options.form (length (joined decoded.frames)) faulty.2.0) (sym (same_header decoded.rest left faulty.0.0)),
            ),
          ));
          text = decoded.text;
        }
      ]
    ]
