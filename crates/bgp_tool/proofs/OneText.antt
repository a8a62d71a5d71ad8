-- Each stream has one text and one status.
use Rattle.std.proofs.Common.{◌≡◌, ◌∙◌, ◌++◌, ℕ, List, [], length, sym, ap, subst, inl, inr, arith}
use Rattle.bgp_wire.specs.declared.header.Limit.{Limit}
use Rattle.bgp_wire.specs.Header.{header_of}
use Rattle.bgp_wire.specs.Framing.{joined}
use Rattle.bgp_wire.proofs.Front.{faulty_not_short}
use Rattle.bgp_wire.proofs.OneFraming.{one_framing}
use Rattle.bgp_json.specs.declared.output_form.OutputForm.{OutputForm}
use Rattle.bgp_json.proofs.OneOutput.{one_fault_output}
use Rattle.bgp_tool.specs.declared.stream_options.StreamOptions.{StreamOptions}
use Rattle.bgp_tool.specs.Decoding.{AreFrameLines, IsLastLine, IsDecoded}
use Rattle.bgp_tool.proofs.LinesOfFrames.{one_told}

-- a rest has one last line and one status
one_last_line : (limit : Limit) (form : OutputForm) (offset : ℕ) (rest line other : List ℕ) (status code : ℕ) → IsLastLine limit form offset rest line status
    → IsLastLine limit form offset rest other code → (line ≡ other) × (status ≡ code)
one_last_line limit form offset rest line other status code h k = elim h [
  | inl a ↦ elim k [
    | inl b ↦ (a.1 ∙ sym b.1, a.2 ∙ sym b.2)
    | inr b ↦ elim b [
      | inl c ↦ absurd (c.0 a.0)
      | inr d ↦ let few : length rest ≡ 0 = ap length a.0 in absurd (omega (arith, d.0.0))
    ]
  ]
  | inr a ↦ elim a [
    | inl b ↦ elim k [
      | inl c ↦ absurd (b.0 c.0)
      | inr c ↦ elim c [
        | inl d ↦ (b.2 ∙ sym d.2, b.3 ∙ sym d.3)
        | inr d ↦ absurd (faulty_not_short limit rest d.0 b.1)
      ]
    ]
    | inr b ↦ elim k [
      | inl c ↦ let few : length rest ≡ 0 = ap length c.0 in absurd (omega (arith, b.0.0))
      | inr c ↦ elim c [
        | inl d ↦ absurd (faulty_not_short limit rest b.0 d.1)
        | inr d ↦ (
          b.2.2 ∙ one_fault_output limit form offset (header_of rest) b.2.0 d.2.0 b.2.1 d.2.1 ∙ sym d.2.2,
          b.1 ∙ sym d.1,
        )
      ]
    ]
  ]
]

pub one_text : (options : StreamOptions) (stream text other : List ℕ) (status code : ℕ) → IsDecoded options stream text status
    → IsDecoded options stream other code → (text ≡ other) × (status ≡ code)
one_text options stream text other status code h k =
    let framing = one_framing options.limit stream h.frames k.frames h.rest k.rest h.framing k.framing in
    let told : AreFrameLines options.form [] h.frames k.lines =
    subst (λ (fs : List (List ℕ)). AreFrameLines options.form [] fs k.lines) (sym framing.0) k.told
    in
    let lines = one_told options.form [] h.frames h.lines k.lines h.told told in
    let ending : IsLastLine options.limit options.form (length (joined h.frames)) h.rest k.last code =
    subst (λ (fs : List (List ℕ)). IsLastLine options.limit options.form (length (joined fs)) h.rest k.last code) (sym framing.0)
    (subst (λ (r : List ℕ). IsLastLine options.limit options.form (length (joined k.frames)) r k.last code) (sym framing.1) k.ending)
    in
    let last = one_last_line options.limit options.form (length (joined h.frames)) h.rest h.last k.last status code h.ending ending in (
      h.text ∙ ap (λ (t : List ℕ). t ++ h.last) lines ∙ ap (λ (l : List ℕ). k.lines ++ l) last.0 ∙ sym k.text,
      last.1,
    )
