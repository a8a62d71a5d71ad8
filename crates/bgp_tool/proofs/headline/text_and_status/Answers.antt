use Rattle.std.proofs.Common.{◌≡◌, ◌∙◌, ◌++◌, List, ℕ, sym, ap, subst}
use Rattle.mrt.specs.MemSource.{SourceState, octets_left, source_state}
use Rattle.mrt.specs.MemSink.{SinkState}
use Rattle.bgp_tool.specs.Decoding.{IsDecoded, IsBeginning}
use Rattle.bgp_tool.proofs.WholeStream.{whole_stream}
use Rattle.bgp_tool.proofs.headline.text_and_status.Goals as goal

pub returns-clause-text : goal.returns-clause-text
returns-clause-text g c =
    let decoded = c.decode_raw-status.ensures.text in
    let fresh = c.new-source.ensures in
    let left = octets_left (source_state c.decode_raw-status.new.source) in
    let calm = decoded.gave.calm (ap (λ (s : SourceState). s.upset) fresh) in
    let is : c.args.stream.items ≡ decoded.given ++ left =
    subst (λ (s : SourceState). octets_left s ≡ decoded.given ++ left) fresh decoded.gave.next
    in
    let written : decoded.written ≡ c.into_octets.result.items =
    sym (
    c.into_octets.ensures ∙ decoded.took.behind
    ∙ ap (λ (s : SinkState). s.octets ++ decoded.written) c.new-sink.ensures
    )
    in
    λ less.
    subst (λ (text : List ℕ). IsDecoded c.args.options c.args.stream.items text c.decode_raw-status.result) written
    (whole_stream c.args.stream.items decoded.given left decoded.written c.decode_raw-status.result is
    (λ end. decoded.gave.ended calm.0 (c.decode_raw-status.ensures.ended end)) (decoded.whole less))

pub returns-clause-begun : goal.returns-clause-begun
returns-clause-begun g c =
    let decoded = c.decode_raw-status.ensures.text in
    let left = octets_left (source_state c.decode_raw-status.new.source) in
    let is : c.args.stream.items ≡ decoded.given ++ left =
    subst (λ (s : SourceState). octets_left s ≡ decoded.given ++ left) c.new-source.ensures decoded.gave.next
    in
    let written : decoded.written ≡ c.into_octets.result.items =
    sym (
    c.into_octets.ensures ∙ decoded.took.behind
    ∙ ap (λ (s : SinkState). s.octets ++ decoded.written) c.new-sink.ensures
    )
    in
    (decoded.given, left, is, subst (IsBeginning c.args.options decoded.given) written decoded.begun)
