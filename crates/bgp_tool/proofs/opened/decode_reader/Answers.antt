use Rattle.std.proofs.Common.{rules, ◌≡◌, ◌∙◌, ◌++◌, ℕ, List, length, refl, ap, subst, inl, inr, arith, Some, option_map}
use Rattle.std.specs.Io.KnownBytes.{Consumes}
use Rattle.mrt.specs.FromRead.{ReaderState, reader_state, fresh_reader}
use Rattle.bgp_tool.specs.declared.note.Note.TheVariants.{Unread, OutOfMemory, NoStream}
use Rattle.bgp_tool.specs.Front.{no_stream, kept}
use Rattle.bgp_tool.proofs.opened.decode_reader.Goals as goal

pub returns-clause-decoded : goal.returns-clause-decoded
returns-clause-decoded g c =
    let file = c.args.file in
    let first = c.new-source.result in
    let last = c.decode_raw-status.new.source in
    let decoded = c.decode_raw-status.ensures.text in
    let counts = c.decode_raw-status.ensures.failures in
    let note = c.note_of-note.ensures in
    let fresh : reader_state first.source ≡ fresh_reader c.args.reader =
    ap reader_state c.new-source.ensures.source ∙ c.new.ensures in
    let left = g.R.Read.remaining (reader_state last.source).reader in
    let front : last.front.items ≡ kept decoded.given =
    decoded.gave.1 ∙ ap (λ (octets : List ℕ). kept (octets ++ decoded.given)) c.new-source.ensures.front in
    let given : (reader_state last.source).given ≡ length decoded.given =
    omega (arith, decoded.gave.0.count, ap (λ (s : ReaderState _). s.given) fresh) in
    let none : (reader_state first.source).failures ≡ 0 = ap (λ (s : ReaderState _). s.failures) fresh in
    record {
      given = decoded.given;
      left = left;
      written = decoded.written;
      consumed = subst (λ (s : ReaderState _). Consumes (g.R.Read.remaining s.reader) left decoded.given) fresh decoded.gave.0.next;
      appended = decoded.took;
      begun = decoded.begun;
      whole = decoded.whole;
      ended = λ end. decoded.gave.0.ended (search rules) (c.decode_raw-status.ensures.ended end);
      told = record {
        quiet = λ is. note.quiet (elim is [
          | inl done ↦ omega (arith, done)
          | inr cut ↦ omega (arith, cut)
        ]);
        refused = λ is. note.refused is ∙ ap (λ (octets : List ℕ). option_map (NoStream file) (no_stream octets)) front;
        memory = λ is. note.memory is ∙ ap (λ (octet : ℕ). Some (OutOfMemory file octet)) given;
        device = λ is. elim counts [
          | inl source ↦ inl (
            source.2,
            decoded.so_far source.1,
            (
              (reader_state last.source).last_error,
              note.reader is (omega (arith, source.1, none))
                  ∙ ap (λ (octet : ℕ). Some (Unread file octet (reader_state last.source).last_error)) given,
            ),
          )
          | inr others ↦ elim others [
            | inl sink ↦ inr (sink.2, note.writer is (sink.1 ∙ none))
            | inr calm ↦ absurd (calm.0 is)
          ]
        ];
        calm = λ other. elim counts [
          | inl source ↦ absurd (other source.0)
          | inr others ↦ elim others [
            | inl sink ↦ absurd (other sink.0)
            | inr calm ↦ calm.2
          ]
        ];
      };
      no_capture = refl;
    }
