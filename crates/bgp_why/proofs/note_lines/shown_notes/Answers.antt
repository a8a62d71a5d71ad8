use Rattle.std.proofs.Common.{refl}
use Rattle.bgp_why.proofs.note_lines.shown_notes.Goals as goal

pub returns : goal.returns
returns c =
    rw (c.then_some.ensures, c.then_some-2.ensures, c.then_some-3.ensures, c.without_note.ensures, c.then_some-4.ensures, c.then_some-5.ensures, c.then_some-6.ensures, c.then_some-7.ensures, c.is_missing.ensures) refl
