-- The values of `decode`: the form of what it prints, a file, and for a capture or a recording the
-- session.
use Rattle.std.specs.Prelude.{◌≡◌, ◌⊎◌, Bool, true, false, List, [], ◌∷◌, Some, None}
use Rattle.std.specs.Prelude.{codes}
use Rattle.clap.specs.Words.{Row, Text, first_of}
use Rattle.bgp_prefix.specs.Notation.{IsAddressText}
use Rattle.bgp_prefix.specs.declared.session.Session.{Session}
use Rattle.bgp_json.specs.declared.output_form.OutputForm.{OutputForm}
use Rattle.bgp_json.specs.declared.output_form.OutputForm.TheVariants.{Text as AsText, Json}
use Rattle.bgp_lines.specs.declared.form.LineForm.TheVariants.{Plain, Names}
use Rattle.bgp_words.specs.Values.{IsNoFlag, IsValue, is_given}
use Rattle.bgp_words.specs.Recording.{AreRecordingOptions, refresh_told}
use Rattle.bgp_import.specs.declared.options.RecordingOptions.{RecordingOptions}
use Rattle.bgp_words.specs.declared.words.Command.{Command}
use Rattle.bgp_words.specs.declared.words.Command.TheVariants.{Decode, Capture, Judge}
use Rattle.bgp_words.specs.declared.words.Command.TheVariants.{Check, Import, List as Listing}
use Rattle.bgp_words.specs.declared.words.Command.TheVariants.{Speak, Pair}

-- The form of what is printed: lines in words with `--names`, and JSON with `--json`, which aren't
-- both given. With `--as2` besides, AS paths and aggregators have AS numbers of two octets: it isn't
-- given without one of both.
abbrev pub IsForm : OutputForm → List Row → Type 0
IsForm (AsText Plain) rows =
    (is_given (codes "names") rows ≡ false) × (is_given (codes "json") rows ≡ false)
    × (is_given (codes "as2") rows ≡ false)
IsForm (AsText (Names as2)) rows =
    (is_given (codes "names") rows ≡ true) × (is_given (codes "json") rows ≡ false)
    × (as2 ≡ is_given (codes "as2") rows)
IsForm (Json as2) rows =
    (is_given (codes "names") rows ≡ false) × (is_given (codes "json") rows ≡ true)
    × (as2 ≡ is_given (codes "as2") rows)

-- the values of `decode FILE` in such a form, with `--extended` or without: no other word of a
-- capture is given
abbrev pub IsStream : OutputForm → Bool → Text → List Row → Type 0
IsStream form extended file rows =
    (first_of (codes "FILE") rows ≡ Some file) × (is_given (codes "mrt") rows ≡ false)
    × (first_of (codes "peer") rows ≡ None) × (first_of (codes "local") rows ≡ None)
    × (is_given (codes "skip-refresh") rows ≡ false)
    × (extended ≡ is_given (codes "extended") rows) × IsForm form rows

-- The values of `decode --mrt --peer A --local A FILE` in such a form, of a session without route
-- refresh, whose messages are passed over with `--skip-refresh`; `--extended`: the local system
-- offers extended messages. What is told of a recording is there whatever FILE is.
abbrev pub IsCapture : OutputForm → Session → RecordingOptions → Text → List Row → Type 0
IsCapture form session recording file rows =
    (first_of (codes "FILE") rows ≡ Some file) × (is_given (codes "mrt") rows ≡ true)
    × IsValue IsAddressText (codes "peer") rows session.peer
    × IsValue IsAddressText (codes "local") rows session.local
    × (session.refresh ≡ refresh_told false rows)
    × (session.extended ≡ is_given (codes "extended") rows)
    × AreRecordingOptions recording rows × IsForm form rows

-- a word that names a file: it is no flag, or a dash alone
abbrev pub IsFileWord : Text → Type 0
IsFileWord word = (word ≡ codes "-") ⊎ IsNoFlag word

-- The words are `decode FILE` behind the program's name. Behind `--` any word is a file.
abbrev pub IsDecode : List Text → Text → Type 0
IsDecode words file = (name : Text)
    × (((words ≡ name ∷ codes "decode" ∷ file ∷ []) × IsFileWord file)
    ⊎ (words ≡ name ∷ codes "decode" ∷ codes "--" ∷ file ∷ []))

-- the command is `decode` of this file, with lines in numbers and the limit of 4096 octets
abbrev pub IsDecodeOf : Text → Command → Type 0
IsDecodeOf text (Decode form extended file) =
    (form ≡ AsText Plain) × (extended ≡ false) × (file.now ≡ text)
IsDecodeOf text (Capture form session recording file) = ⊥
IsDecodeOf text (Judge config recording reporting file) = ⊥
IsDecodeOf text (Import session recording file out) = ⊥
IsDecodeOf text (Listing port json file) = ⊥
IsDecodeOf text (Check checking file) = ⊥
IsDecodeOf text (Speak config speaking file) = ⊥
IsDecodeOf text (Pair file) = ⊥
