-- The values of `pair`: a file.
use Rattle.std.specs.Prelude.{◌≡◌, List, Some, codes}
use Rattle.clap.specs.Words.{Row, Text, first_of}

abbrev pub IsPair : Text → List Row → Type 0
IsPair file rows = first_of (codes "FILE") rows ≡ Some file
