-- An error code and a subcode, with their names.
use Rattle.std.specs.Prelude.{◌++◌, ℕ, List, codes}
use Rattle.std.specs.Fmt.{decimal}
use Rattle.bgp_names.specs.Errors.{error_name, short_error_name}

-- with the subcode's name, as in `6/4 (Administrative Reset)`
unfoldable pub code_text : ℕ → ℕ → List ℕ
code_text code subcode =
    decimal code ++ (codes "/" ++ (decimal subcode ++ (codes " ("
    ++ (short_error_name code subcode ++ codes ")"))))

-- with both names, as in `6/4 (Cease, Administrative Reset)`
unfoldable pub full_code_text : ℕ → ℕ → List ℕ
full_code_text code subcode =
    decimal code ++ (codes "/" ++ (decimal subcode ++ (codes " ("
    ++ (error_name code subcode ++ codes ")"))))
