-- How lines are put.
use Rattle.std.specs.Prelude.{◌++◌, ℕ, Bool, false, List, [], None, if◌then◌else◌, codes}
use Rattle.bgp_why.specs.declared.other_orders.OtherOrders.TheVariants.{Unasked}
use Rattle.bgp_why.specs.declared.style.Style.{Style}

-- each number is from the configuration, and nothing is said of other orders
abbrev pub plain : ℕ → Bool → Style
plain first is_recording =
    record {
      first = first;
      is_recording = is_recording;
      peer_as_is_free = false;
      own_faults = None;
      other_orders = Unasked;
    }

-- a line: two blanks, and what it says
abbrev pub line : List ℕ → List ℕ
line said = codes "  " ++ (said ++ codes "\n")

-- a piece if something is so
abbrev pub text_if : Bool → List ℕ → List ℕ
text_if is_so piece = if is_so then piece else []
