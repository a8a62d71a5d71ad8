-- The status of a text that was handed over.
use Rattle.std.proofs.Common.{◌≡◌, ◌∙◌, ◌⊎◌, ℕ, Bool, IsFalse, IsTrue, inl, inr, refl}
use Rattle.bgp_prefix.specs.declared.session.Session.{Session}
use Rattle.streams.specs.declared.connection.Opening.{Opening}
use Rattle.bgp_check_lines.specs.Printing.{Printing}
use Rattle.bgp_check_tool.specs.Blocks.{block_text, ends_block, ends_text}
use Rattle.bgp_check_tool.specs.declared.connection.EndsTold.{EndsTold}
use Rattle.bgp_check_tool.specs.declared.connection.EndsTold.TheVariants.{Both, One}

-- that of a status that is this one
pub coded_as : (failed : Bool) (code status wanted : ℕ) → code ≡ status → (IsFalse failed × (status ≡ wanted)) ⊎ (IsTrue failed × (status ≡ 5))
    → (IsFalse failed × (code ≡ wanted)) ⊎ (IsTrue failed × (code ≡ 5))
coded_as failed code status wanted is (inl calm) = inl (calm.0, is ∙ calm.1)
coded_as failed code status wanted is (inr broken) = inr (broken.0, is ∙ broken.1)

-- the text of a connection that isn't refused
pub text_of_ends : {X : Type 0} (printing : Printing) (session : Session) (opening : Opening) (told : EndsTold X)
    → ends_text printing session opening told ≡ block_text printing (ends_block session opening told)
text_of_ends printing session opening (Both both) = refl
text_of_ends printing session opening (One outline first second) = refl
