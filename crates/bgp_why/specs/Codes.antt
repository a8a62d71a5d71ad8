-- The text of a code with its subcode: the definition is bgp_why_parts'.
pub use Rattle.bgp_why_parts.specs.Codes.{full_code_text}
