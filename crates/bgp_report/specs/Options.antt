-- What options of `check` are made of: the definitions are bgp_check_text's.
pub use Rattle.bgp_check_capture_tool.specs.DeclaredSettings.{Settings}
pub use Rattle.bgp_check_capture_tool.specs.DeclaredSettings.TheVariants.{Always, Never}
