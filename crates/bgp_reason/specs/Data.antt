-- What the data of a NOTIFICATION have to say: the definition is bgp_machine's.
pub use Rattle.bgp_machine.specs.Want.{Tells}
