-- An end of a connection, or of a session.
use Rattle.std.specs.Prelude.{◌++◌, ℕ, List, Option, None, Some, codes}
use Rattle.std.specs.Fmt.{decimal}
use Rattle.bgp_prefix.specs.Text.{address_text}
use Rattle.bgp_prefix.specs.declared.address.Address.{Address}
use Rattle.bgp_prefix.specs.declared.address.Address.TheVariants.{V4, V6}
use Rattle.bgp_why.specs.declared.endpoint.Endpoint.{Endpoint}

-- an address with a port, which an address of IPv6 has brackets before (RFC 5952, 6)
abbrev pub with_port : Address → ℕ → List ℕ
with_port (V4 number) port = address_text (V4 number) ++ (codes ":" ++ decimal port)
with_port (V6 number) port =
    codes "[" ++ (address_text (V6 number) ++ (codes "]:" ++ decimal port))

-- the port, if it is known
abbrev pub endpoint_by : Address → Option ℕ → List ℕ
endpoint_by address None = address_text address
endpoint_by address (Some port) = with_port address port

abbrev pub endpoint_text : Endpoint → List ℕ
endpoint_text end = endpoint_by end.address end.port
