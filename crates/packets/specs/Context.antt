-- How the octets at a place of a recording are to be read, by what stands before them.
use Rattle.std.specs.Prelude.{ℕ, List}
use Rattle.packets.specs.declared.order.Order.{Order}
use Rattle.packets.specs.declared.blocks.Interface.{Interface}
use Rattle.packets.specs.declared.headers.Magic.{Magic}

-- At the start of the file; as packets of pcap, with this magic number and of links of this type;
-- as blocks of pcapng, with numbers of this order, and these interfaces described in the section.
pub data Context : Type 0 where
  Start : Context
  Packets : Magic → ℕ → Context
  Blocks : Order → List Interface → Context
