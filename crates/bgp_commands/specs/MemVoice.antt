-- A voice in memory.
use Rattle.std.specs.Prelude.{List, ℕ, string_bytes}
use Rattle.bgp_commands.specs.declared.mem_voice.MemVoice.{MemVoice}

-- what it holds: the lines that were said, as octets
abbrev pub voice_text : {X : Type 0} → MemVoice X → List ℕ
voice_text voice = string_bytes voice.text
