use Rattle.bgp_why_parts.proofs.OneText.{one_code, one_full_code}
use Rattle.bgp_why_parts.proofs.laws.each_code_has_its_text.Goals as goal

pub returns-clause-short : goal.returns-clause-short
returns-clause-short c = one_code

pub returns-clause-full : goal.returns-clause-full
returns-clause-full c = one_full_code
