use Rattle.bgp_speaker.proofs.CutPieces.{pieces_are_joined}
use Rattle.bgp_speaker.proofs.HowCut.{frame_first, cut_doesnt_matter}
use Rattle.bgp_speaker.proofs.laws.however_cut.Goals as goal

pub returns-clause-first : goal.returns-clause-first
returns-clause-first c = frame_first

pub returns-clause-cut : goal.returns-clause-cut
returns-clause-cut c = cut_doesnt_matter

pub returns-clause-pieces : goal.returns-clause-pieces
returns-clause-pieces c = pieces_are_joined
