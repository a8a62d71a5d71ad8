use Rattle.bgp_open.proofs.OwnOpens.{own_open, own_offers, fits_open, octets-own_open, is_frame}
use Rattle.bgp_open.proofs.laws.own_open_exists.Goals as goal

pub returns : goal.returns
returns c = record { own = own_open; offers = own_offers; fits = fits_open; octets = octets-own_open; frame = is_frame }
