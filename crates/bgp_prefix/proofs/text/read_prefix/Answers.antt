use Rattle.bgp_prefix.proofs.ReadExits.{no_slash, no_address, no_length, both_read}
use Rattle.bgp_prefix.proofs.text.read_prefix.Goals as goal

pub returns-in_err-address : goal.returns-in_err-address
returns-in_err-address c = no_slash _ _ c.from_residual.ensures c.in_err-address.ensures

pub returns-in_err-read_address : goal.returns-in_err-read_address
returns-in_err-read_address c =
    no_address _ _ _ c.in_ok-address.ensures _ c.from_residual-in_err-read_address.ensures c.in_err-read_address.ensures

pub returns-in_err-read_length : goal.returns-in_err-read_length
returns-in_err-read_length c =
    no_length _ _ _ c.in_ok-address.ensures _ c.from_residual-in_err-read_length.ensures c.in_err-read_length.ensures

pub returns : goal.returns
returns c =
    both_read _ _ _ c.in_ok-address.ensures c.in_ok-read_address.field-0 c.in_ok-read_length.field-0 _ c.in_ok-read_address.ensures c.in_ok-read_length.ensures c.new.ensures.fits c.new.ensures.value
