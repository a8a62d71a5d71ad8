use Rattle.std.proofs.Common.{refl}
use Rattle.bgp_why.proofs.items.items_of.Goals as goal

pub returns : goal.returns
returns c =
    rw (c.then_some.ensures, c.then_some-2.ensures, c.then_some-3.ensures, c.then_some-4.ensures, c.then_some-5.ensures, c.then_some-6.ensures, c.then_some-7.ensures, c.then_some-8.ensures, c.then_some-9.ensures, c.then_some-10.ensures, c.then_some-11.ensures, c.then_some-12.ensures, c.then_some-13.ensures, c.then_some-14.ensures, c.then_some-15.ensures, c.then_some-16.ensures, c.expiry.ensures, c.has_header_error.ensures, c.has_open_error.ensures, c.has_update_error.ensures, c.has_fsm_error.ensures) refl
